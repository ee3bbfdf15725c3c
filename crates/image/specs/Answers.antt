-- What the calls of image's users answer. Assumes nothing.
use Rattle.records.specs.declared.Verdict.{Verdict}
use Rattle.image.specs.declared.Settings.{Settings}

-- what the reader answers: the settings of an accepted image; or the refusal, with the zero settings
pub record Reading : Type 0 where
  pub verdict : Verdict
  pub settings : Settings
