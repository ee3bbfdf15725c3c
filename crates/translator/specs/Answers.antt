-- What the translator answers. Assumes nothing.
use Rattle.std.specs.Prelude.{ℕ, Result, Ok, Err}
use Rattle.records.specs.Answers.{verdict_of}
use Rattle.records.specs.declared.Number.{Number}
use Rattle.records.specs.declared.Refusal.{Refusal}
use Rattle.records.specs.declared.Verdict.{Verdict}

-- how many cells were written, with number 0; or the refusal, with no cell
pub record Translation : Type 0 where
  pub verdict : Verdict
  pub cells : ℕ

-- a translation that was refused "counts zero cells"
abbrev pub as_translation : Result ℕ (Refusal Number) → Translation
as_translation (Ok cells) = record { verdict = verdict_of (Ok cells); cells = cells }
as_translation (Err refusal) = record { verdict = verdict_of {A = ℕ} (Err refusal); cells = 0 }
