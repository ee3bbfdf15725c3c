-- What the call on the pins answers. Assumes nothing.
use Rattle.std.specs.Prelude.{ℕ}
use Rattle.records.specs.declared.Verdict.{Verdict}

-- the word of pins; or the refusal, with no pin
pub record Driven : Type 0 where
  pub verdict : Verdict
  pub pins : ℕ
