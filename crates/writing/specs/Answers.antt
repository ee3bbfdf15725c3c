-- What the encoder answers. Assumes nothing.
use Rattle.std.specs.Prelude.{ℕ, List}
use Rattle.records.specs.declared.Verdict.{Verdict}

-- the eight bytes of a group that is accepted; or the refusal, with eight zeros
pub record Encoded : Type 0 where
  pub verdict : Verdict
  pub bytes : List ℕ
