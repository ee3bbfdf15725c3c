-- What the call for C on normal bytes answers. Assumes nothing.
use Rattle.std.specs.Prelude.{ℕ, cond, List, eqb, length}
use Rattle.records.specs.declared.Verdict.{Verdict}
use Rattle.image.specs.Normal.{normal}
use Rattle.recordings.specs.Recordings.{image_then}

-- the buffer is eighty bytes
unfoldable pub normal_verdict : List ℕ → List ℕ → Verdict
normal_verdict image buffer = image_then image (eqb (length buffer) 80)

-- a refusal leaves every byte
unfoldable pub normal_written : List ℕ → List ℕ → List ℕ
normal_written image buffer = cond (eqb (normal_verdict image buffer).number 0) (normal image) buffer
