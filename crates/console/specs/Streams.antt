-- What a call that fails has moved before. Assumes nothing.
use Rattle.std.specs.Prelude.{ℕ, ◌<◌, List, length, take}
use Rattle.std.specs.Io.KnownBytes.{Appends, Consumes}
use Rattle.std.specs.declared.option.Option.{Option}

-- known bytes lose a beginning of what stands in the buffer, and not all of it
abbrev pub ConsumesPart : Option (List ℕ) → Option (List ℕ) → List ℕ → Type 0
ConsumesPart old new buffer = (n : ℕ) × (n < length buffer) × Consumes old new (take n buffer)

-- known bytes grow by a beginning of the text, and not by all of it
abbrev pub AppendsPart : Option (List ℕ) → Option (List ℕ) → List ℕ → Type 0
AppendsPart old new text = (n : ℕ) × (n < length text) × Appends old new (take n text)
