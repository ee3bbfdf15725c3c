-- Answers packed into one number, low bits first, as include/wrackbasket.h explains them. Assumes nothing.
use Rattle.std.specs.Prelude.{ℕ, ◌+◌, ◌*◌, ◌%◌}
use Rattle.records.specs.declared.Verdict.{Verdict}
use Rattle.engine.specs.declared.Ticked.{Ticked}
use Rattle.detectors.specs.declared.Detected.{Detected}
use Rattle.translator.specs.Answers.{Translation}

-- thirty-two bits: number (8), cells (8), place (16)
unfoldable pub packed_parts : Verdict → ℕ → ℕ
packed_parts verdict cells = verdict.number + 256 * cells + 65536 * (verdict.place % 65536)

abbrev pub packed_translation : Translation → ℕ
packed_translation answer = packed_parts answer.verdict answer.cells

-- a verdict has no cells
abbrev pub packed_verdict : Verdict → ℕ
packed_verdict verdict = packed_parts verdict 0

-- sixty-four bits: "number (7:0), step that shows (15:8), outputs (31:16), place (62:32), 0 (63)"
unfoldable pub packed_tick : Ticked → ℕ
packed_tick answer =
    answer.verdict.number
    + 256 * answer.step
    + 65536 * answer.outputs
    + 4294967296 * (answer.verdict.place % 2147483648)

-- sixty-four bits: number (8), place (8), faults (16), warnings (16)
unfoldable pub packed_words : Detected → ℕ
packed_words answer =
    answer.verdict.number
    + 256 * (answer.verdict.place % 256)
    + 65536 * answer.faults
    + 4294967296 * answer.warnings
