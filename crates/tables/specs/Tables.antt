-- A table: cells of twelve bytes, their ranges, and the verdict of one cell and of all. Assumes nothing.
use Rattle.std.specs.Prelude.{ℕ, ◌+◌, ◌*◌, ◌/◌, ◌%◌, Bool, cond, not, ◌&&◌, ◌||◌, List, [], ◌∷◌, ltb, leb, eqb, length, get_or}
use Rattle.records.specs.Words.{word_at, low_byte, high_byte}
use Rattle.records.specs.Lists.{each}
use Rattle.records.specs.Numbers.{wrong_length, out_of_range, unreachable}
use Rattle.records.specs.Verdicts.{refused_unless, first_refusal}
use Rattle.records.specs.declared.Verdict.{Verdict}
use Rattle.machine.specs.Fields.{outputs_in_range, mask_in_range, channel_in_range, level_in_range, level_allowed, range_fault, jump_without_exit, level_without_channel}
use Rattle.machine.specs.declared.Node.{Node}
use Rattle.machine.specs.Answers.{Standing}

-- ---- bytes

-- "outputs (2), mask (2), fault next (1), channel (1), level (1), sequence next (1), timeout (2), timeout next (1), step (1)"
unfoldable pub cell_at : List ℕ → ℕ → Node
cell_at table k =
    record {
      outputs = word_at table (12 * k);
      mask = word_at table (12 * k + 2);
      faultto = get_or table (12 * k + 4) 0;
      channel = get_or table (12 * k + 5) 0;
      level = get_or table (12 * k + 6) 0;
      sequenceto = get_or table (12 * k + 7) 0;
      timeout = word_at table (12 * k + 8);
      timeoutto = get_or table (12 * k + 10) 0;
      step = get_or table (12 * k + 11) 0;
    }

unfoldable pub cell_bytes : Node → List ℕ
cell_bytes cell =
    low_byte cell.outputs
    ∷ high_byte cell.outputs
    ∷ low_byte cell.mask
    ∷ high_byte cell.mask
    ∷ cell.faultto
    ∷ cell.channel
    ∷ cell.level
    ∷ cell.sequenceto
    ∷ low_byte cell.timeout
    ∷ high_byte cell.timeout
    ∷ cell.timeoutto
    ∷ cell.step
    ∷ []

-- a part lent for a cell is twelve bytes; any other is refused and kept
unfoldable pub part_verdict : List ℕ → Verdict
part_verdict part = refused_unless (eqb (length part) 12) wrong_length 0

unfoldable pub cell_written : Node → List ℕ → List ℕ
cell_written cell part = cond (eqb (part_verdict part).number 0) (cell_bytes cell) part

-- ---- ranges

-- "next below the number of cells, and 0 where the exit is absent"
unfoldable pub next_fault : ℕ → Bool → ℕ → ℕ → Verdict
next_fault cells present next offset =
    first_refusal
    (refused_unless (ltb next cells) range_fault offset ∷ refused_unless (present || eqb next 0) jump_without_exit offset ∷ [])

-- the fields in the order of their offsets; "Step at most 62, timeout at most 4000, ... the rest as in a sheet"
unfoldable pub cell_fault : ℕ → Node → Verdict
cell_fault cells cell =
    first_refusal
    (refused_unless (outputs_in_range cell.outputs) range_fault 0
    ∷ refused_unless (mask_in_range cell.mask) range_fault 2
    ∷ next_fault cells (not (eqb cell.mask 0)) cell.faultto 4
    ∷ refused_unless (channel_in_range cell.channel) range_fault 5
    ∷ refused_unless (level_in_range cell.level) range_fault 6
    ∷ refused_unless (level_allowed cell.channel cell.level) level_without_channel 6
    ∷ next_fault cells (not (eqb cell.channel 0)) cell.sequenceto 7
    ∷ refused_unless (leb cell.timeout 4000) range_fault 8
    ∷ next_fault cells (not (eqb cell.timeout 0)) cell.timeoutto 10
    ∷ refused_unless (leb cell.step 62) range_fault 11
    ∷ [])

-- ---- verdicts

unfoldable pub cell_count : List ℕ → ℕ
cell_count table = length table / 12

-- "A table has 1 to 63 cells of 12 bytes"
unfoldable pub is_table : List ℕ → Bool
is_table table = leb 12 (length table) && leb (length table) 756 && eqb (length table % 12) 0

-- "4 | a field ... out of its range | ... cell"
unfoldable pub fields_verdict : List ℕ → ℕ → Verdict
fields_verdict table k = refused_unless (eqb (cell_fault (cell_count table) (cell_at table k)).number 0) out_of_range k

-- the tests of one cell: "length, cell number (8), that cell (4)"
unfoldable pub cell_tests : List ℕ → ℕ → List Verdict
cell_tests table k =
    refused_unless (is_table table) wrong_length 0
    ∷ refused_unless (ltb k (cell_count table)) unreachable 0
    ∷ fields_verdict table k
    ∷ []

unfoldable pub cell_verdict : List ℕ → ℕ → Verdict
cell_verdict table k = first_refusal (cell_tests table k)

-- one cell, and the verdict on standing at it
unfoldable pub cell_standing : List ℕ → ℕ → Standing
cell_standing table k = record { verdict = cell_verdict table k; node = cell_at table k }

-- the length, then every cell; the lowest is named
unfoldable pub table_verdict : List ℕ → Verdict
table_verdict table = first_refusal (refused_unless (is_table table) wrong_length 0 ∷ each (fields_verdict table) 0 (cell_count table))
