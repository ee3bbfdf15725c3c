-- The translation of a sheet into a table. Assumes nothing.
use Rattle.std.specs.Prelude.{ℕ, zero, suc, ◌+◌, ◌-◌, ◌*◌, ◌/◌, max, Bool, cond, List, [], ◌∷◌, ◌++◌, leb, eqb, length, drop}
use Rattle.records.specs.Lists.{pieces}
use Rattle.records.specs.Numbers.{too_many_cells, no_room}
use Rattle.records.specs.Verdicts.{refused_unless, first_refusal}
use Rattle.records.specs.declared.Verdict.{Verdict}
use Rattle.machine.specs.declared.Node.{Node}
use Rattle.tables.specs.Tables.{cell_bytes}
use Rattle.steps.specs.Steps.{step_count, step_at}
use Rattle.sheets.specs.Sheets.{sheet_tests, node_at}
use Rattle.translator.specs.Answers.{Translation}

-- ---- how many cells, and where they stand

-- "a timeout T takes T/4000 cells rounded up, at least one"
unfoldable pub cells_for : ℕ → ℕ
cells_for timeout = max 1 ((timeout + 3999) / 4000)

abbrev pub cells_of : List ℕ → ℕ → ℕ
cells_of sheet i = cells_for (step_at sheet i).timeout

-- the first cell of step i: the sum of the cells of the steps before it
unfoldable pub first_cell : List ℕ → ℕ → ℕ
first_cell sheet zero = 0
first_cell sheet (suc i) = first_cell sheet i + cells_of sheet i

-- the sum over all steps
unfoldable pub cell_total : List ℕ → ℕ
cell_total sheet = first_cell sheet (step_count sheet)

-- ---- the cells

-- cell j is the last of its step
unfoldable pub last_cut : List ℕ → ℕ → ℕ → Bool
last_cut sheet i j = eqb (j + 1) (cells_of sheet i)

-- cell j of step i: "All but the last have 4000 and go to the following cell by timeout; the last has the rest. Other fields are the step's in each. Jumps lead to a step's first cell."
unfoldable pub cut_at : List ℕ → ℕ → ℕ → Node
cut_at sheet i j =
    record {
      outputs = (node_at sheet i).outputs;
      mask = (node_at sheet i).mask;
      faultto = first_cell sheet (node_at sheet i).faultto;
      channel = (node_at sheet i).channel;
      level = (node_at sheet i).level;
      sequenceto = first_cell sheet (node_at sheet i).sequenceto;
      timeout = cond (last_cut sheet i j) ((node_at sheet i).timeout - 4000 * j) 4000;
      timeoutto = cond (last_cut sheet i j) (first_cell sheet (node_at sheet i).timeoutto) (first_cell sheet i + j + 1);
      step = i;
    }

-- the bytes of a step's cells, one cell after the other
unfoldable pub step_bytes : List ℕ → ℕ → List ℕ
step_bytes sheet i = pieces (λ j. cell_bytes (cut_at sheet i j)) 0 (cells_of sheet i)

-- "steps in order"
unfoldable pub table_of : List ℕ → List ℕ
table_of sheet = pieces (step_bytes sheet) 0 (step_count sheet)

-- ---- the answer and the buffer

-- "Tests: length; fields of every step; repeated tags; unknown tags; cells; room.", for a lent buffer of so many bytes
unfoldable pub translation_verdict : List ℕ → ℕ → Verdict
translation_verdict sheet room =
    first_refusal
    (sheet_tests sheet
    ++ (refused_unless (leb (cell_total sheet) 63) too_many_cells 0
    ∷ refused_unless (leb (12 * cell_total sheet) room) no_room 0
    ∷ []))

-- a refusal "counts zero cells"
unfoldable pub translation : List ℕ → List ℕ → Translation
translation sheet buffer =
    record {
      verdict = translation_verdict sheet (length buffer);
      cells = cond (eqb (translation_verdict sheet (length buffer)).number 0) (cell_total sheet) 0;
    }

-- "Bytes beyond the cells stay"; "A refused call writes to no buffer"
unfoldable pub translated : List ℕ → List ℕ → List ℕ
translated sheet buffer =
    cond (eqb (translation_verdict sheet (length buffer)).number 0) (table_of sheet ++ drop (12 * cell_total sheet) buffer) buffer
