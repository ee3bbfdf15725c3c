-- The bytes of a translated table: how many there are, and which cell stands where. Assumes nothing.
use Prim.Native.Nat.{ℕ, zero, suc, ◌+◌, ◌-◌, ◌*◌, ◌<◌}
use mathlib.Core.Path.{◌≡◌, refl, ap, sym, ◌∙◌}
use mathlib.Core.List.{List, ◌++◌, append_assoc}
use native.Mathlib.Nat.{zero-add}
use native.Mathlib.Numerals.{add-one}
use native.Mathlib.Omega.{arith}
use lib.ListN.{length, length-append}
use Rattle.records.specs.Lists.{pieces}
use Rattle.records.proofs.PieceLaws.{pieces_more, pieces_at, pieces_length}
use Rattle.tables.specs.Tables.{cell_at, cell_bytes}
use Rattle.tables.proofs.CellBytes.{cell_length, cell_read}
use Rattle.steps.specs.Steps.{step_count}
use Rattle.translator.specs.Translation.{cells_of, first_cell, cell_total, cut_at, step_bytes, table_of}

module _ (sheet : List ℕ) where
  -- a step's cells are twelve bytes each
  pub step_length : (i : ℕ) → length (step_bytes sheet i) ≡ 12 * cells_of sheet i
  unfolding step_bytes
  step_length i = pieces_length (λ j. cell_bytes (cut_at sheet i j)) 12 (λ j. cell_length (cut_at sheet i j)) 0 (cells_of sheet i)

  pub steps_length : (n : ℕ) → length (pieces (step_bytes sheet) 0 n) ≡ 12 * first_cell sheet n
  unfolding pieces first_cell
  steps_length zero = refl
  steps_length (suc n) =
      ap (λ (m : ℕ). length (pieces (step_bytes sheet) 0 m)) (sym (add-one n))
      ∙ ap length (pieces_more (step_bytes sheet) 0 n ∙ ap (λ (m : ℕ). pieces (step_bytes sheet) 0 n ++ step_bytes sheet m) (zero-add n))
      ∙ length-append (pieces (step_bytes sheet) 0 n) (step_bytes sheet n)
      ∙ omega (arith, steps_length n, step_length n)

  -- a table is twelve bytes for each cell
  pub table_length : length (table_of sheet) ≡ 12 * cell_total sheet
  unfolding table_of cell_total
  table_length = steps_length (step_count sheet)

  -- the bytes before cell j of step i, and those after it
  before : ℕ → ℕ → List ℕ
  before i j = pieces (step_bytes sheet) 0 i ++ pieces (λ k. cell_bytes (cut_at sheet i k)) 0 j

  behind : ℕ → ℕ → List ℕ
  behind i j =
      pieces (λ k. cell_bytes (cut_at sheet i k)) (suc j) (cells_of sheet i - suc j) ++ pieces (step_bytes sheet) (suc i) (step_count sheet - suc i)

  before_length : (i j : ℕ) → length (before i j) ≡ 12 * (first_cell sheet i + j)
  unfolding before
  before_length i j =
      length-append (pieces (step_bytes sheet) 0 i) _
      ∙ omega (arith, steps_length i, pieces_length (λ k. cell_bytes (cut_at sheet i k)) 12 (λ k. cell_length (cut_at sheet i k)) 0 j)

  table_split : (i j : ℕ) → i < step_count sheet → j < cells_of sheet i → table_of sheet ≡ before i j ++ (cell_bytes (cut_at sheet i j) ++ behind i j)
  unfolding table_of before behind step_bytes
  table_split i j h k =
      pieces_at (step_bytes sheet) (step_count sheet) i h
      ∙ ap (λ (l : List ℕ). pieces (step_bytes sheet) 0 i ++ (l ++ pieces (step_bytes sheet) (suc i) (step_count sheet - suc i)))
      (pieces_at (λ m. cell_bytes (cut_at sheet i m)) (cells_of sheet i) j k)
      ∙ simp append_assoc

  -- cell j of step i stands j past the step's first cell
  pub table_cell : (i j : ℕ) → i < step_count sheet → j < cells_of sheet i → cell_at (table_of sheet) (first_cell sheet i + j) ≡ cut_at sheet i j
  table_cell i j h k =
      ap (λ (bytes : List ℕ). cell_at bytes (first_cell sheet i + j)) (table_split i j h k)
      ∙ cell_read (before i j) (cut_at sheet i j) (behind i j) (first_cell sheet i + j) (before_length i j)
