-- How many cells a step takes, and where they stand. Assumes nothing.
use Prim.Native.Nat.{ℕ, zero, suc, ◌+◌, ◌-◌, ◌*◌, ◌/◌, ◌≤◌, ◌<◌, max}
use mathlib.Core.Path.{◌≡◌, refl, ap, sym, subst, ◌∙◌}
use mathlib.Core.List.{List, [], ◌∷◌, ◌++◌}
use native.Mathlib.Nat.{not-suc-le-zero, zero-add, add-zero, add_assoc}
use native.Mathlib.Numerals.{add-one}
use native.Mathlib.Decide.{ℕ_discrete, dec_lt}
use native.Mathlib.Omega.{arith}
use Rattle.records.specs.Lists.{each}
use Rattle.records.proofs.ListLaws.{each_more}
use Rattle.steps.specs.Steps.{step_at, step_count}
use Rattle.sheets.specs.Sheets.{node_at}
use Rattle.translator.specs.Translation.{cells_for, cells_of, first_cell, cell_total, last_cut, cut_at}

-- ---- "a timeout T takes T/4000 cells rounded up, at least one"

-- no timeout takes one cell
pub cells_0 : cells_for 0 ≡ 1
unfolding cells_for
cells_0 = refl

-- "* Timeout 4000 takes one cell."
pub cells_4000 : cells_for 4000 ≡ 1
unfolding cells_for
cells_4000 = refl

-- "* 4001 two"
pub cells_4001 : cells_for 4001 ≡ 2
unfolding cells_for
cells_4001 = refl

-- "..., the second with 1."
pub cut_4001 : (sheet : List ℕ) (i : ℕ) → (step_at sheet i).timeout ≡ 4001 → (cut_at sheet i 1).timeout ≡ 1
unfolding cut_at last_cut node_at
cut_4001 sheet i e = rw (e, cells_4001)

-- at least one cell
pub cells_least : (timeout : ℕ) → 1 ≤ cells_for timeout
unfolding cells_for
cells_least timeout = omega arith

-- enough cells for the timeout
pub cells_enough : (timeout : ℕ) → timeout ≤ 4000 * cells_for timeout
unfolding cells_for
cells_enough timeout = omega arith

-- and no more than that: with one fewer the timeout would not fit, or there is no timeout
pub cells_fewest : (timeout : ℕ) → 0 < timeout → 4000 * (cells_for timeout - 1) < timeout
unfolding cells_for
cells_fewest timeout h = omega arith

-- ---- the first cell of a step

module _ (sheet : List ℕ) where
  pub first_zero : first_cell sheet 0 ≡ 0
  unfolding first_cell
  first_zero = refl

  -- the first cell of the following step stands past all cells of this one
  pub first_suc : (i : ℕ) → first_cell sheet (suc i) ≡ first_cell sheet i + cells_of sheet i
  unfolding first_cell
  first_suc i = refl

  -- the same, counted as code counts
  pub first_more : (i : ℕ) → first_cell sheet (i + 1) ≡ first_cell sheet i + cells_of sheet i
  first_more i = ap (first_cell sheet) (add-one i) ∙ first_suc i

  -- all cells of a step stand before the first cell of any later step
  pub first_past : (i j : ℕ) → i < j → first_cell sheet i + cells_of sheet i ≤ first_cell sheet j
  first_past i zero h = absurd (not-suc-le-zero h)
  first_past i (suc j) h =
      elim (ℕ_discrete i j) [
        | yes e ↦ subst (λ (k : ℕ). first_cell sheet i + cells_of sheet i ≤ first_cell sheet (suc k)) e (omega (arith, first_suc i))
        | no e ↦ omega (arith, first_suc j, first_past i j (omega arith))
      ]

  -- every cell below the first cell of step n is a cell of a step before n
  pub cell_owner : (n k : ℕ) → k < first_cell sheet n
      → (i : ℕ) × (i < n) × ((j : ℕ) × (j < cells_of sheet i) × (k ≡ first_cell sheet i + j))
  cell_owner zero k h = absurd (not-suc-le-zero (rw first_zero at h))
  cell_owner (suc n) k h =
      elim (dec_lt k (first_cell sheet n)) [
        | yes p ↦ (let found = cell_owner n k p in (found.0, omega (arith, found.1), found.2))
        | no p ↦ (n, omega arith, (k - first_cell sheet n, omega (arith, first_suc n), omega arith))
      ]

-- ---- the cells of all steps

-- the sum of a list of numbers
abbrev pub sum : List ℕ → ℕ
sum [] = 0
sum (n ∷ ns) = n + sum ns

sum_append : (ms ns : List ℕ) → sum (ms ++ ns) ≡ sum ms + sum ns
sum_append [] ns = sym (zero-add (sum ns))
sum_append (m ∷ ms) ns = ap (λ (n : ℕ). m + n) (sum_append ms ns) ∙ sym (add_assoc m (sum ms) (sum ns))

first_sum : (sheet : List ℕ) (n : ℕ) → first_cell sheet n ≡ sum (each (cells_of sheet) 0 n)
unfolding first_cell each
first_sum sheet zero = refl
first_sum sheet (suc n) =
    ap (λ (m : ℕ). m + cells_of sheet n) (first_sum sheet n)
    ∙ ap (λ (m : ℕ). sum (each (cells_of sheet) 0 n) + m) (sym (add-zero (cells_of sheet n)) ∙ ap (λ (m : ℕ). cells_of sheet m + 0) (sym (zero-add n)))
    ∙ sym (sum_append (each (cells_of sheet) 0 n) _)
    ∙ ap sum (sym (each_more (cells_of sheet) 0 n))
    ∙ ap (λ (m : ℕ). sum (each (cells_of sheet) 0 m)) (add-one n)

-- the number of cells is the sum of the quotients T/4000 rounded up, each at least one
pub total_sum : (sheet : List ℕ) → cell_total sheet ≡ sum (each (λ i. max 1 (((step_at sheet i).timeout + 3999) / 4000)) 0 (step_count sheet))
unfolding cell_total cells_for
total_sum sheet = first_sum sheet (step_count sheet)
