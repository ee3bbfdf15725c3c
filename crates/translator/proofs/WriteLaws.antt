-- Laws of the writer: what is written stands in front, cell after cell and step after step, and the rest stays. Assumes nothing.
use Prim.Native.Nat.{ℕ, ◌+◌, ◌-◌, ◌*◌, ◌≤◌}
use mathlib.Core.Path.{◌≡◌, refl, ap, ap₂, sym, ◌∙◌}
use mathlib.Core.List.{List, ◌++◌, append_assoc, append-nil}
use native.Mathlib.Nat.{add-zero, zero-add}
use native.Mathlib.Numerals.{add-one}
use native.Mathlib.Omega.{arith}
use lib.ListN.{length, take, drop, length-append, length-drop, take-append-drop}
use lib.Seq.{length-take-le, drop-drop}
use borrow.Rule.Slice.PartMut.{put_mid, same_len_mid}
use Rattle.records.specs.Lists.{pieces}
use Rattle.records.proofs.ListLaws.{lent_part}
use Rattle.records.proofs.PieceLaws.{pieces_more, pieces_length}
use Rattle.machine.specs.declared.Node.{Node}
use Rattle.tables.specs.Tables.{cell_bytes, cell_written}
use Rattle.tables.proofs.CellBytes.{cell_length}
use Rattle.tables.proofs.TableLaws.{part_taken}
use Rattle.steps.specs.Steps.{step_count}
use Rattle.translator.specs.Translation.{cells_of, first_cell, cell_total, cut_at, step_bytes, table_of}
use Rattle.translator.proofs.CellCounts.{cells_least, first_zero, first_suc}
use Rattle.translator.proofs.CutLeads.{step_within}
use Rattle.translator.proofs.CutBytes.{steps_length}

module _ (sheet table₀ : List ℕ) where
  -- ---- the cells of a step, from cell `first` on

  module _ (i first : ℕ) where
    -- the first j cells
    abbrev cells : ℕ → List ℕ
    cells j = pieces (λ k. cell_bytes (cut_at sheet i k)) 0 j

    -- j of the step's cells are written
    pub record CellsWritten (j : ℕ) (table : List ℕ) : Type 0 where
      pub bytes : table ≡ take (12 * first) table₀ ++ cells j ++ drop (12 * (first + j)) table₀
      pub size : length table ≡ length table₀

    pub cells_none : CellsWritten 0 table₀
    unfolding pieces
    cells_none =
        record {
          bytes =
              sym
              (ap₂ (λ (l : List ℕ) (n : ℕ). l ++ drop (12 * n) table₀) (append-nil (take (12 * first) table₀)) (add-zero first)
              ∙ take-append-drop (12 * first) table₀);
          size = refl;
        }

    module _ (j : ℕ) (table ys : List ℕ) (so : CellsWritten j table) (room : 12 * (first + j) + 12 ≤ length table₀) where
      abbrev at : ℕ
      at = 12 * (first + j)

      -- the part that the loop lends is twelve bytes long, and comes back as the cell
      cell_there : (cell : Node) → cell ≡ cut_at sheet i j → ys ≡ cell_written cell (take (at + 12 - at) (drop at table)) → ys ≡ cell_bytes (cut_at sheet i j)
      cell_there cell c e =
          let twelve : 12 * (first + j) + 12 - 12 * (first + j) ≡ 12 = omega arith in
          let left : 12 ≤ length (drop (12 * (first + j)) table) = omega (arith, length-drop (12 * (first + j)) table, so.size) in
          e
          ∙ ap₂ (λ (d : Node) (n : ℕ). cell_written d (take n (drop at table))) c twelve
          ∙ sym (part_taken (cut_at sheet i j) (take 12 (drop at table)) (length-take-le 12 (drop at table) left)).1

      done_length : length (take (12 * first) table₀ ++ cells j) ≡ at
      done_length =
          length-append (take (12 * first) table₀) (cells j)
          ∙ omega (
            arith,
            length-take-le (12 * first) table₀ (omega arith),
            pieces_length (λ k. cell_bytes (cut_at sheet i k)) 12 (λ k. cell_length (cut_at sheet i k)) 0 j,
          )

      pub cells_more : (cell : Node) → cell ≡ cut_at sheet i j → ys ≡ cell_written cell (take (at + 12 - at) (drop at table))
          → length ys ≡ length (take (at + 12 - at) (drop at table)) → CellsWritten (j + 1) (put_mid at (at + 12 - at) table ys)
      cells_more cell c e l =
          let done = take (12 * first) table₀ ++ cells j in
          let twelve : 12 * (first + j) + 12 - 12 * (first + j) ≡ 12 = omega arith in
          let next : 12 * (first + j) + 12 ≡ 12 * (first + (j + 1)) = omega arith in
          record {
            bytes =
                ap (λ (n : ℕ). put_mid at n table ys) twelve
                ∙ ap₂ (λ (t y : List ℕ). put_mid at 12 t y) so.bytes (cell_there cell c e)
                ∙ lent_part done (cell_bytes (cut_at sheet i j)) table₀ at 12 done_length
                ∙ ap₂ (λ (l : List ℕ) (n : ℕ). l ++ drop n table₀)
                (append_assoc (take (12 * first) table₀) (cells j) (cell_bytes (cut_at sheet i j))
                ∙ ap (λ (l : List ℕ). take (12 * first) table₀ ++ l)
                (ap (λ (k : ℕ). cells j ++ cell_bytes (cut_at sheet i k)) (sym (zero-add j)) ∙ sym (pieces_more (λ k. cell_bytes (cut_at sheet i k)) 0 j)))
                next;
            size = same_len_mid at (at + 12 - at) table ys l ∙ so.size;
          }

    -- all of the step's cells
    pub cells_all : (j n : ℕ) (table : List ℕ) → CellsWritten j table → j ≡ n → n ≡ cells_of sheet i
        → table ≡ take (12 * first) table₀ ++ (step_bytes sheet i ++ drop (12 * (first + n)) table₀)
    unfolding step_bytes
    cells_all j n table so e c =
        so.bytes
        ∙ append_assoc (take (12 * first) table₀) (cells j) (drop (12 * (first + j)) table₀)
        ∙ ap₂ (λ (m k : ℕ). take (12 * first) table₀ ++ (cells m ++ drop (12 * (first + k)) table₀)) (e ∙ c) e

  -- ---- the steps

  -- the cells of the first i steps are written
  pub record StepsWritten (i first : ℕ) (table : List ℕ) : Type 0 where
    pub counted : first ≡ first_cell sheet i
    pub bytes : table ≡ pieces (step_bytes sheet) 0 i ++ drop (12 * first) table₀
    pub size : length table ≡ length table₀

  pub steps_none : StepsWritten 0 0 table₀
  unfolding pieces
  steps_none = record { counted = sym (first_zero sheet); bytes = refl; size = refl }

  module _ (i first : ℕ) (table next : List ℕ) (so : StepsWritten i first table) where
    pub steps_more : (cells : ℕ) → cells ≡ cells_of sheet i
        → next ≡ take (12 * first) table ++ (step_bytes sheet i ++ drop (12 * (first + cells)) table) → length next ≡ length table
        → StepsWritten (i + 1) (first + cells) next
    steps_more cells c e l =
        let done = pieces (step_bytes sheet) 0 i in
        let split : 12 * (first + cells) ≡ 12 * first + 12 * cells = omega arith in
        record {
          counted = ap₂ ◌+◌ so.counted c ∙ sym (ap (first_cell sheet) (add-one i) ∙ first_suc sheet i);
          bytes =
              e
              ∙ ap (λ (l : List ℕ). take (12 * first) table ++ (step_bytes sheet i ++ l))
              (ap (λ (n : ℕ). drop n table) split ∙ sym (drop-drop (12 * cells) (12 * first) table))
              ∙ ap (λ (t : List ℕ). take (12 * first) t ++ (step_bytes sheet i ++ drop (12 * cells) (drop (12 * first) t))) so.bytes
              ∙ lent_part done (step_bytes sheet i) table₀ (12 * first) (12 * cells)
              (steps_length sheet i ∙ ap (λ (n : ℕ). 12 * n) (sym so.counted))
              ∙ ap₂ (λ (l : List ℕ) (n : ℕ). l ++ drop n table₀)
              (ap (λ (k : ℕ). done ++ step_bytes sheet k) (sym (zero-add i)) ∙ sym (pieces_more (step_bytes sheet) 0 i))
              (sym split);
          size = l ∙ so.size;
        }

  -- all of them
  pub steps_all : (i first : ℕ) (table : List ℕ) → StepsWritten i first table → i ≡ step_count sheet → table ≡ table_of sheet ++ drop (12 * cell_total sheet) table₀
  unfolding table_of cell_total
  steps_all i first table so e =
      so.bytes ∙ ap₂ (λ (n m : ℕ). pieces (step_bytes sheet) 0 n ++ drop (12 * m) table₀) e (so.counted ∙ ap (first_cell sheet) e)

pub ruleset cells_written = (cells_none, cells_more, cells_all, cells_least, step_within)

pub ruleset steps_written = (steps_none, steps_more, steps_all, step_within)
