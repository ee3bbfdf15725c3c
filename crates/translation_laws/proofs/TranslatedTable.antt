-- A translated table passes the table's verdict. Assumes nothing.
use Prim.Native.Nat.{ℕ, ◌+◌, ◌≤◌, ◌<◌}
use mathlib.Core.Path.{◌≡◌, ap, sym, subst, ◌∙◌}
use mathlib.Core.List.{List}
use native.Mathlib.Decide.{ℕ_discrete}
use native.Mathlib.Omega.{arith}
use Rattle.records.specs.Verdicts.{accepted}
use Rattle.records.proofs.VerdictLaws.{first_accepted}
use Rattle.tables.specs.Tables.{cell_at, cell_count, table_verdict}
use Rattle.translation_laws.proofs.AcceptedTable.{AcceptedCell, AcceptedTable, table_accepted}
use Rattle.steps.specs.Steps.{step_at, step_count}
use Rattle.sheets.specs.Sheets.{node_at, sheet_verdict}
use Rattle.sheets.proofs.AcceptedSheet.{AcceptedSheet, sheet_accepted, node_absent, count_least, count_most}
use Rattle.translator.specs.Translation.{cells_of, first_cell, cell_total, cut_at, table_of}
use Rattle.translator.proofs.CellCounts.{cells_enough, cells_fewest, first_zero, cell_owner}
use Rattle.translator.proofs.CutLaws.{last_timeout, last_to, inner_timeout}
use Rattle.translator.proofs.CutLeads.{first_within, cut_leads}
use Rattle.translator.proofs.CutBytes.{table_length, table_cell}

module _ (sheet : List ℕ) (a : AcceptedSheet sheet) where
  -- the first cell of step 0 is cell 0
  first_absent : (i : ℕ) → i ≡ 0 → first_cell sheet i ≡ 0
  first_absent i z = ap (first_cell sheet) z ∙ first_zero sheet

  -- ---- each cut is an accepted cell

  module _ (i j : ℕ) (h : i < step_count sheet) (k : j < cells_of sheet i) where
    cut_timeout : (cut_at sheet i j).timeout ≤ 4000
    cut_timeout =
        elim (ℕ_discrete (j + 1) (cells_of sheet i)) [
          | yes e ↦ omega (arith, last_timeout sheet i j e, cells_enough (step_at sheet i).timeout)
          | no e ↦ omega (arith, inner_timeout sheet i j e)
        ]

    cut_absent : (cut_at sheet i j).timeout ≡ 0 → (cut_at sheet i j).timeoutto ≡ 0
    unfolding node_at
    cut_absent z =
        elim (ℕ_discrete (j + 1) (cells_of sheet i)) [
          | yes e ↦ last_to sheet i j e ∙ first_absent _ ((node_absent sheet a i h).timeout (none e))
          | no e ↦ absurd (omega (arith, inner_timeout sheet i j e))
        ]
      where
        none : j + 1 ≡ cells_of sheet i → (step_at sheet i).timeout ≡ 0
        none e =
            elim (ℕ_discrete (step_at sheet i).timeout 0) [
              | yes p ↦ p
              | no p ↦ absurd (omega (arith, last_timeout sheet i j e, cells_fewest (step_at sheet i).timeout (omega arith)))
            ]

    -- cell j of step i has the step's fields in their ranges, and every exit leads to a cell of the table
    pub cut_accepted : AcceptedCell (cell_total sheet) (cut_at sheet i j)
    unfolding cut_at node_at
    cut_accepted =
        let step = a.steps i h in
        record {
          step = omega (arith, count_most sheet);
          timeout = cut_timeout;
          leads = cut_leads sheet a i j h k;
          absent =
              record {
                fault = λ z. first_absent _ ((node_absent sheet a i h).fault z);
                sequence = λ z. first_absent _ ((node_absent sheet a i h).sequence z);
                timeout = cut_absent;
              };
          outputs = step.outputs;
          mask = step.mask;
          channel = step.channel;
          level = step.level;
          nolevel = step.nolevel;
        }

  -- ---- the table

  -- the table's cells are as many as the sheet's take
  pub table_count : cell_count (table_of sheet) ≡ cell_total sheet
  unfolding cell_count
  table_count = omega (arith, table_length sheet)

  total_least : 1 ≤ cell_total sheet
  total_least = omega (arith, first_within sheet 0 (count_least sheet a))

  each_cell : (k : ℕ) → k < cell_total sheet → AcceptedCell (cell_total sheet) (cell_at (table_of sheet) k)
  unfolding cell_total
  each_cell k h =
      let owner = cell_owner sheet (step_count sheet) k h in
      let cut = owner.2 in
      subst (AcceptedCell (cell_total sheet))
      (sym (ap (cell_at (table_of sheet)) cut.2 ∙ table_cell sheet owner.0 cut.0 owner.1 cut.1))
      (cut_accepted owner.0 cut.0 owner.1 cut.1)

  -- and every one of them is accepted
  pub translated_accepted : cell_total sheet ≤ 63 → AcceptedTable (table_of sheet)
  translated_accepted few =
      record {
        size =
            record {
              least = omega (arith, table_length sheet, total_least);
              most = omega (arith, table_length sheet);
              whole = omega (arith, table_length sheet);
            };
        cells = λ k h. subst (λ (n : ℕ). AcceptedCell n (cell_at (table_of sheet) k)) (sym table_count) (each_cell k (subst (λ (n : ℕ). k < n) table_count h));
      }

-- the table of an accepted sheet of at most 63 cells passes the whole-table verdict
pub translated_passes : (sheet : List ℕ) → (sheet_verdict sheet).number ≡ 0 → cell_total sheet ≤ 63 → table_verdict (table_of sheet) ≡ accepted
unfolding table_verdict
translated_passes sheet e few = first_accepted _ ((table_accepted (table_of sheet)).1 (translated_accepted sheet ((sheet_accepted sheet).0 e) few))
