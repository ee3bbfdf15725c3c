-- Where a step's cells stand, and where those of an accepted sheet lead. Assumes nothing.
use Prim.Native.Nat.{ℕ, ◌+◌, ◌*◌, ◌≤◌, ◌<◌}
use mathlib.Core.Path.{◌≡◌, ap, subst, sym}
use mathlib.Core.List.{List}
use native.Mathlib.Decide.{ℕ_discrete}
use native.Mathlib.Omega.{arith}
use Rattle.machine.specs.declared.Node.{Node}
use Rattle.machine.proofs.StandLaws.{Leads}
use Rattle.steps.specs.Steps.{step_count, step_at}
use Rattle.sheets.specs.Sheets.{node_at, sheet_verdict}
use Rattle.sheets.proofs.AcceptedSheet.{AcceptedSheet, node_leads, sheet_accepted}
use Rattle.translator.specs.Translation.{cells_for, cells_of, first_cell, cell_total, cut_at}
use Rattle.translator.proofs.CellCounts.{cells_least, first_past}
use Rattle.translator.proofs.CutLaws.{last_to, inner_to}

-- the last cell's rest: the cells before it take no more than the timeout
pub rest_left : (timeout j : ℕ) → j + 1 ≡ cells_for timeout → 4000 * j ≤ timeout
unfolding cells_for
rest_left timeout j h = omega arith

module _ (sheet : List ℕ) where
  -- a step's cells stand below the table's end
  pub step_within : (i : ℕ) → i < step_count sheet → first_cell sheet i + cells_of sheet i ≤ cell_total sheet
  unfolding cell_total
  step_within i h = first_past sheet i (step_count sheet) h

  -- and its first is one of the table's
  pub first_within : (i : ℕ) → i < step_count sheet → first_cell sheet i < cell_total sheet
  first_within i h = omega (arith, step_within i h, cells_least (step_at sheet i).timeout)

  -- every exit of a cell leads to a cell of the table
  pub cut_leads : AcceptedSheet sheet → (i j : ℕ) → i < step_count sheet → j < cells_of sheet i → Leads (cell_total sheet) (cut_at sheet i j)
  unfolding cut_at
  cut_leads a i j h k =
      let leads = node_leads sheet a i h in
      record {
        fault = first_within _ leads.fault;
        sequence = first_within _ leads.sequence;
        timeout =
            elim (ℕ_discrete (j + 1) (cells_of sheet i)) [
              | yes e ↦ omega (arith, last_to sheet i j e, first_within (node_at sheet i).timeoutto leads.timeout)
              | no e ↦ omega (arith, inner_to sheet i j e, step_within i h)
            ];
      }

-- ---- a step of an accepted sheet, decoded
module _ {node : Node} (sheet : List ℕ) (i : ℕ) (is : node ≡ node_at sheet i) where
  -- the cells before the last take no more than the timeout
  pub rest_within : (j : ℕ) → j + 1 ≡ cells_of sheet i → 4000 * j ≤ node.timeout
  unfolding node_at
  rest_within j last = omega (arith, ap (λ (n : Node). n.timeout) is, rest_left (step_at sheet i).timeout j last)

  -- each jump leads to the first cell of a step
  module _ (sound : (sheet_verdict sheet).number ≡ 0) (within : i < step_count sheet) where
    to_step : (jump : Node → ℕ) → jump (node_at sheet i) < step_count sheet → first_cell sheet (jump node) < cell_total sheet
    to_step jump h = first_within sheet (jump node) (subst (λ (n : Node). jump n < step_count sheet) (sym is) h)

    leads : Leads (step_count sheet) (node_at sheet i)
    leads = node_leads sheet ((sheet_accepted sheet).0 sound) i within

    pub fault_within : first_cell sheet node.faultto < cell_total sheet
    fault_within = to_step (λ n. n.faultto) leads.fault

    pub sequence_within : first_cell sheet node.sequenceto < cell_total sheet
    sequence_within = to_step (λ n. n.sequenceto) leads.sequence

    pub timeout_within : first_cell sheet node.timeoutto < cell_total sheet
    timeout_within = to_step (λ n. n.timeoutto) leads.timeout

pub ruleset decoded = (fault_within, sequence_within, timeout_within)
