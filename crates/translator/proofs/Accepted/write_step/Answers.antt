-- `translator::Accepted::write_step` meets its contract: the part that is lent comes back as the step's next cell. Assumes nothing.
use Prim.Native.Nat.{◌+◌, ◌*◌, ◌≤◌}
use mathlib.Core.Path.{◌≡◌}
use native.Mathlib.Omega.{arith}
use lib.ListN.{length}
use Rattle.steps.specs.Steps.{step_at}
use Rattle.translator.specs.Translation.{first_cell}
use Rattle.translator.proofs.CellCounts.{cells_least}
use Rattle.translator.proofs.CutLeads.{step_within}
use Rattle.translator.proofs.CutLaws.{cut_from}
use Rattle.translator.proofs.WriteLaws.{cells_more}
use Rattle.translator.proofs.Accepted.write_step.Goals as goal

pub loop-j-preserved : goal.loop-j-preserved
loop-j-preserved c =
    let a = c.args in
    let sheet = a.self.now.sheet.now in
    let s = c.requires in
    let j = c.loop-j.j in
    let some : 1 ≤ a.cells = omega (arith, s.cells_value, cells_least (step_at sheet a.i).timeout) in
    let next : a.first + j + 1 ≡ first_cell sheet a.i + j + 1 = omega (arith, s.first_value) in
    let inside : 12 * (a.first + j) + 12 ≤ length a.table.now = omega (arith, step_within sheet a.i s.i_bound) in
    let cell = cut_from sheet a.i j a.cells _ _ _ s.cells_value some c.last_cut-last.ensures next c.cut-cell.ensures in
    cells_more _ _ _ _ _ _ _ c.loop-j.invariant inside _ cell c.write_cell.ensures.part_after c.write_cell.auto.part
