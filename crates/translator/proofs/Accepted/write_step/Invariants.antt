-- `translator::Accepted::write_step` meets its contract. The invariant: j cells of the step are written, and the bytes before and after them stay.
-- Assumes nothing.
use Rattle.translator.proofs.WriteLaws.{CellsWritten}
use Rattle.translator.proofs.Accepted.write_step.Given as goal

abbrev pub invariant-loop-j : goal.invariant-loop-j
invariant-loop-j l = CellsWritten l.self.sheet.now l.initial.table l.i l.first l.j l.table
