-- `translator::Accepted::write` meets its contract. The invariant: the cells of the first i steps are written, and the bytes after them stay.
-- Assumes nothing.
use Rattle.translator.proofs.WriteLaws.{StepsWritten}
use Rattle.translator.proofs.Accepted.write.Given as goal

abbrev pub invariant-loop-i : goal.invariant-loop-i
invariant-loop-i l = StepsWritten l.self.sheet.now l.initial.table l.i l.first l.table
