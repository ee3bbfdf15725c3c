-- `translator::Accepted::write` meets its contract: the cells of one more step are written. Assumes nothing.
use Rattle.translator.proofs.WriteLaws.{steps_none, steps_more}
use Rattle.translator.proofs.Accepted.write.Goals as goal

pub loop-i-init : goal.loop-i-init
loop-i-init c = steps_none _ _

pub loop-i-preserved : goal.loop-i-preserved
loop-i-preserved c = steps_more _ _ _ _ _ _ c.loop-i.invariant _ c.cells_of-cells.ensures.value c.write_step.ensures c.write_step.auto.table
