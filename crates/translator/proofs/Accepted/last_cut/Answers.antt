-- `translator::Accepted::last_cut` meets its contract: the cells before the last take no more than the timeout. Assumes nothing.
use native.Mathlib.Omega.{arith}
use Rattle.translator.proofs.CutLeads.{rest_within}
use Rattle.translator.proofs.Accepted.last_cut.Goals as goal

pub overflow_mul-timeout : goal.overflow_mul-timeout
overflow_mul-timeout c = omega (arith, rest_within _ _ c.node_at-step.ensures _ c.requires.j_value)

pub overflow_sub-timeout : goal.overflow_sub-timeout
overflow_sub-timeout c = omega (arith, rest_within _ _ c.node_at-step.ensures _ c.requires.j_value)
