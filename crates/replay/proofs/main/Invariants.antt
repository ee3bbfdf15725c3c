-- `replay::main` is safe and ends: each turn counts one case, alike or not. Assumes nothing.
use Rattle.std.proofs.Common.{◌+◌, ◌≤◌}
use Rattle.replay.proofs.main.Given as goal

abbrev pub invariant-loop-number : goal.invariant-loop-number
invariant-loop-number l = l.alike + l.different ≤ l.number
