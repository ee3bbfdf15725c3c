-- `packing::packed_tick` meets its contract: the sum of its parts. Assumes nothing.
use borrow.Author.Rules.{rules}
use Rattle.packing.specs.Packed.{packed_tick}
use Rattle.packing.proofs.packed_tick.Goals as goal

pub returns : goal.returns
unfolding packed_tick
returns c = search rules
