-- `packing::packed` meets its contract: the sum of its parts. Assumes nothing.
use borrow.Author.Rules.{rules}
use Rattle.packing.specs.Packed.{packed_parts}
use Rattle.packing.proofs.packed.Goals as goal

pub returns : goal.returns
unfolding packed_parts
returns c = search rules
