-- `packing::packed_words` meets its contract: the sum of its parts. Assumes nothing.
use borrow.Author.Rules.{rules}
use Rattle.packing.specs.Packed.{packed_words}
use Rattle.packing.proofs.packed_words.Goals as goal

pub returns : goal.returns
unfolding packed_words
returns c = search rules
