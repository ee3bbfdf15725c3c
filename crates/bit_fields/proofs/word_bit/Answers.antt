-- `bit_fields::word_bit` meets its contract: a word has no bit past its sixteenth. Assumes nothing.
use Rattle.records.proofs.BitLaws.{bits_past}
use Rattle.bit_fields.proofs.word_bit.Goals as goal

pub returns-then-k-ge16 : goal.returns-then-k-ge16
returns-then-k-ge16 c = bits_past 16 _ _ _ c.ranges.word.fits c.if-k-ge16.true
