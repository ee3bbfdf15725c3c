-- `bit_fields::field` meets its contract: a byte has no bit past its eighth. Assumes nothing.
use Rattle.records.proofs.BitLaws.{bits_past}
use Rattle.bit_fields.proofs.field.Goals as goal

pub returns-then-low-ge8 : goal.returns-then-low-ge8
returns-then-low-ge8 c = bits_past 8 _ _ _ c.ranges.byte.fits c.if-low-ge8.true
