-- `channels::frame::level` meets its contract: a byte has no bit past its eighth. Assumes nothing.
use borrow.Author.Tests.{le-leb, le-ltb}
use Rattle.records.proofs.BitLaws.{bits_past}
use Rattle.channels.specs.Frame.{level_at}
use Rattle.channels.proofs.frame.level.Goals as goal

pub returns-else-low-lt8 : goal.returns-else-low-lt8
unfolding level_at
returns-else-low-lt8 c =
    let low = c.in-Some.ensures in
    let none = bits_past 8 c.byte_at-levels.result _ 1 c.byte_at-levels.type_inv c.if-low-lt8.false in
    rw (le-leb 5 c.args.k low.0, ← low.1, ← c.byte_at-levels.ensures, ← none, le-ltb _ _ c.if-low-lt8.false)
