-- `text::Line::word` meets its contract: as much of the text as fits is put behind what stands in the line. Assumes nothing.
use Prim.Native.Nat.{◌+◌, ◌-◌}
use mathlib.Core.Path.{◌≡◌}
use native.Mathlib.Omega.{arith}
use Rattle.text.proofs.TextLaws.{line_bytes, appended_put}
use Rattle.text.proofs.Line.word.Goals as goal

pub returns : goal.returns
returns c =
    let line = c.args.self in
    let start = c.count-start.result in
    let count = c.min-count.result in
    let same : start + count - start ≡ count = omega arith in
    appended_put line (line_bytes line _ c.well_formed.0) c.args.text.now start count _ _ c.count-start.ensures.value c.min-count.ensures same
    c.copy_from_slice.ensures.after
