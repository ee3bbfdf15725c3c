-- `pins::drive_all` meets its contract. The loop's invariant: the word has the bits of the first k pins.
-- Assumes nothing.
use mathlib.Core.Path.{◌≡◌}
use Rattle.records.specs.Words.{word_of}
use Rattle.pins.proofs.PinLaws.{pin_at}
use Rattle.pins.proofs.drive_all.Given as goal

abbrev pub invariant-loop-k : goal.invariant-loop-k
invariant-loop-k l = l.word ≡ word_of (pin_at l.fn.settings l.outputs) l.k
