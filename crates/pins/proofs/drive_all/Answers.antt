-- `pins::drive_all` meets its contract. The loop's invariant: the word has the bits of the first k pins.
-- Assumes nothing.
use mathlib.Core.Path.{◌≡◌, refl, ap, ◌∙◌}
use native.Mathlib.Omega.{arith}
use Rattle.records.specs.Words.{word_of}
use Rattle.records.proofs.WordLaws.{added_more, added_fits}
use Rattle.image.proofs.SettingsLaws.{ten_groups}
use Rattle.pins.specs.Pins.{pins_of}
use Rattle.pins.proofs.PinLaws.{pin_at, pin_here}
use Rattle.pins.proofs.drive_all.Goals as goal

pub loop-k-init : goal.loop-k-init
unfolding word_of
loop-k-init c = refl

pub overflow_add-word : goal.overflow_add-word
overflow_add-word c =
    let a = c.args in
    let l = c.loop-k in
    let is = pin_here a.settings a.outputs l.k _ _ _ (ten_groups a.settings _ c.well_formed.0) (omega arith) c.word_bit-output.ensures c.drive.ensures in
    record { fits = added_fits _ l.k _ _ _ l.invariant c.bit-word.ensures is (omega arith) }

pub loop-k-preserved : goal.loop-k-preserved
loop-k-preserved c =
    let a = c.args in
    let l = c.loop-k in
    let is = pin_here a.settings a.outputs l.k _ _ _ (ten_groups a.settings _ c.well_formed.0) (omega arith) c.word_bit-output.ensures c.drive.ensures in
    added_more _ l.k _ _ _ l.invariant c.bit-word.ensures is (omega arith)

pub returns : goal.returns
unfolding pins_of
returns c =
    let all : c.loop-k.k ≡ 10 = omega arith in
    c.loop-k.invariant ∙ ap (word_of (pin_at c.args.settings c.args.outputs)) all
