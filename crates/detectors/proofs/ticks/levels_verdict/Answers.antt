-- `detectors::ticks::levels_verdict` meets its contract. The loop's invariant: the frames that are left give the whole answer.
-- Assumes nothing.
use Prim.Native.Nat.{ℕ, ◌*◌, ◌/◌, ◌<◌}
use mathlib.Core.List.{List, ◌++◌}
use mathlib.Core.Path.{◌≡◌, refl, ◌∙◌}
use lib.Dec.{ltb}
use lib.ListN.{length, get_or, drop, length-append}
use borrow.Author.Rules.{rules}
use native.Mathlib.Omega.{arith}
use Rattle.records.proofs.ReturnLaws.{loops, loop_starts, loop_done}
use Rattle.records.specs.Numbers.{bad_word}
use Rattle.records.specs.Verdicts.{refused_unless}
use Rattle.channels.specs.Frame.{frame_at}
use Rattle.detectors.specs.Tick.{levels_verdict}
use Rattle.detectors.proofs.ChunkLaws.{none_left, one_left, chunk_is, others_left}
use Rattle.detectors.proofs.TickLaws.{levels_test, levels_tested}
use Rattle.detectors.proofs.ticks.levels_verdict.Goals as goal

-- the next chunk is frame k, and its test that of the definition
here : (frames : List ℕ) (k : ℕ) {rest : List ℕ} (frame others : List ℕ) {levels : ℕ} → rest ≡ drop (11 * k) frames → rest ≡ frame ++ others → length frame ≡ 11 → levels ≡ get_or frame 10 0
    → (k < length frames / 11) × (refused_unless (ltb levels 32) bad_word 0 ≡ levels_test frames k)
unfolding frame_at
here frames k frame others left cut wide read =
    (one_left 11 k frames left frame others cut wide (omega arith), levels_tested frames frame k (chunk_is 11 k frames left frame others cut wide) read)

pub loop-frame-init : goal.loop-frame-init
unfolding levels_verdict
loop-frame-init c =
    let items = c.chunks_exact-frame-items.ensures in
    rw (c.into_iter-frame-iterator.ensures.into_iter_gives) (record { size = items.size; rest = items.rest; left = loop_starts refl })

pub returns-in_err-ensure : goal.returns-in_err-ensure
returns-in_err-ensure c =
    let so = c.loop-frame.invariant in
    let next = c.in-Some.ensures.steps in
    let told = here c.args.frames.now (length c.loop-frame.yielded) c.in-Some.frame.now c.next.new.self.rest.now so.rest next.1.0 (next.1.1 ∙ so.size) c.byte_at.ensures in
    let below = told.0 in
    let same = told.1 in
    search (rules, loops)

pub loop-frame-preserved : goal.loop-frame-preserved
loop-frame-preserved c =
    let so = c.loop-frame.invariant in
    let next = c.in-Some.ensures.steps in
    let frames = c.args.frames.now in
    let frame = c.in-Some.frame.now in
    let others = c.next.new.self.rest.now in
    let k = length c.loop-frame.yielded in
    let wide = next.1.1 ∙ so.size in
    let told = here frames k frame others so.rest next.1.0 wide c.byte_at.ensures in
    let below = told.0 in
    let same = told.1 in
    rw length-append (record {
      size = next.0 ∙ so.size;
      rest = others_left 11 k frames so.rest frame others next.1.0 wide;
      left = search (rules, loops);
    })

pub returns : goal.returns
returns c =
    let so = c.loop-frame.invariant in
    let short : length c.loop-frame.frame-iterator.rest.now < 11 = omega (arith, c.in-None.ensures.steps.1, so.size) in
    loop_done so.left (none_left 11 (length c.loop-frame.yielded) c.args.frames.now so.rest short)
