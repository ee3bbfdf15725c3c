-- `recordings::ticks::detect` meets its contract. The loop's invariant: `detection` is the answer after as many engine ticks, and it is accepted.
-- Assumes nothing.
use Prim.Native.Nat.{ℕ, ◌+◌, ◌-◌, ◌*◌, ◌/◌, ◌<◌, ◌≤◌}
use mathlib.Core.Path.{◌≡◌, refl, ap, ap₂, sym, ◌∙◌}
use mathlib.Core.List.{List, ◌++◌}
use native.Mathlib.Omega.{arith}
use lib.ListN.{length, drop, length-append}
use Rattle.image.specs.declared.Settings.{Settings}
use Rattle.detectors.specs.Tick.{as_detected, engine_ticked}
use Rattle.detectors.specs.declared.Detected.{Detected}
use Rattle.detectors.specs.declared.Detection.{Detection}
use Rattle.detectors.proofs.ChunkLaws.{none_left, one_left, chunk_is, others_left}
use Rattle.recordings.specs.Recordings.{start_detected, detected_after}
use Rattle.recordings.proofs.RecordingLaws.{bank_kept, words_accepted, words_refused, one_more, refusal_stays}
use Rattle.recordings.proofs.ticks.detect.Goals as goal

-- the answer of one engine tick more
next : (settings : Settings) (recording : List ℕ) (n : ℕ) (rest frames others : List ℕ) (before after : Detection)
    → rest ≡ drop (220 * n) recording
    → rest ≡ frames ++ others
    → length frames ≡ 220
    → as_detected before ≡ detected_after settings recording n
    → (as_detected before).verdict.number ≡ 0
    → as_detected after ≡ engine_ticked settings before.bank frames
    → as_detected after ≡ detected_after settings recording (n + 1)
next settings recording n rest frames others before after left cut wide is good ticked =
    one_more settings recording n 220 _ _ refl is good (ticked ∙ ap₂ (engine_ticked settings) (sym (bank_kept before)) (chunk_is 220 n recording left frames others cut wide))

pub loop-frames-init : goal.loop-frames-init
unfolding detected_after start_detected
loop-frames-init c =
    let items = c.chunks_exact-frames-items.ensures in
    rw (c.into_iter-frames-iterator.ensures.into_iter_gives) (record { size = items.size; rest = items.rest; within = omega arith; reached = rw (c.start.ensures, c.default.ensures.0, c.default.ensures.1); accepted = refl })

pub returns-then-is_err : goal.returns-then-is_err
returns-then-is_err c =
    let a = c.args in
    let so = c.loop-frames.invariant in
    let step = c.in-Some.ensures.steps in
    let recording = a.recording.now in
    let n = length c.loop-frames.yielded in
    let wide = step.1.1 ∙ so.size in
    let within = one_left 220 n recording so.rest _ _ step.1.0 wide (omega arith) in
    let last : n + 1 + (length recording / 220 - (n + 1)) ≡ length recording / 220 = omega (arith, within) in
    let is = next a.settings.now recording n _ _ _ c.loop-frames.detection c.engine_tick-detection.result so.rest step.1.0 wide so.reached so.accepted c.engine_tick-detection.ensures in
    is
    ∙ sym (refusal_stays a.settings.now recording (n + 1) (length recording / 220 - (n + 1)) (λ zero. words_refused _ (sym c.is_err.ensures.value ∙ c.if-is_err.true) (ap (λ (d : Detected). d.verdict.number) is ∙ zero)))
    ∙ ap (detected_after a.settings.now recording) last

pub loop-frames-preserved : goal.loop-frames-preserved
loop-frames-preserved c =
    let a = c.args in
    let so = c.loop-frames.invariant in
    let step = c.in-Some.ensures.steps in
    let recording = a.recording.now in
    let n = length c.loop-frames.yielded in
    let wide = step.1.1 ∙ so.size in
    rw length-append (record {
      size = step.0 ∙ so.size;
      rest = others_left 220 n recording so.rest _ _ step.1.0 wide;
      within = (let below = one_left 220 n recording so.rest _ _ step.1.0 wide (omega arith) in omega (arith, below));
      reached = next a.settings.now recording n _ _ _ c.loop-frames.detection c.engine_tick-detection.result so.rest step.1.0 wide so.reached so.accepted c.engine_tick-detection.ensures;
      accepted = words_accepted _ (sym c.is_err.ensures.value ∙ c.if-is_err.false);
    })

pub returns : goal.returns
returns c =
    let so = c.loop-frames.invariant in
    let recording = c.args.recording.now in
    let n = length c.loop-frames.yielded in
    let short : length c.loop-frames.frames-iterator.rest.now < 220 = omega (arith, c.in-None.ensures.steps.1, so.size) in
    let none : length recording / 220 ≤ n = none_left 220 n recording so.rest short in
    let all : n ≡ length recording / 220 = omega (arith, none, so.within) in
    so.reached ∙ ap (detected_after c.args.settings.now recording) all
