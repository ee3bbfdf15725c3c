-- `recordings::ticks::detect` meets its contract. The loop's invariant: `detection` is the answer after as many engine ticks, and it is accepted.
-- Assumes nothing.
use Prim.Native.Nat.{◌*◌, ◌/◌, ◌≤◌}
use mathlib.Core.Path.{◌≡◌}
use lib.ListN.{length, drop}
use Rattle.detectors.specs.Tick.{as_detected}
use Rattle.recordings.specs.Recordings.{detected_after}
use Rattle.recordings.proofs.ticks.detect.Given as goal

abbrev pub invariant-loop-frames : goal.invariant-loop-frames
invariant-loop-frames l = record {
  size : l.frames-iterator.size ≡ 220;
  rest : l.frames-iterator.rest.now ≡ drop (220 * length l.yielded) l.fn.recording;
  within : length l.yielded ≤ length l.fn.recording / 220;
  reached : as_detected l.detection ≡ detected_after l.fn.settings l.fn.recording (length l.yielded);
  accepted : (as_detected l.detection).verdict.number ≡ 0;
}
