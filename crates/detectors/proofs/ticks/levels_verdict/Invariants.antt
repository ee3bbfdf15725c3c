-- `detectors::ticks::levels_verdict` meets its contract. The loop's invariant: the frames that are left give the whole answer.
-- Assumes nothing.
use Prim.Native.Nat.{◌*◌, ◌/◌}
use mathlib.Core.Path.{◌≡◌}
use lib.ListN.{length, drop}
use Rattle.records.proofs.VerdictLaws.{Searched}
use Rattle.detectors.specs.Tick.{levels_verdict}
use Rattle.detectors.proofs.TickLaws.{levels_test}
use Rattle.detectors.proofs.ticks.levels_verdict.Given as goal

abbrev pub invariant-loop-frame : goal.invariant-loop-frame
invariant-loop-frame l =
    let count = length l.fn.frames / 11 in record {
      size : l.frame-iterator.size ≡ 11;
      rest : l.frame-iterator.rest.now ≡ drop (11 * length l.yielded) l.fn.frames;
      left : Searched (levels_verdict count l.fn.frames) (levels_test l.fn.frames) count (length l.yielded);
    }
