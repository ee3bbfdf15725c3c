-- `console::receive`: what was read lies within the buffer, which keeps its length, and is what the input lost; each turn
-- leaves fewer bytes to read. Assumes nothing.
use Rattle.std.proofs.Common.{length, take, ◌-◌, ◌≡◌, ◌≤◌}
use Rattle.std.specs.Io.KnownBytes.{Consumes}
use Rattle.console.proofs.receive.Given as goal

abbrev pub invariant-loop-done : goal.invariant-loop-done
invariant-loop-done g l =
    record {
      kept : length l.buffer ≡ length l.initial.buffer;
      within : l.done ≤ length l.buffer;
      came : Consumes (g.R.Read.remaining l.initial.input) (g.R.Read.remaining l.input) (take l.done l.buffer);
    }

abbrev pub decreases-loop-done : goal.decreases-loop-done
decreases-loop-done g l = length l.buffer - l.done
