-- `console::print`: a beginning of the line is written, and each turn leaves less of it. Assumes nothing.
use Rattle.std.proofs.Common.{◌-◌, ◌≤◌, take}
use Rattle.std.specs.Io.KnownBytes.{Appends}
use Rattle.text.specs.Text.{written}
use Rattle.console.proofs.print.Given as goal

abbrev pub invariant-loop-sent : goal.invariant-loop-sent
invariant-loop-sent g l =
    record {
      within : l.sent ≤ l.count;
      went : Appends (g.W.Write.contents l.initial.output) (g.W.Write.contents l.output) (take l.sent (written l.fn.line));
    }

abbrev pub decreases-loop-sent : goal.decreases-loop-sent
decreases-loop-sent g l = l.count - l.sent
