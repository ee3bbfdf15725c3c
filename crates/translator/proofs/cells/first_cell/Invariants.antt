-- `translator::cells::first_cell` meets its contract. The invariant: the sum so far is the first cell of step i, and at most 17 for each step. Assumes nothing.
use Prim.Native.Nat.{◌*◌, ◌≤◌}
use mathlib.Core.Path.{◌≡◌}
use Rattle.translator.specs.Translation.{first_cell}
use Rattle.translator.proofs.cells.first_cell.Given as goal

abbrev pub invariant-loop-i : goal.invariant-loop-i
invariant-loop-i l = (l.first ≡ first_cell l.sheet l.i) × (l.first ≤ 17 * l.i) × (l.i ≤ l.step)
