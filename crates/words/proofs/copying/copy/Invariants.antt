-- `words::copying::copy` meets its contract: each turn stores one more of the bytes. Assumes nothing.
use Prim.Native.Nat.{◌≤◌}
use mathlib.Core.Path.{◌≡◌}
use mathlib.Core.List.{◌++◌}
use lib.ListN.{length, drop, get_or}
use Rattle.records.specs.Lists.{each}
use Rattle.words.proofs.copying.copy.Given as goal

abbrev pub invariant-loop-i : goal.invariant-loop-i
invariant-loop-i l =
    (l.i ≤ l.count) × (length l.part ≡ length l.initial.part) × (l.part ≡ each (λ k. get_or l.bytes k 0) 0 l.i ++ drop l.i l.initial.part)
