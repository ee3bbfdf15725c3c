-- `reading::reader::read_groups` meets its contract: each turn reads one more group from its part. Assumes nothing.
use Prim.Native.Nat.{◌≤◌}
use mathlib.Core.Path.{◌≡◌}
use mathlib.Core.List.{◌++◌}
use lib.ListN.{drop}
use Rattle.records.specs.Lists.{each}
use Rattle.reading.proofs.ReadingLaws.{group_at}
use Rattle.reading.proofs.reader.read_groups.Given as goal

abbrev pub invariant-loop-k : goal.invariant-loop-k
invariant-loop-k l = (l.k ≤ 10) × (l.groups ≡ each (group_at l.image) 0 l.k ++ drop l.k l.initial.groups)
