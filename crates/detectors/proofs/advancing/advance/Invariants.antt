-- `detectors::advancing::advance` meets its contract. The loop's invariant: the first k channels have run, the others stand as they came, and the words have their bits.
-- Assumes nothing.
use Prim.Native.Nat.{◌≤◌}
use mathlib.Core.Path.{◌≡◌}
use mathlib.Core.List.{◌++◌}
use lib.ListN.{drop}
use Rattle.records.specs.Lists.{each}
use Rattle.records.specs.Words.{word_of}
use Rattle.detectors.proofs.TickLaws.{ran_at}
use Rattle.detectors.proofs.advancing.advance.Given as goal

abbrev pub invariant-loop-k : goal.invariant-loop-k
invariant-loop-k g l =
    let k = l.k-iterator.count in record {
      within : k ≤ 10;
      groups : l.k-iterator.iter.a.rest.now ≡ drop k l.fn.settings.groups;
      left : l.k-iterator.iter.b.rest.now ≡ drop k l.fn.bank.channels;
      channels : l.after.channels ≡ each (λ j. (ran_at l.fn.settings l.frames l.fn.bank g.row.N j).channel) 0 k ++ drop k l.fn.bank.channels;
      faults : l.words.faults ≡ word_of (λ j. (ran_at l.fn.settings l.frames l.fn.bank g.row.N j).fault) k;
      warnings : l.words.warnings ≡ word_of (λ j. (ran_at l.fn.settings l.frames l.fn.bank g.row.N j).warning) k;
    }
