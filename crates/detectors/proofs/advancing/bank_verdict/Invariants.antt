-- `detectors::advancing::bank_verdict` meets its contract. The loop's invariant: the channels that are left give the whole answer.
-- Assumes nothing.
use mathlib.Core.Path.{◌≡◌}
use lib.ListN.{drop}
use Rattle.records.proofs.VerdictLaws.{Searched}
use Rattle.detectors.specs.Bank.{bank_verdict}
use Rattle.detectors.proofs.BankLaws.{channel_test}
use Rattle.detectors.proofs.advancing.bank_verdict.Given as goal

abbrev pub invariant-loop-k : goal.invariant-loop-k
invariant-loop-k l =
    let k = l.k-iterator.count in record {
      groups : l.k-iterator.iter.a.rest.now ≡ drop k l.fn.settings.groups;
      channels : l.k-iterator.iter.b.rest.now ≡ drop k l.fn.bank.channels;
      left : Searched (bank_verdict l.fn.settings l.fn.bank) (channel_test l.fn.settings l.fn.bank) 10 k;
    }
