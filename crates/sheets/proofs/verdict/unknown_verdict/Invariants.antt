-- `sheets::verdict::unknown_verdict` meets its contract. The invariant: the steps from k on give the whole verdict. Assumes nothing.
use Rattle.records.specs.Verdicts.{refused_unless}
use Rattle.records.proofs.VerdictLaws.{Searched}
use Rattle.sheets.specs.Sheets.{jumps_known, unknown_verdict}
use Rattle.sheets.proofs.verdict.unknown_verdict.Given as goal

abbrev pub invariant-loop-k : goal.invariant-loop-k
invariant-loop-k l = Searched (unknown_verdict l.sheet) (λ j. refused_unless (jumps_known l.sheet j) 6 j) l.steps l.k
