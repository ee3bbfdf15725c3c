-- `sheets::verdict::fields_verdict` meets its contract. The invariant: the steps from k on give the whole verdict. Assumes nothing.
use Prim.Native.Nat.{ℕ}
use mathlib.Core.Bool.{Bool}
use mathlib.Core.List.{List}
use lib.Dec.{eqb}
use Rattle.records.specs.Verdicts.{refused_unless}
use Rattle.records.proofs.VerdictLaws.{Searched}
use Rattle.steps.specs.Steps.{step_at, step_fault}
use Rattle.sheets.specs.Sheets.{fields_verdict}
use Rattle.sheets.proofs.verdict.fields_verdict.Given as goal

-- no field of step k is at fault
abbrev pub sound : List ℕ → ℕ → Bool
sound sheet k = eqb (step_fault (step_at sheet k)).number 0

abbrev pub invariant-loop-k : goal.invariant-loop-k
invariant-loop-k l = Searched (fields_verdict l.sheet) (λ j. refused_unless (sound l.sheet j) 4 j) l.steps l.k
