-- `sheets::tags::repeats_verdict` meets its contract. The outer invariant: the steps from `later` on give the whole verdict; the inner one: no step
-- before `earlier` has the tag of `later`. Left by the label, an earlier step has it. Assumes nothing.
use mathlib.Core.Path.{◌≡◌}
use mathlib.Core.Bool.{Bool, false, not}
use mathlib.Core.List.{List}
use Prim.Native.Nat.{ℕ}
use Rattle.std.specs.Prelude.{Ok}
use Rattle.records.specs.Tags.{tag_at, used_before, repeats}
use Rattle.records.specs.Verdicts.{refused_unless}
use Rattle.records.proofs.VerdictLaws.{Searched}
use Rattle.sheets.specs.Sheets.{repeats_verdict}
use Rattle.sheets.proofs.tags.repeats_verdict.Given as goal

-- no earlier step has the tag of step j
abbrev pub fresh : List ℕ → ℕ → Bool
fresh sheet j = not (repeats 16 sheet j)

abbrev pub invariant-loop-earlier : goal.invariant-loop-earlier
invariant-loop-earlier l = (used_before 16 l.sheet (tag_at 16 l.sheet l.later) l.earlier ≡ false) × (l.answer ≡ Ok tt)

abbrev pub invariant-search : goal.invariant-search
invariant-search l = Searched (repeats_verdict l.sheet) (λ j. refused_unless (fresh l.sheet j) 5 j) l.steps l.later × (l.answer ≡ Ok tt)
