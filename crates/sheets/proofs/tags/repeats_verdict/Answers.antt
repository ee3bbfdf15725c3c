-- `sheets::tags::repeats_verdict` meets its contract. The outer invariant: the steps from `later` on give the whole verdict; the inner one: no step
-- before `earlier` has the tag of `later`. Left by the label, an earlier step has it. Assumes nothing.
use mathlib.Core.Path.{◌≡◌, refl, ap, sym, ◌∙◌}
use mathlib.Core.Bool.{not}
use native.Mathlib.Omega.{arith}
use Rattle.records.specs.Answers.{verdict_of}
use Rattle.records.specs.Tags.{used_before, repeats}
use Rattle.records.proofs.VerdictLaws.{searched_none, flag_pass, flag_hit, searched_end}
use Rattle.records.proofs.TagSearch.{used_none, used_pass}
use Rattle.records.proofs.TagLaws.{some_repeats}
use Rattle.sheets.specs.Sheets.{repeats_verdict}
use Rattle.sheets.proofs.tags.repeats_verdict.Invariants.{fresh}
use Rattle.sheets.proofs.tags.repeats_verdict.Goals as goal

pub search-init : goal.search-init
unfolding repeats_verdict
search-init c = (searched_none c.step_count-steps.ensures refl, refl)

pub loop-earlier-init : goal.loop-earlier-init
loop-earlier-init c = (used_none 16 _ _, c.search.invariant.1)

pub loop-earlier-preserved : goal.loop-earlier-preserved
loop-earlier-preserved c =
    let so = c.loop-earlier.invariant in
    (used_pass 16 _ _ _ so.0 (λ t. c.if-tag.false (c.tag.ensures ∙ t ∙ sym c.tag-in-loop-earlier.ensures)), so.1)

pub search-preserved : goal.search-preserved
unfolding repeats
search-preserved c =
    let all : c.loop-earlier.earlier ≡ c.search.later = omega arith in
    (flag_pass (fresh _) 5 (λ j. j) c.search.invariant.0 c.search-test.true (ap not (sym (ap (used_before 16 _ _) all) ∙ c.loop-earlier.invariant.0)), c.loop-earlier.invariant.1)

pub returns-after-search : goal.returns-after-search
returns-after-search c = ap (verdict_of {A = Unit {0}}) c.search.invariant.1 ∙ searched_end c.search.invariant.0 c.search-test.false

pub returns-then-tag : goal.returns-then-tag
returns-then-tag c =
    let repeated = some_repeats 16 c.args.sheet.now c.loop-earlier.earlier c.search.later c.loop-earlier-test.true (sym c.tag.ensures ∙ c.if-tag.true ∙ c.tag-in-loop-earlier.ensures) in
    flag_hit (fresh _) 5 (λ j. j) c.search.invariant.0 c.search-test.true (λ z. omega arith) (ap not repeated)
