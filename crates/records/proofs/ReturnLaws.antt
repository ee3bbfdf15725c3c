-- Laws of code that returns at the first test that refuses: what is left of the list of tests gives the answer. Assumes nothing.
use Prim.Native.Nat.{ℕ, ◌+◌, ◌<◌, ◌≤◌}
use native.Mathlib.Omega.{arith}
use mathlib.Core.Path.{◌≡◌, refl, ap, sym, ◌∙◌}
use mathlib.Core.Bool.{Bool, true, false}
use mathlib.Core.List.{List, [], ◌∷◌}
use Rattle.records.specs.Verdicts.{accepted, refused_unless, or_else, first_refusal}
use Rattle.records.specs.Answers.{number_of}
use Rattle.records.specs.Lists.{each}
use Rattle.records.specs.declared.Number.{Number}
use Rattle.records.specs.declared.Number.TheVariants.{WrongLength, Reserved, Unprinted, OutOfRange, RepeatedTag, UnknownTag, TooManyCells, Unreachable, BadWord, NoRoom}
use Rattle.records.specs.declared.Verdict.{Verdict}
use Rattle.records.proofs.VerdictLaws.{unless_zero, or_else_pass, or_else_hit, first_cons, Searched, searched_none, searched_pass, searched_hit, searched_end}

module _ (vs : List Verdict) (holds : Bool) (number place : ℕ) where
  -- the test's own verdict, as its flag says
  told : {b : Bool} → holds ≡ b → first_refusal (refused_unless holds number place ∷ vs) ≡ or_else (refused_unless b number place) (first_refusal vs)
  told h = first_cons _ _ ∙ ap (λ (b : Bool). or_else (refused_unless b number place) (first_refusal vs)) h

  pub test_refuses : {r : Verdict} → (number ≡ 0 → ⊥) → holds ≡ false → r ≡ refused_unless false number place → r ≡ first_refusal (refused_unless holds number place ∷ vs)
  test_refuses n h e = e ∙ sym (told h ∙ or_else_hit _ _ n)

  pub test_passes : {r : Verdict} → holds ≡ true → r ≡ first_refusal vs → r ≡ first_refusal (refused_unless holds number place ∷ vs)
  test_passes h rest = rest ∙ sym (told h ∙ or_else_pass _ _ refl)

-- ---- answers that end at the first refusal: the tests of a list, read from the first
-- a test that refuses ends it
pub ends_here : {r t : Verdict} (vs : List Verdict) → r ≡ t → (r.number ≡ 0 → ⊥) → r ≡ first_refusal (t ∷ vs)
unfolding first_refusal
ends_here vs e n = e ∙ sym (or_else_hit _ _ (λ z. n (ap (λ (v : Verdict). v.number) e ∙ z)))

-- a test that passes leaves the rest
pub goes_on : {r t : Verdict} (vs : List Verdict) → accepted ≡ t → r ≡ first_refusal vs → r ≡ first_refusal (t ∷ vs)
unfolding first_refusal
goes_on vs e rest = rest ∙ sym (or_else_pass _ _ (ap (λ (v : Verdict). v.number) (sym e)))

-- no test is left
pub all_passed : accepted ≡ first_refusal []
unfolding first_refusal
all_passed = refl

-- the three together, for a call that tests one after the other
pub ruleset tests = (ends_here, goes_on, all_passed)

-- ---- the kinds of refusal
-- none has number 0
pub number_some : (kind : Number) → number_of kind ≡ 0 → ⊥
number_some WrongLength h = absurd (omega arith)
number_some Reserved h = absurd (omega arith)
number_some Unprinted h = absurd (omega arith)
number_some OutOfRange h = absurd (omega arith)
number_some RepeatedTag h = absurd (omega arith)
number_some UnknownTag h = absurd (omega arith)
number_some TooManyCells h = absurd (omega arith)
number_some Unreachable h = absurd (omega arith)
number_some BadWord h = absurd (omega arith)
number_some NoRoom h = absurd (omega arith)

-- ---- a loop that ends at the first refusal
module _ {whole : Verdict} {f : ℕ → Verdict} {n : ℕ} where
  pub loop_starts : whole ≡ first_refusal (each f 0 n) → Searched whole f n 0
  loop_starts all = searched_none refl all

  module _ {k : ℕ} (so : Searched whole f n k) where
    pub loop_ends : {v : Verdict} → k < n → v ≡ f k → (v.number ≡ 0 → ⊥) → v ≡ whole
    loop_ends h is some = searched_hit so h is some

    pub loop_goes_on : k < n → accepted ≡ f k → Searched whole f n (k + 1)
    loop_goes_on h is = searched_pass so h is refl

    pub loop_done : n ≤ k → accepted ≡ whole
    loop_done h = searched_end so h

pub ruleset loops = (loop_starts, loop_ends, loop_goes_on, loop_done, number_some)

-- a test of a kind that passed holds
pub held : (holds : Bool) (number place : ℕ) → (number ≡ 0 → ⊥) → accepted ≡ refused_unless holds number place → holds ≡ true
held holds number place some passed = unless_zero holds number place some (sym (ap (λ (v : Verdict). v.number) passed))
