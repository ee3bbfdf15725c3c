-- An answer is known by its verdict and its value. Assumes nothing.
use Prim.Native.Nat.{ℕ}
use mathlib.Core.Path.{◌≡◌, refl, ap, sym, ◌∙◌}
use lib.Dec.{eqb}
use Rattle.std.specs.Prelude.{cond, Result, Ok, Err}
use Rattle.records.specs.Verdicts.{refused}
use Rattle.records.specs.Answers.{number_of, verdict_by, verdict_of}
use Rattle.records.specs.declared.Number.{Number}
use Rattle.records.specs.declared.Number.TheVariants.{WrongLength, Reserved, Unprinted, OutOfRange, RepeatedTag, UnknownTag, TooManyCells, Unreachable, BadWord, NoRoom}
use Rattle.records.specs.declared.Refusal.{Refusal}
use Rattle.records.specs.declared.Verdict.{Verdict}
use Rattle.records.proofs.ReturnLaws.{number_some}

-- the kind that a number stands for
kind_of : ℕ → Number
kind_of n =
    cond (eqb n 1) WrongLength
    (cond (eqb n 2) Reserved
    (cond (eqb n 3) Unprinted
    (cond (eqb n 4) OutOfRange
    (cond (eqb n 5) RepeatedTag
    (cond (eqb n 6) UnknownTag
    (cond (eqb n 7) TooManyCells
    (cond (eqb n 8) Unreachable
    (cond (eqb n 9) BadWord NoRoom))))))))

kind_back : (kind : Number) → kind_of (number_of kind) ≡ kind
unfolding kind_of
kind_back WrongLength = refl
kind_back Reserved = refl
kind_back Unprinted = refl
kind_back OutOfRange = refl
kind_back RepeatedTag = refl
kind_back UnknownTag = refl
kind_back TooManyCells = refl
kind_back Unreachable = refl
kind_back BadWord = refl
kind_back NoRoom = refl

-- two answers with one verdict and one value are one answer, where the kinds have numbers of their own, and none of them 0
module _ {K : Type 0} (number : K → ℕ) (kind : ℕ → K) (back : (k : K) → kind (number k) ≡ k) (some : (k : K) → number k ≡ 0 → ⊥) where
  refusal_at : Verdict → Refusal K
  refusal_at verdict = record { kind = kind verdict.number; place = verdict.place }

  refusal_back : (refusal : Refusal K) → refusal_at (refused (number refusal.kind) refusal.place) ≡ refusal
  unfolding refusal_at
  refusal_back refusal i = record { kind = back refusal.kind i; place = refusal.place }

  module _ {A R : Type 0} (spelled : Result A (Refusal K) → R) (verdict : R → Verdict) (value : R → A)
      (told : (answer : Result A (Refusal K)) → verdict (spelled answer) ≡ verdict_by number answer) (kept : (x : A) → value (spelled (Ok x)) ≡ x) where
    pub one_result_by : (one other : Result A (Refusal K)) → spelled one ≡ spelled other → one ≡ other
    one_result_by (Ok x) (Ok y) e = ap Ok (sym (kept x) ∙ ap value e ∙ kept y)
    one_result_by (Ok x) (Err b) e = absurd (some b.kind (sym (ap (λ (v : Verdict). v.number) (sym (told (Ok x)) ∙ ap verdict e ∙ told (Err b)))))
    one_result_by (Err a) (Ok y) e = absurd (some a.kind (ap (λ (v : Verdict). v.number) (sym (told (Err a)) ∙ ap verdict e ∙ told (Ok y))))
    one_result_by (Err a) (Err b) e =
        ap Err (sym (refusal_back a) ∙ ap refusal_at (sym (told (Err a)) ∙ ap verdict e ∙ told (Err b)) ∙ refusal_back b)

-- the same of the paper's numbers
pub one_result : {A R : Type 0} (spelled : Result A (Refusal Number) → R) (verdict : R → Verdict) (value : R → A)
    → ((answer : Result A (Refusal Number)) → verdict (spelled answer) ≡ verdict_of answer) → ((x : A) → value (spelled (Ok x)) ≡ x)
    → (one other : Result A (Refusal Number)) → spelled one ≡ spelled other → one ≡ other
one_result spelled verdict value told kept = one_result_by number_of kind_of kind_back number_some spelled verdict value told kept
