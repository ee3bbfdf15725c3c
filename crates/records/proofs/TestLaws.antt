-- Laws that cross from tests to facts, both ways: what a verdict says of its tests. Assumes nothing.
use Prim.Native.Nat.{ℕ, ◌*◌, ◌%◌, ◌≤◌, ◌<◌}
use mathlib.Core.Path.{◌≡◌, refl, ap, sym, ◌∙◌}
use mathlib.Core.Bool.{Bool, true, false, not, ◌&&◌, ◌||◌, false≢true, and-eq-true_iff}
use mathlib.Core.List.{List, [], ◌∷◌}
use mathlib.Core.Logic.{◌↔◌}
use native.Mathlib.Decide.{ℕ_discrete}
use borrow.Author.Tests.{ltb-true, lt-ltb, leb-true, le-leb, eqb-true, eq-eqb, ne_eqb}
use lib.Dec.{ltb, leb, eqb}
use Rattle.records.specs.Verdicts.{refused, refused_unless, or_else, first_refusal}
use Rattle.records.specs.Lists.{each}
use Rattle.records.specs.declared.Verdict.{Verdict}
use Rattle.records.proofs.Every.{Every, none, ◌also◌}
use Rattle.records.proofs.VerdictLaws.{or_else_pass, or_else_hit, or_else_zero, number_of, tests_accepted, accepted_tests, lowest_shows, shows_lowest}

-- ---- tests as facts

-- the test "below"
pub lt_test : (a b : ℕ) → (ltb a b ≡ true) ↔ (a < b)
lt_test a b = (ltb-true a b, lt-ltb a b)

-- the test "at most"
pub le_test : (a b : ℕ) → (leb a b ≡ true) ↔ (a ≤ b)
le_test a b = (leb-true a b, le-leb a b)

-- the test "equal"
pub eq_test : (a b : ℕ) → (eqb a b ≡ true) ↔ (a ≡ b)
eq_test a b = (eqb-true a b, eq-eqb a b)

-- where m is 0, n is 0
pub absent_test : (m n : ℕ) → (not (eqb m 0) || eqb n 0 ≡ true) ↔ (m ≡ 0 → n ≡ 0)
absent_test m n = (
  λ e z. eqb-true n 0 (rw (eq-eqb m 0 z) at e),
  λ h. elim (ℕ_discrete m 0) [ yes z ↦ rw (eq-eqb m 0 z, eq-eqb n 0 (h z)) | no z ↦ rw (ne_eqb m 0 z) ],
)

-- where n is 0, m is 0
pub present_test : (m n : ℕ) → (not (not (eqb m 0)) || not (eqb n 0) ≡ true) ↔ (n ≡ 0 → m ≡ 0)
present_test m n = (
  λ e z. elim (ℕ_discrete m 0) [ yes y ↦ y | no y ↦ absurd (false≢true (rw (ne_eqb m 0 y, eq-eqb n 0 z) at e)) ],
  λ h. elim (ℕ_discrete n 0) [ yes z ↦ rw (eq-eqb n 0 z, eq-eqb m 0 (h z)) | no z ↦ rw (ne_eqb n 0 z) (or_true (not (not (eqb m 0)))) ],
)
  where
    or_true : (t : Bool) → t || true ≡ true
    or_true true = refl
    or_true false = refl

-- ---- a length: "1 to 63" records of so many bytes each

pub record Whole (width n : ℕ) : Type 0 where
  pub least : width ≤ n
  pub most : n ≤ 63 * width
  pub whole : n % width ≡ 0

pub whole_test : (width n : ℕ) → (leb width n && leb n (63 * width) && eqb (n % width) 0 ≡ true) ↔ Whole width n
whole_test width n = (
  λ e.
      let outer = (and-eq-true_iff _ _).0 e in
      let inner = (and-eq-true_iff _ _).0 outer.0 in
      record { least = (le_test _ _).0 inner.0; most = (le_test _ _).0 inner.1; whole = (eq_test _ _).0 outer.1 },
  λ h.
      (and-eq-true_iff _ _).1
      ((and-eq-true_iff _ _).1 ((le_test _ _).1 h.least, (le_test _ _).1 h.most), (eq_test _ _).1 h.whole),
)

-- ---- one verdict

-- a verdict of one test accepts exactly where the test holds
pub unless_passed : {holds : Bool} {P : Type 0} → ((holds ≡ true) ↔ P) → (number place : ℕ) → (number ≡ 0 → ⊥)
    → (refused_unless holds number place).number ≡ 0 → P
unless_passed {holds} means number place refuses e = means.0 (passed holds e)
  where
    passed : (t : Bool) → (refused_unless t number place).number ≡ 0 → t ≡ true
    passed true e = refl
    passed false e = absurd (refuses e)

-- and where it holds the verdict accepts
pub unless_passes : {holds : Bool} {P : Type 0} → ((holds ≡ true) ↔ P) → (number place : ℕ) → P → (refused_unless holds number place).number ≡ 0
unless_passes means number place p = rw (means.1 p)

-- and shows the number at the place where it fails
pub unless_shows : {P : Type 0} (holds : Bool) (number place : ℕ) → ((holds ≡ true) ↔ P) → (P → ⊥)
    → refused_unless holds number place ≡ record { number = number; place = place }
unless_shows true number place means r = absurd (r (means.0 refl))
unless_shows false number place means r = refl

-- ---- a list of verdicts

-- a first verdict that refuses shows, whatever the second
pub refusal_shows : (v w : Verdict) {number place : ℕ} → (number ≡ 0 → ⊥) → v ≡ record { number = number; place = place }
    → or_else v w ≡ record { number = number; place = place }
refusal_shows v w some e = or_else_hit v w (λ z. some (ap (λ (x : Verdict). x.number) (sym e) ∙ z)) ∙ e

-- every test of a list passes
abbrev pub AllPass : List Verdict → Type 0
AllPass vs = Every (λ v. v.number ≡ 0) vs

-- a list of tests accepts where each does
pub all_zero : (vs : List Verdict) → AllPass vs → (first_refusal vs).number ≡ 0
unfolding first_refusal
all_zero [] none = refl
all_zero (v ∷ vs) (p also ps) = ap number_of (or_else_pass v (first_refusal vs) p) ∙ all_zero vs ps

-- and only there: what a proof matches on, test by test
pub all_pass : (vs : List Verdict) → (first_refusal vs).number ≡ 0 → AllPass vs
unfolding first_refusal
all_pass [] e = none
all_pass (v ∷ vs) e = let both = or_else_zero v (first_refusal vs) e in both.0 also all_pass vs both.1

-- two tests accept exactly where both facts hold
pub two_tests : {first second : Bool} {P Q : Type 0} → ((first ≡ true) ↔ P) → ((second ≡ true) ↔ Q) → (m n place : ℕ) → (m ≡ 0 → ⊥) → (n ≡ 0 → ⊥)
    → ((first_refusal (refused_unless first m place ∷ refused_unless second n place ∷ [])).number ≡ 0) ↔ (P × Q)
two_tests one other m n place some more = (
  λ e. elim (all_pass _ e) [ p also q also none ↦ (unless_passed one m place some p, unless_passed other n place more q) ],
  λ h. all_zero _ (unless_passes one m place h.0 also unless_passes other n place h.1 also none),
)

-- ---- one test for each of n numbers: the lowest that fails is named

-- j is the lowest of the numbers below n without the property
pub record LowestWithout (P : ℕ → Type 0) (n j : ℕ) : Type 0 where
  pub within : j < n
  pub fails : P j → ⊥
  pub before : (i : ℕ) → i < j → P i

-- a verdict over the numbers below n: accepted exactly where each has the property; else the refusal of the lowest that has it not
pub record ShowsLowest (verdict : Verdict) (refusal : ℕ → Verdict) (n : ℕ) (P : ℕ → Type 0) : Type 0 where
  pub accepts : (verdict.number ≡ 0) ↔ ((k : ℕ) → k < n → P k)
  pub refuses : (verdict.number ≡ 0 → ⊥) → (j : ℕ) × LowestWithout P n j
  pub names : (j : ℕ) → LowestWithout P n j → verdict ≡ refusal j

-- the first refusal of a verdict for each number, whatever number and place each refuses with
pub shows_lowest_of : (test : ℕ → Verdict) (n : ℕ) (P : ℕ → Type 0) → ((k : ℕ) → ((test k).number ≡ 0) ↔ P k)
    → ShowsLowest (first_refusal (each test 0 n)) test n P
shows_lowest_of test n P means =
    record {
      accepts = (λ e k h. (means k).0 (accepted_tests test n e k h), λ f. ap number_of (tests_accepted test n (λ k h. (means k).1 (f k h))));
      refuses = λ r. let found = shows_lowest test n r in (
        found.0,
        record {
          within = found.1.inside;
          fails = λ p. found.1.refuses ((means found.0).1 p);
          before = λ i h. (means i).0 (found.1.before i h);
        },
      );
      names = λ j low.
          lowest_shows test n j
          (record { inside = low.within; refuses = λ z. low.fails ((means j).0 z); before = λ i h. (means i).1 (low.before i h) });
    }

-- a verdict that gives one number, at the lowest without the property
abbrev pub NamesLowest : Verdict → ℕ → ℕ → (ℕ → Type 0) → Type 0
NamesLowest verdict number n P = ShowsLowest verdict (refused number) n P

-- each number's verdict, with the number as its place
abbrev pub tested_each : (ℕ → Bool) → ℕ → ℕ → List Verdict
tested_each test number n = each (λ k. refused_unless (test k) number k) 0 n

-- the first refusal of one test for each number
pub names_lowest : (test : ℕ → Bool) (number n : ℕ) → (number ≡ 0 → ⊥) → (P : ℕ → Type 0) → ((k : ℕ) → (test k ≡ true) ↔ P k)
    → NamesLowest (first_refusal (tested_each test number n)) number n P
names_lowest test number n refuses P means =
    let all = shows_lowest_of (λ k. refused_unless (test k) number k) n P (λ k. (unless_passed (means k) number k refuses, unless_passes (means k) number k)) in
    record {
      accepts = all.accepts;
      refuses = all.refuses;
      names = λ j low. all.names j low ∙ unless_shows (test j) number j (means j) low.fails;
    }
