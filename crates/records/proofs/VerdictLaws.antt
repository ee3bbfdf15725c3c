-- Laws of verdicts: a test's refusal shows exactly when all before it pass. Assumes nothing.
use Prim.Native.Nat.{ℕ, zero, suc, ◌+◌, ◌-◌, ◌*◌, ◌≤◌, ◌<◌}
use mathlib.Core.Path.{◌≡◌, refl, ap, ap₂, sym, ◌∙◌}
use mathlib.Core.Bool.{Bool, true, false}
use mathlib.Core.List.{List, [], ◌∷◌, ◌++◌}
use native.Mathlib.Nat.{not-suc-le-zero, le_of_suc-le-suc, mul-zero, mul-suc, add_comm, zero-add, sub-zero}
use native.Mathlib.Omega.{arith}
use native.Mathlib.Decide.{ℕ_discrete, dec_lt}
use borrow.Author.Tests.{eq-eqb, ne_eqb}
use lib.ListN.{get_or, get_or-eq_default}
use Rattle.records.specs.Verdicts.{accepted, refused, refused_unless, or_else, first_refusal}
use Rattle.records.specs.Lists.{each}
use Rattle.records.specs.declared.Verdict.{Verdict}
use Rattle.records.proofs.ListLaws.{each_next, each_none, each_split, each_at, each_length}

-- ---- one test
-- a test that refuses with a number passes only where it holds
pub unless_zero : (holds : Bool) (number place : ℕ) → (number ≡ 0 → ⊥) → (refused_unless holds number place).number ≡ 0 → holds ≡ true
unless_zero true number place h e = refl
unless_zero false number place h e = absurd (h e)

pub unless_accepted : (holds : Bool) (number place : ℕ) → (number ≡ 0 → ⊥) → (refused_unless holds number place).number ≡ 0 → refused_unless holds number place ≡ accepted
unless_accepted true number place h e = refl
unless_accepted false number place h e = absurd (h e)

-- a test that refuses is its refusal
pub unless_refused : (holds : Bool) (number place : ℕ) → ((refused_unless holds number place).number ≡ 0 → ⊥)
    → refused_unless holds number place ≡ record { number = number; place = place }
unless_refused true number place h = absurd (h refl)
unless_refused false number place h = refl

-- ---- two tests
pub or_else_pass : (v w : Verdict) → v.number ≡ 0 → or_else v w ≡ w
unfolding or_else
or_else_pass v w h = rw (eq-eqb _ _ h)

pub or_else_hit : (v w : Verdict) → (v.number ≡ 0 → ⊥) → or_else v w ≡ v
unfolding or_else
or_else_hit v w h = rw (ne_eqb _ _ h)

pub or_else_end : (v : Verdict) → (v.number ≡ 0 → v ≡ accepted) → or_else v accepted ≡ v
or_else_end v h = elim (ℕ_discrete v.number 0) [ yes p ↦ or_else_pass v accepted p ∙ sym (h p) | no p ↦ or_else_hit v accepted p ]

-- both pass where the two together do
pub or_else_zero : (v w : Verdict) → (or_else v w).number ≡ 0 → (v.number ≡ 0) × (w.number ≡ 0)
or_else_zero v w h =
    elim (ℕ_discrete v.number 0) [
      | yes p ↦ (p, sym (ap (λ (x : Verdict). x.number) (or_else_pass v w p)) ∙ h)
      | no p ↦ absurd (p (sym (ap (λ (x : Verdict). x.number) (or_else_hit v w p)) ∙ h))
    ]

pub or_else_assoc : (u v w : Verdict) → or_else (or_else u v) w ≡ or_else u (or_else v w)
or_else_assoc u v w =
    elim (ℕ_discrete u.number 0) [
      | yes p ↦ ap (λ (x : Verdict). or_else x w) (or_else_pass u v p) ∙ sym (or_else_pass u (or_else v w) p)
      | no p ↦ ap (λ (x : Verdict). or_else x w) (or_else_hit u v p) ∙ or_else_hit u w p ∙ sym (or_else_hit u (or_else v w) p)
    ]

-- ---- a list of tests
-- number 0 comes with place 0
pub first_accepted : (vs : List Verdict) → (first_refusal vs).number ≡ 0 → first_refusal vs ≡ accepted
unfolding first_refusal
first_accepted [] h = refl
first_accepted (v ∷ vs) h =
    let both = or_else_zero v (first_refusal vs) h in
    or_else_pass v (first_refusal vs) both.0 ∙ first_accepted vs both.1

pub first_cons : (v : Verdict) (vs : List Verdict) → first_refusal (v ∷ vs) ≡ or_else v (first_refusal vs)
unfolding first_refusal
first_cons v vs = refl

-- a list of one test
pub first_one : (v : Verdict) → (v.number ≡ 0 → v ≡ accepted) → first_refusal (v ∷ []) ≡ v
unfolding first_refusal
first_one v h = or_else_end v h

-- the last test by itself
pub first_last : (holds : Bool) (number place : ℕ) → (number ≡ 0 → ⊥) → first_refusal (refused_unless holds number place ∷ []) ≡ refused_unless holds number place
first_last holds number place h = first_one (refused_unless holds number place) (unless_accepted holds number place h)

-- one more test before a list of tests, as code joins them from the last to the first
pub first_tested : {u v w r : Verdict} (vs : List Verdict) → r ≡ or_else u w → u ≡ v → w ≡ first_refusal vs → r ≡ first_refusal (v ∷ vs)
unfolding first_refusal
first_tested vs r u w = r ∙ ap₂ or_else u w

pub first_append : (us vs : List Verdict) → first_refusal (us ++ vs) ≡ or_else (first_refusal us) (first_refusal vs)
unfolding first_refusal
first_append [] vs = sym (or_else_pass accepted (first_refusal vs) refl)
first_append (u ∷ us) vs = ap (or_else u) (first_append us vs) ∙ sym (or_else_assoc u (first_refusal us) (first_refusal vs))

-- every test of the list passes; past its end nothing is tested
abbrev Passes : List Verdict → Type 0
Passes vs = (j : ℕ) → (get_or vs j accepted).number ≡ 0

-- the test at j refuses, and all before it pass
pub record FirstAt (vs : List Verdict) (j : ℕ) : Type 0 where
  pub refuses : (get_or vs j accepted).number ≡ 0 → ⊥
  pub before : (i : ℕ) → i < j → (get_or vs i accepted).number ≡ 0

-- accepted exactly when every test passes
passes_accepted : (vs : List Verdict) → Passes vs → first_refusal vs ≡ accepted
unfolding first_refusal
passes_accepted [] h = refl
passes_accepted (v ∷ vs) h = or_else_pass v (first_refusal vs) (h 0) ∙ passes_accepted vs (λ j. h (suc j))

accepted_passes : (vs : List Verdict) → (first_refusal vs).number ≡ 0 → Passes vs
unfolding first_refusal
accepted_passes [] h j = refl
accepted_passes (v ∷ vs) h zero = (or_else_zero v (first_refusal vs) h).0
accepted_passes (v ∷ vs) h (suc j) = accepted_passes vs (or_else_zero v (first_refusal vs) h).1 j

-- a test's refusal shows exactly when all before it pass
pub first_shows : (vs : List Verdict) (j : ℕ) → FirstAt vs j → first_refusal vs ≡ get_or vs j accepted
unfolding first_refusal
first_shows [] j h = refl
first_shows (v ∷ vs) zero h = or_else_hit v (first_refusal vs) h.refuses
first_shows (v ∷ vs) (suc j) h =
    or_else_pass v (first_refusal vs) (h.before zero (omega arith))
    ∙ first_shows vs j (record { refuses = h.refuses; before = λ i p. h.before (suc i) (omega arith) })

later : (v : Verdict) (vs : List Verdict) → v.number ≡ 0 → ((j : ℕ) × FirstAt vs j) → (j : ℕ) × FirstAt (v ∷ vs) j
later v vs p found = (suc found.0, record { refuses = found.1.refuses; before = earlier })
  where
    earlier : (i : ℕ) → i < suc found.0 → (get_or (v ∷ vs) i accepted).number ≡ 0
    earlier zero q = p
    earlier (suc i) q = found.1.before i (le_of_suc-le-suc q)

pub shows_first : (vs : List Verdict) → ((first_refusal vs).number ≡ 0 → ⊥) → (j : ℕ) × FirstAt vs j
unfolding first_refusal
shows_first [] h = absurd (h refl)
shows_first (v ∷ vs) h =
    elim (ℕ_discrete v.number 0) [
      | yes p ↦ later v vs p (shows_first vs (λ q. h (ap (λ (x : Verdict). x.number) (or_else_pass v (first_refusal vs) p) ∙ q)))
      | no p ↦ (0, record { refuses = p; before = λ i q. absurd (not-suc-le-zero q) })
    ]

-- ---- a test of each number below n: accepted exactly when all pass, and the lowest refusal shows
abbrev pub number_of : Verdict → ℕ
number_of verdict = verdict.number

abbrev pub place_of : Verdict → ℕ
place_of verdict = verdict.place

-- the test of a below n refuses, and all before it pass
pub record Lowest (test : ℕ → Verdict) (n a : ℕ) : Type 0 where
  pub inside : a < n
  pub refuses : (test a).number ≡ 0 → ⊥
  pub before : (i : ℕ) → i < a → (test i).number ≡ 0

module _ (test : ℕ → Verdict) (n : ℕ) where
  tested : (a : ℕ) → a < n → get_or (each test 0 n) a accepted ≡ test a
  tested a inside = each_at test 0 n a accepted inside ∙ ap test (zero-add a)

  untested : (a : ℕ) → n ≤ a → get_or (each test 0 n) a accepted ≡ accepted
  untested a past = get_or-eq_default (each test 0 n) accepted (rw each_length past)

  pub tests_accepted : ((a : ℕ) → a < n → (test a).number ≡ 0) → first_refusal (each test 0 n) ≡ accepted
  tests_accepted pass =
      passes_accepted (each test 0 n) λ a.
      elim (dec_lt a n) [
        | yes inside ↦ ap number_of (tested a inside) ∙ pass a inside
        | no outside ↦ ap number_of (untested a (omega arith))
      ]

  pub accepted_tests : (first_refusal (each test 0 n)).number ≡ 0 → (a : ℕ) → a < n → (test a).number ≡ 0
  accepted_tests pass a inside = sym (ap number_of (tested a inside)) ∙ accepted_passes (each test 0 n) pass a

  pub lowest_shows : (a : ℕ) → Lowest test n a → first_refusal (each test 0 n) ≡ test a
  lowest_shows a low =
      first_shows (each test 0 n) a (record {
        refuses = λ pass. low.refuses (sym (ap number_of (tested a low.inside)) ∙ pass);
        before = λ i below. ap number_of (tested i (omega (arith, low.inside))) ∙ low.before i below;
      })
      ∙ tested a low.inside

  first_lowest : (a : ℕ) → FirstAt (each test 0 n) a → Lowest test n a
  first_lowest a first =
      elim (dec_lt a n) [
        | yes inside ↦
            record {
              inside = inside;
              refuses = λ pass. first.refuses (ap number_of (tested a inside) ∙ pass);
              before = λ i below. sym (ap number_of (tested i (omega arith))) ∙ first.before i below;
            }
        | no outside ↦ absurd (first.refuses (ap number_of (untested a (omega arith))))
      ]

  pub shows_lowest : ((first_refusal (each test 0 n)).number ≡ 0 → ⊥) → (a : ℕ) × Lowest test n a
  shows_lowest refused = let first = shows_first (each test 0 n) refused in (first.0, first_lowest first.0 first.1)

-- ---- the search over n records of w tests is the search over the records
pub first_records : (f : ℕ → Verdict) (w k n : ℕ) → first_refusal (each f (w * k) (w * n)) ≡ first_refusal (each (λ i. first_refusal (each f (w * i) w)) k n)
unfolding each
first_records f w k zero = ap (λ (m : ℕ). first_refusal (each f (w * k) m)) (mul-zero w)
first_records f w k (suc n) =
    ap (λ (m : ℕ). first_refusal (each f (w * k) m)) (mul-suc w n ∙ add_comm (w * n) w)
    ∙ ap first_refusal (each_split f (w * k) w (w * n))
    ∙ first_append (each f (w * k) w) (each f (w * k + w) (w * n))
    ∙ ap (λ (m : ℕ). or_else (first_refusal (each f (w * k) w)) (first_refusal (each f m (w * n)))) (sym (mul-suc w k))
    ∙ ap (or_else (first_refusal (each f (w * k) w))) (first_records f w (suc k) n)
    ∙ sym (first_cons _ _)

-- ---- code that joins verdicts from the first to the last
-- the verdict so far, then the tests that are left
unfoldable pub chained : Verdict → List Verdict → Verdict
chained so_far [] = so_far
chained so_far (v ∷ vs) = chained (or_else so_far v) vs

-- number 0 comes with place 0
abbrev pub Proper : Verdict → Type 0
Proper v = v.number ≡ 0 → v ≡ accepted

-- the last test of a list that begins with v
abbrev pub last_of : Verdict → List Verdict → Verdict
last_of v [] = v
last_of v (w ∷ ws) = last_of w ws

-- a chain is the first refusal of its tests, where the last of them refuses with a number
chain_first : (u v : Verdict) (vs : List Verdict) → Proper (last_of v vs) → chained u (v ∷ vs) ≡ or_else u (first_refusal (v ∷ vs))
unfolding chained first_refusal
chain_first u v [] p = ap (or_else u) (sym (or_else_end v p))
chain_first u v (w ∷ ws) p = chain_first (or_else u v) w ws p ∙ or_else_assoc u v (first_refusal (w ∷ ws))

pub first_chained : {r : Verdict} (v : Verdict) (vs : List Verdict) → Proper (last_of v vs) → r ≡ chained accepted (v ∷ vs) → r ≡ first_refusal (v ∷ vs)
first_chained v vs p e = e ∙ chain_first accepted v vs p ∙ or_else_pass accepted (first_refusal (v ∷ vs)) refl

-- one more test of a chain: what it had reached, then the test
pub chain_more : {r u v t w : Verdict} → r ≡ or_else u t → u ≡ v → t ≡ w → r ≡ or_else v w
chain_more r u t = r ∙ ap₂ or_else u t

-- a chain of one test
pub chain_one : {r u v : Verdict} → r ≡ or_else u v → u ≡ accepted → r ≡ v
chain_one {v = v} r u = r ∙ ap (λ (x : Verdict). or_else x v) u ∙ or_else_pass accepted v refl

-- ---- a loop over tests that returns the first refusal: what is left gives the whole answer
module _ (f : ℕ → Verdict) (k n : ℕ) where
  search_hit : k < n → ((f k).number ≡ 0 → ⊥) → first_refusal (each f k (n - k)) ≡ f k
  search_hit h r = ap first_refusal (each_next f k n h) ∙ first_cons _ _ ∙ or_else_hit _ _ r

  search_pass : k < n → (f k).number ≡ 0 → first_refusal (each f k (n - k)) ≡ first_refusal (each f (k + 1) (n - (k + 1)))
  search_pass h r = ap first_refusal (each_next f k n h) ∙ first_cons _ _ ∙ or_else_pass _ _ r

  -- the same where the code holds the test's verdict
  found_hit : (v : Verdict) → v ≡ f k → k < n → (v.number ≡ 0 → ⊥) → first_refusal (each f k (n - k)) ≡ v
  found_hit v is h r = search_hit h (λ z. r (ap (λ (x : Verdict). x.number) is ∙ z)) ∙ sym is

  found_pass : (v : Verdict) → v ≡ f k → k < n → v.number ≡ 0 → first_refusal (each f k (n - k)) ≡ first_refusal (each f (k + 1) (n - (k + 1)))
  found_pass v is h r = search_pass h (sym (ap (λ (x : Verdict). x.number) is) ∙ r)

  search_end : n ≤ k → first_refusal (each f k (n - k)) ≡ accepted
  unfolding first_refusal
  search_end h = ap first_refusal (each_none f k n h)

-- the same as a record of what a loop over n tests has reached before test k
pub record Searched (whole : Verdict) (f : ℕ → Verdict) (n k : ℕ) : Type 0 where
  pub within : k ≤ n
  pub left : whole ≡ first_refusal (each f k (n - k))

module _ {whole : Verdict} {f : ℕ → Verdict} {n : ℕ} where
  pub searched_none : {count : ℕ} → n ≡ count → whole ≡ first_refusal (each f 0 count) → Searched whole f n 0
  searched_none counted all =
      record { within = omega arith; left = all ∙ ap (λ (m : ℕ). first_refusal (each f 0 m)) (sym (sub-zero n ∙ counted)) }

  module _ {k : ℕ} (so : Searched whole f n k) where
    -- the code holds the verdict of test k
    pub searched_pass : {v : Verdict} → k < n → v ≡ f k → v.number ≡ 0 → Searched whole f n (k + 1)
    searched_pass h is r = record { within = omega arith; left = so.left ∙ found_pass f k n _ is h r }

    pub searched_hit : {v : Verdict} → k < n → v ≡ f k → (v.number ≡ 0 → ⊥) → v ≡ whole
    searched_hit h is r = sym (so.left ∙ found_hit f k n _ is h r)

    pub searched_end : n ≤ k → accepted ≡ whole
    searched_end h = sym (so.left ∙ search_end f k n h)

-- a flag for each number: where it is false, the number of the list at its place
abbrev pub flagged : (ℕ → Bool) → ℕ → (ℕ → ℕ) → ℕ → Verdict
flagged flag number place j = refused_unless (flag j) number (place j)

-- the same where each test is a flag
module _ (flag : ℕ → Bool) (number : ℕ) (place : ℕ → ℕ) {whole : Verdict} {n k : ℕ} (so : Searched whole (flagged flag number place) n k) (h : k < n) where
  pub flag_pass : flag k ≡ true → Searched whole (flagged flag number place) n (k + 1)
  flag_pass t = searched_pass so h (ap (λ (b : Bool). refused_unless b number (place k)) (sym t)) refl

  pub flag_hit : (number ≡ 0 → ⊥) → flag k ≡ false → refused number (place k) ≡ whole
  flag_hit some t = searched_hit so h (ap (λ (b : Bool). refused_unless b number (place k)) (sym t)) some
