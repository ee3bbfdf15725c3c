-- Laws of tags, for records of any width: what repeats a tag, and which record has it. Assumes nothing.
use Prim.Native.Nat.{ℕ, zero, suc, ◌+◌, ◌≤◌, ◌<◌}
use mathlib.Core.Path.{◌≡◌, refl, sym, subst, ◌∙◌}
use mathlib.Core.Bool.{Bool, true, false, cond, not, ◌||◌, true≢false, false≢true}
use mathlib.Core.List.{List}
use mathlib.Core.Logic.{◌↔◌}
use native.Mathlib.Nat.{not-suc-le-zero}
use native.Mathlib.Decide.{ℕ_discrete, dec_lt}
use native.Mathlib.Omega.{arith}
use borrow.Author.Tests.{eqb-true, eqb-false, eq-eqb, ne_eqb, not-true}
use lib.Dec.{eqb}
use Rattle.records.specs.Tags.{tag_at, used_before, repeats, lowest, look_up}

-- ---- the lowest number for which a test holds

-- the lowest of n numbers from i on: among them it passes the test; none before it does
pub record Lowest (test : ℕ → Bool) (i n at : ℕ) : Type 0 where
  pub from : i ≤ at
  pub holds : at < i + n → test at ≡ true
  pub before : (k : ℕ) → i ≤ k → k < at → test k ≡ false

lowest_here : (test : ℕ → Bool) (i n : ℕ) → test i ≡ true → Lowest test i n i
lowest_here test i n e =
    record { from = omega arith; holds = λ h. e; before = λ k p q. absurd (omega arith) }

lowest_later : (test : ℕ → Bool) (i n at : ℕ) → test i ≡ false → Lowest test (suc i) n at → Lowest test i (suc n) at
lowest_later test i n at e rest =
    record { from = omega arith; holds = λ h. rest.holds (omega arith); before = earlier }
  where
    earlier : (k : ℕ) → i ≤ k → k < at → test k ≡ false
    earlier k p q =
        elim (ℕ_discrete i k) [ yes z ↦ subst (λ (m : ℕ). test m ≡ false) z e | no z ↦ rest.before k (omega arith) q ]

lowest_split : (test : ℕ → Bool) (i n at : ℕ) (t : Bool) → test i ≡ t → Lowest test (suc i) n at → Lowest test i (suc n) (cond t i at)
lowest_split test i n at true e rest = lowest_here test i (suc n) e
lowest_split test i n at false e rest = lowest_later test i n at e rest

-- that is what lowest finds
pub lowest_is : (test : ℕ → Bool) (i n : ℕ) → Lowest test i n (lowest test i n)
unfolding lowest
lowest_is test i zero =
    record { from = omega arith; holds = λ h. absurd (omega arith); before = λ k p q. absurd (omega arith) }
lowest_is test i (suc n) = lowest_split test i n (lowest test (suc i) n) (test i) refl (lowest_is test (suc i) n)

-- a number that passes, with none before it that does, is the lowest
pub is_lowest : (test : ℕ → Bool) (i n k : ℕ) → i ≤ k → k < i + n → test k ≡ true → ((m : ℕ) → i ≤ m → m < k → test m ≡ false)
    → lowest test i n ≡ k
is_lowest test i n k from within holds before =
    elim (dec_lt (lowest test i n) k) [
      | yes p ↦ absurd (true≢false (sym (low.holds (omega arith)) ∙ before (lowest test i n) low.from p))
      | no p ↦ elim (dec_lt k (lowest test i n)) [
        | yes q ↦ absurd (true≢false (sym holds ∙ low.before k from q))
        | no q ↦ omega arith
      ]
    ]
  where
    low : Lowest test i n (lowest test i n)
    low = lowest_is test i n

-- ---- tags

module _ (w : ℕ) (bytes : List ℕ) where
  -- ---- a repeated tag

  used_some : (tag n : ℕ) → used_before w bytes tag n ≡ true → (i : ℕ) × (i < n) × (tag_at w bytes i ≡ tag)
  unfolding used_before
  used_some tag zero e = absurd (false≢true e)
  used_some tag (suc n) e =
      elim (ℕ_discrete (tag_at w bytes n) tag) [
        | yes p ↦ (n, omega arith, p)
        | no p ↦ (let found = used_some tag n (or_false _ (rw (ne_eqb _ _ p) at e)) in (found.0, omega (arith, found.1), found.2))
      ]
    where
      or_false : (t : Bool) → t || false ≡ true → t ≡ true
      or_false true q = refl
      or_false false q = q

  some_used : (tag n i : ℕ) → i < n → tag_at w bytes i ≡ tag → used_before w bytes tag n ≡ true
  unfolding used_before
  some_used tag zero i h e = absurd (not-suc-le-zero h)
  some_used tag (suc n) i h e =
      elim (ℕ_discrete i n) [
        | yes p ↦ rw (eq-eqb (tag_at w bytes n) tag (subst (λ (m : ℕ). tag_at w bytes m ≡ tag) p e)) (or_true (used_before w bytes tag n))
        | no p ↦ rw (some_used tag n i (omega arith) e)
      ]
    where
      or_true : (t : Bool) → t || true ≡ true
      or_true true = refl
      or_true false = refl

  -- record j repeats a tag exactly when some record before it has the same tag
  pub repeats_some : (j : ℕ) → repeats w bytes j ≡ true → (i : ℕ) × (i < j) × (tag_at w bytes i ≡ tag_at w bytes j)
  unfolding repeats
  repeats_some j e = used_some (tag_at w bytes j) j e

  -- and conversely
  pub some_repeats : (i j : ℕ) → i < j → tag_at w bytes i ≡ tag_at w bytes j → repeats w bytes j ≡ true
  unfolding repeats
  some_repeats i j h e = some_used (tag_at w bytes j) j i h e

  -- and does not, exactly when none has
  pub fresh : (j : ℕ) → (not (repeats w bytes j) ≡ true) ↔ ((i : ℕ) → i < j → tag_at w bytes i ≡ tag_at w bytes j → ⊥)
  fresh j = (λ e i h same. true≢false (sym (some_repeats i j h same) ∙ not-true _ e), λ none. unrepeated none (repeats w bytes j) refl)
    where
      unrepeated : ((i : ℕ) → i < j → tag_at w bytes i ≡ tag_at w bytes j → ⊥) → (t : Bool) → repeats w bytes j ≡ t → not (repeats w bytes j) ≡ true
      unrepeated none false e = rw e
      unrepeated none true e = let found = repeats_some j e in absurd (none found.0 found.1 found.2)

  -- ---- look-up

  -- below n it gives a record with the tag
  pub look_up_has_lem : (n tag : ℕ) → look_up w bytes n tag < n → tag_at w bytes (look_up w bytes n tag) ≡ tag
  unfolding look_up
  look_up_has_lem n tag h = eqb-true _ _ ((lowest_is (λ k. eqb (tag_at w bytes k) tag) 0 n).holds (omega arith))

  -- no record below it has the tag
  pub look_up_first : (n tag k : ℕ) → k < look_up w bytes n tag → tag_at w bytes k ≡ tag → ⊥
  unfolding look_up
  look_up_first n tag k h = eqb-false _ _ ((lowest_is (λ k. eqb (tag_at w bytes k) tag) 0 n).before k (omega arith) h)

  -- without repeats among the first n records, look-up undoes tag_at
  pub look_up_tag_at : (n : ℕ) → ((j : ℕ) → j < n → repeats w bytes j ≡ false) → (k : ℕ) → k < n → look_up w bytes n (tag_at w bytes k) ≡ k
  unfolding look_up
  look_up_tag_at n once k h =
      is_lowest (λ m. eqb (tag_at w bytes m) (tag_at w bytes k)) 0 n k (omega arith) (omega arith) (eq-eqb (tag_at w bytes k) _ refl)
      (λ m p q. ne_eqb _ _ (λ e. true≢false (sym (some_repeats m k q e) ∙ once k h)))
