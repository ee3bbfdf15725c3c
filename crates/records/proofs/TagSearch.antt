-- Laws of the searches for a tag, one turn at a time, as loops over the records take them. Assumes nothing.
use Prim.Native.Nat.{ℕ, suc, ◌+◌, ◌-◌, ◌≤◌, ◌<◌}
use mathlib.Core.Path.{◌≡◌, refl, ap, sym, ◌∙◌}
use mathlib.Core.Bool.{Bool, true, false, cond, ◌||◌}
use mathlib.Core.List.{List}
use native.Mathlib.Nat.{sub-zero}
use native.Mathlib.Numerals.{add-one}
use native.Mathlib.Omega.{arith}
use borrow.Author.Tests.{eq-eqb, ne_eqb}
use lib.Dec.{eqb}
use Rattle.records.specs.Tags.{tag_at, used_before, lowest, look_up}

-- ---- the lowest number that passes a test: what is left gives the whole answer
module _ (test : ℕ → Bool) (k n : ℕ) where
  lowest_next : k < n → lowest test k (n - k) ≡ cond (test k) k (lowest test (k + 1) (n - (k + 1)))
  unfolding lowest
  lowest_next h =
      let left : n - k ≡ suc (n - (k + 1)) = omega arith in
      ap (lowest test k) left ∙ ap (λ (m : ℕ). cond (test k) k (lowest test m (n - (k + 1)))) (sym (add-one k))

  pub lowest_hit : k < n → test k ≡ true → lowest test k (n - k) ≡ k
  lowest_hit h t = lowest_next h ∙ ap (λ (b : Bool). cond b k (lowest test (k + 1) (n - (k + 1)))) t

  pub lowest_pass : k < n → test k ≡ false → lowest test k (n - k) ≡ lowest test (k + 1) (n - (k + 1))
  lowest_pass h t = lowest_next h ∙ ap (λ (b : Bool). cond b k (lowest test (k + 1) (n - (k + 1)))) t

  pub lowest_end : n ≤ k → lowest test k (n - k) ≡ k
  unfolding lowest
  lowest_end h =
      let left : n - k ≡ 0 = omega arith in
      ap (lowest test k) left

-- before a look-up's loop comes to record k: the records that are left give the whole answer
pub record LookedUp (w : ℕ) (bytes : List ℕ) (tag count k : ℕ) : Type 0 where
  pub within : k ≤ count
  pub left : look_up w bytes count tag ≡ lowest (λ j. eqb (tag_at w bytes j) tag) k (count - k)

module _ (w : ℕ) (bytes : List ℕ) (tag count : ℕ) where
  pub looked_none : LookedUp w bytes tag count 0
  unfolding look_up
  looked_none = record { within = omega arith; left = ap (lowest (λ j. eqb (tag_at w bytes j) tag) 0) (sym (sub-zero count)) }

  module _ (k : ℕ) (so : LookedUp w bytes tag count k) where
    pub looked_pass : k < count → (tag_at w bytes k ≡ tag → ⊥) → LookedUp w bytes tag count (k + 1)
    looked_pass h t =
        record {
          within = omega arith;
          left = so.left ∙ lowest_pass (λ j. eqb (tag_at w bytes j) tag) k count h (ne_eqb (tag_at w bytes k) tag t);
        }

    pub looked_hit : k < count → tag_at w bytes k ≡ tag → look_up w bytes count tag ≡ k
    looked_hit h t = so.left ∙ lowest_hit (λ j. eqb (tag_at w bytes j) tag) k count h (eq-eqb (tag_at w bytes k) tag t)

    pub looked_end : count ≤ k → look_up w bytes count tag ≡ k
    looked_end h = so.left ∙ lowest_end (λ j. eqb (tag_at w bytes j) tag) k count h

-- ---- a tag used before
module _ (w : ℕ) (bytes : List ℕ) (tag : ℕ) where
  pub used_none : used_before w bytes tag 0 ≡ false
  unfolding used_before
  used_none = refl

  pub used_pass : (n : ℕ) → used_before w bytes tag n ≡ false → (tag_at w bytes n ≡ tag → ⊥) → used_before w bytes tag (n + 1) ≡ false
  unfolding used_before
  used_pass n u t =
      ap (used_before w bytes tag) (add-one n)
      ∙ ap (λ (b : Bool). b || eqb (tag_at w bytes n) tag) u
      ∙ ne_eqb (tag_at w bytes n) tag t
