-- Laws of the search for the step with a tag: what it finds is the look-up's answer. Assumes nothing.
use Prim.Native.Nat.{ℕ, zero, suc, ◌+◌, ◌≤◌, ◌<◌}
use mathlib.Core.Path.{◌≡◌, sym}
use mathlib.Core.Bool.{Bool, true, false, cond}
use mathlib.Core.List.{List}
use native.Mathlib.Decide.{dec_lt}
use native.Mathlib.Omega.{arith}
use borrow.Author.Tests.{lt-ltb}
use lib.Dec.{ltb, eqb}
use Rattle.std.specs.Option.{MatchOption, is_some, unwrap_or}
use Rattle.std.specs.Prelude.{Option, Some, None}
use Rattle.std.proofs.lemmas.Bool.{le-ltb}
use Rattle.records.specs.Tags.{tag_at, lowest, look_up}
use Rattle.records.proofs.TagLaws.{look_up_has_lem, look_up_first}

lowest_most : (test : ℕ → Bool) (i n : ℕ) → lowest test i n ≤ i + n
unfolding lowest
lowest_most test i zero = omega arith
lowest_most test i (suc n) = chosen (lowest_most test (suc i) n) (test i)
  where
    chosen : lowest test (suc i) n ≤ suc i + n → (holds : Bool) → cond holds i (lowest test (suc i) n) ≤ i + suc n
    chosen rest true = omega arith
    chosen rest false = omega arith

-- record k has another tag
abbrev pub Without : ℕ → List ℕ → ℕ → ℕ → Type 0
Without w bytes tag k = tag_at w bytes k ≡ tag → ⊥

module _ (w : ℕ) (bytes : List ℕ) (n tag : ℕ) where
  most : look_up w bytes n tag ≤ n
  unfolding look_up
  most = omega (arith, lowest_most (λ k. eqb (tag_at w bytes k) tag) 0 n)

  -- the first of n records with the tag, or none: the look-up's answer
  pub found_is : (r : Option ℕ)
      → MatchOption r ((k : ℕ) → 0 ≤ k → k < n → Without w bytes tag k)
      (λ i. (0 ≤ i) × (i < n) × (tag_at w bytes i ≡ tag) × ((k : ℕ) → 0 ≤ k → k < i → Without w bytes tag k))
      → (unwrap_or r n ≡ look_up w bytes n tag) × (is_some r ≡ ltb (look_up w bytes n tag) n)
  found_is None none =
      let past : n ≤ look_up w bytes n tag =
      elim (dec_lt (look_up w bytes n tag) n) [ yes p ↦ absurd (none _ (omega arith) p (look_up_has_lem w bytes n tag p)) | no p ↦ omega arith ] in
      (omega (arith, most), sym (le-ltb _ _ past))
  found_is (Some i) at =
      let here : i ≡ look_up w bytes n tag =
      elim (dec_lt (look_up w bytes n tag) i) [
        | yes p ↦ absurd (at.3 _ (omega arith) p (look_up_has_lem w bytes n tag (omega (arith, at.1))))
        | no p ↦ elim (dec_lt i (look_up w bytes n tag)) [ yes q ↦ absurd (look_up_first w bytes n tag i q at.2) | no q ↦ omega arith ]
      ] in
      (here, sym (lt-ltb _ _ (omega (arith, at.1))))
