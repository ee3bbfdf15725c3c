-- Laws of a group's eight bytes: the places 0 to 7, and the bits that cannot be used. Assumes nothing.
use Prim.Native.Nat.{ℕ, zero, suc, ◌+◌, ◌-◌, ◌/◌, ◌%◌, ◌^◌, ◌≤◌, ◌<◌}
use mathlib.Core.Path.{◌≡◌, refl, ap, sym, ◌∙◌}
use mathlib.Core.Bool.{Bool, true, false, cond, ◌&&◌, ◌||◌, and-eq-true_iff}
use native.Mathlib.Nat.{zero-add, zero-mul, zero-mod, div-eq_of_lt, lt-div-mul-add, lt_of_lt_of_le}
use native.Mathlib.Decide.{dec_lt}
use native.Mathlib.Omega.{arith}
use borrow.Author.Tests.{eq-eqb, eqb-true}
use lib.Pow.{pow_pos, pow_mono, shr_mod}
use lib.Dec.{eqb, lit≤}
use Rattle.records.specs.Bits.{bits}
use Rattle.image.specs.Groups.{is_vp, is_vh, is_vx}
use Rattle.image.specs.Reading.{reserved_from, usable}
use Rattle.image.specs.Normal.{normal_byte, range_twice, pull_twice}

-- ---- the places of a group
-- what holds at each of the eight holds at any
pub eight : (P : ℕ → Type 0) → P 0 → P 1 → P 2 → P 3 → P 4 → P 5 → P 6 → P 7 → (j : ℕ) → j < 8 → P j
eight P a b c d e f g h zero below = a
eight P a b c d e f g h (suc zero) below = b
eight P a b c d e f g h (suc (suc zero)) below = c
eight P a b c d e f g h (suc (suc (suc zero))) below = d
eight P a b c d e f g h (suc (suc (suc (suc zero)))) below = e
eight P a b c d e f g h (suc (suc (suc (suc (suc zero))))) below = f
eight P a b c d e f g h (suc (suc (suc (suc (suc (suc zero)))))) below = g
eight P a b c d e f g h (suc (suc (suc (suc (suc (suc (suc zero))))))) below = h
eight P a b c d e f g h (suc (suc (suc (suc (suc (suc (suc (suc j)))))))) below =
    let none : ⊥ = omega arith in
    absurd none

-- ---- the bits that cannot be used
-- the bits of a byte from `low` on are clear exactly when it is below 2 ^ low
clear_below : (b low : ℕ) → b < 2 ^ 8 → bits b low (8 - low) ≡ 0 → b < 2 ^ low
unfolding bits
clear_below b low byte clear =
    elim (dec_lt 8 low) [
      | yes past ↦ lt_of_lt_of_le byte (pow_mono {i = 8} {j = low} (omega arith))
      | no inside ↦
          let room : 8 - low + low ≡ 8 = omega arith in
          let none : b / 2 ^ low ≡ 0 = sym (shr_mod (8 - low) low (rw room byte)) ∙ clear in
          rw (none, zero-mul, zero-add) at (lt-div-mul-add {a = b} {b = 2 ^ low} (pow_pos low))
    ]

below_clear : (b low : ℕ) → b < 2 ^ low → bits b low (8 - low) ≡ 0
unfolding bits
below_clear b low below = ap (λ (n : ℕ). n % 2 ^ (8 - low)) (div-eq_of_lt below) ∙ zero-mod (2 ^ (8 - low))

pub usable_below : (k j b : ℕ) → b < 256 → usable k j b ≡ true → b < 2 ^ reserved_from k j
unfolding usable
usable_below k j b byte can = clear_below b (reserved_from k j) byte (eqb-true _ _ can)

pub below_usable : (k j b : ℕ) → b < 2 ^ reserved_from k j → usable k j b ≡ true
unfolding usable
below_usable k j b below = eq-eqb _ _ (below_clear b (reserved_from k j) below)

either_le : (t : Bool) {a b n : ℕ} → a ≤ n → b ≤ n → cond t a b ≤ n
either_le true le le' = le
either_le false le le' = le'

pub reserved_le : (k j : ℕ) → j < 8 → reserved_from k j ≤ 8
unfolding reserved_from
reserved_le k =
    eight (λ j. reserved_from k j ≤ 8) (lit≤ tt) (lit≤ tt) (lit≤ tt) (lit≤ tt) (lit≤ tt) (either_le (is_vh k) (lit≤ tt) (lit≤ tt))
    (either_le (is_vx k) (lit≤ tt) (lit≤ tt)) (lit≤ tt)

-- what is below the reserved bits is a byte
pub below_byte : (k j b : ℕ) → j < 8 → b < 2 ^ reserved_from k j → b < 256
below_byte k j b inside below = lt_of_lt_of_le below (pow_mono (reserved_le k j inside))

-- ---- normal bytes
lower_le : (lower : Bool) (b : ℕ) → cond lower (b - 1) b ≤ b
lower_le true b = omega arith
lower_le false b = omega arith

pub normal_le : (k j b : ℕ) → normal_byte k j b ≤ b
unfolding normal_byte
normal_le k j b = lower_le (range_twice k j b || pull_twice j b) b

either : (s t : Bool) {P : Type 0} → (s || t) ≡ true → (s ≡ true → P) → (t ≡ true → P) → P
either true t e left right = left refl
either false t e left right = right e

-- where two codes mean the same, the higher is odd
range_odd : (k j b : ℕ) → range_twice k j b ≡ true → b % 2 ≡ 1
unfolding range_twice bits
range_odd k j b twice =
    let three = eqb-true (b / 1 % 4) 3 ((and-eq-true_iff (is_vp k && eqb j 5) (eqb (b / 1 % 4) 3)).0 twice).1 in
    omega arith

pull_odd : (j b : ℕ) → pull_twice j b ≡ true → b % 2 ≡ 1
unfolding pull_twice bits
pull_odd j b twice =
    either (eqb (b / 1 % 16) 1) (eqb (b / 1 % 16) 3) ((and-eq-true_iff (eqb j 7) (eqb (b / 1 % 16) 1 || eqb (b / 1 % 16) 3)).0 twice).1
    (λ e. let one = eqb-true (b / 1 % 16) 1 e in omega arith)
    (λ e. let three = eqb-true (b / 1 % 16) 3 e in omega arith)

twice_odd : (k j b : ℕ) → (range_twice k j b || pull_twice j b) ≡ true → b % 2 ≡ 1
twice_odd k j b twice = either (range_twice k j b) (pull_twice j b) twice (range_odd k j b) (pull_odd j b)

module _ (k j : ℕ) where
  abbrev twice : ℕ → Bool
  twice b = range_twice k j b || pull_twice j b

  lowered : (b : ℕ) → twice b ≡ true → normal_byte k j b ≡ b - 1
  unfolding normal_byte
  lowered b e = rw e

  kept : (b : ℕ) → twice b ≡ false → normal_byte k j b ≡ b
  unfolding normal_byte
  kept b e = rw e

  -- so that the lower is normal
  lower_kept : (b : ℕ) (lower : Bool) → b % 2 ≡ 1 → twice (b - 1) ≡ lower → normal_byte k j (b - 1) ≡ b - 1
  lower_kept b true odd e = let again = twice_odd k j (b - 1) e in omega arith
  lower_kept b false odd e = kept (b - 1) e

  once : (b : ℕ) (lower : Bool) → twice b ≡ lower → normal_byte k j (normal_byte k j b) ≡ normal_byte k j b
  once b true e =
      ap (normal_byte k j) (lowered b e) ∙ lower_kept b (twice (b - 1)) (twice_odd k j b e) refl ∙ sym (lowered b e)
  once b false e = ap (normal_byte k j) (kept b e)

  pub normal_once : (b : ℕ) → normal_byte k j (normal_byte k j b) ≡ normal_byte k j b
  normal_once b = once b (twice b) refl
