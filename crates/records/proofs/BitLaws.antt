-- Laws of fields: what shifts and masks mean in arithmetic, once over the shift and the width. Assumes nothing.
use Prim.Native.Nat.{ℕ, ◌+◌, ◌-◌, ◌*◌, ◌/◌, ◌%◌, ◌^◌, ◌≤◌, ◌<◌}
use mathlib.Core.Path.{◌≡◌, ap, ap₂, sym, ◌∙◌}
use native.Mathlib.Nat.{one-mul, add-zero, mod-lt, mod-eq_of_lt, zero-mod, div-eq_of_lt, lt_of_lt_of_le, lt_of_le_of_lt, mul-mod_left, mul-div_left, sub-add_cancel, le_of_lt, mul_assoc, zero-add}
use native.Mathlib.Omega.{arith}
use lib.Bits.{bit_and, bit_or, and_mask, or_shifted}
use lib.Pow.{shl_exact, pow-add, pow_pos, pow_mono, mod-pow-add, shr_le}
use lib.Dec.{lit<}
use Rattle.records.specs.Bits.{bits, joined}

-- ---- a mask
pub one_shifted : (width : ℕ) → width < 8 → 1 * 2 ^ width % 2 ^ 8 ≡ 2 ^ width
one_shifted width below = shl_exact 1 width 8 (lit< tt) (omega arith) ∙ one-mul _

-- ---- a field
pub bits_lt : (b low width : ℕ) → bits b low width < 2 ^ width
unfolding bits
bits_lt b low width = mod-lt (b / 2 ^ low) (pow_pos width)

-- a number of so many bits has none past them
pub bits_past : (size b low width : ℕ) → b < 2 ^ size → size ≤ low → 0 ≡ bits b low width
unfolding bits
bits_past size b low width fits past =
    sym (ap (λ (n : ℕ). n % 2 ^ width) (div-eq_of_lt (lt_of_lt_of_le fits (pow_mono past))) ∙ zero-mod (2 ^ width))

pub bits_wide : (b low width : ℕ) → b < 2 ^ 8 → 8 ≤ width → b / 2 ^ low ≡ bits b low width
unfolding bits
bits_wide b low width byte wide = sym (mod-eq_of_lt (lt_of_lt_of_le (lt_of_le_of_lt (shr_le b low) byte) (pow_mono wide)))

pub bits_masked : (b low width : ℕ) → bit_and (b / 2 ^ low) (2 ^ width - 1) ≡ bits b low width
unfolding bits
bits_masked b low width = and_mask (b / 2 ^ low) width

-- ---- a join
shifted_in : (value low : ℕ) → low < 8 → value * 2 ^ low % 2 ^ 8 ≡ (value % 2 ^ (8 - low)) * 2 ^ low
shifted_in value low below =
    ap (λ (w : ℕ). value * 2 ^ low % 2 ^ w) (sym (sub-add_cancel (le_of_lt below)))
    ∙ mod-pow-add (value * 2 ^ low) (8 - low) low
    ∙ ap₂ (λ (a b : ℕ). a % 2 ^ (8 - low) * 2 ^ low + b) (mul-div_left value (pow_pos low)) (mul-mod_left value (2 ^ low))
    ∙ add-zero _

pub joined_masked : (value low rest : ℕ) → low < 8 → bit_or (value * 2 ^ low % 2 ^ 8) (bit_and rest (2 ^ low - 1)) ≡ joined value low rest
unfolding joined
joined_masked value low rest below =
    ap₂ bit_or (shifted_in value low below) (and_mask rest low)
    ∙ or_shifted (value % 2 ^ (8 - low)) low (rest % 2 ^ low) (mod-lt rest (pow_pos low))
    ∙ ap (λ (n : ℕ). n + rest % 2 ^ low) (sym (shifted_in value low below))

-- a shift by the width or more leaves nothing
pub shifted_past : (value low width : ℕ) → width ≤ low → value * 2 ^ low % 2 ^ width ≡ 0
shifted_past value low width past =
    ap (λ (n : ℕ). value * 2 ^ n % 2 ^ width) (sym (sub-add_cancel past))
    ∙ ap (λ (n : ℕ). value * n % 2 ^ width) (pow-add 2 (low - width) width)
    ∙ ap (λ (n : ℕ). n % 2 ^ width) (sym (mul_assoc value (2 ^ (low - width)) (2 ^ width)))
    ∙ mul-mod_left (value * 2 ^ (low - width)) (2 ^ width)

pub joined_past : (value low rest : ℕ) → rest < 2 ^ 8 → 8 ≤ low → rest ≡ joined value low rest
unfolding joined
joined_past value low rest byte past =
    sym (ap₂ ◌+◌ (shifted_past value low 8 past) (mod-eq_of_lt (lt_of_lt_of_le byte (pow_mono past))) ∙ zero-add rest)

-- where the value and the rest have room, a join is a sum
pub joined_sum : (value low rest : ℕ) → value * 2 ^ low < 2 ^ 8 → rest < 2 ^ low → joined value low rest ≡ value * 2 ^ low + rest
unfolding joined
joined_sum value low rest room below = ap₂ ◌+◌ (mod-eq_of_lt room) (mod-eq_of_lt below)
