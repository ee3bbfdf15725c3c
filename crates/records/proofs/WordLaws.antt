-- Laws of words made of bits. Assumes nothing.
use Prim.Native.Nat.{ℕ, zero, suc, ◌+◌, ◌-◌, ◌/◌, ◌%◌, ◌^◌, ◌≤◌, ◌<◌}
use mathlib.Core.Path.{◌≡◌, refl, ap, ap₂, sym, subst, ◌∙◌}
use mathlib.Core.Bool.{Bool, true, false, cond}
use native.Mathlib.Nat.{pow-suc, not-suc-le-zero, mod-eq_of_lt, lt_of_lt_of_le, add-zero, add-mul-div_right, add-mul-mod_self_right, add-div_right, div-eq_of_lt}
use native.Mathlib.Numerals.{add-one, add-one-le}
use native.Mathlib.Decide.{ℕ_discrete}
use native.Mathlib.Omega.{arith}
use lib.Pow.{pow_pos, pow-lt, pow_mono, pow-add}
use Rattle.records.specs.Bits.{bits}
use Rattle.records.specs.Words.{bit_word, word_of}

bit_le : (on : Bool) (n : ℕ) → cond on (2 ^ n) 0 ≤ 2 ^ n
bit_le true n = omega arith
bit_le false n = omega arith

-- a word of n bits is below 2 ^ n
pub word_of_lt : (f : ℕ → Bool) (n : ℕ) → word_of f n < 2 ^ n
unfolding word_of
word_of_lt f zero = omega arith
word_of_lt f (suc n) = omega (arith, word_of_lt f n, bit_le (f n) n)

pub word_of_ext : (f g : ℕ → Bool) (n : ℕ) → ((k : ℕ) → k < n → f k ≡ g k) → word_of f n ≡ word_of g n
unfolding word_of
word_of_ext f g zero h = refl
word_of_ext f g (suc n) h =
    ap₂ (λ (w : ℕ) (on : Bool). w + cond on (2 ^ n) 0) (word_of_ext f g n (λ k p. h k (omega arith))) (h n (omega arith))

-- one bit more, as a loop adds it
pub word_of_more : (f : ℕ → Bool) (n : ℕ) → n < 16 → word_of f n + bit_word (f n) n ≡ word_of f (n + 1)
unfolding word_of bit_word
word_of_more f n h =
    ap (λ (m : ℕ). word_of f n + cond (f n) m 0) (mod-eq_of_lt (pow-lt h)) ∙ ap (word_of f) (sym (add-one n))

-- the sum that a loop makes fits
pub word_of_fits : (f : ℕ → Bool) (n : ℕ) → n < 16 → word_of f n + bit_word (f n) n < 2 ^ 16
word_of_fits f n h =
    subst (λ (m : ℕ). m < 2 ^ 16) (sym (word_of_more f n h)) (lt_of_lt_of_le (word_of_lt f (n + 1)) (pow_mono (add-one-le h)))

-- the same for the word and the bit that the code holds
module _ (f : ℕ → Bool) (n word added : ℕ) (on : Bool) (reached : word ≡ word_of f n) (bit : added ≡ bit_word on n) (is : on ≡ f n) (h : n < 16) where
  is_sum : word + added ≡ word_of f n + bit_word (f n) n
  is_sum = ap₂ ◌+◌ reached (bit ∙ ap (λ (b : Bool). bit_word b n) is)

  pub added_more : word + added ≡ word_of f (n + 1)
  added_more = is_sum ∙ word_of_more f n h

  pub added_fits : word + added < 2 ^ 16
  added_fits = subst (λ (m : ℕ). m < 2 ^ 16) (sym is_sum) (word_of_fits f n h)

-- a bit above leaves those below as they are
below : (w n k : ℕ) (on : Bool) → k < n → bits (w + cond on (2 ^ n) 0) k 1 ≡ bits w k 1
unfolding bits
below w n k false h = ap (λ (m : ℕ). m / 2 ^ k % 2 ^ 1) (add-zero w)
below w n k true h =
    let split : suc (n - suc k) + k ≡ n = omega arith in
    ap (λ (m : ℕ). (w + 2 ^ m) / 2 ^ k % 2) (sym split)
    ∙ ap (λ (m : ℕ). (w + m) / 2 ^ k % 2) (pow-add 2 (suc (n - suc k)) k)
    ∙ ap (λ (m : ℕ). m % 2) (add-mul-div_right w (2 ^ suc (n - suc k)) (pow_pos k))
    ∙ ap (λ (m : ℕ). (w / 2 ^ k + m) % 2) (pow-suc 2 (n - suc k))
    ∙ add-mul-mod_self_right (w / 2 ^ k) (2 ^ (n - suc k)) 2

-- bit n of a word of n bits and one more
top : (w n : ℕ) (on : Bool) → w < 2 ^ n → bits (w + cond on (2 ^ n) 0) n 1 ≡ cond on 1 0
unfolding bits
top w n false h = ap (λ (m : ℕ). m / 2 ^ n % 2) (add-zero w) ∙ ap (λ (m : ℕ). m % 2) (div-eq_of_lt h)
top w n true h = ap (λ (m : ℕ). m % 2) (add-div_right w (pow_pos n)) ∙ ap (λ (m : ℕ). (m + 1) % 2) (div-eq_of_lt h)

-- bit k of the word
pub word_of_bit : (f : ℕ → Bool) (n k : ℕ) → k < n → bits (word_of f n) k 1 ≡ cond (f k) 1 0
unfolding word_of
word_of_bit f zero k h = absurd (not-suc-le-zero h)
word_of_bit f (suc n) k h =
    elim (ℕ_discrete k n) [
      | yes e ↦ subst (λ (m : ℕ). bits (word_of f n + cond (f n) (2 ^ n) 0) m 1 ≡ cond (f m) 1 0) (sym e) (top (word_of f n) n (f n) (word_of_lt f n))
      | no e ↦ (let lower : k < n = omega arith in below (word_of f n) n k (f n) lower ∙ word_of_bit f n k lower)
    ]
