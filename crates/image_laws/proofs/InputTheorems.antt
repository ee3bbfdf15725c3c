-- Byte 5: the code of a kind of input is the lowest byte of its group that means it. Assumes nothing.
use Prim.Native.Nat.{ℕ, ◌≤◌, ◌<◌}
use mathlib.Core.Path.{◌≡◌, refl, ap, sym, ◌∙◌}
use mathlib.Core.Logic.{◌↔◌}
use mathlib.Core.Bool.{true}
use native.Mathlib.Omega.{arith}
use lib.ListN.{replicate}
use lib.Dec.{lit<}
use Rattle.image.specs.Codes.{code_value, input_code}
use Rattle.image.specs.Reading.{usable, printed, input_of, group_of}
use Rattle.writing.specs.Writing.{group_bytes}
use Rattle.image.specs.Normal.{normal_byte}
use Rattle.std.specs.Prelude.{Option, Some, None}
use Rattle.image.specs.declared.Input.{Input}
use Rattle.image_laws.proofs.TableLaws.{never_lacking}
use Rattle.image_laws.proofs.ByteLaws.{below_byte, below_usable, normal_le}
use Rattle.image_laws.proofs.ReadWriteLaws.{read_write}
use Rattle.image_laws.proofs.WriteReadLaws.{input_back}

-- a usable byte 5 of group k that means the input, and no lower one does
pub record LowestInput (k : ℕ) (input : Input) (code : ℕ) : Type 0 where
  pub byte : code < 256
  pub can_be_used : usable k 5 code ≡ true
  pub means : input_of k code ≡ input
  pub lowest : (b : ℕ) → b < 256 → usable k 5 b ≡ true → input_of k b ≡ input → code ≤ b

-- what a usable byte means is written as its normal byte
input_again : (k b : ℕ) → b < 256 → usable k 5 b ≡ true → input_code k (input_of k b) ≡ Some (normal_byte k 5 b)
unfolding group_bytes group_of printed
input_again k b byte can = read_write k (replicate 8 b) 5 (lit< tt) byte can refl

-- the code of an input is the lowest usable byte that means it
pub input_is : (k : ℕ) (input : Input) (code : ℕ) → (input_code k input ≡ Some code) ↔ LowestInput k input code
input_is k input code = (only, when)
  where
    only : input_code k input ≡ Some code → LowestInput k input code
    only e =
        let back = input_back k input code e in
        record {
          byte = below_byte k 5 code (lit< tt) back.1;
          can_be_used = below_usable k 5 code back.1;
          means = back.0;
          lowest = λ b byte can means.
              let same = ap code_value (sym e ∙ ap (input_code k) (sym means) ∙ input_again k b byte can) in
              omega (arith, normal_le k 5 b);
        }

    when : LowestInput k input code → input_code k input ≡ Some code
    when low =
        let is = ap (input_code k) (sym low.means) ∙ input_again k code low.byte low.can_be_used in
        let back = input_back k input (normal_byte k 5 code) is in
        let least = low.lowest (normal_byte k 5 code) (below_byte k 5 _ (lit< tt) back.1) (below_usable k 5 _ back.1) back.0 in
        let same : normal_byte k 5 code ≡ code = omega (arith, normal_le k 5 code) in
        is ∙ ap Some same

-- an input lacks a code in a group exactly when no usable byte of the group means it
pub input_lacking : (k : ℕ) (input : Input)
    → (input_code k input ≡ None) ↔ ((b : ℕ) → b < 256 → usable k 5 b ≡ true → ¬ (input_of k b ≡ input))
input_lacking k input = (only, λ none. when none (input_code k input) refl)
  where
    only : input_code k input ≡ None → (b : ℕ) → b < 256 → usable k 5 b ≡ true → ¬ (input_of k b ≡ input)
    only e b byte can means = never_lacking (sym (input_again k b byte can) ∙ ap (input_code k) means ∙ e)

    when : ((b : ℕ) → b < 256 → usable k 5 b ≡ true → ¬ (input_of k b ≡ input))
        → (code : Option ℕ) → input_code k input ≡ code → input_code k input ≡ None
    when none (Some code) e = let low = (input_is k input code).0 e in absurd (none code low.byte low.can_be_used low.means)
    when none None e = e
