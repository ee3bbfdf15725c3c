-- A word has no bit past its sixteenth. Assumes nothing.
use Prim.Native.Nat.{ℕ, ◌%◌, ◌^◌, ◌≤◌}
use mathlib.Core.Path.{◌≡◌, ◌∙◌, ap, sym}
use native.Mathlib.Nat.{one-mul}
use Rattle.records.proofs.BitLaws.{shifted_past}

pub bit_past : (k : ℕ) → 16 ≤ k → 2 ^ k % 2 ^ 16 ≡ 0
bit_past k past = ap (λ (n : ℕ). n % 2 ^ 16) (sym (one-mul (2 ^ k))) ∙ shifted_past 1 k 16 past
