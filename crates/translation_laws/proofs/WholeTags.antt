-- A tag is a whole number of sixteen bits: its two bytes, and nothing less, say which tag it is. Assumes nothing.
use Prim.Native.Nat.{ℕ, ◌+◌, ◌*◌, ◌<◌}
use mathlib.Core.Path.{◌≡◌, ap₂}
use mathlib.Core.List.{List}
use mathlib.Core.Logic.{◌↔◌}
use native.Mathlib.Omega.{arith}
use lib.ListN.{get_or}
use Rattle.records.specs.Words.{word_at}
use Rattle.records.specs.Tags.{tag_at}
use Rattle.records.proofs.Every.{Bytes}

module _ (w : ℕ) (list : List ℕ) (bytes : Bytes list) where
  pub tag_lt : (k : ℕ) → tag_at w list k < 65536
  unfolding tag_at word_at
  tag_lt k = omega (arith, bytes (w * k), bytes (w * k + 1))

  pub same_tag : (i j : ℕ)
      → (tag_at w list i ≡ tag_at w list j) ↔ ((get_or list (w * i) 0 ≡ get_or list (w * j) 0) × (get_or list (w * i + 1) 0 ≡ get_or list (w * j + 1) 0))
  unfolding tag_at word_at
  same_tag i j = (
    λ e. (omega (arith, e, bytes (w * i), bytes (w * j)), omega (arith, e, bytes (w * i), bytes (w * j))),
    λ both. ap₂ (λ low high. low + 256 * high) both.0 both.1,
  )
