-- Laws of the pins. Assumes nothing.
use Prim.Native.Nat.{ℕ, ◌<◌}
use mathlib.Core.Path.{◌≡◌, ap₂, ◌∙◌}
use mathlib.Core.Bool.{Bool}
use native.Mathlib.Omega.{arith}
use lib.Dec.{eqb}
use lib.ListN.{length, get_or}
use Rattle.records.specs.Bits.{bits}
use Rattle.records.proofs.ListLaws.{get_d_default}
use Rattle.image.specs.Reading.{group_at, zero_group}
use Rattle.image.specs.declared.Group.{Group}
use Rattle.image.specs.declared.Settings.{Settings}
use Rattle.pins.specs.Pins.{drive}

module _ (settings : Settings) (outputs : ℕ) where
  -- ---- one pin, and the same as the code reads it
  abbrev pub pin_at : ℕ → Bool
  pin_at k = drive (group_at settings k).output.source (eqb (bits outputs k 1) 1)

  pub pin_here : (k output : ℕ) (d : Group) (driven : Bool)
      → length settings.groups ≡ 10
      → k < 10
      → output ≡ bits outputs k 1
      → driven ≡ drive (get_or settings.groups k d).output.source (eqb output 1)
      → driven ≡ pin_at k
  pin_here k output d driven groups h is made =
      made
      ∙ ap₂ (λ (group : Group) (n : ℕ). drive group.output.source (eqb n 1)) (get_d_default settings.groups k d (zero_group k) (omega arith)) is
