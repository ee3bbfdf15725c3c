-- What the normal bytes are: the same settings in the lowest codes. Assumes nothing.
use Prim.Native.Nat.{ℕ, ◌+◌, ◌/◌, ◌%◌, ◌≤◌, ◌<◌}
use mathlib.Core.Path.{◌≡◌, ap, sym, subst, ◌∙◌}
use mathlib.Core.Logic.{◌↔◌}
use mathlib.Core.List.{List}
use native.Mathlib.Nat.{zero-add}
use native.Mathlib.Omega.{arith}
use lib.ListN.{get_or}
use Rattle.records.specs.Lists.{each}
use Rattle.records.specs.Verdicts.{accepted}
use Rattle.records.proofs.ListLaws.{each_at, each_ext}
use Rattle.image.specs.Reading.{image_verdict, settings_of}
use Rattle.writing.specs.Writing.{image_of}
use Rattle.image.specs.Normal.{normal_byte, normal}
use Rattle.records.proofs.VerdictLaws.{number_of}
use Rattle.records.proofs.Every.{Bytes}
use Rattle.image_laws.proofs.ByteLaws.{normal_le, normal_once}
use Rattle.image_laws.proofs.RoundTrip.{settings_ten, image_of_accepted, settings_of_image_of, settings_of_accepted, image_of_settings_of}

normal_at : (image : List ℕ) (a : ℕ) → a < 80 → get_or (normal image) a 0 ≡ normal_byte (a / 8) (a % 8) (get_or image a 0)
unfolding normal
normal_at image a inside =
    let f : ℕ → ℕ = λ a. normal_byte (a / 8) (a % 8) (get_or image a 0) in
    each_at f 0 80 a 0 inside ∙ ap f (zero-add a)

-- normalising twice is normalising once
pub normal_twice : (image : List ℕ) → normal (normal image) ≡ normal image
unfolding normal
normal_twice image =
    let f : ℕ → ℕ = λ a. normal_byte (a / 8) (a % 8) (get_or image a 0) in
    let g : ℕ → ℕ = λ a. normal_byte (a / 8) (a % 8) (get_or (each f 0 80) a 0) in
    each_ext g f 0 80 λ a inside.
    ap (normal_byte ((0 + a) / 8) ((0 + a) % 8)) (normal_at image (0 + a) (omega arith))
    ∙ normal_once ((0 + a) / 8) ((0 + a) % 8) (get_or image (0 + a) 0)

-- the normal bytes of an accepted image are accepted
pub normal_accepted : (image : List ℕ) → Bytes image → (image_verdict image).number ≡ 0 → image_verdict (normal image) ≡ accepted
normal_accepted image bytes pass =
    subst (λ (i : List ℕ). image_verdict i ≡ accepted) (image_of_settings_of image bytes pass)
    (image_of_accepted (settings_of image) (ap number_of (settings_of_accepted image bytes pass)))

-- and mean the same settings
pub normal_settings : (image : List ℕ) → Bytes image → (image_verdict image).number ≡ 0 → settings_of (normal image) ≡ settings_of image
normal_settings image bytes pass =
    ap settings_of (sym (image_of_settings_of image bytes pass))
    ∙ settings_of_image_of (settings_of image) (settings_ten image) (ap number_of (settings_of_accepted image bytes pass))

-- two accepted images have the same settings exactly when they have the same normal bytes
pub same_settings : (image other : List ℕ) → Bytes image → Bytes other → (image_verdict image).number ≡ 0 → (image_verdict other).number ≡ 0
    → (settings_of image ≡ settings_of other) ↔ (normal image ≡ normal other)
same_settings image other bytes bytes' pass pass' = (
  λ same. sym (image_of_settings_of image bytes pass) ∙ ap image_of same ∙ image_of_settings_of other bytes' pass',
  λ same. sym (normal_settings image bytes pass) ∙ ap settings_of same ∙ normal_settings other bytes' pass',
)

-- of all accepted images with the same settings, the normal one has the lowest byte at each address
pub normal_lowest : (image other : List ℕ) → Bytes image → Bytes other → (image_verdict image).number ≡ 0 → (image_verdict other).number ≡ 0
    → settings_of image ≡ settings_of other → (a : ℕ) → a < 80 → get_or (normal image) a 0 ≤ get_or other a 0
normal_lowest image other bytes bytes' pass pass' same a inside =
    let there = ap (λ (i : List ℕ). get_or i a 0) ((same_settings image other bytes bytes' pass pass').0 same) ∙ normal_at other a inside in
    omega (arith, normal_le (a / 8) (a % 8) (get_or other a 0))
