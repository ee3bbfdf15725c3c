-- What a call answers and leaves: a refusal has zeros and writes nothing. Assumes nothing.
use Prim.Native.Nat.{ℕ}
use mathlib.Core.Path.{◌≡◌, ap, sym, ◌∙◌}
use mathlib.Core.List.{List}
use native.Mathlib.Decide.{ℕ_discrete}
use native.Mathlib.Omega.{arith}
use borrow.Author.Tests.{eq-eqb, ne_eqb}
use lib.ListN.{length}
use Rattle.records.proofs.ListLaws.{each_length}
use Rattle.records.specs.Verdicts.{accepted}
use Rattle.image.specs.Codes.{code_value}
use Rattle.image.specs.Reading.{image_verdict, settings_of, zero_settings, reading}
use Rattle.writing.specs.Writing.{setting_byte, write_verdict, image_of, written}
use Rattle.image.specs.declared.Settings.{Settings}
use Rattle.records.proofs.VerdictLaws.{number_of}
use Rattle.image_laws.proofs.AcceptanceLaws.{image_zero}
use Rattle.image_laws.proofs.Acceptance.{write_wrong_length}

-- ---- the reader's answer
-- an accepted image: number 0, place 0 and its settings
pub reading_accepted : (image : List ℕ) → (image_verdict image).number ≡ 0 → reading image ≡ record { verdict = accepted; settings = settings_of image }
unfolding reading
reading_accepted image pass = rw (image_zero image pass)

-- a refused image: its verdict, and the zero settings
pub reading_refused : (image : List ℕ) → ¬ ((image_verdict image).number ≡ 0)
    → reading image ≡ record { verdict = image_verdict image; settings = zero_settings }
unfolding reading
reading_refused image refused = rw (ne_eqb _ _ refused)

-- ---- the writer's buffer
-- an accepted write leaves the settings' eighty bytes
pub written_accepted : (settings : Settings) (buffer : List ℕ) → (write_verdict settings buffer).number ≡ 0 → written settings buffer ≡ image_of settings
unfolding written
written_accepted settings buffer pass = rw (eq-eqb _ _ pass)

-- a refused write leaves every byte
pub written_refused : (settings : Settings) (buffer : List ℕ) → ¬ ((write_verdict settings buffer).number ≡ 0) → written settings buffer ≡ buffer
unfolding written
written_refused settings buffer refused = rw (ne_eqb _ _ refused)

-- eighty bytes mean settings
pub image_length : (settings : Settings) → length (image_of settings) ≡ 80
unfolding image_of
image_length settings = each_length (λ address. code_value (setting_byte settings address)) 0 80

-- an accepted write had a buffer of eighty bytes
written_eighty : (settings : Settings) (buffer : List ℕ) → (write_verdict settings buffer).number ≡ 0 → length buffer ≡ 80
written_eighty settings buffer pass =
    elim (ℕ_discrete (length buffer) 80) [
      | yes eighty ↦ eighty
      | no other ↦ let one = ap number_of (write_wrong_length settings buffer other) in omega arith
    ]

-- a buffer keeps its length
pub written_length : (settings : Settings) (buffer : List ℕ) → length (written settings buffer) ≡ length buffer
written_length settings buffer =
    elim (ℕ_discrete (write_verdict settings buffer).number 0) [
      | yes pass ↦ ap length (written_accepted settings buffer pass) ∙ image_length settings ∙ sym (written_eighty settings buffer pass)
      | no refused ↦ ap length (written_refused settings buffer refused)
    ]
