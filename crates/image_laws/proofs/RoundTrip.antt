-- The two round trips: settings written and read are the same settings, and an image read and written is its normal image. Assumes nothing.
use Prim.Native.Nat.{ℕ, ◌+◌, ◌/◌, ◌%◌}
use mathlib.Core.Path.{◌≡◌, ap, sym, ◌∙◌}
use mathlib.Core.List.{List}
use native.Mathlib.Omega.{arith}
use lib.ListN.{length, get_or}
use Rattle.records.specs.Verdicts.{accepted}
use Rattle.records.proofs.ListLaws.{each_length, each_ext}
use Rattle.image.specs.Groups.{part}
use Rattle.image.specs.Codes.{code_value}
use Rattle.image.specs.Reading.{image_verdict, group_of, settings_of, reading}
use Rattle.writing.specs.Writing.{setting_byte, settings_verdict, write_verdict, image_of, written}
use Rattle.image.specs.Normal.{normal_byte, normal}
use Rattle.image.specs.Answers.{Reading}
use Rattle.image.specs.declared.Settings.{Settings}
use Rattle.image_laws.proofs.TableLaws.{never_lacking}
use Rattle.records.proofs.VerdictLaws.{number_of}
use Rattle.records.proofs.Every.{Bytes}
use Rattle.image_laws.proofs.AcceptanceLaws.{settings_zero}
use Rattle.image_laws.proofs.Acceptance.{image_accepted, settings_accepted, write_eighty}
use Rattle.image_laws.proofs.Refusals.{image_length, reading_accepted, written_accepted}
use Rattle.image_laws.proofs.RoundTripLaws.{image_good, settings_back, setting_normal}

-- ---- settings, written and read
-- the bytes of accepted settings are an accepted image
pub image_of_accepted : (settings : Settings) → (settings_verdict settings).number ≡ 0 → image_verdict (image_of settings) ≡ accepted
image_of_accepted settings pass = (image_accepted (image_of settings)).1 (image_length settings, image_good settings pass)

-- and mean the settings
pub settings_of_image_of : (settings : Settings) → length settings.groups ≡ 10 → (settings_verdict settings).number ≡ 0
    → settings_of (image_of settings) ≡ settings
settings_of_image_of settings ten pass = settings_back settings pass ten

-- accepted settings are written into every buffer of eighty bytes, and what is written is read as those settings
pub write_then_read : (settings : Settings) → length settings.groups ≡ 10 → (settings_verdict settings).number ≡ 0
    → (buffer : List ℕ) → length buffer ≡ 80
    → (write_verdict settings buffer ≡ accepted) × (reading (written settings buffer) ≡ record { verdict = accepted; settings = settings })
write_then_read settings ten pass buffer eighty =
    let taken = write_eighty settings buffer eighty ∙ settings_zero settings pass in
    let image = written_accepted settings buffer (ap number_of taken) in
    let same = settings_of_image_of settings ten pass in (
      taken,
      ap reading image ∙ reading_accepted (image_of settings) (ap number_of (image_of_accepted settings pass))
          ∙ (λ i. record { verdict = accepted; settings = same i }),
    )

-- ---- an image, read and written
-- an image means ten groups
pub settings_ten : (image : List ℕ) → length (settings_of image).groups ≡ 10
unfolding settings_of
settings_ten image = each_length (λ k. group_of k (part image k)) 0 10

-- the settings of an accepted image are accepted
pub settings_of_accepted : (image : List ℕ) → Bytes image → (image_verdict image).number ≡ 0 → settings_verdict (settings_of image) ≡ accepted
settings_of_accepted image bytes pass =
    (settings_accepted (settings_of image)).1 λ a inside lacking. never_lacking (sym (setting_normal image bytes pass a inside) ∙ lacking)

-- and their bytes are the normal bytes of the image
pub image_of_settings_of : (image : List ℕ) → Bytes image → (image_verdict image).number ≡ 0 → image_of (settings_of image) ≡ normal image
unfolding image_of normal
image_of_settings_of image bytes pass =
    each_ext (λ a. code_value (setting_byte (settings_of image) a)) (λ a. normal_byte (a / 8) (a % 8) (get_or image a 0)) 0 80 λ a inside.
    ap code_value (setting_normal image bytes pass (0 + a) (omega arith))

-- what is read from an accepted image is written into every buffer of eighty bytes, as the image's normal bytes
pub read_then_write : (image : List ℕ) → Bytes image → (image_verdict image).number ≡ 0
    → (buffer : List ℕ) → length buffer ≡ 80
    → (write_verdict (reading image).settings buffer ≡ accepted) × (written (reading image).settings buffer ≡ normal image)
read_then_write image bytes pass buffer eighty =
    let read = ap (λ (r : Reading). r.settings) (reading_accepted image pass) in
    let taken = write_eighty (settings_of image) buffer eighty ∙ settings_of_accepted image bytes pass in (
      ap (λ (s : Settings). write_verdict s buffer) read ∙ taken,
      ap (λ (s : Settings). written s buffer) read
          ∙ written_accepted (settings_of image) buffer (ap number_of taken)
          ∙ image_of_settings_of image bytes pass,
    )
