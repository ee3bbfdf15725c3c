-- The second point, the image: it is read as AN-698 prints it, written by the same tables, and the two undo each other.
-- `reading` is what `reading::read` answers, `write_verdict` what `writing::write` answers and `written` what it leaves in the buffer,
-- `settings_verdict` what `writing::settings_verdict` answers and `blank_image` what `blank_image::blank` hands out. Assumes nothing.
use Prim.Native.Nat.{ℕ, ◌≤◌, ◌<◌}
use mathlib.Core.Path.{◌≡◌}
use mathlib.Core.Bool.{true, false}
use mathlib.Core.Logic.{◌↔◌}
use mathlib.Core.List.{List}
use lib.ListN.{length, get_or}
use Rattle.records.specs.Numbers.{wrong_length, reserved, unprinted, out_of_range}
use Rattle.records.specs.Verdicts.{accepted}
use Rattle.image.specs.Reading.{image_verdict, settings_of, zero_settings, reading}
use Rattle.writing.specs.Writing.{settings_verdict, write_verdict, written}
use Rattle.blank_image.specs.Blank.{blank_image}
use Rattle.image.specs.Normal.{normal}
use Rattle.image.specs.declared.Settings.{Settings}
use Rattle.records.proofs.Every.{Bytes}
use Rattle.image_laws.proofs.Conditions.{GoodBelow, Reached, usable_at, printed_at, Typed, MeantBelow, LowestLacking}
use Rattle.image_laws.proofs.Acceptance as acceptance
use Rattle.image_laws.proofs.Refusals as refusals
use Rattle.image_laws.proofs.RoundTrip as round_trip
use Rattle.image_laws.proofs.NormalImages as normal_images
use Rattle.image_laws.proofs.Meanings as meanings
use Rattle.image_laws.proofs.Starred as starred

-- ---- which images are accepted

-- An image is accepted exactly when it has eighty bytes, none with a bit that cannot be used and none with an unprinted code.
pub image_accepted : (image : List ℕ) → (image_verdict image ≡ accepted) ↔ ((length image ≡ 80) × GoodBelow image 80)
image_accepted = acceptance.image_accepted

-- It is refused 1 at 0 exactly when it has any other length.
pub image_wrong_length : (image : List ℕ) → (image_verdict image ≡ record { number = wrong_length; place = 0 }) ↔ (¬ (length image ≡ 80))
image_wrong_length = acceptance.image_wrong_length

-- It is refused 2 at an address exactly when all below are good and this byte has a bit that cannot be used, whatever its codes.
pub image_reserved : (image : List ℕ) (address : ℕ)
    → (image_verdict image ≡ record { number = reserved; place = address }) ↔ (Reached image address × (usable_at image address ≡ false))
image_reserved = acceptance.image_reserved

-- It is refused 3 at an address exactly when all below are good and this byte has no such bit, but an unprinted code.
pub image_unprinted : (image : List ℕ) (address : ℕ)
    → (image_verdict image ≡ record { number = unprinted; place = address })
    ↔ (Reached image address × (usable_at image address ≡ true) × (printed_at image address ≡ false))
image_unprinted = acceptance.image_unprinted

-- The blank image is accepted.
pub blank_accepted : image_verdict blank_image ≡ accepted
blank_accepted = starred.blank_accepted

-- A refused reading has the verdict, and zero settings.
pub read_refused : (image : List ℕ) → ¬ ((image_verdict image).number ≡ 0)
    → reading image ≡ record { verdict = image_verdict image; settings = zero_settings }
read_refused = refusals.reading_refused

-- ---- which settings are accepted

-- Settings are accepted exactly when at every address some byte means the setting.
pub settings_accepted : (settings : Settings) → (settings_verdict settings ≡ accepted) ↔ MeantBelow settings 80
settings_accepted = acceptance.settings_accepted

-- They are refused 4 at an address exactly when it is the lowest whose setting no byte of its group can mean.
pub settings_refused : (settings : Settings) (address : ℕ)
    → (settings_verdict settings ≡ record { number = out_of_range; place = address }) ↔ LowestLacking settings address
settings_refused = acceptance.settings_refused

-- Settings are accepted exactly when some accepted image means them.
pub settings_meant : (settings : Settings) → Typed settings
    → (settings_verdict settings ≡ accepted) ↔ ((image : List ℕ) × Bytes image × (image_verdict image ≡ accepted) × (settings_of image ≡ settings))
settings_meant = meanings.settings_meant

-- The writer tests its buffer first: any length but eighty is refused 1 at 0.
pub write_wrong_length : (settings : Settings) (buffer : List ℕ) → ¬ (length buffer ≡ 80)
    → write_verdict settings buffer ≡ record { number = wrong_length; place = 0 }
write_wrong_length = acceptance.write_wrong_length

-- With a buffer of eighty bytes it answers the settings' verdict.
pub write_eighty : (settings : Settings) (buffer : List ℕ) → length buffer ≡ 80 → write_verdict settings buffer ≡ settings_verdict settings
write_eighty = acceptance.write_eighty

-- A refused write leaves every byte of the buffer.
pub write_refused : (settings : Settings) (buffer : List ℕ) → ¬ ((write_verdict settings buffer).number ≡ 0) → written settings buffer ≡ buffer
write_refused = refusals.written_refused

-- ---- the two undo each other

-- Reading what was written gives the settings again, for all accepted settings of ten groups and every buffer of eighty bytes.
pub write_then_read : (settings : Settings) → length settings.groups ≡ 10 → (settings_verdict settings).number ≡ 0
    → (buffer : List ℕ) → length buffer ≡ 80
    → (write_verdict settings buffer ≡ accepted) × (reading (written settings buffer) ≡ record { verdict = accepted; settings = settings })
write_then_read = round_trip.write_then_read

-- Writing what was read gives the normal bytes, for every accepted image and every buffer of eighty bytes; the writer never refuses it.
pub read_then_write : (image : List ℕ) → Bytes image → (image_verdict image).number ≡ 0
    → (buffer : List ℕ) → length buffer ≡ 80
    → (write_verdict (reading image).settings buffer ≡ accepted) × (written (reading image).settings buffer ≡ normal image)
read_then_write = round_trip.read_then_write

-- The reader's settings pass the settings' verdict.
pub read_accepted : (image : List ℕ) → Bytes image → (image_verdict image).number ≡ 0 → settings_verdict (settings_of image) ≡ accepted
read_accepted = round_trip.settings_of_accepted

-- Normal bytes are the lowest: no accepted image with the same settings has a lower byte at any address.
pub normal_lowest : (image other : List ℕ) → Bytes image → Bytes other → (image_verdict image).number ≡ 0 → (image_verdict other).number ≡ 0
    → settings_of image ≡ settings_of other → (address : ℕ) → address < 80 → get_or (normal image) address 0 ≤ get_or other address 0
normal_lowest = normal_images.normal_lowest
