-- What a good image and good settings are: the words in which the theorems state acceptance. Assumes nothing.
use Prim.Native.Nat.{ℕ, ◌/◌, ◌%◌, ◌<◌}
use mathlib.Core.Path.{◌≡◌}
use mathlib.Core.Bool.{Bool, true}
use mathlib.Core.List.{List}
use lib.ListN.{length, get_or}
use Rattle.records.specs.Numbers.{wrong_length, reserved, unprinted, out_of_range}
use Rattle.records.specs.Verdicts.{accepted}
use Rattle.records.specs.declared.Verdict.{Verdict}
use Rattle.image.specs.Reading.{usable, printed, group_at}
use Rattle.writing.specs.Writing.{setting_byte}
use Rattle.std.specs.Prelude.{None}
use Rattle.image.specs.declared.Settings.{Settings}

-- ---- the image
-- byte j of group k has no bit set that cannot be used, and has only printed codes
pub record GoodByte (k j b : ℕ) : Type 0 where
  pub can_be_used : usable k j b ≡ true
  pub is_printed : printed j b ≡ true

-- the two tests of the byte at an address of an image
abbrev pub usable_at : List ℕ → ℕ → Bool
usable_at image a = usable (a / 8) (a % 8) (get_or image a 0)

abbrev pub printed_at : List ℕ → ℕ → Bool
printed_at image a = printed (a % 8) (get_or image a 0)

-- every byte below an address is good
abbrev pub GoodBelow : List ℕ → ℕ → Type 0
GoodBelow image n = (a : ℕ) → a < n → GoodByte (a / 8) (a % 8) (get_or image a 0)

-- the tests of eighty bytes come as far as address a: all below it are good
pub record Reached (image : List ℕ) (a : ℕ) : Type 0 where
  pub eighty : length image ≡ 80
  pub inside : a < 80
  pub below : GoodBelow image a

-- what the verdict of an image can be
pub data ImageAnswer (v : Verdict) : Type 0 where
  accepts : v ≡ accepted → ImageAnswer v
  wrong_length_refused : v ≡ record { number = wrong_length; place = 0 } → ImageAnswer v
  reserved_refused : (a : ℕ) → v ≡ record { number = reserved; place = a } → ImageAnswer v
  unprinted_refused : (a : ℕ) → v ≡ record { number = unprinted; place = a } → ImageAnswer v

-- ---- the settings
-- ten groups, each with two levels of a byte: what the types of src/ hold already
pub record Typed (settings : Settings) : Type 0 where
  pub ten : length settings.groups ≡ 10
  pub over : (k : ℕ) → (group_at settings k).over.level < 256
  pub under : (k : ℕ) → (group_at settings k).under.level < 256

-- at every address below n some byte means the setting
abbrev pub MeantBelow : Settings → ℕ → Type 0
MeantBelow settings n = (a : ℕ) → a < n → ¬ (setting_byte settings a ≡ None)

-- at a the lowest setting that no byte of its group can mean
pub record LowestLacking (settings : Settings) (a : ℕ) : Type 0 where
  pub inside : a < 80
  pub lacking : setting_byte settings a ≡ None
  pub below : MeantBelow settings a

-- what the verdict of settings can be
pub data SettingsAnswer (v : Verdict) : Type 0 where
  accepts : v ≡ accepted → SettingsAnswer v
  out_of_range_refused : (a : ℕ) → v ≡ record { number = out_of_range; place = a } → SettingsAnswer v
