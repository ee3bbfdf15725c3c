-- Laws behind the round trips: from a group's eight bytes to the image and its ten groups. Assumes nothing.
use Prim.Native.Nat.{ℕ, ◌+◌, ◌*◌, ◌/◌, ◌%◌, ◌<◌}
use mathlib.Core.Path.{◌≡◌, refl, ap, sym, ◌∙◌}
use mathlib.Core.List.{List}
use native.Mathlib.Nat.{zero-add}
use native.Mathlib.Omega.{arith}
use lib.ListN.{length, get_or}
use lib.Seq.{ext_get_or, get_or-take, get_or-drop}
use Rattle.records.specs.Lists.{each}
use Rattle.records.proofs.ListLaws.{get_d_default, each_at, each_length}
use Rattle.image.specs.Groups.{part}
use Rattle.image.specs.Codes.{code_value}
use Rattle.image.specs.Reading.{image_verdict, group_of, settings_of, zero_group, group_at}
use Rattle.writing.specs.Writing.{group_bytes, setting_byte, settings_verdict, image_of}
use Rattle.image.specs.Normal.{normal_byte}
use Rattle.std.specs.Prelude.{Option, Some, None}
use Rattle.image.specs.declared.Group.{Group}
use Rattle.image.specs.declared.Settings.{Settings}
use Rattle.records.proofs.Every.{Bytes}
use Rattle.image_laws.proofs.Conditions.{GoodBelow}
use Rattle.image_laws.proofs.AcceptanceLaws.{image_zero, settings_zero}
use Rattle.image_laws.proofs.Acceptance.{image_accepted, settings_accepted}
use Rattle.image_laws.proofs.ReadWriteLaws.{read_write}
use Rattle.image_laws.proofs.WriteReadLaws.{write_good, write_read}

-- ---- places
-- byte j of a group's part of an image
part_at : (image : List ℕ) (k j : ℕ) → j < 8 → get_or (part image k) j 0 ≡ get_or image (8 * k + j) 0
unfolding part
part_at image k j inside = rw (get_or-take, get_or-drop)

is_value : (code : Option ℕ) → ¬ (code ≡ None) → code ≡ Some (code_value code)
is_value (Some b) is = refl
is_value None is = absurd (is refl)

-- what the part of an image for group k means
meant_by : List ℕ → ℕ → Group
meant_by image k = group_of k (part image k)

-- ---- settings, written and read
module _ (settings : Settings) where
  image_at : (a : ℕ) → a < 80 → get_or (image_of settings) a 0 ≡ code_value (setting_byte settings a)
  unfolding image_of
  image_at a inside =
      each_at (λ address. code_value (setting_byte settings address)) 0 80 a 0 inside
      ∙ ap (λ (n : ℕ). code_value (setting_byte settings n)) (zero-add a)

  module _ (pass : (settings_verdict settings).number ≡ 0) where
    pub meant_at : (a : ℕ) → a < 80 → setting_byte settings a ≡ Some (get_or (image_of settings) a 0)
    meant_at a inside =
        is_value (setting_byte settings a) ((settings_accepted settings).0 (settings_zero settings pass) a inside) ∙ ap Some (sym (image_at a inside))

    -- the byte at an address, by its group and its place there
    pub image_good : GoodBelow (image_of settings) 80
    unfolding setting_byte
    image_good a inside =
        write_good (a / 8) (group_at settings (a / 8)) (a % 8) (omega arith) (get_or (image_of settings) a 0) (meant_at a inside)

    group_back : (k : ℕ) → k < 10 → group_of k (part (image_of settings) k) ≡ group_at settings k
    unfolding setting_byte
    group_back k inside =
        write_read k (group_at settings k) (part (image_of settings) k) λ j below.
        let group : (8 * k + j) / 8 ≡ k = omega arith in
        let place : (8 * k + j) % 8 ≡ j = omega arith in
        rw (part_at (image_of settings) k j below) (rw (group, place) at (meant_at (8 * k + j) (omega arith)))

    groups_back : length settings.groups ≡ 10 → (k : ℕ) → k < 10
        → get_or (each (meant_by (image_of settings)) 0 10) k (zero_group 0) ≡ get_or settings.groups k (zero_group 0)
    unfolding meant_by
    groups_back ten k inside =
        each_at (meant_by (image_of settings)) 0 10 k (zero_group 0) inside
        ∙ ap (meant_by (image_of settings)) (zero-add k)
        ∙ group_back k inside
        ∙ get_d_default settings.groups k (zero_group k) (zero_group 0) (rw ten inside)

    pub settings_back : length settings.groups ≡ 10 → settings_of (image_of settings) ≡ settings
    unfolding settings_of meant_by
    settings_back ten =
        let groups : List Group = each (meant_by (image_of settings)) 0 10 in
        let many : length groups ≡ 10 = each_length (meant_by (image_of settings)) 0 10 in
        let same = ext_get_or (zero_group 0) groups settings.groups (many ∙ sym ten) (λ k below. groups_back ten k (rw many at below)) in
        λ i. record { groups = same i }

-- ---- an image, read and written
module _ (image : List ℕ) (bytes : Bytes image) (pass : (image_verdict image).number ≡ 0) where
  pub setting_normal : (a : ℕ) → a < 80 → setting_byte (settings_of image) a ≡ Some (normal_byte (a / 8) (a % 8) (get_or image a 0))
  unfolding setting_byte settings_of meant_by
  setting_normal a inside =
      let group = each_at (meant_by image) 0 10 (a / 8) (zero_group (a / 8)) (omega arith) ∙ ap (meant_by image) (zero-add (a / 8)) in
      let here : 8 * (a / 8) + a % 8 ≡ a = omega arith in
      let byte = part_at image (a / 8) (a % 8) (omega arith) ∙ ap (λ (n : ℕ). get_or image n 0) here in
      let good = ((image_accepted image).0 (image_zero image pass)).1 a inside in
      ap (λ (g : Group). get_or (group_bytes (a / 8) g) (a % 8) None) group
      ∙ read_write (a / 8) (part image (a / 8)) (a % 8) (omega arith) (rw byte (bytes a)) (rw byte good.can_be_used) (rw byte good.is_printed)
      ∙ ap (λ (b : ℕ). Some (normal_byte (a / 8) (a % 8) b)) byte
