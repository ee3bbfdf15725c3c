-- Reading a byte and writing what it means gives the normal byte: one test over every usable byte of the three kinds of group. Assumes nothing.
use Prim.Native.Nat.{ℕ, ◌^◌, ◌<◌}
use mathlib.Core.Path.{◌≡◌, refl, ap, sym, ◌∙◌}
use mathlib.Core.Bool.{Bool, true, not, ◌||◌}
use mathlib.Core.List.{List}
use lib.ListN.{get_or, replicate}
use Rattle.records.specs.Bits.{bits}
use Rattle.image.specs.Codes.{input_code}
use Rattle.image.specs.Reading.{reserved_from, usable, printed, input_of, logic_of, output_of, threshold_of, group_of}
use Rattle.writing.specs.Writing.{group_bytes, hysteresis_byte, timing_byte, logic_byte, pin_logic_byte, has_logic, output_byte}
use Rattle.image.specs.Normal.{normal_byte, range_twice, pull_twice}
use Rattle.std.specs.Prelude.{Option, Some, None}
use Rattle.image_laws.proofs.TableLaws.{everywhere, at_each, is_code, is_code_lem}
use Rattle.image_laws.proofs.GroupLaws.{Same, Like, like, input_code_same, input_of_same, logic_byte_same, logic_of_same, reserved_same, normal_same}
use Rattle.image_laws.proofs.ByteLaws.{eight, usable_below}

-- byte j of what a group of eight bytes b means
again : ℕ → ℕ → ℕ → Option ℕ
again k j b = get_or (group_bytes k (group_of k (replicate 8 b))) j None

-- byte j of a group reads byte j alone
alone : (k : ℕ) (bytes : List ℕ) (j : ℕ) → j < 8 → get_or (group_bytes k (group_of k bytes)) j None ≡ again k j (get_or bytes j 0)
unfolding again group_bytes group_of threshold_of timing_byte
alone k bytes =
    eight (λ j. get_or (group_bytes k (group_of k bytes)) j None ≡ again k j (get_or bytes j 0)) refl refl refl refl refl refl refl refl

-- byte j of group k, where it is printed, comes back as the normal byte
settles : ℕ → ℕ → ℕ → Bool
settles k j b = not (printed j b) || is_code (again k j b) (normal_byte k j b)

-- so does every usable byte of the group
settled : ℕ → Bool
settled k = everywhere (λ j. everywhere (settles k j) (2 ^ reserved_from k j)) 8

settled_all : (settled 0 ≡ true) × (settled 4 ≡ true) × (settled 5 ≡ true)
unfolding again settles settled printed normal_byte range_twice pull_twice reserved_from bits input_of logic_of output_of threshold_of group_of group_bytes hysteresis_byte timing_byte logic_byte pin_logic_byte has_logic output_byte
settled_all = (refl, refl, refl)

-- what the test says
abbrev Settled : ℕ → Type 0
Settled k = (j : ℕ) → j < 8 → (b : ℕ) → b < 2 ^ reserved_from k j → printed j b ≡ true → again k j b ≡ Some (normal_byte k j b)

settled_at : (k : ℕ) → settled k ≡ true → Settled k
unfolding settled settles
settled_at k holds j inside b below is =
    let place = at_each (λ j. everywhere (settles k j) (2 ^ reserved_from k j)) 8 holds j inside in
    is_code_lem (again k j b) (normal_byte k j b) (rw is at (at_each (settles k j) (2 ^ reserved_from k j) place b below))

again_same : {k m : ℕ} → Same k m → (b j : ℕ) → j < 8 → again k j b ≡ again m j b
unfolding again group_bytes group_of threshold_of timing_byte
again_same {k} {m} same b =
    eight (λ j. again k j b ≡ again m j b) refl refl refl refl refl
    (input_code_same same (input_of k b) ∙ ap (input_code m) (input_of_same same b))
    (logic_byte_same same (logic_of k b) ∙ ap (logic_byte m) (logic_of_same same b))
    refl

settled_same : {k m : ℕ} → Same k m → Settled m → Settled k
settled_same {k} {m} same settles j inside b below is =
    again_same same b j inside ∙ settles j inside b (rw (reserved_same same j) at below) is ∙ ap Some (sym (normal_same same j b))

settled_like : {k : ℕ} → Like k → Settled k
settled_like (Like.vp same) = settled_same same (settled_at 0 settled_all.0)
settled_like (Like.vh same) = settled_same same (settled_at 4 settled_all.1)
settled_like (Like.vx same) = settled_same same (settled_at 5 settled_all.2)

-- byte j of group k: what it means is written as its normal byte
pub read_write : (k : ℕ) (bytes : List ℕ) (j : ℕ) → j < 8 → get_or bytes j 0 < 256
    → usable k j (get_or bytes j 0) ≡ true → printed j (get_or bytes j 0) ≡ true
    → get_or (group_bytes k (group_of k bytes)) j None ≡ Some (normal_byte k j (get_or bytes j 0))
read_write k bytes j inside byte can is =
    alone k bytes j inside ∙ settled_like (like k) j inside (get_or bytes j 0) (usable_below k j (get_or bytes j 0) byte can) is
