-- The blank image, and the values of the paper's table of starred values that are about an image. Assumes nothing.
use Prim.Native.Nat.{ℕ, ◌-◌}
use mathlib.Core.Path.{◌≡◌, refl}
use mathlib.Core.Bool.{Bool, true, false, cond, ◌&&◌, ◌||◌}
use lib.Dec.{eqb}
use lib.ListN.{replicate}
use Rattle.records.specs.Bits.{bits}
use Rattle.records.specs.Lists.{each}
use Rattle.records.specs.Verdicts.{accepted, or_else, first_refusal}
use Rattle.image.specs.Groups.{is_vp}
use Rattle.image.specs.Reading.{reserved_from, usable, printed, byte_verdict, image_verdict, output_of}
use Rattle.blank_image.specs.Blank.{blank_image}
use Rattle.image.specs.Normal.{normal_byte, range_twice, pull_twice}

-- ---- the blank image
-- "The blank image is eighty zero bytes"
pub blank_zeros : blank_image ≡ replicate 80 0
unfolding blank_image each
blank_zeros = refl

-- "and is accepted"
pub blank_accepted : image_verdict blank_image ≡ accepted
unfolding image_verdict byte_verdict usable printed reserved_from bits first_refusal or_else blank_image each
blank_accepted = refl

-- ---- output bytes
-- in any group and at any address: "Output byte 0x10 and 0x11 read alike, normal 0x10; 0x1C refused 3; 0x40 refused 3; 0x80 refused 2; 0xC0 refused 2"
pub record OutputValues (k a : ℕ) : Type 0 where
  pub accepted_10 : byte_verdict k 7 0x10 a ≡ accepted
  pub accepted_11 : byte_verdict k 7 0x11 a ≡ accepted
  pub read_alike : output_of 0x10 ≡ output_of 0x11
  pub normal_10 : normal_byte k 7 0x10 ≡ 0x10
  pub normal_11 : normal_byte k 7 0x11 ≡ 0x10
  pub refused_1_c : byte_verdict k 7 0x1C a ≡ record { number = 3; place = a }
  pub refused_40 : byte_verdict k 7 0x40 a ≡ record { number = 3; place = a }
  pub refused_80 : byte_verdict k 7 0x80 a ≡ record { number = 2; place = a }
  pub refused_C0 : byte_verdict k 7 0xC0 a ≡ record { number = 2; place = a }

-- byte 7 is normalised alike in every group
normal_output : (vp : Bool) (b : ℕ) → cond ((vp && false && eqb (bits b 0 2) 3) || pull_twice 7 b) (b - 1) b ≡ cond (pull_twice 7 b) (b - 1) b
normal_output true b = refl
normal_output false b = refl

-- the single claim: all of them hold
pub output_values : (k a : ℕ) → OutputValues k a
unfolding byte_verdict usable printed reserved_from bits first_refusal or_else output_of normal_byte range_twice pull_twice
output_values k a =
    record {
      accepted_10 = refl;
      accepted_11 = refl;
      read_alike = refl;
      normal_10 = normal_output (is_vp k) 0x10;
      normal_11 = normal_output (is_vp k) 0x11;
      refused_1_c = refl;
      refused_40 = refl;
      refused_80 = refl;
      refused_C0 = refl;
    }
