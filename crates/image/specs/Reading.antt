-- What eighty bytes mean: whether they are accepted, and the settings. Assumes nothing.
use Rattle.std.specs.Prelude.{ℕ, ◌+◌, ◌-◌, ◌*◌, ◌/◌, ◌%◌, Bool, true, false, cond, ◌&&◌, Result, Ok, Err, List, [], ◌∷◌, eqb, length, get_or}
use Rattle.records.specs.Bits.{bits}
use Rattle.records.specs.Lists.{each}
use Rattle.records.specs.Numbers.{wrong_length, reserved, unprinted}
use Rattle.records.specs.Verdicts.{accepted, refused_unless, first_refusal}
use Rattle.records.specs.Answers.{verdict_of}
use Rattle.records.specs.declared.Number.{Number}
use Rattle.records.specs.declared.Refusal.{Refusal}
use Rattle.records.specs.declared.Verdict.{Verdict}
use Rattle.image.specs.Groups.{is_vp, is_vh, is_vx, part}
use Rattle.image.specs.Codes.{times, pulses, fault_types, ranges, high_ranges, functions, sources, source_printed, pulls, pull_printed}
use Rattle.image.specs.declared.FaultType.TheVariants.{Over}
use Rattle.image.specs.declared.Input.{Input}
use Rattle.image.specs.declared.Input.TheVariants.{VpMid, VhLow, AnalogFault}
use Rattle.image.specs.declared.Source.TheVariants.{Disabled}
use Rattle.image.specs.declared.Pull.TheVariants.{Unpulled}
use Rattle.image.specs.declared.Threshold.{Threshold}
use Rattle.image.specs.declared.Logic.{Logic}
use Rattle.image.specs.declared.Output.{Output}
use Rattle.image.specs.declared.Group.{Group}
use Rattle.image.specs.declared.Settings.{Settings}
use Rattle.image.specs.Answers.{Reading}

-- ---- acceptance

-- the lowest reserved bit of each of a group's eight bytes, 8 where none is reserved:
-- "Bytes 1 and 3: hysteresis in bits 4:0, bits 7:5 reserved"; byte 4 "bits 7:5 reserved";
-- byte 5 "VP: range in bits 1:0 ..., rest reserved. VH: bit 0 ..., rest reserved. VX: function in bits 1:0 ..., rest reserved";
-- byte 6 "VX only. Bit 7 reserved", and "In VP and VH groups this byte is unlisted", so that no bit of it may be set; byte 7 "Bit 7 reserved"
unfoldable pub reserved_from : ℕ → ℕ → ℕ
reserved_from k j = get_or (8 ∷ 5 ∷ 8 ∷ 5 ∷ 5 ∷ cond (is_vh k) 1 2 ∷ cond (is_vx k) 7 0 ∷ 7 ∷ []) j 8

-- no "cannot be used" bit of byte j of group k is set
unfoldable pub usable : ℕ → ℕ → ℕ → Bool
usable k j b = eqb (bits b (reserved_from k j) (8 - reserved_from k j)) 0

-- the source's table prints the codes of byte j: only byte 7 has codes that it does not print
unfoldable pub printed : ℕ → ℕ → Bool
printed j b = cond (eqb j 7) (source_printed (bits b 4 3) && pull_printed (bits b 0 4)) true

-- "at one byte, number 2 before number 3"
unfoldable pub byte_verdict : ℕ → ℕ → ℕ → ℕ → Verdict
byte_verdict k j b address =
    first_refusal (refused_unless (usable k j b) reserved address ∷ refused_unless (printed j b) unprinted address ∷ [])

-- the tests of the eight bytes of group k, from its part of the image
unfoldable pub part_verdict : ℕ → List ℕ → Verdict
part_verdict k bytes = first_refusal (each (λ j. byte_verdict k j (get_or bytes j 0) (8 * k + j)) 0 8)

-- the test of the byte at an address
abbrev pub address_verdict : List ℕ → ℕ → Verdict
address_verdict image address = byte_verdict (address / 8) (address % 8) (get_or image address 0) address

-- "The image is exactly 80 bytes"; "The lowest bad address is reported"
unfoldable pub image_verdict : List ℕ → Verdict
image_verdict image = first_refusal (refused_unless (eqb (length image) 80) wrong_length 0 ∷ each (address_verdict image) 0 80)

-- ---- meaning

-- byte 5 by its group's table
unfoldable pub input_of : ℕ → ℕ → Input
input_of k b =
    cond (is_vp k) (get_or ranges (bits b 0 2) VpMid) (cond (is_vh k) (get_or high_ranges (bits b 0 1) VhLow) (get_or functions (bits b 0 2) AnalogFault))

-- no logic part: "zero and false in every logic field"
abbrev pub no_logic : Logic
no_logic = record { invert = false; edge = false; pulse = 0; delay = 0 }

-- byte 6: "VX only. ... bit 6 invert, bit 5 edge, bits 4:3 pulse code, bits 2:0 filter code"
unfoldable pub logic_of : ℕ → ℕ → Logic
logic_of k b =
    cond (is_vx k)
    (record {
      invert = eqb (bits b 6 1) 1;
      edge = eqb (bits b 5 1) 1;
      pulse = get_or pulses (bits b 3 2) 0;
      delay = get_or times (bits b 0 3) 0;
    })
    no_logic

-- a threshold's byte, and after it "hysteresis in bits 4:0"
unfoldable pub threshold_of : ℕ → ℕ → Threshold
threshold_of level hysteresis = record { level = level; hysteresis = bits hysteresis 0 5 }

-- byte 7: "Bits 6:4" the source, "Bits 3:0" the pull-up
unfoldable pub output_of : ℕ → Output
output_of b = record { source = get_or sources (bits b 4 3) Disabled; pull = get_or pulls (bits b 0 4) Unpulled }

-- the eight bytes of group k
unfoldable pub group_of : ℕ → List ℕ → Group
group_of k b =
    record {
      over = threshold_of (get_or b 0 0) (get_or b 1 0);
      under = threshold_of (get_or b 2 0) (get_or b 3 0);
      delay = get_or times (bits (get_or b 4 0) 2 3) 0;
      faults = get_or fault_types (bits (get_or b 4 0) 0 2) Over;
      input = input_of k (get_or b 5 0);
      logic = logic_of k (get_or b 6 0);
      output = output_of (get_or b 7 0);
    }

-- the ten groups
unfoldable pub settings_of : List ℕ → Settings
settings_of image = record { groups = each (λ k. group_of k (part image k)) 0 10 }

-- ---- the reader's answer

-- "Zero (code 0 for a named kind) stands in every other field", the kind of byte 5 apart
unfoldable pub zero_group_of : Input → Group
zero_group_of input =
    record {
      over = record { level = 0; hysteresis = 0 };
      under = record { level = 0; hysteresis = 0 };
      delay = 0;
      faults = Over;
      input = input;
      logic = no_logic;
      output = record { source = Disabled; pull = Unpulled };
    }

-- code 0 of byte 5 is that of the group's own table
unfoldable pub zero_group : ℕ → Group
zero_group k = zero_group_of (input_of k 0)

unfoldable pub zero_settings : Settings
zero_settings = record { groups = each zero_group 0 10 }

-- group k of the settings; past the tenth, the zero group
abbrev pub group_at : Settings → ℕ → Group
group_at settings k = get_or settings.groups k (zero_group k)

-- the settings where the image is accepted; a refusal has the zero settings
unfoldable pub reading : List ℕ → Reading
reading image =
    record {
      verdict = image_verdict image;
      settings = cond (eqb (image_verdict image).number 0) (settings_of image) zero_settings;
    }

-- the reader's answer field by field: the settings, or the refusal with the zero settings
abbrev pub as_reading : Result Settings (Refusal Number) → Reading
as_reading (Ok settings) = record { verdict = accepted; settings = settings }
as_reading (Err refusal) = record { verdict = verdict_of {A = Settings} (Err refusal); settings = zero_settings }
