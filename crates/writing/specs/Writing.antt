-- Which byte means a setting, and what the writer answers and leaves. Assumes nothing.
use Rattle.std.specs.Prelude.{ℕ, ◌+◌, ◌*◌, ◌/◌, ◌%◌, ◌^◌, Bool, true, false, cond, not, ◌||◌, Option, Some, None, Result, Ok, Err, List, [], ◌∷◌, leb, eqb, length, get_or, replicate}
use Rattle.records.specs.Lists.{each}
use Rattle.records.specs.Numbers.{wrong_length}
use Rattle.records.specs.Verdicts.{accepted, refused_unless, first_refusal}
use Rattle.records.specs.Answers.{verdict_of}
use Rattle.records.specs.declared.Number.{Number}
use Rattle.records.specs.declared.Refusal.{Refusal}
use Rattle.records.specs.declared.Verdict.{Verdict}
use Rattle.image.specs.Groups.{is_vx}
use Rattle.image.specs.Codes.{code_number, code_value, lookup, times, pulses, fault_code, input_code, source_code, pull_code}
use Rattle.image.specs.Reading.{group_at}
use Rattle.image.specs.declared.Logic.{Logic}
use Rattle.image.specs.declared.Group.{Group}
use Rattle.image.specs.declared.Output.{Output}
use Rattle.image.specs.declared.Settings.{Settings}
use Rattle.writing.specs.Answers.{Encoded}

-- ---- the byte that means a setting

-- two codes in one byte, the first from bit `low` on; lacking where either is
abbrev pub beside : Option ℕ → ℕ → Option ℕ → Option ℕ
beside (Some high) low (Some rest) = Some (high * 2 ^ low + rest)
beside (Some high) low None = None
beside None low rest = None

-- "a hysteresis above 31 ... is number 4"
unfoldable pub hysteresis_byte : ℕ → Option ℕ
hysteresis_byte hysteresis = cond (leb hysteresis 31) (Some hysteresis) None

abbrev pub flag : Bool → ℕ
flag true = 1
flag false = 0

-- "filter code in bits 4:2, fault type in bits 1:0"
unfoldable pub timing_byte : Group → Option ℕ
timing_byte group = beside (lookup times group.delay) 2 (Some (fault_code group.faults))

-- "bit 6 invert, bit 5 edge, bits 4:3 pulse code, bits 2:0 filter code"
unfoldable pub pin_logic_byte : Logic → Option ℕ
pin_logic_byte logic =
    beside (Some (flag logic.invert)) 6
    (beside (Some (flag logic.edge)) 5
    (beside (lookup pulses logic.pulse) 3 (lookup times logic.delay)))

-- something of the logic part is not zero or false
unfoldable pub has_logic : Logic → Bool
has_logic logic = logic.invert || logic.edge || not (eqb logic.pulse 0) || not (eqb logic.delay 0)

-- byte 6: "any setting that no byte of its group can mean, a logic part on VP or VH among them"
unfoldable pub logic_byte : ℕ → Logic → Option ℕ
logic_byte k logic = cond (is_vx k) (pin_logic_byte logic) (cond (has_logic logic) None (Some 0))

-- "Bits 6:4" the source, "Bits 3:0" the pull-up
unfoldable pub output_byte : Output → Option ℕ
output_byte output = beside (Some (source_code output.source)) 4 (Some (pull_code output.pull))

-- the eight bytes that mean the settings of group k
unfoldable pub group_bytes : ℕ → Group → List (Option ℕ)
group_bytes k group =
    Some group.over.level
    ∷ hysteresis_byte group.over.hysteresis
    ∷ Some group.under.level
    ∷ hysteresis_byte group.under.hysteresis
    ∷ timing_byte group
    ∷ input_code k group.input
    ∷ logic_byte k group.logic
    ∷ output_byte group.output
    ∷ []

-- the byte at an address
unfoldable pub setting_byte : Settings → ℕ → Option ℕ
setting_byte settings address = get_or (group_bytes (address / 8) (group_at settings (address / 8))) (address % 8) None

-- ---- acceptance

-- "a hysteresis above 31 or a time that the table lacks is number 4 at the address it would go to, and so is any setting that no byte of its group can mean"
abbrev pub code_verdict : Option ℕ → ℕ → Verdict
code_verdict code address = refused_unless (eqb (code_number code) 0) (code_number code) address

-- "lowest address first"
unfoldable pub settings_verdict : Settings → Verdict
settings_verdict settings = first_refusal (each (λ address. code_verdict (setting_byte settings address) address) 0 80)

-- "The writer's buffer is exactly 80 bytes, tested before the settings"
unfoldable pub write_verdict : Settings → List ℕ → Verdict
write_verdict settings buffer =
    first_refusal (refused_unless (eqb (length buffer) 80) wrong_length 0 ∷ settings_verdict settings ∷ [])

-- ---- what the buffer holds afterwards

unfoldable pub image_of : Settings → List ℕ
image_of settings = each (λ address. code_value (setting_byte settings address)) 0 80

-- "A refused call writes to no buffer"
unfoldable pub written : Settings → List ℕ → List ℕ
written settings buffer = cond (eqb (write_verdict settings buffer).number 0) (image_of settings) buffer

-- ---- one group, as the encoder answers it

-- the tests of the eight bytes, lowest address first
unfoldable pub group_verdict : ℕ → Group → Verdict
group_verdict k group = first_refusal (each (λ j. code_verdict (get_or (group_bytes k group) j None) (8 * k + j)) 0 8)

-- the eight bytes where they are accepted; a refusal has eight zeros
unfoldable pub encoded : ℕ → Group → Encoded
encoded k group =
    record {
      verdict = group_verdict k group;
      bytes =
          cond (eqb (group_verdict k group).number 0)
          (each (λ j. code_value (get_or (group_bytes k group) j None)) 0 8)
          (replicate 8 0);
    }

-- the encoder's answer field by field: the eight bytes, or the refusal with eight zeros
abbrev pub as_encoded : Result (List ℕ) (Refusal Number) → Encoded
as_encoded (Ok bytes) = record { verdict = accepted; bytes = bytes }
as_encoded (Err refusal) = record { verdict = verdict_of {A = List ℕ} (Err refusal); bytes = replicate 8 0 }
