-- The detectors over a recording, under the settings of an image. Assumes nothing.
use Rattle.std.specs.Prelude.{ℕ, zero, suc, ◌*◌, ◌/◌, ◌%◌, Bool, cond, List, [], ◌∷◌, eqb, length, take, drop}
use Rattle.records.specs.Numbers.{wrong_length}
use Rattle.records.specs.Verdicts.{accepted, refused_unless, first_refusal}
use Rattle.records.specs.declared.Verdict.{Verdict}
use Rattle.image.specs.Reading.{image_verdict, settings_of}
use Rattle.image.specs.declared.Settings.{Settings}
use Rattle.detectors.specs.Bank.{start_bank}
use Rattle.detectors.specs.Tick.{refused_on, engine_ticked}
use Rattle.detectors.specs.declared.Detected.{Detected}

-- the image's tests, then the test of another length
unfoldable pub image_then : List ℕ → Bool → Verdict
image_then image right = first_refusal (image_verdict image ∷ refused_unless right wrong_length 0 ∷ [])

-- before the first engine tick
unfoldable pub start_detected : Detected
start_detected = record { verdict = accepted; bank = start_bank; faults = 0; warnings = 0 }

-- after n engine ticks of 220 bytes, each from the bank that the one before gave back; the first refusal stays
unfoldable pub detected_after : Settings → List ℕ → ℕ → Detected
detected_after settings recording zero = start_detected
detected_after settings recording (suc n) =
    cond (eqb (detected_after settings recording n).verdict.number 0)
    (engine_ticked settings (detected_after settings recording n).bank (take 220 (drop (220 * n) recording)))
    (detected_after settings recording n)

-- the recording is whole engine ticks
unfoldable pub recording_verdict : List ℕ → List ℕ → Verdict
recording_verdict image recording = image_then image (eqb (length recording % 220) 0)

-- a refusal has the start's bank and zero words
unfoldable pub recorded : List ℕ → List ℕ → Detected
recorded image recording =
    cond (eqb (recording_verdict image recording).number 0)
    (detected_after (settings_of image) recording (length recording / 220))
    (refused_on (recording_verdict image recording) start_bank)
