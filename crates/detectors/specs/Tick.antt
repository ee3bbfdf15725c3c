-- A tick on one frame, and an engine tick on twenty. Assumes nothing.
use Rattle.std.specs.Prelude.{ℕ, zero, suc, ◌-◌, ◌*◌, Bool, cond, Result, Ok, Err, List, [], ◌∷◌, ltb, eqb, length, get_or}
use Rattle.records.specs.Lists.{each}
use Rattle.records.specs.Numbers.{wrong_length, bad_word}
use Rattle.records.specs.Verdicts.{accepted, refused_unless, first_refusal}
use Rattle.records.specs.Answers.{verdict_of}
use Rattle.records.specs.declared.Number.{Number}
use Rattle.records.specs.declared.Refusal.{Refusal}
use Rattle.records.specs.declared.Verdict.{Verdict}
use Rattle.writing.specs.Writing.{settings_verdict}
use Rattle.image.specs.declared.Settings.{Settings}
use Rattle.channels.specs.Frame.{frame_at}
use Rattle.detectors.specs.Bank.{bank_after, faults_of, warnings_of, bank_verdict}
use Rattle.detectors.specs.declared.Bank.{Bank}
use Rattle.detectors.specs.declared.Detected.{Detected}
use Rattle.detectors.specs.declared.Detection.{Detection}
use Rattle.detectors.specs.declared.Words.{Words}

-- ---- frames one after the other

-- the bank after the first n frames
unfoldable pub bank_at : Settings → List ℕ → Bank → ℕ → Bank
bank_at settings frames bank zero = bank
bank_at settings frames bank (suc n) = bank_after settings (frame_at frames n) (bank_at settings frames bank n)

unfoldable pub words_at : Settings → List ℕ → Bank → ℕ → Words
words_at settings frames bank i =
    record {
      faults = faults_of settings (bank_at settings frames bank i) (bank_at settings frames bank (suc i));
      warnings = warnings_of settings (bank_at settings frames bank i) (bank_at settings frames bank (suc i));
    }

-- every tick's words over n frames
unfoldable pub trace : Settings → List ℕ → Bank → ℕ → List Words
trace settings frames bank n = each (words_at settings frames bank) 0 n

-- ---- tests

-- "bits 5 to 7 must be 0, else 9"
unfoldable pub levels_in_range : List ℕ → ℕ → Bool
levels_in_range frames i = ltb (get_or (frame_at frames i) 10 0) 32

-- the level bytes of n frames
unfoldable pub levels_verdict : ℕ → List ℕ → Verdict
levels_verdict n frames = first_refusal (each (λ i. refused_unless (levels_in_range frames i) bad_word 0) 0 n)

-- "Tests run in the order 1, 4, 8, 9", over n frames: the length, the settings, the bank, the level bytes of all
unfoldable pub frames_verdict : ℕ → Settings → Bank → List ℕ → Verdict
frames_verdict n settings bank frames =
    first_refusal
    (refused_unless (eqb (length frames) (11 * n)) wrong_length 0
    ∷ settings_verdict settings
    ∷ bank_verdict settings bank
    ∷ levels_verdict n frames
    ∷ [])

-- ---- the answers

-- no words
abbrev pub no_words : Words
no_words = record { faults = 0; warnings = 0 }

-- number 0 at place 0, with a bank and its words
abbrev pub detected_as : Bank → Words → Detected
detected_as bank words = record { verdict = accepted; bank = bank; faults = words.faults; warnings = words.warnings }

-- a refusal "gives back the state it received"; zero "stands in every other field"
abbrev pub refused_on : Verdict → Bank → Detected
refused_on verdict bank = record { verdict = verdict; bank = bank; faults = 0; warnings = 0 }

-- an answer field by field
abbrev pub detected_of : Bank → Result Words (Refusal Number) → Detected
detected_of bank (Ok words) = detected_as bank words
detected_of bank (Err refusal) = refused_on (verdict_of {A = Words} (Err refusal)) bank

abbrev pub as_detected : Detection → Detected
as_detected detection = detected_of detection.bank detection.words

-- the verdict decides between the two
unfoldable pub detected : Verdict → Bank → Bank → Words → Detected
detected verdict received bank words = cond (eqb verdict.number 0) (detected_as bank words) (refused_on verdict received)

-- "Its fault and warning words ... are those of the last of the twenty": of the trace of one frame they are that frame's
unfoldable pub words_over : List Words → Words
words_over words = get_or words (length words - 1) no_words

-- n frames in one call
unfoldable pub detected_over : ℕ → Settings → Bank → List ℕ → Detected
detected_over n settings bank frames =
    detected (frames_verdict n settings bank frames) bank (bank_at settings frames bank n) (words_over (trace settings frames bank n))

-- "A frame is 11 bytes": one tick takes one frame
unfoldable pub ticked : Settings → Bank → List ℕ → Detected
ticked = detected_over 1

-- "An engine tick is twenty detector ticks; its call takes all twenty frames, 220 bytes, and makes every test first"
unfoldable pub engine_ticked : Settings → Bank → List ℕ → Detected
engine_ticked = detected_over 20
