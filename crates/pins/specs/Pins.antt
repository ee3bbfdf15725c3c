-- The pin drives. Assumes nothing.
use Rattle.std.specs.Prelude.{ℕ, Bool, true, false, cond, Result, Ok, Err, [], ◌∷◌, ltb, eqb}
use Rattle.records.specs.Bits.{bits}
use Rattle.records.specs.Words.{word_of}
use Rattle.records.specs.Numbers.{bad_word}
use Rattle.records.specs.Verdicts.{accepted, refused_unless, first_refusal}
use Rattle.records.specs.Answers.{verdict_of}
use Rattle.records.specs.declared.Number.{Number}
use Rattle.records.specs.declared.Refusal.{Refusal}
use Rattle.records.specs.declared.Verdict.{Verdict}
use Rattle.image.specs.Reading.{group_at}
use Rattle.writing.specs.Writing.{settings_verdict}
use Rattle.image.specs.declared.Source.{Source}
use Rattle.image.specs.declared.Source.TheVariants.{Disabled, Engine, DrivenLow, DrivenHigh}
use Rattle.image.specs.declared.Settings.{Settings}
use Rattle.pins.specs.Answers.{Driven}

-- "Source 0 gives 0, source 1 the output's bit, 2 gives 0, 3 gives 1."
abbrev pub drive : Source → Bool → Bool
drive Disabled output = false
drive Engine output = output
drive DrivenLow output = false
drive DrivenHigh output = true

-- "a word of pins (bit 0 is PDO1)"
unfoldable pub pins_of : Settings → ℕ → ℕ
pins_of settings outputs = word_of (λ k. drive (group_at settings k).output.source (eqb (bits outputs k 1) 1)) 10

-- "Settings are tested first"; "a word of outputs below 1024 (else 9)"
unfoldable pub pins_verdict : Settings → ℕ → Verdict
pins_verdict settings outputs = first_refusal (settings_verdict settings ∷ refused_unless (ltb outputs 1024) bad_word 0 ∷ [])

-- a refusal drives no pin
unfoldable pub driven : Settings → ℕ → Driven
driven settings outputs =
    let verdict = pins_verdict settings outputs in
    record { verdict = verdict; pins = cond (eqb verdict.number 0) (pins_of settings outputs) 0 }

-- an answer field by field
abbrev pub as_driven : Result ℕ (Refusal Number) → Driven
as_driven (Ok pins) = record { verdict = accepted; pins = pins }
as_driven (Err refusal) = record { verdict = verdict_of {A = ℕ} (Err refusal); pins = 0 }
