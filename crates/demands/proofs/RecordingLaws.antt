-- A recording that is refused has no words. Assumes nothing.
use Prim.Native.Nat.{ℕ, zero, suc, ◌+◌, ◌/◌, ◌%◌}
use mathlib.Core.Path.{◌≡◌, refl, ap, sym, subst, ◌∙◌}
use mathlib.Core.List.{List}
use native.Mathlib.Decide.{ℕ_discrete}
use native.Mathlib.Omega.{arith}
use lib.ListN.{length}
use Rattle.image.specs.Reading.{image_verdict, settings_of}
use Rattle.image.specs.declared.Settings.{Settings}
use Rattle.detectors.specs.Tick.{engine_ticked}
use Rattle.detectors.specs.declared.Bank.{Bank}
use Rattle.detectors.specs.declared.Detected.{Detected}
use Rattle.detector_laws.proofs.Refusals.{refused_answer, answer_number}
use Rattle.recordings.specs.Recordings.{start_detected, detected_after, recorded}
use Rattle.recordings.proofs.RecordingLaws.{one_more, refusal_stays, recorded_bad_image, recorded_uneven, recorded_whole}

-- no words
abbrev pub Wordless : Detected → Type 0
Wordless answer = (answer.faults ≡ 0) × (answer.warnings ≡ 0)

start_accepted : (settings : Settings) (recording : List ℕ) → (detected_after settings recording 0).verdict.number ≡ 0
unfolding detected_after start_detected
start_accepted settings recording = refl

tick_wordless : (settings : Settings) (bank : Bank) (frames : List ℕ) → ¬ ((engine_ticked settings bank frames).verdict.number ≡ 0) → Wordless (engine_ticked settings bank frames)
unfolding engine_ticked
tick_wordless settings bank frames bad =
    let refused = refused_answer 20 settings bank frames (λ zero. bad (answer_number 20 settings bank frames ∙ zero)) in
    (ap (λ (d : Detected). d.faults) refused, ap (λ (d : Detected). d.warnings) refused)

after_wordless : (settings : Settings) (recording : List ℕ) (n : ℕ) → ¬ ((detected_after settings recording n).verdict.number ≡ 0)
    → Wordless (detected_after settings recording n)
after_wordless settings recording zero bad = absurd (bad (start_accepted settings recording))
after_wordless settings recording (suc n) bad =
    elim (ℕ_discrete (detected_after settings recording n).verdict.number 0) [
      | yes good ↦
          let ticked = one_more settings recording n 220 _ _ refl refl good refl ∙ ap (detected_after settings recording) plus in
          subst Wordless ticked (tick_wordless settings _ _ (λ zero. bad (sym (ap (λ (d : Detected). d.verdict.number) ticked) ∙ zero)))
      | no stays ↦
          let same = refusal_stays settings recording n 1 stays in
          subst Wordless (sym same ∙ ap (detected_after settings recording) plus) (after_wordless settings recording n stays)
    ]
  where
    plus : n + 1 ≡ suc n
    plus = omega arith

-- Refused by its image, by its length or by an engine tick.
pub recorded_wordless : (image recording : List ℕ) → ¬ ((recorded image recording).verdict.number ≡ 0) → Wordless (recorded image recording)
recorded_wordless image recording bad =
    elim (ℕ_discrete (image_verdict image).number 0) [
      | no refused ↦ (let is = recorded_bad_image image recording refused in subst Wordless (sym is) (refl, refl))
      | yes good ↦ elim (ℕ_discrete (length recording % 220) 0) [
        | no uneven ↦ (let is = recorded_uneven image recording good uneven in subst Wordless (sym is) (refl, refl))
        | yes whole ↦
            (let is = recorded_whole image recording good whole in
            subst Wordless (sym is) (after_wordless (settings_of image) recording (length recording / 220) (λ zero. bad (ap (λ (d : Detected). d.verdict.number) is ∙ zero))))
      ]
    ]
