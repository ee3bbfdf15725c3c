-- Laws of normal bytes for C: the image's tests, then the buffer's length. Assumes nothing.
use Prim.Native.Nat.{ℕ}
use mathlib.Core.Path.{◌≡◌, ap, sym, ◌∙◌}
use mathlib.Core.List.{List}
use native.Mathlib.Decide.{ℕ_discrete}
use native.Mathlib.Omega.{arith}
use borrow.Author.Tests.{eq-eqb, ne_eqb}
use lib.Dec.{eqb}
use lib.ListN.{length}
use Rattle.records.specs.Verdicts.{accepted}
use Rattle.records.specs.declared.Verdict.{Verdict}
use Rattle.records.proofs.Every.{Bytes}
use Rattle.records.proofs.VerdictLaws.{number_of}
use Rattle.image.specs.Answers.{Reading}
use Rattle.image.specs.Reading.{image_verdict, reading}
use Rattle.image.specs.declared.Settings.{Settings}
use Rattle.writing.specs.Writing.{write_verdict, written}
use Rattle.image_laws.proofs.Refusals.{written_refused}
use Rattle.image_laws.proofs.Acceptance.{write_wrong_length}
use Rattle.image_laws.proofs.RoundTrip.{read_then_write}
use Rattle.recordings.proofs.RecordingLaws.{then_image, then_right, then_wrong}
use Rattle.capi.specs.Calls.{normal_verdict, normal_written}

module _ (image buffer : List ℕ) where
  pub normal_refused : ¬ ((image_verdict image).number ≡ 0) → normal_verdict image buffer ≡ image_verdict image
  unfolding normal_verdict
  normal_refused = then_image image (eqb (length buffer) 80)

  pub normal_kept : ¬ ((normal_verdict image buffer).number ≡ 0) → normal_written image buffer ≡ buffer
  unfolding normal_written
  normal_kept bad = rw (ne_eqb (normal_verdict image buffer).number 0 bad)

  module _ (bytes : Bytes image) (good : (image_verdict image).number ≡ 0) where
    -- what the writer answers and leaves
    pub normal_taken : (normal_verdict image buffer ≡ write_verdict (reading image).settings buffer)
        × (normal_written image buffer ≡ written (reading image).settings buffer)
    unfolding normal_written normal_verdict
    normal_taken =
        elim (ℕ_discrete (length buffer) 80) [
          | yes eighty ↦
              let taken = read_then_write image bytes good buffer eighty in
              let passes : normal_verdict image buffer ≡ accepted = then_right image good (length buffer) 80 eighty in
              (passes ∙ sym taken.0, rw (eq-eqb (normal_verdict image buffer).number 0 (ap number_of passes)) (sym taken.1))
          | no other ↦
              let settings = (reading image).settings in
              let wrong = write_wrong_length settings buffer other in
              let shows : normal_verdict image buffer ≡ write_verdict settings buffer = then_wrong image good (length buffer) 80 other ∙ sym wrong in
              let refused : ¬ ((write_verdict settings buffer).number ≡ 0) = λ zero. omega (arith, sym (ap number_of wrong) ∙ zero) in
              (shows, normal_kept (λ zero. refused (sym (ap number_of shows) ∙ zero)) ∙ sym (written_refused settings buffer refused))
        ]

-- ---- the reader's answer, then the writer's
module _ (image buffer : List ℕ) {v : Verdict} {settings : Settings} (read : record { verdict = v; settings = settings } ≡ reading image) where
  refuses : v ≡ image_verdict image
  unfolding reading
  refuses = ap (λ (r : Reading). r.verdict) read

  module _ (some : v.number ≡ 0 → ⊥) where
    refused : normal_verdict image buffer ≡ image_verdict image
    refused = normal_refused image buffer (λ zero. some (ap number_of refuses ∙ zero))

    -- a refused image leaves the buffer
    pub image_refused : v ≡ normal_verdict image buffer
    image_refused = refuses ∙ sym refused

    pub image_keeps : buffer ≡ normal_written image buffer
    image_keeps = sym (normal_kept image buffer (λ zero. some (ap number_of image_refused ∙ zero)))

  module _ (bytes : Bytes image) (accepts : v.number ≡ 0) where
    taken : (normal_verdict image buffer ≡ write_verdict (reading image).settings buffer) × (normal_written image buffer ≡ written (reading image).settings buffer)
    taken = normal_taken image buffer bytes (ap number_of (sym refuses) ∙ accepts)

    -- of an accepted one the writer leaves the normal bytes
    pub image_answered : {w : Verdict} → w ≡ write_verdict settings buffer → w ≡ normal_verdict image buffer
    image_answered is = is ∙ ap (λ (r : Reading). write_verdict r.settings buffer) read ∙ sym taken.0

    pub image_written : {after : List ℕ} → after ≡ written settings buffer → after ≡ normal_written image buffer
    image_written is = is ∙ ap (λ (r : Reading). written r.settings buffer) read ∙ sym taken.1
