-- Laws of a recording: the image's tests, the length, then one engine tick after the other. Assumes nothing.
use Prim.Native.Nat.{ℕ, zero, suc, ◌+◌, ◌*◌, ◌/◌, ◌%◌}
use mathlib.Core.Path.{◌≡◌, refl, ap, sym, ◌∙◌}
use mathlib.Core.Bool.{Bool, true, false, cond}
use Rattle.std.proofs.Common.{Result, Ok, Err}
use Rattle.std.specs.Result.{is_err}
use mathlib.Core.List.{List}
use native.Mathlib.Omega.{arith}
use borrow.Author.Tests.{eq-eqb, ne_eqb}
use lib.Dec.{eqb}
use lib.ListN.{length, take, drop}
use Rattle.records.specs.Numbers.{wrong_length}
use Rattle.records.specs.Verdicts.{accepted, refused, refused_unless}
use Rattle.records.specs.declared.Verdict.{Verdict}
use Rattle.records.proofs.VerdictLaws.{number_of, first_cons, first_last, or_else_hit, or_else_pass}
use Rattle.image.specs.Reading.{image_verdict, settings_of}
use Rattle.image.specs.declared.Settings.{Settings}
use Rattle.detectors.specs.Bank.{start_bank}
use Rattle.detectors.specs.Tick.{refused_on, engine_ticked, detected_of, as_detected}
use Rattle.detectors.specs.declared.Bank.{Bank}
use Rattle.detectors.specs.declared.Detected.{Detected}
use Rattle.detectors.specs.declared.Detection.{Detection}
use Rattle.detectors.specs.declared.Words.{Words}
use Rattle.records.proofs.ReturnLaws.{number_some}
use Rattle.records.specs.declared.Number.{Number}
use Rattle.records.specs.declared.Refusal.{Refusal}
use Rattle.recordings.specs.Recordings.{image_then, detected_after, recording_verdict, recorded}

-- ---- an answer field by field
-- the bank is given back in any case
pub bank_kept : (detection : Detection) → (as_detected detection).bank ≡ detection.bank
bank_kept detection = kept detection.bank detection.words
  where
    kept : (bank : Bank) (words : Result Words (Refusal Number)) → (detected_of bank words).bank ≡ bank
    kept bank (Ok words) = refl
    kept bank (Err refusal) = refl

pub words_accepted : (detection : Detection) → is_err detection.words ≡ false → (as_detected detection).verdict.number ≡ 0
words_accepted detection good = told detection.bank detection.words good
  where
    told : (bank : Bank) (words : Result Words (Refusal Number)) → is_err words ≡ false → (detected_of bank words).verdict.number ≡ 0
    told bank (Ok words) good = refl
    told bank (Err refusal) good = absurd (cc)

pub words_refused : (detection : Detection) → is_err detection.words ≡ true → ¬ ((as_detected detection).verdict.number ≡ 0)
words_refused detection bad = told detection.bank detection.words bad
  where
    told : (bank : Bank) (words : Result Words (Refusal Number)) → is_err words ≡ true → ¬ ((detected_of bank words).verdict.number ≡ 0)
    told bank (Ok words) bad = absurd (cc)
    told bank (Err refusal) bad = number_some refusal.kind

-- ---- the image's tests, then another length

module _ (image : List ℕ) where
  pub then_image : (right : Bool) → ¬ ((image_verdict image).number ≡ 0) → image_then image right ≡ image_verdict image
  unfolding image_then
  then_image right bad = first_cons _ _ ∙ or_else_hit _ _ bad

  module _ (good : (image_verdict image).number ≡ 0) where
    by_length : (right : Bool) → image_then image right ≡ refused_unless right wrong_length 0
    unfolding image_then
    by_length right = first_cons _ _ ∙ or_else_pass _ _ good ∙ first_last right wrong_length 0 (λ none. omega arith)

    pub then_right : (a b : ℕ) → a ≡ b → image_then image (eqb a b) ≡ accepted
    then_right a b same = by_length (eqb a b) ∙ ap (λ (right : Bool). refused_unless right wrong_length 0) (eq-eqb a b same)

    pub then_wrong : (a b : ℕ) → ¬ (a ≡ b) → image_then image (eqb a b) ≡ refused wrong_length 0
    then_wrong a b other = by_length (eqb a b) ∙ ap (λ (right : Bool). refused_unless right wrong_length 0) (ne_eqb a b other)

-- ---- a recording

module _ (settings : Settings) (recording : List ℕ) where
  -- the next engine tick, from the answer of the ones before
  pub one_more : (n width : ℕ) (before next : Detected) → width ≡ 220 → before ≡ detected_after settings recording n → before.verdict.number ≡ 0
      → next ≡ engine_ticked settings before.bank (take width (drop (220 * n) recording)) → next ≡ detected_after settings recording (n + 1)
  unfolding detected_after
  one_more n width before next wide is good ticked =
      let plus : n + 1 ≡ suc n = omega arith in
      ticked
      ∙ ap (λ (w : ℕ). engine_ticked settings before.bank (take w (drop (220 * n) recording))) wide
      ∙ ap (λ (d : Detected). engine_ticked settings d.bank (take 220 (drop (220 * n) recording))) is
      ∙ sym
      (ap (λ (holds : Bool). cond holds (engine_ticked settings (detected_after settings recording n).bank (take 220 (drop (220 * n) recording))) (detected_after settings recording n))
      (eq-eqb (detected_after settings recording n).verdict.number 0 (sym (ap (λ (d : Detected). d.verdict.number) is) ∙ good)))
      ∙ ap (detected_after settings recording) (sym plus)

  -- the first refusal stays
  stays : (n : ℕ) → ¬ ((detected_after settings recording n).verdict.number ≡ 0) → detected_after settings recording (suc n) ≡ detected_after settings recording n
  unfolding detected_after
  stays n bad =
      ap (λ (holds : Bool). cond holds (engine_ticked settings (detected_after settings recording n).bank (take 220 (drop (220 * n) recording))) (detected_after settings recording n))
      (ne_eqb (detected_after settings recording n).verdict.number 0 bad)

  pub refusal_stays : (n more : ℕ) → ¬ ((detected_after settings recording n).verdict.number ≡ 0)
      → detected_after settings recording (n + more) ≡ detected_after settings recording n
  refusal_stays n zero bad = let none : n + 0 ≡ n = omega arith in ap (detected_after settings recording) none
  refusal_stays n (suc more) bad =
      let plus : n + suc more ≡ suc (n + more) = omega arith in
      let same = refusal_stays n more bad in
      ap (detected_after settings recording) plus
      ∙ stays (n + more) (λ zero. bad (sym (ap (λ (d : Detected). d.verdict.number) same) ∙ zero))
      ∙ same

module _ (image recording : List ℕ) where
  recorded_refused : (verdict : Verdict) → recording_verdict image recording ≡ verdict → ¬ (verdict.number ≡ 0)
      → recorded image recording ≡ refused_on verdict start_bank
  unfolding recorded
  recorded_refused verdict is bad = rw (is, ne_eqb verdict.number 0 bad)

  -- the image is tested first
  pub recorded_bad_image : ¬ ((image_verdict image).number ≡ 0)
      → recorded image recording
      ≡ refused_on (image_verdict image) start_bank
  unfolding recording_verdict
  recorded_bad_image bad = recorded_refused (image_verdict image) (then_image image _ bad) bad

  module _ (good : (image_verdict image).number ≡ 0) where
    -- then the recording's length
    pub recorded_uneven : ¬ (length recording % 220 ≡ 0)
        → recorded image recording ≡ refused_on (refused wrong_length 0) start_bank
    unfolding recording_verdict
    recorded_uneven other =
        recorded_refused (refused wrong_length 0) (then_wrong image good (length recording % 220) 0 other) (λ none. omega arith)

    pub recorded_whole : length recording % 220 ≡ 0
        → recorded image recording ≡ detected_after (settings_of image) recording (length recording / 220)
    unfolding recorded recording_verdict
    recorded_whole even =
        rw (eq-eqb (recording_verdict image recording).number 0 (ap number_of (then_right image good (length recording % 220) 0 even)))
