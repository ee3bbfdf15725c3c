-- What a call on n frames answers, when it accepts, and in which order it tests; n is 1 for the tick and 20 for the engine tick. Assumes nothing.
use Prim.Native.Nat.{ℕ, ◌*◌, ◌<◌}
use mathlib.Core.Logic.{◌↔◌}
use mathlib.Core.Path.{◌≡◌, ap, sym, ◌∙◌}
use mathlib.Core.List.{List, [], ◌∷◌}
use native.Mathlib.Nat.{suc-ne-zero}
use native.Mathlib.Decide.{ℕ_discrete}
use borrow.Author.Tests.{eq-eqb, ne_eqb, ltb-true, lt-ltb}
use lib.Dec.{eqb}
use lib.ListN.{length, get_or}
use Rattle.records.specs.Numbers.{wrong_length, bad_word}
use Rattle.records.specs.Verdicts.{accepted, refused_unless, or_else, first_refusal}
use Rattle.records.specs.declared.Verdict.{Verdict}
use Rattle.records.proofs.VerdictLaws.{or_else_pass, or_else_hit, first_accepted, FirstAt, first_shows, shows_first}
use Rattle.records.proofs.Every.{none, ◌also◌}
use Rattle.records.proofs.TestLaws.{eq_test, unless_passed, unless_passes, all_zero, all_pass}
use Rattle.writing.specs.Writing.{settings_verdict}
use Rattle.image.specs.declared.Settings.{Settings}
use Rattle.detectors.specs.Bank.{bank_verdict}
use Rattle.channels.specs.Frame.{frame_at}
use Rattle.detectors.specs.Tick.{bank_at, words_over, trace, levels_in_range, levels_verdict, frames_verdict, detected_as, refused_on, detected, detected_over}
use Rattle.detectors.specs.declared.Bank.{Bank}
use Rattle.detectors.specs.declared.Detected.{Detected}
use Rattle.detector_laws.proofs.BankRange.{bank_zero}
use Rattle.records.proofs.VerdictLaws.{number_of, unless_zero, unless_refused, tests_accepted, accepted_tests, lowest_shows, shows_lowest}

-- ---- the level bytes
-- the test of frame i's
abbrev level_test : List ℕ → ℕ → Verdict
level_test frames i = refused_unless (levels_in_range frames i) bad_word 0

module _ (n : ℕ) (frames : List ℕ) where
  -- accepted exactly when bits 5 to 7 of every level byte are 0
  pub levels_accepted : ((i : ℕ) → i < n → get_or (frame_at frames i) 10 0 < 32) → levels_verdict n frames ≡ accepted
  unfolding levels_verdict levels_in_range
  levels_accepted h = tests_accepted (level_test frames) n (λ i below. rw (lt-ltb _ _ (h i below)))

  -- and the other way
  pub accepted_levels : (levels_verdict n frames).number ≡ 0 → (i : ℕ) → i < n → get_or (frame_at frames i) 10 0 < 32
  unfolding levels_verdict levels_in_range
  accepted_levels h i below =
      ltb-true _ _ (unless_zero (levels_in_range frames i) bad_word 0 (suc-ne-zero 8) (accepted_tests (level_test frames) n h i below))

  -- refused, it is 9 at 0, whichever frame it is
  pub levels_refused : ¬ ((levels_verdict n frames).number ≡ 0) → levels_verdict n frames ≡ record { number = bad_word; place = 0 }
  unfolding levels_verdict
  levels_refused h =
      let lowest = shows_lowest (level_test frames) n h in
      lowest_shows (level_test frames) n lowest.0 lowest.1 ∙ unless_refused (levels_in_range frames lowest.0) bad_word 0 lowest.1.refuses

-- ---- what a call asks of its input
-- the four conditions
pub record Acceptable (n : ℕ) (settings : Settings) (bank : Bank) (frames : List ℕ) : Type 0 where
  pub length_right : length frames ≡ 11 * n
  pub settings_accepted : (settings_verdict settings).number ≡ 0
  pub bank_accepted : bank_verdict settings bank ≡ accepted
  pub levels_low : (i : ℕ) → i < n → get_or (frame_at frames i) 10 0 < 32

-- the four tests in their order
abbrev pub tests : ℕ → Settings → Bank → List ℕ → List Verdict
tests n settings bank frames =
    refused_unless (eqb (length frames) (11 * n)) wrong_length 0 ∷ settings_verdict settings ∷ bank_verdict settings bank ∷ levels_verdict n frames ∷ []

-- four verdicts accept
abbrev FourPass : Verdict → Verdict → Verdict → Verdict → Type 0
FourPass v w x y = (v.number ≡ 0) × (w.number ≡ 0) × (x.number ≡ 0) × (y.number ≡ 0)

-- each does, where the first refusal of the four is none
four_pass : (v w x y : Verdict) → (first_refusal (v ∷ w ∷ x ∷ y ∷ [])).number ≡ 0 → FourPass v w x y
four_pass v w x y e =
    elim (all_pass (v ∷ w ∷ x ∷ y ∷ []) e) [ p also q also r also s also none ↦ (p, q, r, s) ]

-- and the other way
four_passed : (v w x y : Verdict) → FourPass v w x y → (first_refusal (v ∷ w ∷ x ∷ y ∷ [])).number ≡ 0
four_passed v w x y h = all_zero (v ∷ w ∷ x ∷ y ∷ []) (h.0 also h.1 also h.2 also h.3 also none)

module _ (n : ℕ) (settings : Settings) (bank : Bank) (frames : List ℕ) where
  -- ---- the answers
  -- a refused call gives back the bank it received and zero words, with the verdict
  pub refused_answer : ¬ ((frames_verdict n settings bank frames).number ≡ 0)
      → detected_over n settings bank frames ≡ refused_on (frames_verdict n settings bank frames) bank
  unfolding detected_over detected
  refused_answer h = rw (ne_eqb _ _ h)

  -- an accepted call answers number 0 at place 0, the bank after the frames, and the words over them
  pub accepted_answer : (frames_verdict n settings bank frames).number ≡ 0
      → detected_over n settings bank frames ≡ detected_as (bank_at settings frames bank n) (words_over (trace settings frames bank n))
  unfolding detected_over detected
  accepted_answer h = rw (eq-eqb _ _ h)

  -- the answer has the verdict
  pub answer_verdict : (detected_over n settings bank frames).verdict ≡ frames_verdict n settings bank frames
  unfolding frames_verdict
  answer_verdict =
      elim (ℕ_discrete (frames_verdict n settings bank frames).number 0) [
        | yes h ↦ ap (λ (d : Detected). d.verdict) (accepted_answer h) ∙ sym (first_accepted (tests n settings bank frames) h)
        | no h ↦ ap (λ (d : Detected). d.verdict) (refused_answer h)
      ]

  -- and so its number
  pub answer_number : (detected_over n settings bank frames).verdict.number ≡ (frames_verdict n settings bank frames).number
  answer_number = ap number_of answer_verdict

  -- any two answers that the promise allows are equal
  pub one_answer : (r s : Detected) → r ≡ detected_over n settings bank frames → s ≡ detected_over n settings bank frames → r ≡ s
  one_answer r s p q = p ∙ sym q

  -- ---- acceptance
  -- the verdict is number 0 exactly when the input is acceptable
  pub verdict_exactly : ((frames_verdict n settings bank frames).number ≡ 0) ↔ Acceptable n settings bank frames
  unfolding frames_verdict
  verdict_exactly = (
    λ e.
        let passed = four_pass _ _ _ _ e in
        record {
          length_right = unless_passed (eq_test _ _) wrong_length 0 (suc-ne-zero 0) passed.0;
          settings_accepted = passed.1;
          bank_accepted = bank_zero settings bank passed.2;
          levels_low = accepted_levels n frames passed.3;
        },
    λ h.
        four_passed _ _ _ _ (
          unless_passes (eq_test _ _) wrong_length 0 h.length_right,
          h.settings_accepted,
          ap number_of h.bank_accepted,
          ap number_of (levels_accepted n frames h.levels_low),
        ),
  )

  -- a call is accepted exactly when its input is acceptable
  pub accepted_exactly : ((detected_over n settings bank frames).verdict.number ≡ 0) ↔ Acceptable n settings bank frames
  accepted_exactly = (λ h. verdict_exactly.0 (sym answer_number ∙ h), λ h. answer_number ∙ verdict_exactly.1 h)

  -- ---- "Tests run in the order 1, 4, 8, 9"
  -- a test's refusal shows where all before it pass
  pub first_test_shows : (j : ℕ) → FirstAt (tests n settings bank frames) j
      → frames_verdict n settings bank frames ≡ get_or (tests n settings bank frames) j accepted
  unfolding frames_verdict
  first_test_shows j first = first_shows (tests n settings bank frames) j first

  -- and no refusal shows but such a test's
  pub shown_is_first : ¬ ((frames_verdict n settings bank frames).number ≡ 0) → (j : ℕ) × FirstAt (tests n settings bank frames) j
  unfolding frames_verdict
  shown_is_first refused = shows_first (tests n settings bank frames) refused

  -- 1 at 0 where the length is wrong
  pub length_shows : ¬ (length frames ≡ 11 * n) → frames_verdict n settings bank frames ≡ record { number = wrong_length; place = 0 }
  unfolding frames_verdict first_refusal or_else
  length_shows wrong = rw (ne_eqb _ _ wrong)

  -- the settings' own refusal where the length is right
  pub settings_show : length frames ≡ 11 * n → ¬ ((settings_verdict settings).number ≡ 0) → frames_verdict n settings bank frames ≡ settings_verdict settings
  unfolding frames_verdict first_refusal
  settings_show right refused = or_else_pass _ _ (rw (eq-eqb _ _ right)) ∙ or_else_hit _ _ refused

  -- the bank's own refusal where the length is right and the settings are accepted
  pub bank_shows : length frames ≡ 11 * n → (settings_verdict settings).number ≡ 0 → ¬ ((bank_verdict settings bank).number ≡ 0)
      → frames_verdict n settings bank frames ≡ bank_verdict settings bank
  unfolding frames_verdict first_refusal
  bank_shows right good refused = or_else_pass _ _ (rw (eq-eqb _ _ right)) ∙ or_else_pass _ _ good ∙ or_else_hit _ _ refused

  -- 9 at 0 where the length is right, settings and bank are accepted, and the level bytes are refused
  pub levels_show : length frames ≡ 11 * n → (settings_verdict settings).number ≡ 0 → bank_verdict settings bank ≡ accepted
      → ¬ ((levels_verdict n frames).number ≡ 0) → frames_verdict n settings bank frames ≡ record { number = bad_word; place = 0 }
  unfolding frames_verdict first_refusal or_else
  levels_show right good held refused = rw (eq-eqb _ _ right, eq-eqb _ _ good, held, levels_refused n frames refused)
