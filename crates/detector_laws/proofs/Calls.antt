-- The calls along a run: an accepted call leaves an accepted bank, and a run of frames from the start is a run of accepted calls. Assumes nothing.
use Prim.Native.Nat.{ℕ, zero, suc, ◌+◌, ◌*◌, ◌<◌}
use mathlib.Core.Path.{◌≡◌, ap, sym, subst, ◌∙◌}
use mathlib.Core.List.{List}
use native.Mathlib.Decide.{ℕ_discrete}
use native.Mathlib.Omega.{arith}
use lib.ListN.{length, get_or, drop, length-take, length-drop}
use lib.Seq.{take-take}
use Rattle.records.specs.Lists.{each}
use Rattle.records.specs.Numbers.{unreachable}
use Rattle.records.specs.Verdicts.{accepted}
use Rattle.records.proofs.WordLaws.{word_of_lt}
use Rattle.writing.specs.Writing.{settings_verdict}
use Rattle.image.specs.declared.Settings.{Settings}
use Rattle.detectors.specs.Bank.{faults_of, warnings_of, bank_verdict, start_bank}
use Rattle.channels.specs.Frame.{frame_at}
use Rattle.detectors.specs.Tick.{bank_at, words_at, words_over, trace, levels_verdict, frames_verdict, detected_as, detected_over, ticked, engine_ticked}
use Rattle.detectors.specs.declared.Words.{Words}
use Rattle.detectors.specs.declared.Bank.{Bank}
use Rattle.detectors.specs.declared.Detected.{Detected}
use Rattle.records.proofs.VerdictLaws.{number_of}
use Rattle.detector_laws.proofs.StateKept.{start_accepted, run_kept, run_accepted}
use Rattle.detector_laws.proofs.ChannelRule.{Agree, SameBits, same_bits}
use Rattle.detector_laws.proofs.EngineRule.{words_of_last, part_at, engine_bank_at, engine_words_at, engine_bank, frame_of_part, engine_same_bits}
use Rattle.detector_laws.proofs.Refusals.{Acceptable, refused_answer, accepted_answer, answer_number, accepted_exactly, verdict_exactly, accepted_levels, length_shows, levels_show}

-- the bank of an accepted call is accepted again, under the same settings
pub accepted_again : (n : ℕ) (settings : Settings) (bank : Bank) (frames : List ℕ) → (detected_over n settings bank frames).verdict.number ≡ 0
    → bank_verdict settings (detected_over n settings bank frames).bank ≡ accepted
accepted_again n settings bank frames h =
    let good = (accepted_exactly n settings bank frames).0 h in
    ap (λ (d : Detected). bank_verdict settings d.bank) (accepted_answer n settings bank frames ((verdict_exactly n settings bank frames).1 good))
    ∙ run_kept settings frames bank good.settings_accepted good.bank_accepted n

-- under accepted settings no call on a bank of a run from the start is refused 8, whatever its bytes
pub never_unreachable : (settings : Settings) (frames : List ℕ) (n : ℕ) → (settings_verdict settings).number ≡ 0 → (m : ℕ) (more : List ℕ)
    → ¬ ((detected_over m settings (bank_at settings frames start_bank n) more).verdict.number ≡ unreachable)
never_unreachable settings frames n good m more h =
    let bank = bank_at settings frames start_bank n in
    let held = run_accepted settings frames n good in
    let number = sym (answer_number m settings bank more) ∙ h in
    elim (ℕ_discrete (length more) (11 * m)) [
      | no wrong ↦ omega (arith, number, ap number_of (length_shows m settings bank more wrong))
      | yes right ↦ elim (ℕ_discrete (levels_verdict m more).number 0) [
        | yes low ↦ (let fine : Acceptable m settings bank more = record {
          length_right = right;
          settings_accepted = good;
          bank_accepted = held;
          levels_low = accepted_levels m more low;
        } in omega (arith, number, (verdict_exactly m settings bank more).1 fine))
        | no high ↦ omega (arith, number, ap number_of (levels_show m settings bank more right good held high))
      ]
    ]

-- ---- the words of an answer
-- the two together
abbrev pub words_of : Detected → Words
words_of answer = record { faults = answer.faults; warnings = answer.warnings }

-- both below 1024
pub record Fit (words : Words) : Type 0 where
  pub faults_fit : words.faults < 1024
  pub warnings_fit : words.warnings < 1024

tick_fits : (settings : Settings) (frames : List ℕ) (bank : Bank) (i : ℕ) → Fit (words_at settings frames bank i)
unfolding words_at faults_of warnings_of
tick_fits settings frames bank i = record { faults_fit = word_of_lt _ 10; warnings_fit = word_of_lt _ 10 }

over_fits : (w : ℕ → Words) (n : ℕ) → ((i : ℕ) → Fit (w i)) → Fit (words_over (each w 0 n))
unfolding words_over each
over_fits w zero fit = record { faults_fit = omega arith; warnings_fit = omega arith }
over_fits w (suc n) fit = subst Fit (sym (words_of_last w 0 (suc n) (omega arith))) (fit _)

-- whatever the input, both words of an answer are below 1024, as the engine asks
pub words_fit : (n : ℕ) (settings : Settings) (bank : Bank) (frames : List ℕ) → Fit (words_of (detected_over n settings bank frames))
unfolding trace
words_fit n settings bank frames =
    elim (ℕ_discrete (frames_verdict n settings bank frames).number 0) [
      | yes h ↦ rw (accepted_answer n settings bank frames h) (over_fits (words_at settings frames bank) n (tick_fits settings frames bank))
      | no h ↦ rw (refused_answer n settings bank frames h) (record { faults_fit = omega arith; warnings_fit = omega arith })
    ]

-- ---- a run of frames is a run of calls
-- settings and n frames that the calls accept
pub record AcceptedRun (n : ℕ) (settings : Settings) (frames : List ℕ) : Type 0 where
  pub settings_accepted : (settings_verdict settings).number ≡ 0
  pub length_right : length frames ≡ 11 * n
  pub levels_low : (i : ℕ) → i < n → get_or (frame_at frames i) 10 0 < 32

frame_of_frame : (frames : List ℕ) (i : ℕ) → frame_at (frame_at frames i) 0 ≡ frame_at frames i
unfolding frame_at
frame_of_frame frames i = take-take 11 11 (drop (11 * i) frames) (omega arith)

frame_length : (frames : List ℕ) (n i : ℕ) → length frames ≡ 11 * n → i < n → length (frame_at frames i) ≡ 11
unfolding frame_at
frame_length frames n i right below = simp (length-take, length-drop) (omega arith)

one_frame : (frames : List ℕ) (i : ℕ) → get_or (frame_at frames i) 10 0 < 32 → (j : ℕ) → j < 1 → get_or (frame_at (frame_at frames i) j) 10 0 < 32
one_frame frames i low zero h = rw (frame_of_frame frames i) low
one_frame frames i low (suc j) h = let none : ⊥ = omega arith in absurd none

-- tick i of a run is an accepted call on frame i: it answers the run's next bank and that tick's words
pub tick_of_run : (settings : Settings) (frames : List ℕ) (bank : Bank) (n : ℕ) → AcceptedRun n settings frames → bank_verdict settings bank ≡ accepted
    → (i : ℕ) → i < n → ticked settings (bank_at settings frames bank i) (frame_at frames i)
    ≡ detected_as (bank_at settings frames bank (suc i)) (words_at settings frames bank i)
unfolding ticked bank_at trace each words_over words_at
tick_of_run settings frames bank n good held i below =
    let now = bank_at settings frames bank i in
    accepted_answer 1 settings now (frame_at frames i)
    ((verdict_exactly 1 settings now (frame_at frames i)).1
    (record {
      length_right = frame_length frames n i good.length_right below;
      settings_accepted = good.settings_accepted;
      bank_accepted = run_kept settings frames bank good.settings_accepted held i;
      levels_low = one_frame frames i (good.levels_low i below);
    }))
    ∙ rw (frame_of_frame frames i)

-- ---- a run of parts of 220 bytes is a run of engine ticks
part_length : (bytes : List ℕ) (m e : ℕ) → length bytes ≡ 11 * (20 * m) → e < m → length (part_at bytes e) ≡ 220
unfolding part_at
part_length bytes m e right below = simp (length-take, length-drop) (omega arith)

-- engine tick e of a run is an accepted call on part e: it answers the run's next bank and that engine tick's words
pub engine_tick_of_run : (settings : Settings) (bytes : List ℕ) (bank : Bank) (m : ℕ) → AcceptedRun (20 * m) settings bytes
    → bank_verdict settings bank ≡ accepted → (e : ℕ) → e < m → engine_ticked settings (engine_bank_at settings bytes bank e) (part_at bytes e)
    ≡ detected_as (engine_bank_at settings bytes bank (suc e)) (engine_words_at settings bytes bank e)
unfolding engine_ticked engine_bank_at engine_words_at
engine_tick_of_run settings bytes bank m good held e below =
    let now = engine_bank_at settings bytes bank e in
    accepted_answer 20 settings now (part_at bytes e)
    ((verdict_exactly 20 settings now (part_at bytes e)).1
    (record {
      length_right = part_length bytes m e good.length_right below;
      settings_accepted = good.settings_accepted;
      bank_accepted =
          ap (bank_verdict settings) (engine_bank settings bytes bank e) ∙ run_kept settings bytes bank good.settings_accepted held (20 * e);
      levels_low = λ i h. rw (frame_of_part bytes e i h) (good.levels_low (20 * e + i) (omega arith));
    }))

-- ---- the channel rule, of the calls' own answers
-- "two runs of accepted settings and frames from the start that agree ... give that channel the same bits": tick by tick
pub ticks_same_bits : (k n : ℕ) (s t : Settings) (f g : List ℕ) → k < 10 → AcceptedRun n s f → AcceptedRun n t g → Agree k n s t f g → (i : ℕ) → i < n
    → SameBits k (words_of (ticked s (bank_at s f start_bank i) (frame_at f i))) (words_of (ticked t (bank_at t g start_bank i) (frame_at g i)))
ticks_same_bits k n s t f g below good fine agree i h =
    rw (
      tick_of_run s f start_bank n good (start_accepted s good.settings_accepted) i h,
      tick_of_run t g start_bank n fine (start_accepted t fine.settings_accepted) i h,
    )
    (same_bits k n s t f g below agree i h)

-- the same, engine tick by engine tick
pub engine_ticks_same_bits : (k m : ℕ) (s t : Settings) (f g : List ℕ) → k < 10 → AcceptedRun (20 * m) s f → AcceptedRun (20 * m) t g
    → Agree k (20 * m) s t f g → (e : ℕ) → e < m
    → SameBits k (words_of (engine_ticked s (engine_bank_at s f start_bank e) (part_at f e))) (words_of (engine_ticked t (engine_bank_at t g start_bank e) (part_at g e)))
engine_ticks_same_bits k m s t f g below good fine agree e h =
    rw (
      engine_tick_of_run s f start_bank m good (start_accepted s good.settings_accepted) e h,
      engine_tick_of_run t g start_bank m fine (start_accepted t fine.settings_accepted) e h,
    )
    (engine_same_bits k m s t f g below agree e h)
