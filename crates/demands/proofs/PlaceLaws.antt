-- How large the place of a refusal can be. Assumes nothing.
use Prim.Native.Nat.{ℕ, zero, suc, ◌+◌, ◌*◌, ◌/◌, ◌%◌, ◌≤◌, ◌<◌}
use mathlib.Core.Path.{sym, subst}
use mathlib.Core.Bool.{Bool, true, false, cond, not}
use mathlib.Core.List.{List, [], ◌∷◌}
use native.Mathlib.Decide.{ℕ_discrete}
use native.Mathlib.Nat.{min-le_right}
use native.Mathlib.Omega.{arith}
use borrow.Author.Tests.{eq-eqb, ne_eqb}
use lib.Dec.{ltb, leb, eqb}
use lib.ListN.{length, get_or}
use Rattle.records.specs.Lists.{each}
use Rattle.records.specs.Numbers.{wrong_length, reserved, unprinted, out_of_range, repeated_tag, unknown_tag, too_many_cells, unreachable, bad_word, no_room}
use Rattle.records.specs.Tags.{repeats}
use Rattle.records.specs.Verdicts.{refused_unless, or_else, first_refusal}
use Rattle.records.specs.declared.Verdict.{Verdict}
use Rattle.records.proofs.Every.{Every, none, ◌also◌, Bytes}
use Rattle.records.proofs.VerdictLaws.{or_else_pass, or_else_hit, first_append}
use Rattle.image.specs.Codes.{code_number}
use Rattle.image.specs.Reading.{usable, printed, byte_verdict, image_verdict, settings_of, group_at}
use Rattle.image.specs.declared.Settings.{Settings}
use Rattle.writing.specs.Writing.{setting_byte, settings_verdict}
use Rattle.detectors.specs.Bank.{channel_at, in_range, bank_verdict}
use Rattle.detectors.specs.Tick.{levels_in_range, levels_verdict, frames_verdict, engine_ticked}
use Rattle.detectors.specs.declared.Bank.{Bank}
use Rattle.detectors.specs.declared.Detected.{Detected}
use Rattle.detector_laws.proofs.Refusals.{refused_answer, accepted_answer}
use Rattle.machine.specs.Fields.{word_in_range, elapsed_in_range}
use Rattle.machine.specs.declared.Node.{Node}
use Rattle.machine.specs.declared.State.{State}
use Rattle.steps.specs.Steps.{step_at, step_count, step_fault}
use Rattle.sheets.specs.Sheets.{is_sheet, fields_verdict, repeats_verdict, jumps_known, unknown_verdict, sheet_tests, sheet_verdict}
use Rattle.tables.specs.Tables.{is_table, cell_count, cell_at, cell_fault, fields_verdict as cell_fields, cell_tests, cell_verdict}
use Rattle.states.specs.States.{state_from, zeros_stand, bytes_verdict}
use Rattle.engine.specs.Engine.{Form, sheet_form, table_form, nodes_of, standing, state_tested, state_verdict, word_verdict, answered_at, went_from, ticked, shown_at}
use Rattle.engine.specs.declared.Ticked.{Ticked}
use Rattle.translator.specs.Translation.{cell_total, translation_verdict}
use Rattle.state_calls.specs.StateCalls.{start_verdict, on_bytes, ticked_on, shown_on}
use Rattle.state_calls.proofs.StateCallLaws.{on_bytes_passed, on_bytes_refused}
use Rattle.recordings.specs.Recordings.{image_then, start_detected, detected_after, recorded}
use Rattle.capi.specs.Calls.{normal_verdict}
use Rattle.recordings.proofs.RecordingLaws.{recorded_bad_image, recorded_uneven, recorded_whole}

-- ---- over any verdicts

abbrev pub Within : ℕ → Verdict → Type 0
Within most verdict = verdict.place ≤ most

unless_within : (most : ℕ) (holds : Bool) (number place : ℕ) → place ≤ most → Within most (refused_unless holds number place)
unless_within most true number place h = omega arith
unless_within most false number place h = h

either_within : (most : ℕ) (v w : Verdict) → Within most v → Within most w → Within most (or_else v w)
either_within most v w p q =
    elim (ℕ_discrete v.number 0) [
      | yes passes ↦ subst (Within most) (sym (or_else_pass v w passes)) q
      | no refuses ↦ subst (Within most) (sym (or_else_hit v w refuses)) p
    ]

first_within : (most : ℕ) (vs : List Verdict) → Every (Within most) vs → Within most (first_refusal vs)
unfolding first_refusal
first_within most [] none = omega arith
first_within most (v ∷ vs) (p also ps) = either_within most v (first_refusal vs) p (first_within most vs ps)

each_within : (most : ℕ) (f : ℕ → Verdict) (i n : ℕ) → ((j : ℕ) → j < i + n → Within most (f j)) → Every (Within most) (each f i n)
unfolding each
each_within most f i zero h = none
each_within most f i (suc n) h = h i (omega arith) also each_within most f (suc i) n (λ j l. h j (omega arith))

-- ---- the paper's verdicts

byte_within : (k j b address : ℕ) → address ≤ 79 → Within 79 (byte_verdict k j b address)
unfolding byte_verdict
byte_within k j b address h =
    first_within 79 _ (unless_within 79 (usable k j b) reserved address h also unless_within 79 (printed j b) unprinted address h also none)

pub image_within : (image : List ℕ) → Within 79 (image_verdict image)
unfolding image_verdict
image_within image =
    first_within 79 _
    (unless_within 79 (eqb (length image) 80) wrong_length 0 (omega arith)
    also each_within 79 _ 0 80 (λ a h. byte_within (a / 8) (a % 8) (get_or image a 0) a (omega arith)))

settings_within : (settings : Settings) → Within 79 (settings_verdict settings)
unfolding settings_verdict
settings_within settings =
    first_within 79 _
    (each_within 79 _ 0 80
    (λ a h. unless_within 79 (eqb (code_number (setting_byte settings a)) 0) (code_number (setting_byte settings a)) a (omega arith)))

frames_within : (n : ℕ) (settings : Settings) (bank : Bank) (frames : List ℕ) → Within 79 (frames_verdict n settings bank frames)
unfolding frames_verdict bank_verdict levels_verdict
frames_within n settings bank frames =
    first_within 79 _
    (unless_within 79 (eqb (length frames) (11 * n)) wrong_length 0 (omega arith)
    also settings_within settings
    also first_within 79 _
    (each_within 79 _ 0 10 (λ k h. unless_within 79 (in_range k (group_at settings k) (channel_at bank k)) unreachable k (omega arith)))
    also first_within 79 _ (each_within 79 _ 0 n (λ i h. unless_within 79 (levels_in_range frames i) bad_word 0 (omega arith)))
    also none)

-- one test for each step
steps_within : (sheet : List ℕ) (test : ℕ → Bool) (number : ℕ)
    → Within 62 (first_refusal (each (λ k. refused_unless (test k) number k) 0 (step_count sheet)))
unfolding step_count
steps_within sheet test number =
    first_within 62 _
    (each_within 62 _ 0 (step_count sheet) (λ k h. unless_within 62 (test k) number k (omega (arith, min-le_right (length sheet / 16) 63))))

tests_within : (sheet : List ℕ) → Every (Within 62) (sheet_tests sheet)
unfolding sheet_tests fields_verdict repeats_verdict unknown_verdict
tests_within sheet =
    unless_within 62 (is_sheet sheet) wrong_length 0 (omega arith)
    also steps_within sheet (λ k. eqb (step_fault (step_at sheet k)).number 0) out_of_range
    also steps_within sheet (λ j. not (repeats 16 sheet j)) repeated_tag
    also steps_within sheet (λ k. jumps_known sheet k) unknown_tag
    also none

sheet_within : (sheet : List ℕ) → Within 62 (sheet_verdict sheet)
unfolding sheet_verdict
sheet_within sheet = first_within 62 _ (tests_within sheet)

pub translation_within : (sheet : List ℕ) (room : ℕ) → Within 62 (translation_verdict sheet room)
unfolding translation_verdict
translation_within sheet room =
    subst (Within 62) (sym (first_append (sheet_tests sheet) _))
    (either_within 62 _ _ (first_within 62 _ (tests_within sheet))
    (first_within 62 _
    (unless_within 62 (leb (cell_total sheet) 63) too_many_cells 0 (omega arith)
    also unless_within 62 (leb (12 * cell_total sheet) room) no_room 0 (omega arith)
    also none)))

-- ---- the engine's answers

answered_within : (most : ℕ) (verdict : Verdict) (state : State) (node : Node) → Within most verdict → (answered_at verdict state node).verdict.place ≤ most
unfolding answered_at
answered_within most verdict state node h =
    elim (ℕ_discrete verdict.number 0) [
      | yes passes ↦ rw (eq-eqb verdict.number 0 passes) (omega arith)
      | no refuses ↦ rw (ne_eqb verdict.number 0 refuses) h
    ]

-- a state's tests, then the word
word_within : (most : ℕ) (state : Verdict) (word : ℕ) → Within most state → Within most (first_refusal (state ∷ word_verdict word ∷ []))
unfolding word_verdict
word_within most state word h = first_within most _ (h also unless_within most (word_in_range word) bad_word 0 (omega arith) also none)

cell_within : (table : List ℕ) (k : ℕ) → k < 256 → Within 255 (cell_verdict table k)
unfolding cell_verdict cell_tests cell_fields
cell_within table k h =
    first_within 255 _
    (unless_within 255 (is_table table) wrong_length 0 (omega arith)
    also unless_within 255 (ltb k (cell_count table)) unreachable 0 (omega arith)
    also unless_within 255 (eqb (cell_fault (cell_count table) (cell_at table k)).number 0) out_of_range k (omega arith)
    also none)

stood_within : (form : Form) (bytes : List ℕ) (k : ℕ) → k < 256 → Within 255 (standing form bytes k)
unfolding standing
stood_within table_form table k h = cell_within table k h
stood_within sheet_form sheet k h =
    first_within 255 _
    (omega (arith, sheet_within sheet) also unless_within 255 (ltb k (step_count sheet)) unreachable 0 (omega arith) also none)

state_within : (form : Form) (bytes : List ℕ) (state : State) → state.at < 256 → Within 255 (state_verdict form bytes state)
unfolding state_verdict state_tested
state_within form bytes state h =
    first_within 255 _
    (stood_within form bytes state.at h
    also unless_within 255 (elapsed_in_range (nodes_of form bytes state.at).timeout state.elapsed) unreachable 0 (omega arith)
    also none)

tick_place : (form : Form) (bytes : List ℕ) (state : State) (word : ℕ) → state.at < 256 → (ticked form bytes state word).verdict.place ≤ 255
unfolding ticked went_from
tick_place form bytes state word h = answered_within 255 _ _ _ (word_within 255 _ word (state_within form bytes state h))

show_place : (form : Form) (bytes : List ℕ) (state : State) → state.at < 256 → (shown_at form bytes state).verdict.place ≤ 255
unfolding shown_at
show_place form bytes state h = answered_within 255 _ _ _ (state_within form bytes state h)

-- ---- the calls for C

bytes_within : (state : List ℕ) → Within 255 (bytes_verdict state)
unfolding bytes_verdict
bytes_within state =
    first_within 255 _
    (unless_within 255 (eqb (length state) 8) wrong_length 0 (omega arith)
    also unless_within 255 (zeros_stand state) unreachable 0 (omega arith)
    also none)

on_bytes_within : (state : List ℕ) (received : State) (answer : Ticked) → answer.verdict.place ≤ 255
    → (on_bytes (bytes_verdict state) received answer).verdict.place ≤ 255
on_bytes_within state received answer h =
    elim (ℕ_discrete (bytes_verdict state).number 0) [
      | yes passes ↦ rw (on_bytes_passed (bytes_verdict state) received answer passes) h
      | no refuses ↦ rw (on_bytes_refused (bytes_verdict state) received answer refuses) (bytes_within state)
    ]

pub start_within : (state : List ℕ) → Within 0 (start_verdict state)
unfolding start_verdict
start_within state = unless_within 0 (eqb (length state) 8) wrong_length 0 (omega arith)

number_fits : (state : List ℕ) → Bytes state → (state_from state).at < 256
unfolding state_from
number_fits state bytes = bytes 0

pub ticked_within : (form : Form) (bytes state : List ℕ) (word : ℕ) → Bytes state → (ticked_on form bytes state word).verdict.place ≤ 255
unfolding ticked_on
ticked_within form bytes state word fits = on_bytes_within state _ _ (tick_place form bytes (state_from state) word (number_fits state fits))

pub shown_within : (form : Form) (bytes state : List ℕ) → Bytes state → (shown_on form bytes state).verdict.place ≤ 255
unfolding shown_on
shown_within form bytes state fits = on_bytes_within state _ _ (show_place form bytes (state_from state) (number_fits state fits))

pub normal_within : (image buffer : List ℕ) → Within 79 (normal_verdict image buffer)
unfolding normal_verdict image_then
normal_within image buffer =
    first_within 79 _ (image_within image also unless_within 79 (eqb (length buffer) 80) wrong_length 0 (omega arith) also none)

tick_within : (settings : Settings) (bank : Bank) (frames : List ℕ) → (engine_ticked settings bank frames).verdict.place ≤ 79
unfolding engine_ticked
tick_within settings bank frames =
    elim (ℕ_discrete (frames_verdict 20 settings bank frames).number 0) [
      | yes passes ↦ rw (accepted_answer 20 settings bank frames passes) (omega arith)
      | no refuses ↦ rw (refused_answer 20 settings bank frames refuses) (frames_within 20 settings bank frames)
    ]

after_within : (settings : Settings) (recording : List ℕ) (n : ℕ) → (detected_after settings recording n).verdict.place ≤ 79
unfolding detected_after start_detected
after_within settings recording zero = omega arith
after_within settings recording (suc n) =
    either (eqb (detected_after settings recording n).verdict.number 0) _ _ (tick_within settings _ _) (after_within settings recording n)
  where
    either : (b : Bool) (x y : Detected) → x.verdict.place ≤ 79 → y.verdict.place ≤ 79 → (cond b x y).verdict.place ≤ 79
    either true x y p q = p
    either false x y p q = q

pub recorded_within : (image recording : List ℕ) → (recorded image recording).verdict.place ≤ 79
recorded_within image recording =
    elim (ℕ_discrete (image_verdict image).number 0) [
      | no refused ↦ rw (recorded_bad_image image recording refused) (image_within image)
      | yes good ↦ elim (ℕ_discrete (length recording % 220) 0) [
        | no uneven ↦ rw (recorded_uneven image recording good uneven) (omega arith)
        | yes whole ↦ rw (recorded_whole image recording good whole) (after_within (settings_of image) recording (length recording / 220))
      ]
    ]
