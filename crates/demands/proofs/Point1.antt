-- The first point, refusals: a refused call gives its number and place, returns the state that it received, leaves every byte that it was lent, and has zero in
-- every other field. One theorem for each call that can refuse. Assumes nothing.
use Prim.Native.Nat.{ℕ}
use mathlib.Core.Path.{◌≡◌}
use mathlib.Core.List.{List, [], ◌∷◌}
use lib.ListN.{length}
use borrow.Author.Tests.{ne_eqb}
use Rattle.records.specs.Verdicts.{first_refusal}
use Rattle.records.specs.declared.Verdict.{Verdict}
use Rattle.image.specs.Reading.{image_verdict, zero_settings, reading}
use Rattle.writing.specs.Writing.{write_verdict, written}
use Rattle.image.specs.declared.Settings.{Settings}
use Rattle.detectors.specs.Tick.{frames_verdict, refused_on, ticked, engine_ticked}
use Rattle.detectors.specs.declared.Bank.{Bank}
use Rattle.pins.specs.Pins.{pins_verdict, driven}
use Rattle.machine.specs.declared.Node.{Node}
use Rattle.machine.specs.declared.State.{State}
use Rattle.tables.specs.Tables.{part_verdict, cell_written}
use Rattle.states.specs.States.{state_from, bytes_verdict}
use Rattle.engine.specs.Engine.{Form, state_verdict, word_verdict, refused_with, answered_at, went_from, ticked as form_ticked, shown_at}
use Rattle.translator.specs.Translation.{translation_verdict, translation, translated}
use Rattle.state_calls.specs.StateCalls.{start_verdict, start_written, ticked_on, shown_on, state_after}
use Rattle.state_calls.proofs.StateCallLaws as bytes_laws
use Rattle.recordings.specs.Recordings.{recorded}
use Rattle.capi.specs.Calls.{normal_verdict, normal_written}
use Rattle.capi.proofs.CallLaws as c_calls
use Rattle.demands.proofs.RecordingLaws.{Wordless, recorded_wordless}
use Rattle.image_laws.proofs.Refusals as images
use Rattle.detector_laws.proofs.Refusals as detectors

-- reading::read
pub read_refused : (image : List ℕ) → ¬ ((image_verdict image).number ≡ 0)
    → reading image ≡ record { verdict = image_verdict image; settings = zero_settings }
read_refused = images.reading_refused

-- writing::write
pub write_refused : (settings : Settings) (buffer : List ℕ) → ¬ ((write_verdict settings buffer).number ≡ 0) → written settings buffer ≡ buffer
write_refused = images.written_refused

-- detectors::tick: `refused_on` has the bank as received, and zero words
pub tick_refused : (settings : Settings) (bank : Bank) (frame : List ℕ) → ¬ ((frames_verdict 1 settings bank frame).number ≡ 0)
    → ticked settings bank frame ≡ refused_on (frames_verdict 1 settings bank frame) bank
unfolding ticked
tick_refused = detectors.refused_answer 1

-- detectors::engine_tick
pub engine_tick_refused : (settings : Settings) (bank : Bank) (frames : List ℕ) → ¬ ((frames_verdict 20 settings bank frames).number ≡ 0)
    → engine_ticked settings bank frames ≡ refused_on (frames_verdict 20 settings bank frames) bank
unfolding engine_ticked
engine_tick_refused = detectors.refused_answer 20

-- pins::pins
pub pins_refused : (settings : Settings) (outputs : ℕ) → ¬ ((pins_verdict settings outputs).number ≡ 0)
    → driven settings outputs ≡ record { verdict = pins_verdict settings outputs; pins = 0 }
unfolding driven
pins_refused settings outputs h = rw (ne_eqb (pins_verdict settings outputs).number 0 h)

-- a tick's verdict: the state's tests, then the word's
abbrev tick_verdict : Form → List ℕ → State → ℕ → Verdict
tick_verdict form bytes state word = first_refusal (state_verdict form bytes state ∷ word_verdict word ∷ [])

-- engine::tick: `refused_with` has the state as received, and zero outputs and step
pub form_tick_refused : (form : Form) (bytes : List ℕ) (state : State) (word : ℕ) → ¬ ((tick_verdict form bytes state word).number ≡ 0)
    → form_ticked form bytes state word ≡ refused_with (tick_verdict form bytes state word) state
unfolding form_ticked went_from answered_at
form_tick_refused form bytes state word h = rw (ne_eqb (tick_verdict form bytes state word).number 0 h)

-- engine::show
pub form_show_refused : (form : Form) (bytes : List ℕ) (state : State) → ¬ ((state_verdict form bytes state).number ≡ 0)
    → shown_at form bytes state ≡ refused_with (state_verdict form bytes state) state
unfolding shown_at answered_at
form_show_refused form bytes state h = rw (ne_eqb (state_verdict form bytes state).number 0 h)

-- tables::write_cell
pub write_cell_refused : (cell : Node) (part : List ℕ) → ¬ ((part_verdict part).number ≡ 0) → cell_written cell part ≡ part
unfolding cell_written
write_cell_refused cell part h = rw (ne_eqb (part_verdict part).number 0 h)

-- translator::translate
pub translate_refused : (sheet buffer : List ℕ) → ¬ ((translation_verdict sheet (length buffer)).number ≡ 0)
    → (translation sheet buffer ≡ record { verdict = translation_verdict sheet (length buffer); cells = 0 })
    × (translated sheet buffer ≡ buffer)
unfolding translation translated
translate_refused sheet buffer h =
    let refused = ne_eqb (translation_verdict sheet (length buffer)).number 0 h in (rw refused, rw refused)

-- state_calls::start
pub state_start_refused : (state : List ℕ) → ¬ ((start_verdict state).number ≡ 0) → start_written state ≡ state
unfolding start_written
state_start_refused state h = rw (ne_eqb (start_verdict state).number 0 h)

-- state_calls::tick: the eight bytes stay as received
pub state_tick_refused : (form : Form) (bytes state : List ℕ) (word : ℕ) → ¬ ((ticked_on form bytes state word).verdict.number ≡ 0)
    → state_after (ticked_on form bytes state word) state ≡ state
unfolding state_after
state_tick_refused form bytes state word h = rw (ne_eqb (ticked_on form bytes state word).verdict.number 0 h)

-- Their tests, and those of state_calls::show: first the state's bytes, with the state that they hold, no outputs and step 0,
pub tick_bytes_refused : (form : Form) (bytes state : List ℕ) (word : ℕ) → ¬ ((bytes_verdict state).number ≡ 0)
    → ticked_on form bytes state word ≡ refused_with (bytes_verdict state) (state_from state)
unfolding ticked_on
tick_bytes_refused form bytes state word = bytes_laws.on_bytes_refused (bytes_verdict state) (state_from state) _

pub show_bytes_refused : (form : Form) (bytes state : List ℕ) → ¬ ((bytes_verdict state).number ≡ 0)
    → shown_on form bytes state ≡ refused_with (bytes_verdict state) (state_from state)
unfolding shown_on
show_bytes_refused form bytes state = bytes_laws.on_bytes_refused (bytes_verdict state) (state_from state) _

-- then the library's own: on bytes that pass, the answer is the library's on the state that they hold.
pub tick_bytes_taken : (form : Form) (bytes state : List ℕ) (word : ℕ) → (bytes_verdict state).number ≡ 0
    → ticked_on form bytes state word ≡ form_ticked form bytes (state_from state) word
unfolding ticked_on
tick_bytes_taken form bytes state word = bytes_laws.on_bytes_passed (bytes_verdict state) (state_from state) _

pub show_bytes_taken : (form : Form) (bytes state : List ℕ) → (bytes_verdict state).number ≡ 0
    → shown_on form bytes state ≡ shown_at form bytes (state_from state)
unfolding shown_on
show_bytes_taken form bytes state = bytes_laws.on_bytes_passed (bytes_verdict state) (state_from state) _

-- recordings::recorded
pub recorded_refused : (image recording : List ℕ) → ¬ ((recorded image recording).verdict.number ≡ 0) → Wordless (recorded image recording)
recorded_refused = recorded_wordless

-- ---- the calls for C pack these answers; one more is theirs

-- wrackbasket_normal
pub c_normal_refused : (image buffer : List ℕ) → ¬ ((normal_verdict image buffer).number ≡ 0) → normal_written image buffer ≡ buffer
c_normal_refused = c_calls.normal_kept
