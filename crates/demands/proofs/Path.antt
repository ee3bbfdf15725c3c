-- The path: from an image and samples, by the detectors and the engine, to the pins; what the three points are for, and no paper asks for it.
-- `reading` is what `reading::read` answers, `engine_ticked` what `detectors::engine_tick` answers and `driven` what `pins::pins` answers; `sheet_run` and `table_run` are
-- what the engine's calls answer. Assumes nothing.
use Prim.Native.Nat.{ℕ, suc, ◌+◌, ◌<◌}
use mathlib.Core.Path.{◌≡◌, refl, ap, ◌∙◌}
use mathlib.Core.List.{List, [], ◌∷◌, map}
use lib.ListN.{length, get_or, length-map}
use Rattle.records.specs.Verdicts.{accepted}
use Rattle.records.proofs.Every.{Every, none, ◌also◌, Bytes}
use Rattle.image.specs.Reading.{reading}
use Rattle.image.specs.declared.Settings.{Settings}
use Rattle.writing.specs.Writing.{settings_verdict}
use Rattle.detectors.specs.Bank.{start_bank, bank_verdict}
use Rattle.channels.specs.Frame.{frame_at}
use Rattle.detectors.specs.Tick.{engine_ticked}
use Rattle.detectors.specs.declared.Bank.{Bank}
use Rattle.detectors.specs.declared.Detected.{Detected}
use Rattle.pins.specs.Pins.{driven}
use Rattle.pins.specs.Answers.{Driven}
use Rattle.engine.specs.Engine.{sheet_form, table_form}
use Rattle.engine.specs.Runs.{sheet_run, table_run}
use Rattle.engine.specs.declared.Ticked.{Ticked}
use Rattle.translator.specs.Translation.{translation}
use Rattle.detector_laws.proofs.Refusals.{Acceptable}
use Rattle.detector_laws.proofs.Calls.{words_fit}
use Rattle.demands.proofs.Point2Detectors.{start_accepted, accepted_again, accepted_exactly}
use Rattle.demands.proofs.Point3.{NoneRefused, lent_table, run_length}
use Rattle.demands.proofs.PathLaws.{read_settings, same_path}

-- ---- the words of the statement

-- the answers of one engine tick after the other, each from the bank that the one before gave back
unfoldable pub detected_run : Settings → Bank → List (List ℕ) → List Detected
detected_run settings bank [] = []
detected_run settings bank (tick ∷ ticks) = engine_ticked settings bank tick ∷ detected_run settings (engine_ticked settings bank tick).bank ticks

-- the fault words of these answers; a refused engine tick has the word 0
abbrev pub fault_words : Settings → Bank → List (List ℕ) → List ℕ
fault_words settings bank ticks = map (λ answer. answer.faults) (detected_run settings bank ticks)

-- the pins for the outputs of an answer of the engine
abbrev pub pins_at : Settings → Ticked → Driven
pins_at settings answer = driven settings answer.outputs

-- no call of the pins is refused
abbrev pub AllDriven : List Driven → Type 0
AllDriven pins = Every (λ answer. answer.verdict.number ≡ 0) pins

-- "all twenty frames, 220 bytes", with bits 5 to 7 of every level byte 0
abbrev pub TwentyFrames : List ℕ → Type 0
TwentyFrames tick = (length tick ≡ 220) × ((i : ℕ) → i < 20 → get_or (frame_at tick i) 10 0 < 32)

-- ---- the detectors' part

-- There is one fault word for each engine tick,
pub words_length : (settings : Settings) (bank : Bank) (ticks : List (List ℕ)) → length (fault_words settings bank ticks) ≡ length ticks
unfolding detected_run
words_length settings bank [] = refl
words_length settings bank (tick ∷ ticks) = ap suc (words_length settings (engine_ticked settings bank tick).bank ticks)

-- below 1024 as the engine asks, whatever the ticks.
pub words_below : (settings : Settings) (bank : Bank) (ticks : List (List ℕ)) → Every (λ word. word < 1024) (fault_words settings bank ticks)
unfolding detected_run engine_ticked
words_below settings bank [] = none
words_below settings bank (tick ∷ ticks) = (words_fit 20 settings bank tick).faults_fit also words_below settings (engine_ticked settings bank tick).bank ticks

-- From an accepted bank under accepted settings, no engine tick of twenty frames is refused.
pub ticks_taken : (settings : Settings) (bank : Bank) (ticks : List (List ℕ)) → (settings_verdict settings).number ≡ 0 → bank_verdict settings bank ≡ accepted
    → Every TwentyFrames ticks → Every (λ answer. answer.verdict.number ≡ 0) (detected_run settings bank ticks)
unfolding detected_run engine_ticked
ticks_taken settings bank [] good held none = none
ticks_taken settings bank (tick ∷ ticks) good held (fine also rest) =
    let fits : Acceptable 20 settings bank tick = record { length_right = fine.0; settings_accepted = good; bank_accepted = held; levels_low = fine.1 } in
    let taken = (accepted_exactly 20 settings bank tick).1 fits in
    taken also ticks_taken settings (engine_ticked settings bank tick).bank ticks good (accepted_again 20 settings bank tick taken) rest

-- ---- the path

-- For every accepted image, accepted sheet and list of engine ticks, the pins driven by the sheet's run and by the table's run, fed with the fault words that the
-- detectors give, are the same at the start and after every engine tick, and no call of the engine or of the pins is refused.
pub path : (image sheet buffer : List ℕ) (ticks : List (List ℕ)) → Bytes image → (reading image).verdict.number ≡ 0 → (translation sheet buffer).verdict.number ≡ 0
    → let settings = (reading image).settings in
    let words = fault_words settings start_bank ticks in
    (map (pins_at settings) (sheet_run sheet words) ≡ map (pins_at settings) (table_run (lent_table sheet buffer) words))
    × AllDriven (map (pins_at settings) (sheet_run sheet words))
    × AllDriven (map (pins_at settings) (table_run (lent_table sheet buffer) words))
    × NoneRefused (sheet_run sheet words)
    × NoneRefused (table_run (lent_table sheet buffer) words)
path image sheet buffer ticks bytes reads translates =
    same_path _ sheet buffer _ (read_settings image bytes reads) translates (words_below (reading image).settings start_bank ticks)

-- Where every engine tick is twenty frames with level bytes below 32, no engine tick along the path is refused.
pub path_ticks : (image : List ℕ) (ticks : List (List ℕ)) → Bytes image → (reading image).verdict.number ≡ 0 → Every TwentyFrames ticks
    → Every (λ answer. answer.verdict.number ≡ 0) (detected_run (reading image).settings start_bank ticks)
path_ticks image ticks bytes reads =
    let good = read_settings image bytes reads in ticks_taken _ start_bank ticks good (start_accepted _ good)

-- Both lists of pins have one entry for the start and one for each engine tick.
pub path_length : (settings : Settings) (sheet table : List ℕ) (ticks : List (List ℕ))
    → let words = fault_words settings start_bank ticks in
    (length (map (pins_at settings) (sheet_run sheet words)) ≡ 1 + length ticks) × (length (map (pins_at settings) (table_run table words)) ≡ 1 + length ticks)
path_length settings sheet table ticks =
    let words = fault_words settings start_bank ticks in
    let more = ap (λ (n : ℕ). 1 + n) (words_length settings start_bank ticks) in (
      length-map (sheet_run sheet words) (pins_at settings) ∙ run_length sheet_form sheet words ∙ more,
      length-map (table_run table words) (pins_at settings) ∙ run_length table_form table words ∙ more,
    )
