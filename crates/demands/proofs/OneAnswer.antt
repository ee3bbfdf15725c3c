-- Any two answers that a promise allows are equal, bytes of lent memory included: one line for each public call. Assumes nothing.
use Prim.Native.Nat.{ℕ}
use mathlib.Core.Path.{◌≡◌, refl, ap, ap₂, sym, ◌∙◌}
use mathlib.Core.Bool.{Bool}
use mathlib.Core.List.{List, ◌∷◌}
use lib.Dec.{eqb}
use lib.ListN.{length, get_or}
use native.Mathlib.Omega.{arith}
use Rattle.std.specs.Prelude.{cond, Result, Ok, Err}
use Rattle.records.specs.Answers.{number_of, verdict_by, verdict_of, tested}
use Rattle.records.specs.declared.Number.{Number}
use Rattle.records.specs.declared.Refusal.{Refusal}
use Rattle.records.specs.Lists.{copied, whole_records}
use Rattle.records.specs.Bits.{bits, joined}
use Rattle.records.specs.Words.{word_at, bit_word}
use Rattle.records.specs.Verdicts.{accepted, refused, refused_unless, or_else}
use Rattle.records.specs.declared.Verdict.{Verdict}
use Rattle.text.specs.Text.{empty_line, appended, written as line_text, decimal_text, hex_text}
use Rattle.text.specs.declared.Line.{Line}
use Rattle.console.specs.Refusal.{refusal_line}
use Rattle.image.specs.Reading.{reading, as_reading, zero_settings}
use Rattle.image.specs.declared.Group.{Group}
use Rattle.image.specs.declared.Settings.{Settings}
use Rattle.writing.specs.Writing.{settings_verdict, write_verdict, written}
use Rattle.blank_image.specs.Blank.{blank_image}
use Rattle.channels.specs.Run.{ran_over}
use Rattle.channels.specs.declared.Channel.{Channel}
use Rattle.detectors.specs.Bank.{start_bank}
use Rattle.detectors.specs.Tick.{ticked, engine_ticked, detected_of, as_detected}
use Rattle.detectors.specs.declared.Bank.{Bank}
use Rattle.detectors.specs.declared.Detected.{Detected}
use Rattle.detectors.specs.declared.Detection.{Detection}
use Rattle.detectors.specs.declared.Words.{Words}
use Rattle.pins.specs.Pins.{driven, as_driven}
use Rattle.machine.specs.Fields.{elapsed_in_range}
use Rattle.machine.specs.Machine.{start_state, exit_number, tick_at}
use Rattle.machine.specs.Fields.{range_fault, jump_without_exit, exit_without_jump}
use Rattle.machine.specs.Answers.{Standing, fault_number, as_standing, as_stood}
use Rattle.machine.specs.declared.Fault.{Fault}
use Rattle.machine.specs.declared.Fault.TheVariants.{Range, JumpWithoutExit, ExitWithoutJump, LevelWithoutChannel}
use Rattle.machine.specs.declared.Exit.{Exit}
use Rattle.machine.specs.declared.Node.{Node}
use Rattle.machine.specs.declared.State.{State}
use Rattle.machine.specs.declared.Stood.{Stood}
use Rattle.tables.specs.Tables.{cell_at, part_verdict, cell_written, cell_standing, table_verdict}
use Rattle.steps.specs.Steps.{step_at, step_count, step_fault}
use Rattle.steps.specs.declared.Step.{Step}
use Rattle.sheets.specs.Sheets.{node_at, sheet_verdict}
use Rattle.states.specs.States.{state_from, state_bytes, bytes_verdict}
use Rattle.engine.specs.Engine.{Form, nodes_of, standing_at, ticked as form_ticked, shown_at}
use Rattle.engine.specs.Answers.{as_ticked, shows}
use Rattle.engine.specs.declared.Shown.{Shown}
use Rattle.engine.specs.declared.Ticked.{Ticked}
use Rattle.translator.specs.Answers.{as_translation}
use Rattle.translator.specs.Translation.{translation, translated}
use Rattle.packing.specs.Packed.{packed_parts, packed_translation, packed_verdict, packed_tick, packed_words}
use Rattle.state_calls.specs.StateCalls.{start_verdict, start_written, ticked_on, shown_on, state_after}
use Rattle.recordings.specs.Recordings.{recorded}
use Rattle.capi.specs.Calls.{normal_verdict, normal_written}
use Rattle.demands.proofs.ResultLaws.{one_result, one_result_by}

-- any two values that a promise allows are equal, where it fixes them by a definition
abbrev pub OneAnswer {ℓ} : {A : Type ℓ} → A → Type ℓ
OneAnswer {A} promised = (one other : A) → one ≡ promised → other ≡ promised → one ≡ other

pub one_answer {ℓ} : {A : Type ℓ} (promised : A) → OneAnswer promised
one_answer promised one other p q = p ∙ sym q

-- ---- image and writing

pub read : (image : List ℕ) → OneAnswer (reading image)
read image = one_answer (reading image)

pub settings_verdict_lem : (settings : Settings) → OneAnswer (settings_verdict settings)
settings_verdict_lem settings = one_answer (settings_verdict settings)

-- the answer, and the buffer
pub write : (settings : Settings) (buffer : List ℕ) → OneAnswer (write_verdict settings buffer) × OneAnswer (written settings buffer)
write settings buffer = (one_answer (write_verdict settings buffer), one_answer (written settings buffer))

-- Settings::default
pub zero : OneAnswer zero_settings
zero = one_answer zero_settings

pub blank : OneAnswer blank_image
blank = one_answer blank_image

-- ---- channels, detectors and pins

pub channel_run : (channel : Channel) (group : Group) (frames : List ℕ) (n k : ℕ) → OneAnswer (ran_over group frames k channel n)
channel_run channel group frames n k = one_answer (ran_over group frames k channel n)

pub start_bank_lem : OneAnswer start_bank
start_bank_lem = one_answer start_bank

pub tick : (settings : Settings) (bank : Bank) (frame : List ℕ) → OneAnswer (ticked settings bank frame)
tick settings bank frame = one_answer (ticked settings bank frame)

pub engine_tick : (settings : Settings) (bank : Bank) (frames : List ℕ) → OneAnswer (engine_ticked settings bank frames)
engine_tick settings bank frames = one_answer (engine_ticked settings bank frames)

-- Detected::from
pub as_detected_lem : (detection : Detection) → OneAnswer (as_detected detection)
as_detected_lem detection = one_answer (as_detected detection)

pub pins : (settings : Settings) (outputs : ℕ) → OneAnswer (driven settings outputs)
pins settings outputs = one_answer (driven settings outputs)

-- ---- steps, sheets and tables

pub sheet_verdict_lem : (sheet : List ℕ) → OneAnswer (sheet_verdict sheet)
sheet_verdict_lem sheet = one_answer (sheet_verdict sheet)

pub step_at_lem : (sheet : List ℕ) (k : ℕ) → OneAnswer (step_at sheet k)
step_at_lem sheet k = one_answer (step_at sheet k)

pub step_fault_lem : (step : Step) → OneAnswer (step_fault step)
step_fault_lem step = one_answer (step_fault step)

pub step_count_lem : (sheet : List ℕ) → OneAnswer (step_count sheet)
step_count_lem sheet = one_answer (step_count sheet)

pub node_at_lem : (sheet : List ℕ) (k : ℕ) → OneAnswer (node_at sheet k)
node_at_lem sheet k = one_answer (node_at sheet k)

pub table_verdict_lem : (table : List ℕ) → OneAnswer (table_verdict table)
table_verdict_lem table = one_answer (table_verdict table)

pub cell_standing_lem : (table : List ℕ) (k : ℕ) → OneAnswer (cell_standing table k)
cell_standing_lem table k = one_answer (cell_standing table k)

pub cell_at_lem : (table : List ℕ) (k : ℕ) → OneAnswer (cell_at table k)
cell_at_lem table k = one_answer (cell_at table k)

-- the answer, and the part
pub write_cell : (cell : Node) (part : List ℕ) → OneAnswer (part_verdict part) × OneAnswer (cell_written cell part)
write_cell cell part = (one_answer (part_verdict part), one_answer (cell_written cell part))

-- ---- machine and engine

-- Fault::number
pub fault_number_lem : (kind : Fault) → OneAnswer (fault_number kind)
fault_number_lem kind = one_answer (fault_number kind)

-- machine::start and engine::start
pub start_state_lem : OneAnswer start_state
start_state_lem = one_answer start_state

pub machine_tick : (node : Node) (word : ℕ) (state : State) → OneAnswer (tick_at node word state)
machine_tick node word state = one_answer (tick_at node word state)

pub exit_number_lem : (exit : Exit) → OneAnswer (exit_number exit)
exit_number_lem exit = one_answer (exit_number exit)

pub elapsed_in_range_lem : (timeout elapsed : ℕ) → OneAnswer (elapsed_in_range timeout elapsed)
elapsed_in_range_lem timeout elapsed = one_answer (elapsed_in_range timeout elapsed)

-- engine::tick
pub form_tick : (form : Form) (bytes : List ℕ) (state : State) (word : ℕ) → OneAnswer (form_ticked form bytes state word)
form_tick form bytes state word = one_answer (form_ticked form bytes state word)

-- engine::show
pub form_show : (form : Form) (bytes : List ℕ) (state : State) → OneAnswer (shown_at form bytes state)
form_show form bytes state = one_answer (shown_at form bytes state)

-- Shown::from
pub shows_lem : (node : Node) → OneAnswer (shows node)
shows_lem node = one_answer (shows node)

-- Ticked::of
pub as_ticked_lem : (state : State) (answer : Result Shown (Refusal Number)) → OneAnswer (as_ticked state answer)
as_ticked_lem state answer = one_answer (as_ticked state answer)

-- Form::standing, as `standing_once` reads it, and Form::node_at
pub standing_at_lem : (form : Form) (bytes : List ℕ) (k : ℕ) → OneAnswer (standing_at form bytes k)
standing_at_lem form bytes k = one_answer (standing_at form bytes k)

pub nodes_of_lem : (form : Form) (bytes : List ℕ) (k : ℕ) → OneAnswer (nodes_of form bytes k)
nodes_of_lem form bytes k = one_answer (nodes_of form bytes k)

-- ---- states: their bytes

pub state_from_lem : (bytes : List ℕ) → OneAnswer (state_from bytes)
state_from_lem bytes = one_answer (state_from bytes)

pub state_bytes_lem : (state : State) → OneAnswer (state_bytes state)
state_bytes_lem state = one_answer (state_bytes state)

pub bytes_verdict_lem : (bytes : List ℕ) → OneAnswer (bytes_verdict bytes)
bytes_verdict_lem bytes = one_answer (bytes_verdict bytes)

-- ---- state_calls: the answer, and the state's bytes

pub state_start : (state : List ℕ) → OneAnswer (start_verdict state) × OneAnswer (start_written state)
state_start state = (one_answer (start_verdict state), one_answer (start_written state))

-- state_calls::tick
pub state_tick : (form : Form) (bytes state : List ℕ) (word : ℕ)
    → let answer = ticked_on form bytes state word in OneAnswer answer × OneAnswer (state_after answer state)
state_tick form bytes state word = let answer = ticked_on form bytes state word in (one_answer answer, one_answer (state_after answer state))

-- state_calls::show
pub state_show : (form : Form) (bytes state : List ℕ) → OneAnswer (shown_on form bytes state)
state_show form bytes state = one_answer (shown_on form bytes state)

-- ---- recordings

pub record_all : (image recording : List ℕ) → OneAnswer (recorded image recording)
record_all image recording = one_answer (recorded image recording)

-- ---- translator: the answer, and the buffer

pub translate : (sheet buffer : List ℕ) → OneAnswer (translation sheet buffer) × OneAnswer (translated sheet buffer)
translate sheet buffer = (one_answer (translation sheet buffer), one_answer (translated sheet buffer))

-- ---- packing

pub pack : (verdict : Verdict) (cells : ℕ) → OneAnswer (packed_parts verdict cells)
pack verdict cells = one_answer (packed_parts verdict cells)

pub pack_tick : (answer : Ticked) → OneAnswer (packed_tick answer)
pack_tick answer = one_answer (packed_tick answer)

pub pack_words : (answer : Detected) → OneAnswer (packed_words answer)
pack_words answer = one_answer (packed_words answer)

-- ---- the calls for C

pub c_translate : (sheet table : List ℕ) → OneAnswer (packed_translation (translation sheet table)) × OneAnswer (translated sheet table)
c_translate sheet table = (one_answer (packed_translation (translation sheet table)), one_answer (translated sheet table))

pub c_normal : (image buffer : List ℕ) → OneAnswer (packed_verdict (normal_verdict image buffer)) × OneAnswer (normal_written image buffer)
c_normal image buffer = (one_answer (packed_verdict (normal_verdict image buffer)), one_answer (normal_written image buffer))

-- the answer, and the state's bytes
pub c_start : (state : List ℕ) → OneAnswer (packed_verdict (start_verdict state)) × OneAnswer (start_written state)
c_start state = (one_answer (packed_verdict (start_verdict state)), one_answer (start_written state))

-- wrackbasket_tick_table, wrackbasket_tick_sheet: the answer, and the state's bytes
pub c_tick : (form : Form) (bytes state : List ℕ) (word : ℕ)
    → let answer = ticked_on form bytes state word in OneAnswer (packed_tick answer) × OneAnswer (state_after answer state)
c_tick form bytes state word =
    let answer = ticked_on form bytes state word in (one_answer (packed_tick answer), one_answer (state_after answer state))

-- wrackbasket_show_table, wrackbasket_show_sheet
pub c_show : (form : Form) (bytes state : List ℕ) → OneAnswer (packed_tick (shown_on form bytes state))
c_show form bytes state = one_answer (packed_tick (shown_on form bytes state))

pub c_detect : (image recording : List ℕ) → OneAnswer (packed_words (recorded image recording))
c_detect image recording = one_answer (packed_words (recorded image recording))

-- ---- records

pub field : (byte low width : ℕ) → OneAnswer (bits byte low width)
field byte low width = one_answer (bits byte low width)

pub word_bit : (word k : ℕ) → OneAnswer (bits word k 1)
word_bit word k = one_answer (bits word k 1)

pub join : (value low rest : ℕ) → OneAnswer (joined value low rest)
join value low rest = one_answer (joined value low rest)

pub accept : OneAnswer accepted
accept = one_answer accepted

pub refuse : (number place : ℕ) → OneAnswer (refused number place)
refuse number place = one_answer (refused number place)

-- ensure: the answer itself, whatever the kinds
pub ensure : {K : Type 0} (holds : Bool) (kind : K) (place : ℕ) → OneAnswer (tested holds kind place)
ensure holds kind place = one_answer (tested holds kind place)

-- Verdict::of
pub verdict_by_lem : {A K : Type 0} (number : K → ℕ) (answer : Result A (Refusal K)) → OneAnswer (verdict_by number answer)
verdict_by_lem number answer = one_answer (verdict_by number answer)

-- Number::number
pub number_of_lem : (kind : Number) → OneAnswer (number_of kind)
number_of_lem kind = one_answer (number_of kind)

-- a test behind others, and two verdicts in their order, as `?` joins them
pub unless : (verdict : Verdict) (holds : Bool) (number place : ℕ) → OneAnswer (or_else verdict (refused_unless holds number place))
unless verdict holds number place = one_answer (or_else verdict (refused_unless holds number place))

pub then : (verdict other : Verdict) → OneAnswer (or_else verdict other)
then verdict other = one_answer (or_else verdict other)

pub word_at_lem : (bytes : List ℕ) (at : ℕ) → OneAnswer (word_at bytes at)
word_at_lem bytes at = one_answer (word_at bytes at)

pub byte_at : (bytes : List ℕ) (at : ℕ) → OneAnswer (get_or bytes at 0)
byte_at bytes at = one_answer (get_or bytes at 0)

pub bit : (on : Bool) (k : ℕ) → OneAnswer (bit_word on k)
bit on k = one_answer (bit_word on k)

-- the part
pub copy : (bytes part : List ℕ) → OneAnswer (copied bytes part)
copy bytes part = one_answer (copied bytes part)

pub is_whole : (bytes : List ℕ) (width : ℕ) → OneAnswer (whole_records width bytes)
is_whole bytes width = one_answer (whole_records width bytes)

-- ---- text and console

pub empty : OneAnswer empty_line
empty = one_answer empty_line

-- Line::count and console::print
pub count : (line : Line) → OneAnswer (length (line_text line))
count line = one_answer (length (line_text line))

pub word : (line : Line) (text : List ℕ) → OneAnswer (appended line text)
word line text = one_answer (appended line text)

pub decimal : (line : Line) (number : ℕ) → OneAnswer (appended line (decimal_text number))
decimal line number = one_answer (appended line (decimal_text number))

pub item : (line : Line) (number : ℕ) → OneAnswer (appended line (32 ∷ decimal_text number))
item line number = one_answer (appended line (32 ∷ decimal_text number))

pub hex : (line : Line) (number width : ℕ) → OneAnswer (appended line (hex_text width number))
hex line number width = one_answer (appended line (hex_text width number))

pub refusal : (part : List ℕ) (number place : ℕ) → OneAnswer (refusal_line part number place)
refusal part number place = one_answer (refusal_line part number place)

-- ---- answers that are `Ok` or `Err`: spelled out as a promise spells them, no two are the same

-- any two answers that a promise allows are equal, where it fixes them as `spelled` spells them out
abbrev pub OneResult : {A R : Type 0} → (Result A (Refusal Number) → R) → Type 0
OneResult {A = A} spelled = (one other : Result A (Refusal Number)) → spelled one ≡ spelled other → one ≡ other

-- the tests: settings_verdict, write, sheet_verdict, table_verdict, write_cell, bytes_verdict, state_calls::start
pub tests_once : OneResult {A = Unit {0}} verdict_of
tests_once = one_result verdict_of (λ v. v) (λ v. tt) (λ answer. refl) (λ x. refl)

read_told : (answer : Result Settings (Refusal Number)) → (as_reading answer).verdict ≡ verdict_of answer
read_told (Ok settings) = refl
read_told (Err refusal) = refl

pub read_once : OneResult as_reading
read_once = one_result as_reading (λ r. r.verdict) (λ r. r.settings) read_told (λ settings. refl)

pins_told : (answer : Result ℕ (Refusal Number)) → (as_driven answer).verdict ≡ verdict_of answer
pins_told (Ok pins) = refl
pins_told (Err refusal) = refl

pub pins_once : OneResult as_driven
pins_once = one_result as_driven (λ r. r.verdict) (λ r. r.pins) pins_told (λ pins. refl)

translate_told : (answer : Result ℕ (Refusal Number)) → (as_translation answer).verdict ≡ verdict_of answer
translate_told (Ok cells) = refl
translate_told (Err refusal) = refl

pub translate_once : OneResult as_translation
translate_once = one_result as_translation (λ r. r.verdict) (λ r. r.cells) translate_told (λ cells. refl)

standing_told : (node : Node) (answer : Result Node (Refusal Number)) → (as_standing node answer).verdict ≡ verdict_of answer
standing_told node (Ok stood) = refl
standing_told node (Err refusal) = refl

-- standing at a node of either form
pub standing_once : (node : Node) → OneResult (as_standing node)
standing_once node = one_result (as_standing node) (λ r. r.verdict) (λ r. r.node) (standing_told node) (λ stood. refl)

-- tables::cell_standing: the cell, and what its tests say
pub stood_once : (one other : Stood) → as_stood one ≡ as_stood other → one ≡ other
stood_once one other e =
    ap₂ (λ (node : Node) (tested : Result (Unit {0}) (Refusal Number)). record { node = node; tested = tested })
    (ap (λ (s : Standing). s.node) e)
    (tests_once one.tested other.tested (ap (λ (s : Standing). s.verdict) e))

shown_told : (state : State) (answer : Result Shown (Refusal Number)) → (as_ticked state answer).verdict ≡ verdict_of answer
shown_told state (Ok shown) = refl
shown_told state (Err refusal) = refl

-- tick and show of engine and of state_calls, from one state
pub shown_once : (state : State) → OneResult (as_ticked state)
shown_once state = one_result (as_ticked state) (λ r. r.verdict) (λ r. record { outputs = r.outputs; step = r.step }) (shown_told state) (λ shown. refl)

state_of : (state : State) (answer : Result Shown (Refusal Number)) → (as_ticked state answer).state ≡ state
state_of state (Ok shown) = refl
state_of state (Err refusal) = refl

-- engine::tick: the lent state after it, and the answer
pub tick_once : (after other : State) (one two : Result Shown (Refusal Number)) → as_ticked after one ≡ as_ticked other two → (after ≡ other) × (one ≡ two)
tick_once after other one two e =
    let states : after ≡ other = sym (state_of after one) ∙ ap (λ (t : Ticked). t.state) e ∙ state_of other two in
    (states, shown_once other one two (ap (λ (s : State). as_ticked s one) (sym states) ∙ e))

words_told : (bank : Bank) (answer : Result Words (Refusal Number)) → (detected_of bank answer).verdict ≡ verdict_of answer
words_told bank (Ok words) = refl
words_told bank (Err refusal) = refl

words_once : (bank : Bank) → OneResult (detected_of bank)
words_once bank = one_result (detected_of bank) (λ r. r.verdict) (λ r. record { faults = r.faults; warnings = r.warnings }) (words_told bank) (λ words. refl)

bank_of : (bank : Bank) (answer : Result Words (Refusal Number)) → (detected_of bank answer).bank ≡ bank
bank_of bank (Ok words) = refl
bank_of bank (Err refusal) = refl

-- tick and engine_tick of detectors, and recorded: the bank and the words
pub detection_once : (one other : Detection) → as_detected one ≡ as_detected other → one ≡ other
detection_once one other e =
    let banks : one.bank ≡ other.bank = sym (bank_of one.bank one.words) ∙ ap (λ (d : Detected). d.bank) e ∙ bank_of other.bank other.words in
    let words : one.words ≡ other.words = words_once other.bank one.words other.words (ap (λ (b : Bank). detected_of b one.words) (sym banks) ∙ e) in
    ap₂ (λ (bank : Bank) (words : Result Words (Refusal Number)). record { bank = bank; words = words }) banks words

-- steps::step_fault: its kinds of fault have numbers of their own
fault_of : ℕ → Fault
fault_of n = cond (eqb n range_fault) Range (cond (eqb n jump_without_exit) JumpWithoutExit (cond (eqb n exit_without_jump) ExitWithoutJump LevelWithoutChannel))

fault_back : (kind : Fault) → fault_of (fault_number kind) ≡ kind
unfolding fault_of
fault_back Range = refl
fault_back JumpWithoutExit = refl
fault_back ExitWithoutJump = refl
fault_back LevelWithoutChannel = refl

fault_some : (kind : Fault) → fault_number kind ≡ 0 → ⊥
fault_some Range e = absurd (omega arith)
fault_some JumpWithoutExit e = absurd (omega arith)
fault_some ExitWithoutJump e = absurd (omega arith)
fault_some LevelWithoutChannel e = absurd (omega arith)

pub faults_once : (one other : Result (Unit {0}) (Refusal Fault)) → verdict_by fault_number one ≡ verdict_by fault_number other → one ≡ other
faults_once = one_result_by fault_number fault_of fault_back fault_some (verdict_by fault_number) (λ v. v) (λ v. tt) (λ answer. refl) (λ x. refl)
