-- The third point: a sheet is translated by the paper's rule unless the paper names the reason, and the table runs as the sheet runs.
-- `translation` is what `translator::translate` answers and `translated` what it leaves in the buffer; `sheet_run` and `table_run` are what the
-- engine's calls answer at the start and after every tick. Assumes nothing.
use Prim.Native.Nat.{ℕ, ◌+◌, ◌*◌, ◌/◌, ◌≤◌, ◌<◌, max}
use mathlib.Core.Path.{◌≡◌}
use mathlib.Core.List.{List, map}
use mathlib.Core.Bool.{true, false}
use mathlib.Core.Logic.{◌↔◌}
use lib.ListN.{length, get_or, take, drop}
use Rattle.records.specs.Lists.{each}
use Rattle.records.specs.Verdicts.{accepted}
use Rattle.records.specs.Tags.{tag_at, repeats, look_up}
use Rattle.records.specs.declared.Verdict.{Verdict}
use Rattle.records.proofs.Every.{Every, Bytes}
use Rattle.records.proofs.TagLaws as tag_laws
use Rattle.machine.specs.Machine.{start_state, tick_on}
use Rattle.machine.specs.declared.State.{State}
use Rattle.tables.specs.Tables.{cell_at, cell_count, cell_verdict, table_verdict}
use Rattle.steps.specs.Steps.{step_at, step_count}
use Rattle.sheets.specs.Sheets.{node_at, sheet_verdict}
use Rattle.sheets.proofs.AcceptedSheet.{AcceptedSheet}
use Rattle.sheets.proofs.AcceptedSheet as sheets
use Rattle.engine.specs.Engine.{Form, sheet_form, table_form, sheet_state_verdict, sheet_ticked, table_state_verdict, table_ticked}
use Rattle.engine.specs.Runs.{run_of, sheet_run, table_run}
use Rattle.engine.specs.declared.Ticked.{Ticked}
use Rattle.translator.specs.Translation.{cells_of, first_cell, cell_total, cut_at, table_of, translation_verdict, translation, translated}
use Rattle.translator.proofs.CellCounts.{sum}
use Rattle.translator.proofs.CellCounts as counts
use Rattle.translation_laws.proofs.AcceptedTable.{TableLength, AcceptedCell, AcceptedTable}
use Rattle.translation_laws.proofs.AcceptedTable as tables
use Rattle.translation_laws.proofs.RefusedSheet as refused_sheets
use Rattle.translation_laws.proofs.RefusedTable as refused_tables
use Rattle.translation_laws.proofs.TranslationLaws.{Refused}
use Rattle.translation_laws.proofs.TranslationLaws as translations
use Rattle.translation_laws.proofs.TranslatedTable as translated_tables
use Rattle.translation_laws.proofs.StateKept as state_kept
use Rattle.translation_laws.proofs.StateKept.{whole_verdict}
use Rattle.translation_laws.proofs.Simulation.{table_state}
use Rattle.translation_laws.proofs.Simulation as simulation
use Rattle.translation_laws.proofs.ThirdPoint as third
use Rattle.translation_laws.proofs.WholeTags as whole_tags

-- ---- the third point

-- what an answer of the engine shows
abbrev pub shown : Ticked → ℕ × ℕ
shown answer = (answer.outputs, answer.step)

-- no answer of a run is refused
abbrev pub NoneRefused : List Ticked → Type 0
NoneRefused run = Every (λ answer. answer.verdict.number ≡ 0) run

-- the table in the lent buffer: twelve bytes for each cell, from the first byte on
abbrev pub lent_table : List ℕ → List ℕ → List ℕ
lent_table sheet buffer = take (12 * (translation sheet buffer).cells) (translated sheet buffer)

-- For every accepted sheet, every buffer and every list of words below 1024, the empty list too: the sheet's run and the run of the table that stands in the
-- lent buffer show the same outputs and the same step at the start and after every tick, and no tick of either is refused.
pub third_point : (sheet buffer words : List ℕ) → (translation sheet buffer).verdict.number ≡ 0 → Every (λ word. word < 1024) words
    → (map shown (sheet_run sheet words) ≡ map shown (table_run (lent_table sheet buffer) words))
    × NoneRefused (sheet_run sheet words)
    × NoneRefused (table_run (lent_table sheet buffer) words)
third_point sheet buffer words translates below =
    let run = third.third_point sheet buffer words translates below in (run.same, run.sheet, run.table)

-- Both runs have an answer for the start and one for each word.
pub run_length : (form : Form) (bytes words : List ℕ) → length (run_of form bytes words) ≡ 1 + length words
run_length = third.run_length

-- Why: `table_state` takes the sheet's states to the table's, `elapsed / 4000` cells past the step's first with the rest elapsed. It takes the start to the start,
pub start_follows : (sheet : List ℕ) → table_state sheet start_state ≡ start_state
start_follows = simulation.start_follows

-- and from every accepted state of an accepted sheet, a tick of the table goes where the sheet's tick goes,
pub tick_follows : (sheet : List ℕ) → (sheet_verdict sheet).number ≡ 0 → cell_total sheet ≤ 63 → (state : State) → (sheet_state_verdict sheet state).number ≡ 0
    → (word : ℕ) → tick_on (cell_at (table_of sheet)) word (table_state sheet state) ≡ table_state sheet (tick_on (node_at sheet) word state)
tick_follows = third.tick_same

-- and the two show the same.
pub outputs_follow : (sheet : List ℕ) → (sheet_verdict sheet).number ≡ 0 → cell_total sheet ≤ 63 → (state : State) → (sheet_state_verdict sheet state).number ≡ 0
    → (node_at sheet state.at).outputs ≡ (cell_at (table_of sheet) (table_state sheet state).at).outputs
outputs_follow = third.outputs_same

pub step_follows : (sheet : List ℕ) → (sheet_verdict sheet).number ≡ 0 → cell_total sheet ≤ 63 → (state : State) → (sheet_state_verdict sheet state).number ≡ 0
    → (node_at sheet state.at).step ≡ (cell_at (table_of sheet) (table_state sheet state).at).step
step_follows = third.step_same

-- ---- unless the paper names the reason

-- A sheet is translated exactly when it passes the sheet's tests, takes at most 63 cells and has twelve bytes of room for each.
pub translated_exactly : (sheet buffer : List ℕ)
    → ((translation sheet buffer).verdict.number ≡ 0) ↔ (AcceptedSheet sheet × (cell_total sheet ≤ 63) × (12 * cell_total sheet ≤ length buffer))
translated_exactly = translations.translation_accepted

-- Each reason of the paper is a refusal, with no cell; every refusal has one of them, the first test that fails; and it writes no byte.
pub refused_by : (sheet buffer : List ℕ) {v : Verdict} → Refused sheet (length buffer) v
    → translation sheet buffer ≡ record { verdict = v; cells = 0 }
refused_by = translations.refused_answer

pub refusals : (sheet buffer : List ℕ) → ¬ ((translation sheet buffer).verdict.number ≡ 0) → Refused sheet (length buffer) (translation_verdict sheet (length buffer))
unfolding translation
refusals sheet buffer = translations.shows_refused sheet (length buffer)

pub refused_writes_nothing : (sheet buffer : List ℕ) → ¬ ((translation sheet buffer).verdict.number ≡ 0) → translated sheet buffer ≡ buffer
refused_writes_nothing = translations.refused_bytes

-- ---- which sheets and tables are accepted

-- the paper's conditions on a sheet, and on a table; `whole_verdict` is what `sheets::sheet_verdict` answers, and `tables::table_verdict`
abbrev pub Allowed : Form → List ℕ → Type 0
Allowed sheet_form sheet = AcceptedSheet sheet
Allowed table_form table = AcceptedTable table

-- the paper's refusals of it, in the order of the tests, each at the lowest step or cell
abbrev pub RefusedBy : Form → List ℕ → Verdict → Type 0
RefusedBy sheet_form sheet v = refused_sheets.Refused sheet v
RefusedBy table_form table v = refused_tables.Refused table v

-- The verdict of a whole sheet, or of a whole table, accepts exactly those that the paper's rules allow.
pub whole_accepted : (form : Form) (bytes : List ℕ) → ((whole_verdict form bytes).number ≡ 0) ↔ Allowed form bytes
whole_accepted sheet_form = sheets.sheet_accepted
whole_accepted table_form = tables.table_accepted

-- It refuses by the first test that fails, at the lowest step or cell.
pub whole_refused : (form : Form) (bytes : List ℕ) {v : Verdict} → RefusedBy form bytes v → whole_verdict form bytes ≡ v
whole_refused sheet_form = refused_sheets.refused_shows
whole_refused table_form = refused_tables.refused_shows

pub whole_refusals : (form : Form) (bytes : List ℕ) → ¬ ((whole_verdict form bytes).number ≡ 0) → RefusedBy form bytes (whole_verdict form bytes)
whole_refusals sheet_form = refused_sheets.shows_refused
whole_refusals table_form = refused_tables.shows_refused

-- ---- the table

-- The number of cells is the sum of the rounded-up quotients, each at least one.
pub cell_count_lem : (sheet : List ℕ) → cell_total sheet ≡ sum (each (λ i. max 1 (((step_at sheet i).timeout + 3999) / 4000)) 0 (step_count sheet))
cell_count_lem = counts.total_sum

-- Cell j of step i stands j past the step's first cell, and is the cut that the paper describes.
pub cells_stand : (sheet buffer : List ℕ) → (translation sheet buffer).verdict.number ≡ 0 → (i j : ℕ) → i < step_count sheet → j < cells_of sheet i
    → cell_at (take (12 * (translation sheet buffer).cells) (translated sheet buffer)) (first_cell sheet i + j) ≡ cut_at sheet i j
cells_stand = translations.written_cell

-- Bytes beyond the cells stay, and the buffer keeps its length.
pub bytes_beyond : (sheet buffer : List ℕ) → drop (12 * (translation sheet buffer).cells) (translated sheet buffer) ≡ drop (12 * (translation sheet buffer).cells) buffer
bytes_beyond = translations.bytes_beyond

pub bytes_length : (sheet buffer : List ℕ) → length (translated sheet buffer) ≡ length buffer
bytes_length = translations.bytes_length

-- A translated table passes the whole-table verdict.
pub translated_passes : (sheet : List ℕ) → (sheet_verdict sheet).number ≡ 0 → cell_total sheet ≤ 63 → table_verdict (table_of sheet) ≡ accepted
translated_passes = translated_tables.translated_passes

-- The verdict of one cell accepts exactly the cells of a table of the right length that the paper's rules allow.
pub cell_accepted : (table : List ℕ) (k : ℕ)
    → ((cell_verdict table k).number ≡ 0) ↔ (TableLength table × (k < cell_count table) × AcceptedCell (cell_count table) (cell_at table k))
cell_accepted = tables.verdict_accepted

-- A table that passes the whole-table verdict refuses no tick from an accepted state with a word below 1024, and the state is accepted again.
pub table_ticks : (table : List ℕ) → (table_verdict table).number ≡ 0 → (state : State) (word : ℕ) → (table_state_verdict table state).number ≡ 0 → word < 1024
    → ((table_ticked table state word).verdict.number ≡ 0) × (table_state_verdict table (table_ticked table state word).state ≡ accepted)
table_ticks = state_kept.ticks table_form

-- So does a sheet, of which a state is accepted only where the whole sheet is.
pub sheet_ticks : (sheet : List ℕ) (state : State) (word : ℕ) → (sheet_state_verdict sheet state).number ≡ 0 → word < 1024
    → ((sheet_ticked sheet state word).verdict.number ≡ 0) × (sheet_state_verdict sheet (sheet_ticked sheet state word).state ≡ accepted)
sheet_ticks sheet state word ok = state_kept.ticks sheet_form sheet (state_kept.sheet_whole sheet state ok) state word ok

-- ---- tags, for records of any width

-- A record repeats a tag exactly when an earlier one has it.
pub repeats_earlier : (w : ℕ) (bytes : List ℕ) (j : ℕ) → repeats w bytes j ≡ true
    → (i : ℕ) × (i < j) × (tag_at w bytes i ≡ tag_at w bytes j)
repeats_earlier = tag_laws.repeats_some

-- Look-up finds a record with the tag, and none before it has it.
pub look_up_has : (w : ℕ) (bytes : List ℕ) (n tag : ℕ) → look_up w bytes n tag < n → tag_at w bytes (look_up w bytes n tag) ≡ tag
look_up_has = tag_laws.look_up_has_lem

pub look_up_lowest : (w : ℕ) (bytes : List ℕ) (n tag k : ℕ) → k < look_up w bytes n tag → ¬ (tag_at w bytes k ≡ tag)
look_up_lowest = tag_laws.look_up_first

-- Without repeats, look-up is the inverse of tag-at.
pub look_up_inverse : (w : ℕ) (bytes : List ℕ) (n : ℕ) → ((j : ℕ) → j < n → repeats w bytes j ≡ false)
    → (k : ℕ) → k < n → look_up w bytes n (tag_at w bytes k) ≡ k
look_up_inverse = tag_laws.look_up_tag_at

-- Tags are whole numbers of sixteen bits: two records have one tag exactly when both its bytes are the same.
pub tag_range : (w : ℕ) (bytes : List ℕ) → Bytes bytes → (k : ℕ) → tag_at w bytes k < 65536
tag_range = whole_tags.tag_lt

pub same_tag : (w : ℕ) (bytes : List ℕ) → Bytes bytes → (i j : ℕ)
    → (tag_at w bytes i ≡ tag_at w bytes j) ↔ ((get_or bytes (w * i) 0 ≡ get_or bytes (w * j) 0) × (get_or bytes (w * i + 1) 0 ≡ get_or bytes (w * j + 1) 0))
same_tag = whole_tags.same_tag
