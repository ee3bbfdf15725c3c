-- The engine's answers on sheets and on tables: the tests in their order, then the one tick rule. Assumes nothing.
use Rattle.std.specs.Prelude.{ℕ, cond, List, [], ◌∷◌, ltb, eqb}
use Rattle.records.specs.Numbers.{unreachable, bad_word}
use Rattle.records.specs.Verdicts.{accepted, refused_unless, first_refusal}
use Rattle.records.specs.declared.Verdict.{Verdict}
use Rattle.machine.specs.Fields.{word_in_range, elapsed_in_range}
use Rattle.machine.specs.Machine.{tick_at}
use Rattle.machine.specs.declared.Exit.TheVariants.{Stay}
use Rattle.machine.specs.declared.Node.{Node}
use Rattle.machine.specs.Answers.{Standing}
use Rattle.machine.specs.declared.State.{State}
use Rattle.machine.specs.declared.Taken.{Taken}
use Rattle.tables.specs.Tables.{cell_at, cell_count, cell_verdict}
use Rattle.steps.specs.Steps.{step_count}
use Rattle.sheets.specs.Sheets.{sheet_verdict, node_at}
use Rattle.engine.specs.declared.Ticked.{Ticked}
use Rattle.engine.specs.Answers.{Went}

-- ---- what differs between the forms

pub data Form : Type 0 where
  sheet_form : Form
  table_form : Form

-- a sheet or a table as its nodes by number
abbrev pub nodes_of : Form → List ℕ → ℕ → Node
nodes_of sheet_form sheet = node_at sheet
nodes_of table_form table = cell_at table

-- how many it has
abbrev pub count_of : Form → List ℕ → ℕ
count_of sheet_form sheet = step_count sheet
count_of table_form table = cell_count table

-- "On a table the engine tests length, cell number (8), that cell (4)", the three tests of a cell's verdict;
-- "On a sheet it makes the sheet's tests without cells and room, then step number"
unfoldable pub standing : Form → List ℕ → ℕ → Verdict
standing table_form table k = cell_verdict table k
standing sheet_form sheet k = first_refusal (sheet_verdict sheet ∷ refused_unless (ltb k (step_count sheet)) unreachable 0 ∷ [])

-- ---- the tests

-- the node with a number, and the verdict on standing at it
abbrev pub standing_at : Form → List ℕ → ℕ → Standing
standing_at form bytes k = record { verdict = standing form bytes k; node = nodes_of form bytes k }

-- standing at a node, then "elapsed below the larger of 1 and the timeout (8)", on a sheet "alike"
unfoldable pub state_tested : Verdict → Node → State → Verdict
state_tested standing node state =
    first_refusal (standing ∷ refused_unless (elapsed_in_range node.timeout state.elapsed) unreachable 0 ∷ [])

unfoldable pub state_verdict : Form → List ℕ → State → Verdict
state_verdict form bytes state = state_tested (standing form bytes state.at) (nodes_of form bytes state.at) state

-- "word below 1024 (9)"
unfoldable pub word_verdict : ℕ → Verdict
word_verdict word = refused_unless (word_in_range word) bad_word 0

-- ---- the answers

-- a state with what shows at it
abbrev pub shown_as : State → Node → Ticked
shown_as state node = record { verdict = accepted; state = state; outputs = node.outputs; step = node.step }

-- a refusal "gives back the state it received"; zero "stands in every other field"
abbrev pub refused_with : Verdict → State → Ticked
refused_with verdict state = record { verdict = verdict; state = state; outputs = 0; step = 0 }

-- the verdict decides between the two
unfoldable pub answered_at : Verdict → State → Node → Ticked
answered_at verdict state node = cond (eqb verdict.number 0) (shown_as state node) (refused_with verdict state)

-- no exit is taken
abbrev pub stays_at : State → Taken
stays_at state = record { exit = Stay; state = state }

-- where a tick leads: the tests, then the one rule; a refusal stays
unfoldable pub went_from : Verdict → Node → State → ℕ → Went
went_from tested node state word =
    let verdict = first_refusal (tested ∷ word_verdict word ∷ []) in
    record { verdict = verdict; taken = cond (eqb verdict.number 0) (tick_at node word state) (stays_at state) }

unfoldable pub ticked : Form → List ℕ → State → ℕ → Ticked
ticked form bytes state word =
    let went = went_from (state_verdict form bytes state) (nodes_of form bytes state.at) state word in
    answered_at went.verdict went.taken.state (nodes_of form bytes went.taken.state.at)

-- what shows at a state, which stays
unfoldable pub shown_at : Form → List ℕ → State → Ticked
shown_at form bytes state = answered_at (state_verdict form bytes state) state (nodes_of form bytes state.at)

-- ---- the two forms by name

abbrev pub table_state_verdict : List ℕ → State → Verdict
table_state_verdict = state_verdict table_form

abbrev pub sheet_state_verdict : List ℕ → State → Verdict
sheet_state_verdict = state_verdict sheet_form

abbrev pub table_ticked : List ℕ → State → ℕ → Ticked
table_ticked = ticked table_form

abbrev pub sheet_ticked : List ℕ → State → ℕ → Ticked
sheet_ticked = ticked sheet_form

abbrev pub table_shown : List ℕ → State → Ticked
table_shown = shown_at table_form

abbrev pub sheet_shown : List ℕ → State → Ticked
sheet_shown = shown_at sheet_form
