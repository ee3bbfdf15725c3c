-- An accepted sheet or table refuses no tick from an accepted state with a word below 1024, and the next state is accepted again. Assumes nothing.
use Prim.Native.Nat.{ℕ, ◌≤◌, ◌<◌}
use mathlib.Core.Path.{◌≡◌, ap, ◌∙◌}
use mathlib.Core.List.{List, [], ◌∷◌}
use mathlib.Core.Logic.{◌↔◌}
use native.Mathlib.Omega.{arith}
use borrow.Author.Tests.{eq-eqb}
use Rattle.records.specs.Verdicts.{accepted, first_refusal}
use Rattle.records.specs.declared.Verdict.{Verdict}
use Rattle.records.proofs.VerdictLaws.{first_accepted}
use Rattle.records.proofs.Every.{none, ◌also◌}
use Rattle.records.proofs.TestLaws.{lt_test, unless_passed, unless_passes, all_zero, all_pass}
use Rattle.machine.specs.Machine.{start_state, tick_at, tick_on}
use Rattle.machine.specs.declared.Node.{Node}
use Rattle.machine.specs.declared.State.{State}
use Rattle.machine.proofs.FieldLaws.{word_range, elapsed_range}
use Rattle.machine.proofs.StandLaws.{Leads, Stands, enter_stands, tick_stands}
use Rattle.tables.specs.Tables.{table_verdict}
use Rattle.translation_laws.proofs.AcceptedTable as tables
use Rattle.steps.specs.Steps.{step_count}
use Rattle.sheets.specs.Sheets.{sheet_verdict, node_at}
use Rattle.sheets.proofs.AcceptedSheet as sheets
use Rattle.engine.specs.Engine.{Form, sheet_form, table_form, nodes_of, count_of, standing, state_tested, state_verdict, sheet_state_verdict, word_verdict, shown_as, answered_at, went_from, ticked}
use Rattle.engine.specs.declared.Ticked.{Ticked}

-- ---- an answer whose verdict accepts

-- it shows the state
pub answered_shown : (verdict : Verdict) (state : State) (node : Node) → verdict.number ≡ 0 → answered_at verdict state node ≡ shown_as state node
unfolding answered_at
answered_shown verdict state node e = rw (eq-eqb verdict.number 0 e)

word_accepted : (word : ℕ) → word < 1024 → (word_verdict word).number ≡ 0
unfolding word_verdict
word_accepted word h = unless_passes (word_range word) _ _ h

-- ---- a form

-- the verdict of the whole sheet or table
abbrev pub whole_verdict : Form → List ℕ → Verdict
whole_verdict sheet_form sheet = sheet_verdict sheet
whole_verdict table_form table = table_verdict table

-- what an accepted sheet or table has: a node, and exits, outputs and steps in range
pub record Sound (nodes : ℕ → Node) (count steps : ℕ) : Type 0 where
  pub least : 1 ≤ count
  pub leads : (k : ℕ) → k < count → Leads count (nodes k)
  pub outputs : (k : ℕ) → k < count → (nodes k).outputs < 1024
  pub step : (k : ℕ) → k < count → (nodes k).step < steps

-- a sheet shows its own steps; a table has nothing of the sheet it came from but that a sheet has 63 steps at most
abbrev pub steps_of : Form → List ℕ → ℕ
steps_of sheet_form sheet = step_count sheet
steps_of table_form table = 63

pub sound : (form : Form) (bytes : List ℕ) → (whole_verdict form bytes).number ≡ 0 → Sound (nodes_of form bytes) (count_of form bytes) (steps_of form bytes)
unfolding node_at
sound sheet_form sheet good =
    let a = (sheets.sheet_accepted sheet).0 good in
    record { least = sheets.count_least sheet a; leads = sheets.node_leads sheet a; outputs = λ k h. (a.steps k h).outputs; step = λ k h. h }
sound table_form table good =
    let a = (tables.table_accepted table).0 good in
    record { least = tables.count_least table a; leads = λ k h. (a.cells k h).leads; outputs = λ k h. (a.cells k h).outputs; step = λ k h. omega (arith, (a.cells k h).step) }

-- a state of an accepted one stands at a number below the count
stood : (form : Form) (bytes : List ℕ) → (whole_verdict form bytes).number ≡ 0 → (k : ℕ) → ((standing form bytes k).number ≡ 0) ↔ (k < count_of form bytes)
unfolding standing
stood sheet_form sheet good k = (
  λ e. elim (all_pass _ e) [ whole also below also none ↦ unless_passed (lt_test _ _) _ _ (omega arith) below ],
  λ h. all_zero _ (good also unless_passes (lt_test _ _) _ _ h also none),
)
stood table_form table good k =
    let all = (tables.table_accepted table).0 good in
    (λ e. ((tables.verdict_accepted table k).0 e).1, λ h. (tables.verdict_accepted table k).1 (all.size, h, all.cells k h))

-- a sheet of which a state is accepted is accepted
pub sheet_whole : (sheet : List ℕ) (state : State) → (sheet_state_verdict sheet state).number ≡ 0 → (sheet_verdict sheet).number ≡ 0
unfolding state_verdict state_tested standing
sheet_whole sheet state e = elim (all_pass _ e) [ stands also early also none ↦ elim (all_pass _ stands) [ whole also below also none ↦ whole ] ]

-- a tick from an accepted state is taken, and shows the next state
pub taken : (form : Form) (bytes : List ℕ) (state : State) (word : ℕ) → (state_verdict form bytes state).number ≡ 0 → word < 1024
    → ticked form bytes state word ≡ shown_as (tick_on (nodes_of form bytes) word state) (nodes_of form bytes (tick_on (nodes_of form bytes) word state).at)
unfolding ticked went_from answered_at tick_at tick_on
taken form bytes state word e h =
    let tests = state_verdict form bytes state ∷ word_verdict word ∷ [] in
    rw (eq-eqb (first_refusal tests).number 0 (all_zero tests (e also word_accepted word h also none)))

module _ (form : Form) (bytes : List ℕ) (good : (whole_verdict form bytes).number ≡ 0) where
  -- a state is accepted exactly when it stands
  pub state_stands : (state : State) → ((state_verdict form bytes state).number ≡ 0) ↔ Stands (nodes_of form bytes) (count_of form bytes) state
  unfolding state_verdict state_tested
  state_stands state = (
    λ e.
        elim (all_pass _ e) [
          | stands also early also none ↦
              record { within = (stood form bytes good state.at).0 stands; early = unless_passed (elapsed_range _ _) _ _ (omega arith) early }
        ],
    λ h.
        all_zero _ (
        (stood form bytes good state.at).1 h.within also
        unless_passes (elapsed_range _ _) _ _ h.early also
        none),
  )

  -- the start is accepted
  pub start_accepted : (state_verdict form bytes start_state).number ≡ 0
  start_accepted = (state_stands start_state).1 (enter_stands (nodes_of form bytes) (count_of form bytes) 0 (sound form bytes good).least)

  module _ (state : State) (word : ℕ) (e : (state_verdict form bytes state).number ≡ 0) where
    -- the next state is accepted again
    pub kept : (state_verdict form bytes (tick_on (nodes_of form bytes) word state)).number ≡ 0
    kept =
        (state_stands (tick_on (nodes_of form bytes) word state)).1
        (tick_stands (nodes_of form bytes) (count_of form bytes) (sound form bytes good).leads word state ((state_stands state).0 e))

    -- no tick from an accepted state with a word below 1024 is refused, and the state is accepted again
    pub ticks : word < 1024 → ((ticked form bytes state word).verdict.number ≡ 0) × (state_verdict form bytes (ticked form bytes state word).state ≡ accepted)
    unfolding state_verdict state_tested
    ticks h = (
      ap (λ (t : Ticked). t.verdict.number) (taken form bytes state word e h),
      first_accepted _ (ap (λ (t : Ticked). (state_verdict form bytes t.state).number) (taken form bytes state word e h) ∙ kept),
    )

    -- what is shown is in range: outputs below 1024, the number of a step
    pub shows : word < 1024 → ((ticked form bytes state word).outputs < 1024) × ((ticked form bytes state word).step < steps_of form bytes)
    shows h =
        let next = ((state_stands (tick_on (nodes_of form bytes) word state)).0 kept).within in
        rw (taken form bytes state word e h) ((sound form bytes good).outputs _ next, (sound form bytes good).step _ next)
