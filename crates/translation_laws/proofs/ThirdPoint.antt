-- The third point: a sheet and its translated table, run by the paper's tick from their starts, show the same outputs and the same step at the start and after every tick, and neither is refused. Assumes nothing.
use Prim.Native.Nat.{ℕ, suc, ◌+◌, ◌*◌, ◌≤◌, ◌<◌}
use mathlib.Core.Path.{◌≡◌, refl, ap, sym, subst, subst₂, ◌∙◌}
use mathlib.Core.List.{List, [], ◌∷◌, map}
use native.Mathlib.Omega.{arith}
use lib.ListN.{length, take}
use Rattle.records.specs.declared.Verdict.{Verdict}
use Rattle.records.proofs.Every.{Every, none, ◌also◌}
use Rattle.machine.specs.Machine.{start_state, tick_on}
use Rattle.machine.specs.declared.State.{State}
use Rattle.machine.proofs.StandLaws.{Stands}
use Rattle.tables.specs.Tables.{cell_at, table_verdict}
use Rattle.steps.specs.Steps.{step_count}
use Rattle.sheets.specs.Sheets.{sheet_verdict, node_at}
use Rattle.sheets.proofs.AcceptedSheet.{sheet_accepted}
use Rattle.engine.specs.Engine.{Form, sheet_form, table_form, table_state_verdict, sheet_state_verdict, shown_as, ticked, table_ticked, sheet_ticked, shown_at}
use Rattle.engine.specs.Runs.{ticks_from, run_of, sheet_run, table_run}
use Rattle.engine.specs.declared.Ticked.{Ticked}
use Rattle.translator.specs.Translation.{cell_total, table_of, translation, translated}
use Rattle.translation_laws.proofs.Simulation.{table_state, start_follows, tick_follows, outputs_follow, step_follows, state_follows}
use Rattle.translator.proofs.CutBytes.{table_cell}
use Rattle.translation_laws.proofs.TranslatedTable.{translated_passes, table_count}
use Rattle.translation_laws.proofs.StateKept.{answered_shown, state_stands, start_accepted, taken, kept}
use Rattle.translation_laws.proofs.TranslationLaws.{translation_accepted, written_table}

-- what an answer shows: "outputs and step"
abbrev pub shown : Ticked → ℕ × ℕ
shown answer = (answer.outputs, answer.step)

-- the sheet's answers and the table's show the same, and every one of both is accepted
pub record SameRun (sheets tables : List Ticked) : Type 0 where
  pub same : map shown sheets ≡ map shown tables
  pub sheet : Every (λ answer. answer.verdict.number ≡ 0) sheets
  pub table : Every (λ answer. answer.verdict.number ≡ 0) tables

-- one answer more
same_more : (a b : Ticked) (sheets tables : List Ticked) → a.verdict.number ≡ 0 → b.verdict.number ≡ 0 → a.outputs ≡ b.outputs → a.step ≡ b.step
    → SameRun sheets tables → SameRun (a ∷ sheets) (b ∷ tables)
same_more a b sheets tables p q o s run =
    record {
      same = λ i. (o i, s i) ∷ run.same i;
      sheet = p also run.sheet;
      table = q also run.table;
    }

module _ (sheet : List ℕ) (good : (sheet_verdict sheet).number ≡ 0) (few : cell_total sheet ≤ 63) where
  passes : (table_verdict (table_of sheet)).number ≡ 0
  passes = ap (λ (v : Verdict). v.number) (translated_passes sheet good few)

  -- ---- the relation: a function from the sheet's states to the table's

  module _ (state : State) (ok : (sheet_state_verdict sheet state).number ≡ 0) where
    stands : Stands (node_at sheet) (step_count sheet) state
    stands = (state_stands sheet_form sheet good state).0 ok

    -- the table's state for an accepted state of the sheet is accepted
    pub state_accepted : (table_state_verdict (table_of sheet) (table_state sheet state)).number ≡ 0
    state_accepted =
        (state_stands table_form (table_of sheet) passes (table_state sheet state)).1
        (subst (λ (n : ℕ). Stands (cell_at (table_of sheet)) n (table_state sheet state)) (sym (table_count sheet ((sheet_accepted sheet).0 good)))
        (state_follows sheet (cell_at (table_of sheet)) (table_cell sheet) state stands))

    -- a tick of the table goes where the sheet's goes
    pub tick_same : (word : ℕ) → tick_on (cell_at (table_of sheet)) word (table_state sheet state) ≡ table_state sheet (tick_on (node_at sheet) word state)
    tick_same = tick_follows sheet (cell_at (table_of sheet)) (table_cell sheet) state stands

    -- and shows the sheet's outputs
    pub outputs_same : (node_at sheet state.at).outputs ≡ (cell_at (table_of sheet) (table_state sheet state).at).outputs
    outputs_same = sym (outputs_follow sheet (cell_at (table_of sheet)) (table_cell sheet) state stands)

    -- and its step
    pub step_same : (node_at sheet state.at).step ≡ (cell_at (table_of sheet) (table_state sheet state).at).step
    step_same = sym (step_follows sheet (cell_at (table_of sheet)) (table_cell sheet) state stands)

  -- ---- the runs

  -- from any accepted state of the sheet
  pub ticks_same : (words : List ℕ) → Every (λ word. word < 1024) words → (state : State) → (sheet_state_verdict sheet state).number ≡ 0
      → SameRun (ticks_from (sheet_ticked sheet) state words) (ticks_from (table_ticked (table_of sheet)) (table_state sheet state) words)
  unfolding ticks_from
  ticks_same [] none state ok = record { same = refl; sheet = none; table = none }
  ticks_same (word ∷ words) (below also rest) state ok =
      let next : State = tick_on (node_at sheet) word state in
      let next-ok : (sheet_state_verdict sheet next).number ≡ 0 = kept sheet_form sheet good state word ok in
      subst₂ (λ (a b : Ticked). SameRun (a ∷ ticks_from (sheet_ticked sheet) a.state words) (b ∷ ticks_from (table_ticked (table_of sheet)) b.state words))
      (sym (taken sheet_form sheet state word ok below))
      (sym
      (taken table_form (table_of sheet) (table_state sheet state) word (state_accepted state ok) below
      ∙ ap (λ (t : State). shown_as t (cell_at (table_of sheet) t.at)) (tick_same state ok word)))
      (same_more _ _ _ _ refl refl (outputs_same next next-ok) (step_same next next-ok) (ticks_same words rest next next-ok))

  -- from the start
  pub runs_same : (words : List ℕ) → Every (λ word. word < 1024) words → SameRun (sheet_run sheet words) (table_run (table_of sheet) words)
  unfolding run_of shown_at
  runs_same words below =
      let start = start_accepted sheet_form sheet good in
      subst₂ SameRun
      (ap (λ (a : Ticked). a ∷ ticks_from (sheet_ticked sheet) start_state words) (sym (answered_shown _ start_state (node_at sheet 0) start)))
      (ap (λ (b : Ticked). b ∷ ticks_from (table_ticked (table_of sheet)) start_state words)
      (sym (answered_shown _ start_state (cell_at (table_of sheet) 0) (start_accepted table_form (table_of sheet) passes))))
      (subst (λ (t : State). SameRun (shown_as start_state (node_at sheet 0) ∷ ticks_from (sheet_ticked sheet) start_state words) (shown_as t (cell_at (table_of sheet) t.at) ∷ ticks_from (table_ticked (table_of sheet)) t words))
      (start_follows sheet)
      (same_more _ _ _ _ refl refl (outputs_same start_state start) (step_same start_state start) (ticks_same words below start_state start)))

-- a run has an answer for the start and one for each word
ticks_length : (tick : State → ℕ → Ticked) (words : List ℕ) (state : State) → length (ticks_from tick state words) ≡ length words
unfolding ticks_from
ticks_length tick [] state = refl
ticks_length tick (word ∷ words) state = ap suc (ticks_length tick words (tick state word).state)

pub run_length : (form : Form) (bytes words : List ℕ) → length (run_of form bytes words) ≡ 1 + length words
unfolding run_of
run_length form bytes words = omega (arith, ticks_length (ticked form bytes) words start_state)

-- "start the sheet at its first step and its table at cell 0": for every sheet that translates, every buffer and every list of words below 1024, the empty list too
pub third_point : (sheet buffer words : List ℕ) → (translation sheet buffer).verdict.number ≡ 0 → Every (λ word. word < 1024) words
    → SameRun (sheet_run sheet words) (table_run (take (12 * (translation sheet buffer).cells) (translated sheet buffer)) words)
third_point sheet buffer words e below =
    let all = (translation_accepted sheet buffer).0 e in
    subst (λ (table : List ℕ). SameRun (sheet_run sheet words) (table_run table words)) (sym (written_table sheet buffer e))
    (runs_same sheet ((sheet_accepted sheet).1 all.0) all.1 words below)
