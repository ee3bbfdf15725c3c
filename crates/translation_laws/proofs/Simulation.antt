-- A sheet's tick and its table's tick keep step: one function from the sheet's states to the table's, over any cells of which the cells of step i, from its first on, are its cuts. Assumes nothing.
use Prim.Native.Nat.{ℕ, ◌+◌, ◌-◌, ◌*◌, ◌/◌, ◌%◌, ◌≤◌, ◌<◌, max}
use mathlib.Core.Path.{◌≡◌, refl, ap, sym, subst, ◌∙◌}
use mathlib.Core.Bool.{Bool, true, false}
use mathlib.Core.List.{List}
use native.Mathlib.Nat.{add-zero}
use native.Mathlib.Decide.{ℕ_discrete, dec_lt}
use native.Mathlib.Omega.{arith}
use Rattle.machine.specs.Machine.{shares, met, enter, after, start_state, tick_on}
use Rattle.machine.specs.declared.Node.{Node}
use Rattle.machine.specs.declared.State.{State}
use Rattle.machine.proofs.StandLaws.{Stands, state_path, after_fault, after_sequence, quiet_rests, quiet_rises, quiet_ends}
use Rattle.steps.specs.Steps.{step_at, step_count}
use Rattle.sheets.specs.Sheets.{node_at}
use Rattle.translator.specs.Translation.{cells_for, cells_of, first_cell, cell_total, cut_at}
use Rattle.translator.proofs.CellCounts.{cells_0, cells_enough}
use Rattle.translator.proofs.CutLaws.{last_timeout, last_to, inner_timeout, inner_to}
use Rattle.translator.proofs.CutLeads.{step_within}

-- ---- the table's state for a sheet's state

-- the cell that many cuts past the step's first, and the ticks past that cut's start
unfoldable pub table_state : List ℕ → State → State
table_state sheet state = record { at = first_cell sheet state.at + state.elapsed / 4000; elapsed = state.elapsed % 4000 }

-- a jump leads to a step's first cell
pub enter_follows : (sheet : List ℕ) (to : ℕ) → table_state sheet (enter to) ≡ enter (first_cell sheet to)
unfolding table_state
enter_follows sheet to = state_path (add-zero (first_cell sheet to)) refl

-- the start goes to the start
pub start_follows : (sheet : List ℕ) → table_state sheet start_state ≡ start_state
unfolding first_cell
start_follows sheet = enter_follows sheet 0

-- ---- one tick

-- elapsed lies in one of the step's cuts
pub cut_within : (sheet : List ℕ) (state : State) → Stands (node_at sheet) (step_count sheet) state → state.elapsed / 4000 < cells_of sheet state.at
unfolding node_at cells_for
cut_within sheet state stands = omega (arith, stands.early)

-- a cut has the step's mask, channel and level, so it takes a fault or sequence exit when the step does
same_shares : (sheet : List ℕ) (i j word : ℕ) → shares (cut_at sheet i j) word ≡ shares (node_at sheet i) word
unfolding shares cut_at
same_shares sheet i j word = refl

same_met : (sheet : List ℕ) (i j word : ℕ) → met (cut_at sheet i j) word ≡ met (node_at sheet i) word
unfolding met cut_at
same_met sheet i j word = refl

node_timeout : (sheet : List ℕ) (i : ℕ) → (node_at sheet i).timeout ≡ (step_at sheet i).timeout
unfolding node_at
node_timeout sheet i = refl

-- the cut in which a sheet's state stands
abbrev cut_of : List ℕ → State → Node
cut_of sheet state = cut_at sheet state.at (state.elapsed / 4000)

-- the tick of that cut follows the step's
abbrev Follows : List ℕ → ℕ → State → Type 0
Follows sheet word state =
    after (cut_of sheet state) word (table_state sheet state) ≡ table_state sheet (after (node_at sheet state.at) word state)

-- ---- a tick that takes neither the fault nor the sequence exit
module _ (sheet : List ℕ) (word : ℕ) (state : State) (early : state.elapsed < max 1 (node_at sheet state.at).timeout)
    (s : shares (node_at sheet state.at) word ≡ false) (m : met (node_at sheet state.at) word ≡ false) where
  cut_s : shares (cut_of sheet state) word ≡ false
  cut_s = same_shares sheet state.at (state.elapsed / 4000) word ∙ s

  cut_m : met (cut_of sheet state) word ≡ false
  cut_m = same_met sheet state.at (state.elapsed / 4000) word ∙ m

  -- without a timeout both stay
  both_rest : (node_at sheet state.at).timeout ≡ 0
      → Follows sheet word state
  unfolding table_state node_at
  both_rest z =
      let first : state.elapsed / 4000 ≡ 0 = omega arith in
      let last : state.elapsed / 4000 + 1 ≡ cells_of sheet state.at = ap (λ (j : ℕ). j + 1) first ∙ sym cells_0 ∙ ap cells_for (sym z) in
      let none : (cut_of sheet state).timeout ≡ 0 = last_timeout sheet state.at (state.elapsed / 4000) last ∙ omega arith in
      quiet_rests (cut_of sheet state) word (table_state sheet state) cut_s cut_m none
      ∙ state_path (ap (λ (j : ℕ). first_cell sheet state.at + j) first) refl
      ∙ ap (table_state sheet) (sym (quiet_rests (node_at sheet state.at) word state s m z))

  -- both stay, and the table in its cut
  both_rise : state.elapsed + 1 < (node_at sheet state.at).timeout → state.elapsed % 4000 + 1 < (cut_of sheet state).timeout
      → (state.elapsed + 1) / 4000 ≡ state.elapsed / 4000
      → Follows sheet word state
  unfolding table_state
  both_rise more inside same =
      quiet_rises (cut_of sheet state) word (table_state sheet state) cut_s cut_m inside
      ∙ state_path (ap (λ (j : ℕ). first_cell sheet state.at + j) (sym same)) (omega arith)
      ∙ ap (table_state sheet) (sym (quiet_rises (node_at sheet state.at) word state s m more))

  -- the sheet stays, and the table goes on to the following cut
  next_cut : state.elapsed + 1 < (node_at sheet state.at).timeout → (state.elapsed / 4000 + 1 ≡ cells_of sheet state.at → ⊥)
      → state.elapsed % 4000 + 1 ≡ 4000
      → Follows sheet word state
  unfolding table_state
  next_cut more inner full =
      let whole : (cut_of sheet state).timeout ≡ 4000 = inner_timeout sheet state.at (state.elapsed / 4000) inner in
      quiet_ends (cut_of sheet state) word (table_state sheet state) cut_s cut_m (omega arith) (omega arith)
      ∙ state_path (inner_to sheet state.at (state.elapsed / 4000) inner ∙ omega arith) (omega arith)
      ∙ ap (table_state sheet) (sym (quiet_rises (node_at sheet state.at) word state s m more))

  -- both take the timeout exit
  both_end : (node_at sheet state.at).timeout ≡ state.elapsed + 1
      → Follows sheet word state
  unfolding node_at cells_for table_state
  both_end reached =
      let last : state.elapsed / 4000 + 1 ≡ cells_of sheet state.at = omega arith in
      let rest : (cut_of sheet state).timeout ≡ (node_at sheet state.at).timeout - 4000 * (state.elapsed / 4000) = last_timeout sheet state.at (state.elapsed / 4000) last in
      quiet_ends (cut_of sheet state) word (table_state sheet state) cut_s cut_m (omega arith) (omega arith)
      ∙ ap enter (last_to sheet state.at (state.elapsed / 4000) last)
      ∙ sym (enter_follows sheet (node_at sheet state.at).timeoutto)
      ∙ ap (table_state sheet) (sym (quiet_ends (node_at sheet state.at) word state s m (omega arith) (omega arith)))

  -- in every case of the timer
  quiet_follows : Follows sheet word state
  quiet_follows =
      elim (ℕ_discrete (node_at sheet state.at).timeout 0) [
        | yes z ↦ both_rest z
        | no z ↦ elim (dec_lt (state.elapsed + 1) (node_at sheet state.at).timeout) [
          | no p ↦ both_end (omega arith)
          | yes p ↦ elim (ℕ_discrete (state.elapsed / 4000 + 1) (cells_of sheet state.at)) [
            | yes q ↦ last_rise p q
            | no q ↦ elim (ℕ_discrete (state.elapsed % 4000 + 1) 4000) [ yes r ↦ next_cut p q r | no r ↦ inner_rise p q (omega arith) ]
          ]
        ]
      ]
    where
      last_rise : state.elapsed + 1 < (node_at sheet state.at).timeout → state.elapsed / 4000 + 1 ≡ cells_of sheet state.at
          → Follows sheet word state
      last_rise p q =
          let enough : (step_at sheet state.at).timeout ≤ 4000 * cells_of sheet state.at = cells_enough (step_at sheet state.at).timeout in
          let rest : (cut_of sheet state).timeout ≡ (step_at sheet state.at).timeout - 4000 * (state.elapsed / 4000) = last_timeout sheet state.at (state.elapsed / 4000) q in
          let same : (node_at sheet state.at).timeout ≡ (step_at sheet state.at).timeout = node_timeout sheet state.at in
          both_rise p (omega arith) (omega arith)

      inner_rise : state.elapsed + 1 < (node_at sheet state.at).timeout → (state.elapsed / 4000 + 1 ≡ cells_of sheet state.at → ⊥)
          → state.elapsed % 4000 + 1 < 4000
          → Follows sheet word state
      inner_rise p q r =
          let whole : (cut_of sheet state).timeout ≡ 4000 = inner_timeout sheet state.at (state.elapsed / 4000) q in
          both_rise p (omega arith) (omega arith)

-- ---- any tick

module _ (sheet : List ℕ) (word : ℕ) (state : State) (early : state.elapsed < max 1 (node_at sheet state.at).timeout) where
  cut_follows : Follows sheet word state
  unfolding cut_at
  cut_follows = split (shares (node_at sheet state.at) word) refl (met (node_at sheet state.at) word) refl
    where
      split : (s : Bool) → shares (node_at sheet state.at) word ≡ s → (m : Bool) → met (node_at sheet state.at) word ≡ m
          → Follows sheet word state
      split true s m e =
          after_fault (cut_of sheet state) word (table_state sheet state) (same_shares sheet state.at (state.elapsed / 4000) word ∙ s)
          ∙ sym (enter_follows sheet (node_at sheet state.at).faultto)
          ∙ ap (table_state sheet) (sym (after_fault (node_at sheet state.at) word state s))
      split false s true e =
          after_sequence (cut_of sheet state) word (table_state sheet state) (same_shares sheet state.at (state.elapsed / 4000) word ∙ s)
          (same_met sheet state.at (state.elapsed / 4000) word ∙ e)
          ∙ sym (enter_follows sheet (node_at sheet state.at).sequenceto)
          ∙ ap (table_state sheet) (sym (after_sequence (node_at sheet state.at) word state s e))
      split false s false e = quiet_follows sheet word state early s e

-- the ticks past a cut's start are fewer than its timeout, or none
cut_early : (sheet : List ℕ) (state : State) → Stands (node_at sheet) (step_count sheet) state → state.elapsed % 4000 < max 1 (cut_of sheet state).timeout
cut_early sheet state stands =
    let same : (node_at sheet state.at).timeout ≡ (step_at sheet state.at).timeout = node_timeout sheet state.at in
    elim (ℕ_discrete (state.elapsed / 4000 + 1) (cells_of sheet state.at)) [
      | yes e ↦ omega (arith, last_timeout sheet state.at (state.elapsed / 4000) e, stands.early)
      | no e ↦ omega (arith, inner_timeout sheet state.at (state.elapsed / 4000) e)
    ]

-- ---- the table's cells

-- cell j of step i, counted from its first, is its cut j
abbrev pub Cells : List ℕ → (ℕ → Node) → Type 0
Cells sheet cells = (i j : ℕ) → i < step_count sheet → j < cells_of sheet i → cells (first_cell sheet i + j) ≡ cut_at sheet i j

module _ (sheet : List ℕ) (cells : ℕ → Node) (cut : Cells sheet cells) (state : State) (stands : Stands (node_at sheet) (step_count sheet) state) where
  here : cells (table_state sheet state).at ≡ cut_of sheet state
  unfolding table_state
  here = cut state.at (state.elapsed / 4000) stands.within (cut_within sheet state stands)

  -- a tick of the table from the state that stands for the sheet's gives the state that stands for the sheet's next
  pub tick_follows : (word : ℕ) → tick_on cells word (table_state sheet state) ≡ table_state sheet (tick_on (node_at sheet) word state)
  unfolding tick_on
  tick_follows word = ap (λ (n : Node). after n word (table_state sheet state)) here ∙ cut_follows sheet word state stands.early

  -- it shows the sheet's outputs
  pub outputs_follow : (cells (table_state sheet state).at).outputs ≡ (node_at sheet state.at).outputs
  unfolding cut_at
  outputs_follow = ap (λ (n : Node). n.outputs) here

  -- and its step
  pub step_follows : (cells (table_state sheet state).at).step ≡ (node_at sheet state.at).step
  unfolding cut_at node_at
  step_follows = ap (λ (n : Node). n.step) here

  -- and stands in the table
  pub state_follows : Stands cells (cell_total sheet) (table_state sheet state)
  unfolding table_state
  state_follows =
      record {
        within = omega (arith, cut_within sheet state stands, step_within sheet state.at stands.within);
        early = subst (λ (n : Node). state.elapsed % 4000 < max 1 n.timeout) (sym here) (cut_early sheet state stands);
      }
