-- The outputs along the run of an accepted sheet or table are below 1024, as the pins ask. Assumes nothing.
use Prim.Native.Nat.{ℕ, ◌<◌}
use mathlib.Core.Path.{◌≡◌, ap}
use mathlib.Core.List.{List, [], ◌∷◌}
use Rattle.records.proofs.Every.{Every, none, ◌also◌}
use Rattle.records.proofs.VerdictLaws.{number_of}
use Rattle.machine.specs.Machine.{start_state}
use Rattle.machine.specs.declared.State.{State}
use Rattle.engine.specs.Engine.{Form, nodes_of, state_verdict, ticked, shown_at}
use Rattle.engine.specs.Runs.{ticks_from, run_of}
use Rattle.translation_laws.proofs.StateKept.{answered_shown, whole_verdict, sound, start_accepted, ticks, shows}

module _ (form : Form) (bytes : List ℕ) (good : (whole_verdict form bytes).number ≡ 0) where
  -- after every tick, from any accepted state
  ticks_outputs : (words : List ℕ) → Every (λ word. word < 1024) words → (state : State) → (state_verdict form bytes state).number ≡ 0
      → Every (λ answer. answer.outputs < 1024) (ticks_from (ticked form bytes) state words)
  unfolding ticks_from
  ticks_outputs [] none state ok = none
  ticks_outputs (word ∷ words) (below also rest) state ok =
      (shows form bytes good state word ok below).0 also ticks_outputs words rest _ (ap number_of (ticks form bytes good state word ok below).1)

  -- at the start and after every tick
  pub run_outputs : (words : List ℕ) → Every (λ word. word < 1024) words → Every (λ answer. answer.outputs < 1024) (run_of form bytes words)
  unfolding run_of shown_at
  run_outputs words below =
      let start = start_accepted form bytes good in
      let whole = sound form bytes good in
      rw (answered_shown (state_verdict form bytes start_state) start_state (nodes_of form bytes 0) start)
      (whole.outputs 0 whole.least also ticks_outputs words below start_state start)
