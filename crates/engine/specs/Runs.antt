-- A run of the engine: what its calls answer at the start and after every tick. Assumes nothing.
use Rattle.std.specs.Prelude.{ℕ, List, [], ◌∷◌}
use Rattle.machine.specs.Machine.{start_state}
use Rattle.machine.specs.declared.State.{State}
use Rattle.engine.specs.Engine.{Form, sheet_form, table_form, ticked, shown_at}
use Rattle.engine.specs.declared.Ticked.{Ticked}

-- the answers of one tick after the other, each from the state that the one before gave back
unfoldable pub ticks_from : (State → ℕ → Ticked) → State → List ℕ → List Ticked
ticks_from tick state [] = []
ticks_from tick state (word ∷ words) = tick state word ∷ ticks_from tick (tick state word).state words

-- "start the sheet at its first step ..., timers at zero ... and its table at cell 0": at the start and after every tick, for the empty list of words too
unfoldable pub run_of : Form → List ℕ → List ℕ → List Ticked
run_of form bytes words = shown_at form bytes start_state ∷ ticks_from (ticked form bytes) start_state words

abbrev pub sheet_run : List ℕ → List ℕ → List Ticked
sheet_run = run_of sheet_form

abbrev pub table_run : List ℕ → List ℕ → List Ticked
table_run = run_of table_form
