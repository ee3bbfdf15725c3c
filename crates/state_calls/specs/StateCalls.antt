-- The engine's calls on a state that is eight lent bytes. Assumes nothing.
use Rattle.std.specs.Prelude.{ℕ, cond, List, eqb, length}
use Rattle.records.specs.Numbers.{wrong_length}
use Rattle.records.specs.Verdicts.{refused_unless}
use Rattle.records.specs.declared.Verdict.{Verdict}
use Rattle.machine.specs.Machine.{start_state}
use Rattle.machine.specs.declared.State.{State}
use Rattle.states.specs.States.{state_from, state_bytes, bytes_verdict}
use Rattle.engine.specs.Engine.{Form, refused_with, ticked, shown_at}
use Rattle.engine.specs.declared.Ticked.{Ticked}

-- "another length is 1 at 0"; the start takes any eight bytes
unfoldable pub start_verdict : List ℕ → Verdict
start_verdict bytes = refused_unless (eqb (length bytes) 8) wrong_length 0

unfoldable pub start_written : List ℕ → List ℕ
start_written bytes = cond (eqb (start_verdict bytes).number 0) (state_bytes start_state) bytes

-- the tests of the bytes stand "before the call's own tests"; a refusal "gives back the state it received"
unfoldable pub on_bytes : Verdict → State → Ticked → Ticked
on_bytes bytes received answer = cond (eqb bytes.number 0) answer (refused_with bytes received)

unfoldable pub ticked_on : Form → List ℕ → List ℕ → ℕ → Ticked
ticked_on form bytes state word = on_bytes (bytes_verdict state) (state_from state) (ticked form bytes (state_from state) word)

unfoldable pub shown_on : Form → List ℕ → List ℕ → Ticked
shown_on form bytes state = on_bytes (bytes_verdict state) (state_from state) (shown_at form bytes (state_from state))

-- the next state's bytes; "a refusal leaves them"
unfoldable pub state_after : Ticked → List ℕ → List ℕ
state_after answer state = cond (eqb answer.verdict.number 0) (state_bytes answer.state) state
