-- One tick, one rule for a sheet and for a table: which exit, then taking it. Assumes nothing.
use Rattle.std.specs.Prelude.{ℕ, ◌+◌, ◌-◌, Bool, cond, not, ◌&&◌, leb, eqb}
use Rattle.std.specs.Int.Bits.{bit_and}
use Rattle.records.specs.Bits.{bits}
use Rattle.machine.specs.declared.Node.{Node}
use Rattle.machine.specs.declared.Exit.{Exit}
use Rattle.machine.specs.declared.Exit.TheVariants.{Stay, Fault, Sequence, Timeout}
use Rattle.machine.specs.declared.State.{State}
use Rattle.machine.specs.declared.Taken.{Taken}

-- ---- which exit

-- "if w shares a bit with the mask"
unfoldable pub shares : Node → ℕ → Bool
shares node word = not (eqb (bit_and word node.mask) 0)

-- "the channel's bit (channel c reads bit c - 1 of w) equals the level"; channel "0 for none"
unfoldable pub met : Node → ℕ → Bool
met node word = not (eqb node.channel 0) && eqb (bits word (node.channel - 1) 1) node.level

-- "the timeout is not 0 and elapsed + 1 reaches it"
unfoldable pub due : Node → ℕ → Bool
due node elapsed = not (eqb node.timeout 0) && leb node.timeout (elapsed + 1)

-- "take the fault exit; else if ... the sequence exit; else if ... the timeout exit; else" none
unfoldable pub exit_of : Node → ℕ → ℕ → Exit
exit_of node elapsed word = cond (shares node word) Fault (cond (met node word) Sequence (cond (due node elapsed) Timeout Stay))

-- "exit taken (1 byte: 1 fault, 2 sequence, 3 timeout)", and 0 where none is
abbrev pub exit_number : Exit → ℕ
exit_number Stay = 0
exit_number Fault = 1
exit_number Sequence = 2
exit_number Timeout = 3

-- ---- taking it

-- "Any exit sets elapsed to 0, a jump to itself too."
abbrev pub enter : ℕ → State
enter to = record { at = to; elapsed = 0 }

-- "else elapsed rises by one, or stays 0 without a timeout"
unfoldable pub stay : Node → State → State
stay node state = record { at = state.at; elapsed = cond (eqb node.timeout 0) 0 (state.elapsed + 1) }

abbrev pub taken : Exit → Node → State → State
taken Stay node state = stay node state
taken Fault node state = enter node.faultto
taken Sequence node state = enter node.sequenceto
taken Timeout node state = enter node.timeoutto

-- the state after one tick
unfoldable pub after : Node → ℕ → State → State
after node word state = taken (exit_of node state.elapsed word) node state

-- "One tick with word w": the exit that it takes, and the state after it
unfoldable pub tick_at : Node → ℕ → State → Taken
tick_at node word state = record { exit = exit_of node state.elapsed word; state = after node word state }

-- "The start is step 0 or cell 0."
abbrev pub start_state : State
start_state = enter 0

-- ---- a sheet or a table as its nodes by number

unfoldable pub tick_on : (ℕ → Node) → ℕ → State → State
tick_on nodes word state = after (nodes state.at) word state
