-- A state's eight bytes, in one form wherever a state is bytes: "number of the step or cell (1), held (1), elapsed (2), ticks (2), two zero bytes". Assumes nothing.
use Rattle.std.specs.Prelude.{ℕ, Bool, ◌&&◌, List, [], ◌∷◌, eqb, length, get_or}
use Rattle.records.specs.Words.{word_at, low_byte, high_byte}
use Rattle.records.specs.Numbers.{wrong_length, unreachable}
use Rattle.records.specs.Verdicts.{refused_unless, first_refusal}
use Rattle.records.specs.declared.Verdict.{Verdict}
use Rattle.machine.specs.declared.State.{State}

-- the state that the bytes hold
unfoldable pub state_from : List ℕ → State
state_from bytes = record { at = get_or bytes 0 0; elapsed = word_at bytes 2 }

-- the bytes of a state; "Held and ticks are 0"
unfoldable pub state_bytes : State → List ℕ
state_bytes state = state.at ∷ 0 ∷ low_byte state.elapsed ∷ high_byte state.elapsed ∷ 0 ∷ 0 ∷ 0 ∷ 0 ∷ []

-- held, ticks and the two last bytes are 0
unfoldable pub zeros_stand : List ℕ → Bool
zeros_stand bytes = eqb (get_or bytes 1 0) 0 && eqb (word_at bytes 4) 0 && eqb (word_at bytes 6) 0

-- "another length is 1 at 0, a byte that must be 0 and is not is 8 at 0"
unfoldable pub bytes_verdict : List ℕ → Verdict
bytes_verdict bytes =
    first_refusal (refused_unless (eqb (length bytes) 8) wrong_length 0 ∷ refused_unless (zeros_stand bytes) unreachable 0 ∷ [])
