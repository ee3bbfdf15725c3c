-- A call answers its value, or why it is refused and where. Assumes nothing.
use Rattle.std.specs.Prelude.{ℕ, Bool, cond, Result, Ok, Err}
use Rattle.records.specs.Numbers.{wrong_length, reserved, unprinted, out_of_range, repeated_tag, unknown_tag, too_many_cells, unreachable, bad_word, no_room}
use Rattle.records.specs.Verdicts.{accepted, refused}
use Rattle.records.specs.declared.Verdict.{Verdict}
use Rattle.records.specs.declared.Number.{Number}
use Rattle.records.specs.declared.Number.TheVariants.{WrongLength, Reserved, Unprinted, OutOfRange, RepeatedTag, UnknownTag, TooManyCells, Unreachable, BadWord, NoRoom}
use Rattle.records.specs.declared.Refusal.{Refusal}

-- the number of each kind of refusal
abbrev pub number_of : Number → ℕ
number_of WrongLength = wrong_length
number_of Reserved = reserved
number_of Unprinted = unprinted
number_of OutOfRange = out_of_range
number_of RepeatedTag = repeated_tag
number_of UnknownTag = unknown_tag
number_of TooManyCells = too_many_cells
number_of Unreachable = unreachable
number_of BadWord = bad_word
number_of NoRoom = no_room

-- the verdict of an answer, where `number` numbers the kinds
abbrev pub verdict_by : {A K : Type 0} → (K → ℕ) → Result A (Refusal K) → Verdict
verdict_by number (Ok value) = accepted
verdict_by number (Err refusal) = refused (number refusal.kind) refusal.place

abbrev pub verdict_of : {A : Type 0} → Result A (Refusal Number) → Verdict
verdict_of = verdict_by number_of

-- what one test answers: why it is refused and where, unless it holds
abbrev pub tested : {K : Type 0} → Bool → K → ℕ → Result (Unit {0}) (Refusal K)
tested holds kind place = cond holds (Ok tt) (Err (record { kind = kind; place = place }))
