-- A verdict is a number of the paper's list with its place. A call's verdict is the first refusal of its list of tests. Assumes nothing.
use Rattle.std.specs.Prelude.{ℕ, Bool, cond, List, [], ◌∷◌, eqb}
use Rattle.records.specs.declared.Verdict.{Verdict}

-- "0 | accepted | 0"
abbrev pub accepted : Verdict
accepted = record { number = 0; place = 0 }

-- a number of the list at its place
abbrev pub refused : ℕ → ℕ → Verdict
refused number place = record { number = number; place = place }

-- accepted where the test holds; else the number at the place
abbrev pub refused_unless : Bool → ℕ → ℕ → Verdict
refused_unless holds number place = cond holds accepted (refused number place)

-- the first verdict where it refuses; else the second
unfoldable pub or_else : Verdict → Verdict → Verdict
or_else v w = cond (eqb v.number 0) w v

-- the first refusal of a list of tests, in their order; accepted where none refuses
unfoldable pub first_refusal : List Verdict → Verdict
first_refusal [] = accepted
first_refusal (v ∷ vs) = or_else v (first_refusal vs)
