-- The tables of codes: the code of a meaning is the lowest printed code that has it. Assumes nothing.
use Prim.Native.Nat.{ℕ, ◌≤◌, ◌<◌}
use mathlib.Core.Path.{◌≡◌, refl, ap, sym, subst, ◌∙◌}
use mathlib.Core.Logic.{◌↔◌}
use mathlib.Core.Bool.{Bool, true, not, ◌&&◌, ◌||◌, and-eq-true_iff}
use mathlib.Core.List.{List}
use native.Mathlib.Nat.{zero-add}
use native.Mathlib.Decide.{dec_lt}
use native.Mathlib.Omega.{arith}
use borrow.Author.Tests.{ltb-true, leb-true}
use lib.Dec.{ltb, leb}
use lib.ListN.{length, get_or}
use Rattle.image_laws.proofs.TableLaws.{everywhere, at_each, is_code, is_code_lem, never_lacking, View, view}
use Rattle.image.specs.Codes.{lookup, times, pulses, fault_types, fault_code, sources, source_code, source_printed, pulls, pull_code, pull_printed}
use Rattle.std.specs.Prelude.{Some, None}
use Rattle.image.specs.declared.FaultType.{FaultType}
use Rattle.image.specs.declared.FaultType.TheVariants.{Over, UnderOrOver, Under, Off}
use Rattle.image.specs.declared.Source.{Source}
use Rattle.image.specs.declared.Source.TheVariants.{Disabled, Engine, DrivenLow, DrivenHigh}
use Rattle.image.specs.declared.Pull.{Pull}
use Rattle.image.specs.declared.Pull.TheVariants.{Unpulled, Vddcap300k, WeakVp1, PushPullVp1, WeakVp2, PushPullVp2, WeakVp3, PushPullVp3, WeakVp4, PushPullVp4, WeakVddcap, PushPullVddcap}

-- a printed code of a table that has the meaning, and no lower one has it
pub record LowestCode {A : Type 0} (table : List A) (first : A) (printed : ℕ → Bool) (meaning : A) (code : ℕ) : Type 0 where
  pub inside : code < length table
  pub is_printed : printed code ≡ true
  pub means : get_or table code first ≡ meaning
  pub lowest : (c : ℕ) → c < length table → printed c ≡ true → get_or table c first ≡ meaning → code ≤ c

-- a table that prints all of its codes
abbrev pub all_printed : ℕ → Bool
all_printed code = true

-- ---- times and pulses
module _ (table : List ℕ) (value : ℕ) where
  found : (code : ℕ) → View 0 table value → lookup table value ≡ Some code → LowestCode table 0 all_printed value code
  found code (View.hit c inside same before is) e =
      let here : code ≡ c = cc (zero-add c) in
      record {
        inside = rw here inside;
        is_printed = refl;
        means = rw here same;
        lowest = λ d below printed means. elim (dec_lt d c) [ yes q ↦ absurd (before d q means) | no q ↦ omega arith ];
      }
  found code (View.miss none is) e = absurd (never_lacking (sym e ∙ is))

  finds : (code : ℕ) → View 0 table value → LowestCode table 0 all_printed value code → lookup table value ≡ Some code
  finds code (View.hit c inside same before is) low =
      let least = low.lowest c inside refl same in
      let here : c ≡ code = elim (dec_lt code c) [ yes q ↦ absurd (before code q low.means) | no q ↦ omega arith ] in
      is ∙ ap Some (zero-add c ∙ here)
  finds code (View.miss none is) low = absurd (none code low.inside low.means)

  -- a look-up answers the lowest code of its value
  pub lookup_is : (code : ℕ) → (lookup table value ≡ Some code) ↔ LowestCode table 0 all_printed value code
  lookup_is code = (found code (view 0 table value), finds code (view 0 table value))

  lacked : View 0 table value → lookup table value ≡ None → (c : ℕ) → c < length table → ¬ (get_or table c 0 ≡ value)
  lacked (View.hit c inside same before is) e = absurd (never_lacking (sym is ∙ e))
  lacked (View.miss none is) e = none

  lacks : View 0 table value → ((c : ℕ) → c < length table → ¬ (get_or table c 0 ≡ value)) → lookup table value ≡ None
  lacks (View.hit c inside same before is) none = absurd (none c inside same)
  lacks (View.miss none is) _ = is

  -- a look-up lacks a code for just the values that the table lacks
  pub lookup_lacking : (lookup table value ≡ None) ↔ ((c : ℕ) → c < length table → ¬ (get_or table c 0 ≡ value))
  lookup_lacking = (lacked (view 0 table value), lacks (view 0 table value))

-- the look-up of an entry finds the entry's own code
abbrev own : List ℕ → ℕ → Bool
own table code = is_code (lookup table (get_or table code 0)) code

inverse : (table : List ℕ) → everywhere (own table) (length table) ≡ true
    → (code : ℕ) → code < length table → lookup table (get_or table code 0) ≡ Some code
inverse table holds code below = is_code_lem (lookup table (get_or table code 0)) code (at_each (own table) (length table) holds code below)

-- the eight filter codes: the code of a code's time is that code
pub time_code : (code : ℕ) → code < 8 → lookup times (get_or times code 0) ≡ Some code
time_code = inverse times refl

-- the four pulse codes: the code of a code's pulse is that code
pub pulse_code : (code : ℕ) → code < 4 → lookup pulses (get_or pulses code 0) ≡ Some code
pulse_code = inverse pulses refl

-- ---- named kinds
module _ {A : Type 0} (table : List A) (first : A) (printed : ℕ → Bool) (code_of : A → ℕ) where
  -- the code of each printed code's meaning is no higher
  abbrev no_higher : ℕ → Bool
  no_higher c = not (printed c) || leb (code_of (get_or table c first)) c

  -- the code of a meaning is in the table and printed, and has the meaning
  abbrev Listed : A → Type 0
  Listed meaning = ((ltb (code_of meaning) (length table) && printed (code_of meaning)) ≡ true) × (get_or table (code_of meaning) first ≡ meaning)

  lowest_code : everywhere no_higher (length table) ≡ true → ((meaning : A) → Listed meaning)
      → (meaning : A) → LowestCode table first printed meaning (code_of meaning)
  lowest_code holds listed meaning =
      let both = (and-eq-true_iff (ltb (code_of meaning) (length table)) (printed (code_of meaning))).0 (listed meaning).0 in
      record {
        inside = ltb-true _ _ both.0;
        is_printed = both.1;
        means = (listed meaning).1;
        lowest = λ c below is means.
            subst (λ (a : A). code_of a ≤ c) means
            (leb-true _ _ (rw is at (at_each no_higher (length table) holds c below)));
      }

fault_listed : (faults : FaultType) → Listed fault_types Over all_printed fault_code faults
fault_listed Over = (refl, refl)
fault_listed UnderOrOver = (refl, refl)
fault_listed Under = (refl, refl)
fault_listed Off = (refl, refl)

-- the code of a fault type is the lowest that means it
pub fault_code_lem : (faults : FaultType) → LowestCode fault_types Over all_printed faults (fault_code faults)
fault_code_lem = lowest_code fault_types Over all_printed fault_code refl fault_listed

source_listed : (source : Source) → Listed sources Disabled source_printed source_code source
source_listed Disabled = (refl, refl)
source_listed Engine = (refl, refl)
source_listed DrivenLow = (refl, refl)
source_listed DrivenHigh = (refl, refl)

-- the code of an output's source is the lowest printed one that means it
pub source_code_lem : (source : Source) → LowestCode sources Disabled source_printed source (source_code source)
source_code_lem = lowest_code sources Disabled source_printed source_code refl source_listed

pull_listed : (pull : Pull) → Listed pulls Unpulled pull_printed pull_code pull
pull_listed Unpulled = (refl, refl)
pull_listed Vddcap300k = (refl, refl)
pull_listed WeakVp1 = (refl, refl)
pull_listed PushPullVp1 = (refl, refl)
pull_listed WeakVp2 = (refl, refl)
pull_listed PushPullVp2 = (refl, refl)
pull_listed WeakVp3 = (refl, refl)
pull_listed PushPullVp3 = (refl, refl)
pull_listed WeakVp4 = (refl, refl)
pull_listed PushPullVp4 = (refl, refl)
pull_listed WeakVddcap = (refl, refl)
pull_listed PushPullVddcap = (refl, refl)

-- the code of a pull-up is the lowest printed one that means it
pub pull_code_lem : (pull : Pull) → LowestCode pulls Unpulled pull_printed pull (pull_code pull)
pull_code_lem = lowest_code pulls Unpulled pull_printed pull_code refl pull_listed
