-- Laws of codes: the search through a table, and what a look-up's answer says. Assumes nothing.
use Prim.Native.Nat.{ℕ, suc, ◌+◌, ◌*◌, ◌^◌, ◌≤◌, ◌<◌}
use mathlib.Core.Path.{◌≡◌, refl, ap, sym, ◌∙◌}
use mathlib.Core.Bool.{Bool, true, false, cond}
use mathlib.Core.List.{List, [], ◌∷◌}
use native.Mathlib.Numerals.{add-one}
use native.Mathlib.Omega.{arith}
use borrow.Author.Tests.{eq-eqb, ne_eqb}
use lib.Dec.{eqb}
use lib.ListN.{length, get_or, drop, drop_of_length-le}
use lib.Seq.{drop-cons}
use Rattle.records.specs.Bits.{joined}
use Rattle.records.proofs.BitLaws.{joined_sum}
use Rattle.image.specs.Codes.{code_number, lookup_from, lookup, fault_code, source_code, pull_code}
use Rattle.writing.specs.Writing.{beside, flag, code_verdict}
use Rattle.std.specs.Prelude.{Option, Some, None, position}
use Rattle.std.specs.List.{position_from}
use Rattle.std.proofs.lemmas.Iterator.Adapters.{position_from-zero}
use Rattle.image.specs.declared.FaultType.{FaultType}
use Rattle.image.specs.declared.FaultType.TheVariants.{Over, UnderOrOver, Under, Off}
use Rattle.image.specs.declared.Source.{Source}
use Rattle.image.specs.declared.Source.TheVariants.{Disabled, Engine, DrivenLow, DrivenHigh}
use Rattle.image.specs.declared.Pull.{Pull}
use Rattle.image.specs.declared.Pull.TheVariants.{Unpulled, Vddcap300k, WeakVp1, PushPullVp1, WeakVp2, PushPullVp2, WeakVp3, PushPullVp3, WeakVp4, PushPullVp4, WeakVddcap, PushPullVddcap}

-- ---- the library's search finds the lowest place
-- the test of the code
abbrev pub equals : ℕ → ℕ → Bool
equals value x = eqb x value

position_lowest : (i : ℕ) (table : List ℕ) (value : ℕ) → position_from (equals value) i table ≡ lookup_from i table value
position_lowest i [] value = refl
position_lowest i (x ∷ table) value = ap (cond (eqb x value) (Some i)) (position_lowest (i + 1) table value ∙ ap (λ (k : ℕ). lookup_from k table value) (add-one i))

pub lookup_found : (table : List ℕ) (value : ℕ) → position (equals value) table ≡ lookup table value
lookup_found table value = position_from-zero (equals value) table ∙ position_lowest 0 table value

-- ---- a look-up from a place on: found there, one place later, or past the end
module _ (table : List ℕ) (value i : ℕ) where
  next : i < length table
      → lookup_from i (drop i table) value ≡ cond (eqb (get_or table i 0) value) (Some i) (lookup_from (suc i) (drop (suc i) table) value)
  next h = ap (λ (l : List ℕ). lookup_from i l value) (drop-cons table i 0 h)

  pub lookup_hit : i < length table → get_or table i 0 ≡ value → lookup_from i (drop i table) value ≡ Some i
  lookup_hit h e = next h ∙ rw (eq-eqb _ _ e)

  pub lookup_pass : i < length table → (get_or table i 0 ≡ value → ⊥)
      → lookup_from i (drop i table) value ≡ lookup_from (i + 1) (drop (i + 1) table) value
  lookup_pass h e = next h ∙ rw (ne_eqb _ _ e, add-one)

  pub lookup_end : length table ≤ i → lookup_from i (drop i table) value ≡ None
  lookup_end h = ap (λ (l : List ℕ). lookup_from i l value) (drop_of_length-le table h)

-- ---- a code has room in its field
within : (b : Bool) (i c n : ℕ) (rest : Option ℕ) → cond b (Some i) rest ≡ Some c → (rest ≡ Some c → c < suc i + n) → c < i + suc n
within true i c n rest e h =
    let here : i ≡ c = cc in
    omega arith
within false i c n rest e h =
    let later : c < suc i + n = h e in
    omega arith

lookup_below : (i : ℕ) (table : List ℕ) (value c : ℕ) → lookup_from i table value ≡ Some c → c < i + length table
lookup_below i [] value c e =
    let never : ◌≡◌ {A = ℕ} 0 1 = cc in
    omega arith
lookup_below i (x ∷ table) value c e = within (eqb x value) i c (length table) _ e (lookup_below (suc i) table value c)

pub lookup_lt : (table : List ℕ) (value c : ℕ) → lookup table value ≡ Some c → c < length table
lookup_lt table value c e = omega (arith, lookup_below 0 table value c e)

pub flag_lt : (b : Bool) → flag b < 2
flag_lt true = omega arith
flag_lt false = omega arith

pub fault_lt : (faults : FaultType) → fault_code faults < 4
fault_lt Over = omega arith
fault_lt UnderOrOver = omega arith
fault_lt Under = omega arith
fault_lt Off = omega arith

pub source_lt : (source : Source) → source_code source < 4
source_lt Disabled = omega arith
source_lt Engine = omega arith
source_lt DrivenLow = omega arith
source_lt DrivenHigh = omega arith

pub pull_lt : (pull : Pull) → pull_code pull < 16
pull_lt Unpulled = omega arith
pull_lt Vddcap300k = omega arith
pull_lt WeakVp1 = omega arith
pull_lt PushPullVp1 = omega arith
pull_lt WeakVp2 = omega arith
pull_lt PushPullVp2 = omega arith
pull_lt WeakVp3 = omega arith
pull_lt PushPullVp3 = omega arith
pull_lt WeakVp4 = omega arith
pull_lt PushPullVp4 = omega arith
pull_lt WeakVddcap = omega arith
pull_lt PushPullVddcap = omega arith

-- ---- two codes in one byte
pub beside_joined : (high low rest : ℕ) → high * 2 ^ low < 2 ^ 8 → rest < 2 ^ low → beside (Some high) low (Some rest) ≡ Some (joined high low rest)
beside_joined high low rest room below = ap Some (sym (joined_sum high low rest room below))

-- ---- the test of a code
pub code_passes : (code : Option ℕ) (address : ℕ) → code_number code ≡ 0 → (code_verdict code address).number ≡ 0
code_passes (Some c) address h = refl
code_passes None address h = h
