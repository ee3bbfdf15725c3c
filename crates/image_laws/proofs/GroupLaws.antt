-- Laws of the ten groups: a rule asks of a group only whether it is of VP, VH or VX, so that 0, 4 and 5 stand for all. Assumes nothing.
use Prim.Native.Nat.{ℕ}
use mathlib.Core.Path.{◌≡◌}
use mathlib.Core.Bool.{true}
use native.Mathlib.Decide.{ℕ_discrete, dec_lt}
use native.Mathlib.Omega.{arith}
use borrow.Author.Tests.{lt-ltb, le-ltb, le-leb, lt-leb, eq-eqb, ne_eqb, ltb-true, eqb-true, leb-true}
use Rattle.image.specs.Groups.{is_vp, is_vh, is_vx}
use Rattle.image.specs.Codes.{input_code}
use Rattle.image.specs.Reading.{reserved_from, input_of, logic_of}
use Rattle.writing.specs.Writing.{logic_byte}
use Rattle.image.specs.Normal.{normal_byte, range_twice}
use Rattle.image.specs.declared.Input.{Input}
use Rattle.image.specs.declared.Input.TheVariants.{VpMid, VpLow, VpUltralow, VhLow, VhHigh, AnalogFault, LogicFault, LogicFaultAnalogWarning, NoFunction}
use Rattle.image.specs.declared.Logic.{Logic}

-- two groups of the same kind of pin
pub record Same (k m : ℕ) : Type 0 where
  pub vp : is_vp k ≡ is_vp m
  pub vh : is_vh k ≡ is_vh m
  pub vx : is_vx k ≡ is_vx m

pub same_vp : (k : ℕ) → is_vp k ≡ true → Same k 0
same_vp k is =
    let below = ltb-true k 4 is in
    record { vp = is; vh = ne_eqb k 4 (omega arith); vx = lt-leb 5 k (omega arith) }

pub same_vh : (k : ℕ) → is_vh k ≡ true → Same k 4
same_vh k is =
    let four = eqb-true k 4 is in
    record { vp = le-ltb k 4 (omega arith); vh = is; vx = lt-leb 5 k (omega arith) }

pub same_vx : (k : ℕ) → is_vx k ≡ true → Same k 5
same_vx k is =
    let above = leb-true 5 k is in
    record { vp = le-ltb k 4 (omega arith); vh = ne_eqb k 4 (omega arith); vx = is }

-- a group is of VP, of VH or of VX
pub data Like (k : ℕ) : Type 0 where
  vp : Same k 0 → Like k
  vh : Same k 4 → Like k
  vx : Same k 5 → Like k

pub like : (k : ℕ) → Like k
like k =
    elim (dec_lt k 4) [
      | yes q ↦ Like.vp (same_vp k (lt-ltb k 4 q))
      | no q ↦
          elim (ℕ_discrete k 4) [
            | yes e ↦ Like.vh (same_vh k (eq-eqb k 4 e))
            | no e ↦ Like.vx (same_vx k (le-leb 5 k (omega arith)))
          ]
    ]

module _ {k m : ℕ} (same : Same k m) where
  pub input_code_same : (input : Input) → input_code k input ≡ input_code m input
  input_code_same VpMid = rw same.vp
  input_code_same VpLow = rw same.vp
  input_code_same VpUltralow = rw same.vp
  input_code_same VhLow = rw same.vh
  input_code_same VhHigh = rw same.vh
  input_code_same AnalogFault = rw same.vx
  input_code_same LogicFault = rw same.vx
  input_code_same LogicFaultAnalogWarning = rw same.vx
  input_code_same NoFunction = rw same.vx

  pub input_of_same : (b : ℕ) → input_of k b ≡ input_of m b
  unfolding input_of
  input_of_same b = rw (same.vp, same.vh)

  pub reserved_same : (j : ℕ) → reserved_from k j ≡ reserved_from m j
  unfolding reserved_from
  reserved_same j = rw (same.vh, same.vx)

  pub normal_same : (j b : ℕ) → normal_byte k j b ≡ normal_byte m j b
  unfolding normal_byte range_twice
  normal_same j b = rw same.vp

  pub logic_of_same : (b : ℕ) → logic_of k b ≡ logic_of m b
  unfolding logic_of
  logic_of_same b = rw same.vx

  pub logic_byte_same : (logic : Logic) → logic_byte k logic ≡ logic_byte m logic
  unfolding logic_byte
  logic_byte_same logic = rw same.vx
