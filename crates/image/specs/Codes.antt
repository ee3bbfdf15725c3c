-- The tables of source 004 as the paper prints them: from a code to its meaning, and from a meaning to its lowest code. Assumes nothing.
use Rattle.std.specs.Prelude.{ℕ, suc, Bool, cond, ◌||◌, not, Option, Some, None, List, [], ◌∷◌, ltb, eqb}
use Rattle.records.specs.Numbers.{accepted_number, out_of_range}
use Rattle.image.specs.Groups.{is_vp, is_vh, is_vx}
use Rattle.image.specs.declared.FaultType.{FaultType}
use Rattle.image.specs.declared.FaultType.TheVariants.{Over, UnderOrOver, Under, Off}
use Rattle.image.specs.declared.Input.{Input}
use Rattle.image.specs.declared.Input.TheVariants.{VpMid, VpLow, VpUltralow, VhLow, VhHigh, AnalogFault, LogicFault, LogicFaultAnalogWarning, NoFunction}
use Rattle.image.specs.declared.Source.{Source}
use Rattle.image.specs.declared.Source.TheVariants.{Disabled, Engine, DrivenLow, DrivenHigh}
use Rattle.image.specs.declared.Pull.{Pull}
use Rattle.image.specs.declared.Pull.TheVariants.{Unpulled, Vddcap300k, WeakVp1, PushPullVp1, WeakVp2, PushPullVp2, WeakVp3, PushPullVp3, WeakVp4, PushPullVp4, WeakVddcap, PushPullVddcap}

-- ---- what a look-up answers: a code, number 0; or that no code has the meaning, number 4 and code 0
abbrev pub code_number : Option ℕ → ℕ
code_number (Some code) = accepted_number
code_number None = out_of_range

abbrev pub code_value : Option ℕ → ℕ
code_value (Some code) = code
code_value None = 0

-- the lowest place, counted from i, at which a table has the value
abbrev pub lookup_from : ℕ → List ℕ → ℕ → Option ℕ
lookup_from i [] value = None
lookup_from i (x ∷ xs) value = cond (eqb x value) (Some i) (lookup_from (suc i) xs value)

abbrev pub lookup : List ℕ → ℕ → Option ℕ
lookup = lookup_from 0

-- ---- times
-- "Filter codes 0 to 7 mean 0, 5, 10, 20, 30, 50, 75, 100 µs."
abbrev pub times : List ℕ
times = 0 ∷ 5 ∷ 10 ∷ 20 ∷ 30 ∷ 50 ∷ 75 ∷ 100 ∷ []

-- "Pulse codes mean 10, 100, 1000, 10,000 µs."
abbrev pub pulses : List ℕ
pulses = 10 ∷ 100 ∷ 1000 ∷ 10000 ∷ []

-- ---- fault type: "(0 over, 1 under or over, 2 under, 3 off)"
abbrev pub fault_types : List FaultType
fault_types = Over ∷ UnderOrOver ∷ Under ∷ Off ∷ []

abbrev pub fault_code : FaultType → ℕ
fault_code Over = 0
fault_code UnderOrOver = 1
fault_code Under = 2
fault_code Off = 3

-- ---- byte 5
-- "VP: range in bits 1:0 (0 mid, 1 low, 2 and 3 ultralow)"
abbrev pub ranges : List Input
ranges = VpMid ∷ VpLow ∷ VpUltralow ∷ VpUltralow ∷ []

-- "VH: bit 0 (0 low, 1 high)"
abbrev pub high_ranges : List Input
high_ranges = VhLow ∷ VhHigh ∷ []

-- "VX: function in bits 1:0 (0 analog fault, 1 logic fault, 2 logic fault with analog warning, 3 none)"
abbrev pub functions : List Input
functions = AnalogFault ∷ LogicFault ∷ LogicFaultAnalogWarning ∷ NoFunction ∷ []

-- the code in its own group's table, lacking in any other group
abbrev pub input_code : ℕ → Input → Option ℕ
input_code k VpMid = cond (is_vp k) (Some 0) None
input_code k VpLow = cond (is_vp k) (Some 1) None
input_code k VpUltralow = cond (is_vp k) (Some 2) None
input_code k VhLow = cond (is_vh k) (Some 0) None
input_code k VhHigh = cond (is_vh k) (Some 1) None
input_code k AnalogFault = cond (is_vx k) (Some 0) None
input_code k LogicFault = cond (is_vx k) (Some 1) None
input_code k LogicFaultAnalogWarning = cond (is_vx k) (Some 2) None
input_code k NoFunction = cond (is_vx k) (Some 3) None

-- ---- byte 7
-- "Bits 6:4: 0 disabled, 1 engine, 2 low, 3 high; 4 to 7 are unprinted". Codes 4 to 7 have no meaning, and stand here as disabled
abbrev pub sources : List Source
sources = Disabled ∷ Engine ∷ DrivenLow ∷ DrivenHigh ∷ Disabled ∷ Disabled ∷ Disabled ∷ Disabled ∷ []

abbrev pub source_printed : ℕ → Bool
source_printed code = ltb code 4

abbrev pub source_code : Source → ℕ
source_code Disabled = 0
source_code Engine = 1
source_code DrivenLow = 2
source_code DrivenHigh = 3

-- "Bits 3:0: 0 and 1 none; 2 and 3 300 kΩ to VDDCAP; 4 to 11 weak (even) or push-pull (odd) to VP1, VP2, VP3, VP4 in turn; 14 weak and 15 push-pull to VDDCAP". Codes 12 and 13 have no meaning, and stand here as none
abbrev pub pulls : List Pull
pulls = Unpulled ∷ Unpulled ∷ Vddcap300k ∷ Vddcap300k ∷ WeakVp1 ∷ PushPullVp1 ∷ WeakVp2 ∷ PushPullVp2 ∷ WeakVp3 ∷ PushPullVp3 ∷ WeakVp4 ∷ PushPullVp4 ∷ Unpulled ∷ Unpulled ∷ WeakVddcap ∷ PushPullVddcap ∷ []

-- "12 and 13 unprinted"
abbrev pub pull_printed : ℕ → Bool
pull_printed code = not (eqb code 12 || eqb code 13)

abbrev pub pull_code : Pull → ℕ
pull_code Unpulled = 0
pull_code Vddcap300k = 2
pull_code WeakVp1 = 4
pull_code PushPullVp1 = 5
pull_code WeakVp2 = 6
pull_code PushPullVp2 = 7
pull_code WeakVp3 = 8
pull_code PushPullVp3 = 9
pull_code WeakVp4 = 10
pull_code PushPullVp4 = 11
pull_code WeakVddcap = 14
pull_code PushPullVddcap = 15
