-- Writing a setting and reading the byte gives the setting back, and the byte is accepted. Assumes nothing.
use Prim.Native.Nat.{ℕ, ◌+◌, ◌*◌, ◌/◌, ◌%◌, ◌^◌, ◌<◌}
use mathlib.Core.Path.{◌≡◌, refl, ap, ap₂, sym, ◌∙◌}
use mathlib.Core.Bool.{Bool, true, false, cond, not, ◌&&◌, ◌||◌, false≢true}
use mathlib.Core.List.{List}
use native.Mathlib.Omega.{arith}
use borrow.Author.Tests.{leb-true, eqb-true, not-false, ltb-true, eq-eqb}
use lib.ListN.{get_or}
use lib.Dec.{leb, eqb, lit<}
use Rattle.records.specs.Bits.{bits}
use Rattle.image.specs.Groups.{is_vp, is_vh, is_vx}
use Rattle.image.specs.Codes.{code_value, lookup, times, pulses, fault_types, fault_code, input_code, sources, source_code, source_printed, pulls, pull_code, pull_printed}
use Rattle.image.specs.Reading.{reserved_from, usable, printed, input_of, no_logic, logic_of, output_of, threshold_of, group_of}
use Rattle.writing.specs.Writing.{beside, flag, group_bytes, hysteresis_byte, timing_byte, logic_byte, pin_logic_byte, has_logic, output_byte}
use Rattle.std.specs.Prelude.{Option, Some, None}
use Rattle.image.specs.declared.FaultType.TheVariants.{Over}
use Rattle.image.specs.declared.Input.{Input}
use Rattle.image.specs.declared.Input.TheVariants.{VpMid, VpLow, VpUltralow, VhLow, VhHigh, AnalogFault, LogicFault, LogicFaultAnalogWarning, NoFunction}
use Rattle.image.specs.declared.Source.TheVariants.{Disabled}
use Rattle.image.specs.declared.Pull.TheVariants.{Unpulled}
use Rattle.image.specs.declared.Logic.{Logic}
use Rattle.image.specs.declared.Output.{Output}
use Rattle.image.specs.declared.Group.{Group}
use Rattle.image_laws.proofs.TableLaws.{never_lacking}
use Rattle.image_laws.proofs.GroupLaws.{Same, Like, like, same_vp, same_vh, same_vx, input_of_same, logic_of_same, logic_byte_same, reserved_same}
use Rattle.image_laws.proofs.ByteLaws.{eight, below_byte, below_usable}
use Rattle.image_laws.proofs.Conditions.{GoodByte}
use Rattle.image_laws.proofs.CodeTheorems.{all_printed, LowestCode, lookup_is, fault_code_lem, source_code_lem, pull_code_lem}

-- ---- codes
-- a code where a test holds
given : (holds : Bool) (code b : ℕ) → cond holds (Some code) None ≡ Some b → (holds ≡ true) × (code ≡ b)
given true code b e = (refl, ap code_value e)
given false code b e = absurd (never_lacking (sym e))

-- two codes in one byte
record Beside (high : Option ℕ) (low : ℕ) (rest : Option ℕ) (b : ℕ) : Type 0 where
  above : ℕ
  below : ℕ
  is_above : high ≡ Some above
  is_below : rest ≡ Some below
  sum : b ≡ above * 2 ^ low + below

parts : (high : Option ℕ) (low : ℕ) (rest : Option ℕ) (b : ℕ) → beside high low rest ≡ Some b → Beside high low rest b
parts (Some above) low (Some below) b e = record { above = above; below = below; is_above = refl; is_below = refl; sum = sym (ap code_value e) }
parts (Some above) low None b e = absurd (never_lacking (sym e))
parts None low rest b e = absurd (never_lacking (sym e))

-- ---- bytes 1 and 3
pub hysteresis_back : (hysteresis b : ℕ) → hysteresis_byte hysteresis ≡ Some b → (bits b 0 5 ≡ hysteresis) × (b < 32)
unfolding hysteresis_byte bits
hysteresis_back hysteresis b e =
    let is = given (leb hysteresis 31) hysteresis b e in
    let small = leb-true hysteresis 31 is.0 in
    let same = is.1 in
    omega arith

-- ---- byte 4
pub timing_back : (group : Group) (b : ℕ) → timing_byte group ≡ Some b
    → (get_or times (bits b 2 3) 0 ≡ group.delay) × (get_or fault_types (bits b 0 2) Over ≡ group.faults) × (b < 32)
unfolding timing_byte bits
timing_back group b e =
    let p = parts (lookup times group.delay) 2 (Some (fault_code group.faults)) b e in
    let time = (lookup_is times group.delay p.above).0 p.is_above in
    let faults = fault_code_lem group.faults in
    let code : ℕ = p.above in
    let type : ℕ = fault_code group.faults in
    let sum : b ≡ code * 4 + type = p.sum ∙ ap (λ (n : ℕ). code * 4 + n) (sym (ap code_value p.is_below)) in
    let small : code < 8 = time.inside in
    let four : type < 4 = faults.inside in
    let high : b / 4 % 8 ≡ code = omega arith in
    let low : b / 1 % 4 ≡ type = omega arith in
    (ap (λ (c : ℕ). get_or times c 0) high ∙ time.means, ap (λ (c : ℕ). get_or fault_types c Over) low ∙ faults.means, omega arith)

-- ---- byte 5
-- a code of a group's own kind means what it means in any group of that kind
input_own : (k m code b : ℕ) (own : Bool) → (own ≡ true → Same k m) → code < 2 ^ reserved_from m 5 → cond own (Some code) None ≡ Some b
    → (input_of k b ≡ input_of m code) × (b < 2 ^ reserved_from k 5)
input_own k m code b own kind small e =
    let is = given own code b e in
    let same = kind is.0 in
    (input_of_same same b ∙ ap (input_of m) (sym is.1), rw (reserved_same same 5, ← is.1) small)

pub input_back : (k : ℕ) (input : Input) (b : ℕ) → input_code k input ≡ Some b → (input_of k b ≡ input) × (b < 2 ^ reserved_from k 5)
unfolding input_of bits reserved_from
input_back k VpMid b = input_own k 0 0 b (is_vp k) (same_vp k) (lit< tt)
input_back k VpLow b = input_own k 0 1 b (is_vp k) (same_vp k) (lit< tt)
input_back k VpUltralow b = input_own k 0 2 b (is_vp k) (same_vp k) (lit< tt)
input_back k VhLow b = input_own k 4 0 b (is_vh k) (same_vh k) (lit< tt)
input_back k VhHigh b = input_own k 4 1 b (is_vh k) (same_vh k) (lit< tt)
input_back k AnalogFault b = input_own k 5 0 b (is_vx k) (same_vx k) (lit< tt)
input_back k LogicFault b = input_own k 5 1 b (is_vx k) (same_vx k) (lit< tt)
input_back k LogicFaultAnalogWarning b = input_own k 5 2 b (is_vx k) (same_vx k) (lit< tt)
input_back k NoFunction b = input_own k 5 3 b (is_vx k) (same_vx k) (lit< tt)

-- ---- byte 6
flag_lt : (on : Bool) → flag on < 2
flag_lt true = lit< tt
flag_lt false = lit< tt

flag_back : (on : Bool) → eqb (flag on) 1 ≡ on
flag_back true = refl
flag_back false = refl

-- the four fields of a VX group's byte
fields_back : (logic : Logic) (b pulse delay : ℕ) → LowestCode pulses 0 all_printed logic.pulse pulse
    → LowestCode times 0 all_printed logic.delay delay
    → b ≡ flag logic.invert * 64 + (flag logic.edge * 32 + (pulse * 8 + delay)) → (logic_of 5 b ≡ logic) × (b < 128)
unfolding logic_of bits
fields_back logic b pulse delay isPulse isDelay sum =
    let invert : ℕ = flag logic.invert in
    let edge : ℕ = flag logic.edge in
    let two = flag_lt logic.invert in
    let also = flag_lt logic.edge in
    let four : pulse < 4 = isPulse.inside in
    let eight : delay < 8 = isDelay.inside in
    let six : b / 64 % 2 ≡ invert = omega arith in
    let five : b / 32 % 2 ≡ edge = omega arith in
    let three : b / 8 % 4 ≡ pulse = omega arith in
    let none : b / 1 % 8 ≡ delay = omega arith in
    let is-invert : eqb (b / 64 % 2) 1 ≡ logic.invert = ap (λ (n : ℕ). eqb n 1) six ∙ flag_back logic.invert in
    let is-edge : eqb (b / 32 % 2) 1 ≡ logic.edge = ap (λ (n : ℕ). eqb n 1) five ∙ flag_back logic.edge in
    let is-pulse : get_or pulses (b / 8 % 4) 0 ≡ logic.pulse = ap (λ (n : ℕ). get_or pulses n 0) three ∙ isPulse.means in
    let is-delay : get_or times (b / 1 % 8) 0 ≡ logic.delay = ap (λ (n : ℕ). get_or times n 0) none ∙ isDelay.means in
    (λ i. record { invert = is-invert i; edge = is-edge i; pulse = is-pulse i; delay = is-delay i }, omega arith)

pin_logic_back : (logic : Logic) (b : ℕ) → pin_logic_byte logic ≡ Some b → (logic_of 5 b ≡ logic) × (b < 128)
unfolding pin_logic_byte
pin_logic_back logic b e =
    let timed : Option ℕ = beside (lookup pulses logic.pulse) 3 (lookup times logic.delay) in
    let p = parts (Some (flag logic.invert)) 6 (beside (Some (flag logic.edge)) 5 timed) b e in
    let q = parts (Some (flag logic.edge)) 5 timed p.below p.is_below in
    let r = parts (lookup pulses logic.pulse) 3 (lookup times logic.delay) q.below q.is_below in
    let one : p.above ≡ flag logic.invert = sym (ap code_value p.is_above) in
    let two : q.above ≡ flag logic.edge = sym (ap code_value q.is_above) in
    fields_back logic b r.above r.below ((lookup_is pulses logic.pulse r.above).0 r.is_above)
    ((lookup_is times logic.delay r.below).0 r.is_below) (omega (arith, p.sum, q.sum, r.sum))

neither : (a b : Bool) → (a || b) ≡ false → (a ≡ false) × (b ≡ false)
neither true b e = absurd (false≢true (sym e))
neither false b e = (refl, e)

zero_is : (n : ℕ) → not (eqb n 0) ≡ false → n ≡ 0
zero_is n e = eqb-true n 0 (not-false (eqb n 0) e)

-- a logic part with nothing in it
no_logic_lem : (logic : Logic) → has_logic logic ≡ false → no_logic ≡ logic
unfolding has_logic
no_logic_lem logic e =
    let delay = neither _ _ e in
    let pulse = neither _ _ delay.0 in
    let edge = neither _ _ pulse.0 in
    let is-invert = sym edge.0 in
    let is-edge = sym edge.1 in
    let is-pulse = sym (zero_is logic.pulse pulse.1) in
    let is-delay = sym (zero_is logic.delay delay.1) in
    λ i. record { invert = is-invert i; edge = is-edge i; pulse = is-pulse i; delay = is-delay i }

no_logic_back : (logic : Logic) (b : ℕ) (has : Bool) → has_logic logic ≡ has → cond has None (Some 0) ≡ Some b → (no_logic ≡ logic) × (b < 1)
no_logic_back logic b true is e = absurd (never_lacking (sym e))
no_logic_back logic b false is e =
    let zero : 0 ≡ b = ap code_value e in
    (no_logic_lem logic is, omega arith)

abbrev pub LogicBack : ℕ → Logic → ℕ → Type 0
LogicBack k logic b = logic_byte k logic ≡ Some b → (logic_of k b ≡ logic) × (b < 2 ^ reserved_from k 6)

logic_like : (k m : ℕ) (logic : Logic) (b : ℕ) → Same k m → LogicBack m logic b → LogicBack k logic b
logic_like k m logic b same back e =
    let is = back (sym (logic_byte_same same logic) ∙ e) in
    (logic_of_same same b ∙ is.0, rw (reserved_same same 6) is.1)

logic_in : (k : ℕ) (logic : Logic) (b : ℕ) → Like k → LogicBack k logic b
unfolding logic_byte logic_of reserved_from
logic_in k logic b (Like.vp same) = logic_like k 0 logic b same (no_logic_back logic b (has_logic logic) refl)
logic_in k logic b (Like.vh same) = logic_like k 4 logic b same (no_logic_back logic b (has_logic logic) refl)
logic_in k logic b (Like.vx same) = logic_like k 5 logic b same (pin_logic_back logic b)

pub logic_back : (k : ℕ) (logic : Logic) (b : ℕ) → LogicBack k logic b
logic_back k logic b = logic_in k logic b (like k)

-- ---- byte 7
pub output_back : (output : Output) (b : ℕ) → output_byte output ≡ Some b → (output_of b ≡ output) × (b < 128) × (printed 7 b ≡ true)
unfolding output_byte output_of printed bits
output_back output b e =
    let source : ℕ = source_code output.source in
    let pull : ℕ = pull_code output.pull in
    let isSource = source_code_lem output.source in
    let isPull = pull_code_lem output.pull in
    let sum : source * 16 + pull ≡ b = ap code_value e in
    let four : source < 4 = ltb-true source 4 isSource.is_printed in
    let sixteen : pull < 16 = isPull.inside in
    let high : b / 16 % 8 ≡ source = omega arith in
    let low : b / 1 % 16 ≡ pull = omega arith in
    let is-source : get_or sources (b / 16 % 8) Disabled ≡ output.source = ap (λ (n : ℕ). get_or sources n Disabled) high ∙ isSource.means in
    let is-pull : get_or pulls (b / 1 % 16) Unpulled ≡ output.pull = ap (λ (n : ℕ). get_or pulls n Unpulled) low ∙ isPull.means in (
      λ i. record { source = is-source i; pull = is-pull i },
      omega arith,
      ap₂ (λ (m n : ℕ). source_printed m && pull_printed n) high low ∙ ap₂ ◌&&◌ isSource.is_printed isPull.is_printed,
    )

-- ---- the eight bytes
low_good : (k j b : ℕ) → b < 2 ^ reserved_from k j → printed j b ≡ true → GoodByte k j b
low_good k j b low is = record { can_be_used = below_usable k j b low; is_printed = is }

-- no bit of a threshold is reserved
level_good : (k j b : ℕ) → reserved_from k j ≡ 8 → printed j b ≡ true → GoodByte k j b
unfolding usable bits
level_good k j b all is = record { can_be_used = rw all (eq-eqb (b / 256 % 1) 0 (omega arith)); is_printed = is }

-- a byte that means a setting can be used and is printed
pub write_good : (k : ℕ) (group : Group) (j : ℕ) → j < 8 → (b : ℕ) → get_or (group_bytes k group) j None ≡ Some b → GoodByte k j b
unfolding group_bytes reserved_from printed
write_good k group =
    eight (λ j. (b : ℕ) → get_or (group_bytes k group) j None ≡ Some b → GoodByte k j b)
    (λ b e. level_good k 0 b refl refl)
    (λ b e. low_good k 1 b (hysteresis_back group.over.hysteresis b e).1 refl)
    (λ b e. level_good k 2 b refl refl)
    (λ b e. low_good k 3 b (hysteresis_back group.under.hysteresis b e).1 refl)
    (λ b e. low_good k 4 b (timing_back group b e).2 refl)
    (λ b e. low_good k 5 b (input_back k group.input b e).1 refl)
    (λ b e. low_good k 6 b (logic_back k group.logic b e).1 refl)
    (λ b e. low_good k 7 b (output_back group.output b e).1 (output_back group.output b e).2)

-- and, as far as a level is a byte, is a byte
pub write_byte : (k : ℕ) (group : Group) → group.over.level < 256 → group.under.level < 256
    → (j : ℕ) → j < 8 → (b : ℕ) → get_or (group_bytes k group) j None ≡ Some b → b < 256
unfolding group_bytes
write_byte k group over under =
    eight (λ j. (b : ℕ) → get_or (group_bytes k group) j None ≡ Some b → b < 256)
    (λ b e. rw (sym (ap code_value e)) over)
    (λ b e. let low = (hysteresis_back group.over.hysteresis b e).1 in omega arith)
    (λ b e. rw (sym (ap code_value e)) under)
    (λ b e. let low = (hysteresis_back group.under.hysteresis b e).1 in omega arith)
    (λ b e. let low = (timing_back group b e).2 in omega arith)
    (λ b e. below_byte k 5 b (lit< tt) (input_back k group.input b e).1)
    (λ b e. below_byte k 6 b (lit< tt) (logic_back k group.logic b e).1)
    (λ b e. let low = (output_back group.output b e).1 in omega arith)

-- the eight bytes that mean a group's settings are read as those settings
pub write_read : (k : ℕ) (group : Group) (bytes : List ℕ) → ((j : ℕ) → j < 8 → get_or (group_bytes k group) j None ≡ Some (get_or bytes j 0))
    → group_of k bytes ≡ group
unfolding group_bytes group_of threshold_of
write_read k group bytes is =
    let over = ap code_value (is 0 (omega arith)) in
    let over-hysteresis = (hysteresis_back group.over.hysteresis (get_or bytes 1 0) (is 1 (omega arith))).0 in
    let under = ap code_value (is 2 (omega arith)) in
    let under-hysteresis = (hysteresis_back group.under.hysteresis (get_or bytes 3 0) (is 3 (omega arith))).0 in
    let timing = timing_back group (get_or bytes 4 0) (is 4 (omega arith)) in
    let delay = timing.0 in
    let faults = timing.1 in
    let input = (input_back k group.input (get_or bytes 5 0) (is 5 (omega arith))).0 in
    let logic = (logic_back k group.logic (get_or bytes 6 0) (is 6 (omega arith))).0 in
    let output = (output_back group.output (get_or bytes 7 0) (is 7 (omega arith))).0 in
    λ i. record {
      over = record { level = sym over i; hysteresis = over-hysteresis i };
      under = record { level = sym under i; hysteresis = under-hysteresis i };
      delay = delay i;
      faults = faults i;
      input = input i;
      logic = logic i;
      output = output i;
    }
