-- One channel over one tick of 5 µs. Assumes nothing.
use Rattle.std.specs.Prelude.{ℕ, ◌+◌, ◌-◌, ◌/◌, min, Bool, false, cond, not, ◌&&◌, ◌||◌, ltb, leb}
use Rattle.std.specs.Bool.{beq, xor}
use Rattle.image.specs.declared.FaultType.{FaultType}
use Rattle.image.specs.declared.FaultType.TheVariants.{Over, UnderOrOver, Under, Off}
use Rattle.image.specs.declared.Input.{Input}
use Rattle.image.specs.declared.Input.TheVariants.{VpMid, VpLow, VpUltralow, VhLow, VhHigh, AnalogFault, LogicFault, LogicFaultAnalogWarning, NoFunction}
use Rattle.image.specs.declared.Threshold.{Threshold}
use Rattle.image.specs.declared.Logic.{Logic}
use Rattle.image.specs.declared.Group.{Group}
use Rattle.channels.specs.declared.Channel.{Channel}
use Rattle.channels.specs.declared.Filter.{Filter}
use Rattle.channels.specs.declared.Sample.{Sample}

-- ---- comparing

-- "threshold less hysteresis, that level not going below 0": a difference of ℕ stops at 0
unfoldable pub over_release : Threshold → ℕ
over_release threshold = threshold.level - threshold.hysteresis

-- "threshold plus hysteresis, that level not going above 255"
unfoldable pub under_release : Threshold → ℕ
under_release threshold = min (threshold.level + threshold.hysteresis) 255

-- "when false it sets on sample > threshold; when true it stays while sample > threshold less hysteresis"
unfoldable pub over_after : Threshold → Bool → ℕ → Bool
over_after threshold over value = cond over (ltb (over_release threshold) value) (ltb threshold.level value)

-- "sets on sample < threshold; stays while sample < threshold plus hysteresis"
unfoldable pub under_after : Threshold → Bool → ℕ → Bool
under_after threshold under value = cond under (ltb value (under_release threshold)) (ltb value threshold.level)

-- "The fault type picks the raw fault": "0 over, 1 under or over, 2 under, 3 off"
abbrev pub raw_fault : FaultType → Bool → Bool → Bool
raw_fault Over over under = over
raw_fault UnderOrOver over under = over || under
raw_fault Under over under = under
raw_fault Off over under = false

-- ---- filtering

-- "A tick is 5 µs": how many ticks a time lasts
unfoldable pub ticks : ℕ → ℕ
ticks time = time / 5

-- "if raw equals filtered, the count becomes 0; else, if the count has reached delay/5, filtered takes raw and the count becomes 0; else the count rises by one"
unfoldable pub filter_after : ℕ → Bool → Filter → Filter
filter_after delay raw filter =
    cond (beq raw filter.filtered)
    (record { filtered = filter.filtered; count = 0 })
    (cond (leb (ticks delay) filter.count)
    (record { filtered = raw; count = 0 })
    (record { filtered = filter.filtered; count = filter.count + 1 }))

-- ---- logic

-- "Logic: invert, filter by byte 6"
unfoldable pub logic_after : Logic → Bool → Filter → Filter
logic_after logic level filter = filter_after logic.delay (xor level logic.invert) filter

-- "a filtered rise sets n to pulse/5, else n is what was left"
unfoldable pub pulse_now : Logic → Filter → Filter → ℕ → ℕ
pulse_now logic before after left = cond (after.filtered && not before.filtered) (ticks logic.pulse) left

-- "On edge, ... what is left is n less one, not below 0. On level, nothing is left."
unfoldable pub left_after : Logic → Filter → Filter → ℕ → ℕ
left_after logic before after left = cond logic.edge (pulse_now logic before after left - 1) 0

-- "On edge, ... the output is n > 0"; on level it is the filtered level
unfoldable pub logic_fault : Logic → Filter → Filter → ℕ → Bool
logic_fault logic before after left = cond logic.edge (ltb 0 (pulse_now logic before after left)) after.filtered

-- ---- the channel

-- "All parts of a channel advance at each tick"
unfoldable pub channel_after : Group → Sample → Channel → Channel
channel_after group sample channel =
    let over = over_after group.over channel.over sample.value in
    let under = under_after group.under channel.under sample.value in
    let logic = logic_after group.logic sample.level channel.logic in
    record {
      over = over;
      under = under;
      analog = filter_after group.delay (raw_fault group.faults over under) channel.analog;
      logic = logic;
      left = left_after group.logic channel.logic logic channel.left;
    }

-- the logic fault of the tick that leads from one state to the next
abbrev pub logic_bit : Group → Channel → Channel → Bool
logic_bit group before after = logic_fault group.logic before.logic after.logic before.left

-- "VP and VH give the analog fault and no warning. VX by function: 0 analog fault; 1 logic fault; 2 logic fault, analog warning; 3 neither."
abbrev pub fault_by : Input → Bool → Bool → Bool
fault_by VpMid analog logic = analog
fault_by VpLow analog logic = analog
fault_by VpUltralow analog logic = analog
fault_by VhLow analog logic = analog
fault_by VhHigh analog logic = analog
fault_by AnalogFault analog logic = analog
fault_by LogicFault analog logic = logic
fault_by LogicFaultAnalogWarning analog logic = logic
fault_by NoFunction analog logic = false

abbrev pub warning_by : Input → Bool → Bool
warning_by VpMid analog = false
warning_by VpLow analog = false
warning_by VpUltralow analog = false
warning_by VhLow analog = false
warning_by VhHigh analog = false
warning_by AnalogFault analog = false
warning_by LogicFault analog = false
warning_by LogicFaultAnalogWarning analog = analog
warning_by NoFunction analog = false

unfoldable pub fault_bit : Group → Channel → Channel → Bool
fault_bit group before after = fault_by group.input after.analog.filtered (logic_bit group before after)

unfoldable pub warning_bit : Group → Channel → Channel → Bool
warning_bit group before after = warning_by group.input after.analog.filtered

-- ---- "All state starts false and zero."
abbrev pub start_filter : Filter
start_filter = record { filtered = false; count = 0 }

abbrev pub start_channel : Channel
start_channel = record { over = false; under = false; analog = start_filter; logic = start_filter; left = 0 }
