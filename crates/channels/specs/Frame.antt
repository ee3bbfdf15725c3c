-- What a channel's pins hold in a frame. Assumes nothing.
use Rattle.std.specs.Prelude.{ℕ, ◌-◌, ◌*◌, Bool, ◌&&◌, List, eqb, get_or, take, drop}
use Rattle.records.specs.Bits.{bits}
use Rattle.image.specs.Groups.{is_vx}
use Rattle.image.specs.declared.Input.{Input}
use Rattle.image.specs.declared.Input.TheVariants.{VpMid, VpLow, VpUltralow, VhLow, VhHigh, AnalogFault, LogicFault, LogicFaultAnalogWarning, NoFunction}
use Rattle.channels.specs.declared.Sample.{Sample}

-- frame i of a run of frames of 11 bytes
unfoldable pub frame_at : List ℕ → ℕ → List ℕ
frame_at frames i = take 11 (drop (11 * i) frames)

-- "VX function 2 measures the sister pin's sample: VX1 to VX4 take VP1 to VP4, VX5 takes VH. Otherwise the pin's own."
abbrev pub measured : Input → ℕ → ℕ
measured VpMid k = k
measured VpLow k = k
measured VpUltralow k = k
measured VhLow k = k
measured VhHigh k = k
measured AnalogFault k = k
measured LogicFault k = k
measured LogicFaultAnalogWarning k = k - 5
measured NoFunction k = k

-- "logic levels of VX1 to VX5 in bits 0 to 4"; VP and VH have none
unfoldable pub level_at : List ℕ → ℕ → Bool
level_at frame k = is_vx k && eqb (bits (get_or frame 10 0) (k - 5) 1) 1

-- "A frame is 11 bytes: ten samples by channel"
unfoldable pub sample_at : Input → List ℕ → ℕ → Sample
sample_at input frame k = record { value = get_or frame (measured input k) 0; level = level_at frame k }
