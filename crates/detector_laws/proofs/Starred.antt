-- The starred values of the detectors: one table, each row as the definitions compute it, and one claim. Assumes nothing.
use Prim.Native.Nat.{ℕ}
use mathlib.Core.Path.{◌≡◌, refl}
use mathlib.Core.Bool.{Bool, true, false, xor}
use mathlib.Core.List.{List, [], ◌∷◌}
use Rattle.image.specs.declared.Threshold.{Threshold}
use Rattle.image.specs.declared.Logic.{Logic}
use Rattle.channels.specs.Channel.{over_release, under_release, over_after, under_after, ticks, filter_after, logic_after, pulse_now, left_after, logic_fault, start_filter}
use Rattle.channels.specs.declared.Filter.{Filter}

-- a threshold with its hysteresis
abbrev pub threshold : ℕ → ℕ → Threshold
threshold level hysteresis = record { level = level; hysteresis = hysteresis }

-- what a filter holds after each of the raw samples
abbrev pub filtered_over : ℕ → Filter → List Bool → List Bool
filtered_over delay filter [] = []
filtered_over delay filter (raw ∷ later) = let after = filter_after delay raw filter in after.filtered ∷ filtered_over delay after later

-- the logic fault on each of the levels, from a filter and what is left of a pulse
abbrev pub logic_over : Logic → Filter → ℕ → List Bool → List Bool
logic_over logic filter left [] = []
logic_over logic filter left (level ∷ later) =
    let after = logic_after logic level filter in
    logic_fault logic filter after left ∷ logic_over logic after (left_after logic filter after left) later

-- edge, a pulse of 10 µs, no filter
abbrev pub pulse10 : Logic
pulse10 = record { invert = false; edge = true; pulse = 10; delay = 0 }

-- the table
pub record DetectorValues : Type 0 where
  -- "Over 200, hysteresis 10: 200 does not set, 201 sets; 191 stays, 190 clears."
  pub over_200 : over_after (threshold 200 10) false 200 ∷ over_after (threshold 200 10) false 201
      ∷ over_after (threshold 200 10) true 191 ∷ over_after (threshold 200 10) true 190 ∷ []
      ≡ false ∷ true ∷ true ∷ false ∷ []
  -- "Over 5, hysteresis 31: 1 stays, 0 clears."
  pub over_5 : over_after (threshold 5 31) true 1 ∷ over_after (threshold 5 31) true 0 ∷ [] ≡ true ∷ false ∷ []
  -- "Under 250, hysteresis 31: 254 stays, 255 clears."
  pub under_250 : under_after (threshold 250 31) true 254 ∷ under_after (threshold 250 31) true 255 ∷ [] ≡ true ∷ false ∷ []
  -- "Filter 0 follows at once": up and down
  pub filter_0 : filtered_over 0 start_filter (true ∷ false ∷ true ∷ []) ≡ true ∷ false ∷ true ∷ []
  -- "10 µs changes on the third differing sample": up and down
  pub filter_10 : filtered_over 10 start_filter (true ∷ true ∷ true ∷ false ∷ false ∷ false ∷ []) ≡ false ∷ false ∷ true ∷ true ∷ true ∷ false ∷ []
  -- "Pulse 10 µs: true on the rise and one tick more."
  pub pulse_10 : logic_over pulse10 start_filter 0 (false ∷ true ∷ true ∷ true ∷ true ∷ []) ≡ false ∷ true ∷ true ∷ false ∷ false ∷ []

-- every row is as the paper says
pub detector_values : DetectorValues
unfolding over_release under_release over_after under_after ticks filter_after logic_after pulse_now left_after logic_fault xor
detector_values = record { over_200 = refl; over_5 = refl; under_250 = refl; filter_0 = refl; filter_10 = refl; pulse_10 = refl }
