-- "The release levels always lie in 0 to 255." Not below 0 they lie by their type. Assumes nothing.
use Prim.Native.Nat.{ℕ, ◌≤◌, ◌<◌}
use native.Mathlib.Omega.{arith}
use Rattle.image.specs.Reading.{group_at}
use Rattle.image.specs.declared.Settings.{Settings}
use Rattle.image.specs.declared.Threshold.{Threshold}
use Rattle.channels.specs.Channel.{over_release, under_release}

-- the level at which Over lets go, of a threshold that is a byte, whatever the hysteresis
pub over_release_lem : (threshold : Threshold) → threshold.level < 256 → over_release threshold ≤ 255
unfolding over_release
over_release_lem threshold byte = omega arith

-- the level at which Under lets go
pub under_release_lem : (threshold : Threshold) → under_release threshold ≤ 255
unfolding under_release
under_release_lem threshold = omega arith

-- both release levels of a group
pub record ReleaseLevels (over under : Threshold) : Type 0 where
  pub over_lies : over_release over ≤ 255
  pub under_lies : under_release under ≤ 255

-- every group of settings whose thresholds are bytes, accepted settings among them
pub release_levels : (settings : Settings) (k : ℕ) → (group_at settings k).over.level < 256
    → ReleaseLevels (group_at settings k).over (group_at settings k).under
release_levels settings k byte = record { over_lies = over_release_lem _ byte; under_lies = under_release_lem _ }
