-- Laws of the ranges that a step and a cell share: each test as the fact that it stands for, both ways. Assumes nothing.
use Prim.Native.Nat.{ℕ, ◌≤◌, ◌<◌, max}
use mathlib.Core.Path.{◌≡◌}
use mathlib.Core.Bool.{true}
use mathlib.Core.Logic.{◌↔◌}
use Rattle.records.proofs.TestLaws.{lt_test, le_test, absent_test}
use Rattle.machine.specs.Fields.{outputs_in_range, mask_in_range, channel_in_range, level_in_range, level_allowed, word_in_range, elapsed_in_range}

-- "outputs and mask below 1024"
pub outputs_range : (outputs : ℕ) → (outputs_in_range outputs ≡ true) ↔ (outputs < 1024)
unfolding outputs_in_range
outputs_range outputs = lt_test outputs 1024

-- "outputs and mask below 1024"
pub mask_range : (mask : ℕ) → (mask_in_range mask ≡ true) ↔ (mask < 1024)
unfolding mask_in_range
mask_range mask = lt_test mask 1024

-- "channel 0 for none or 1 to 10"
pub channel_range : (channel : ℕ) → (channel_in_range channel ≡ true) ↔ (channel ≤ 10)
unfolding channel_in_range
channel_range channel = le_test channel 10

-- "level 0 or 1"
pub level_range : (level : ℕ) → (level_in_range level ≡ true) ↔ (level ≤ 1)
unfolding level_in_range
level_range level = le_test level 1

-- "with channel 0 the level is 0"
pub level_allowed_lem : (channel level : ℕ) → (level_allowed channel level ≡ true) ↔ (channel ≡ 0 → level ≡ 0)
unfolding level_allowed
level_allowed_lem channel level = absent_test channel level

-- "Word 1023 is taken, 1024 refused"
pub word_range : (word : ℕ) → (word_in_range word ≡ true) ↔ (word < 1024)
unfolding word_in_range
word_range word = lt_test word 1024

-- "elapsed below the larger of 1 and the timeout"
pub elapsed_range : (timeout elapsed : ℕ) → (elapsed_in_range timeout elapsed ≡ true) ↔ (elapsed < max 1 timeout)
unfolding elapsed_in_range
elapsed_range timeout elapsed = lt_test elapsed (max 1 timeout)
