-- The ranges that a step and a cell share, and the kinds of fault that a field may have. Assumes nothing.
use Rattle.std.specs.Prelude.{ℕ, max, Bool, not, ◌||◌, ltb, leb, eqb}

-- ---- ranges: "the rest as in a sheet"

-- "outputs and mask below 1024"
unfoldable pub outputs_in_range : ℕ → Bool
outputs_in_range outputs = ltb outputs 1024

unfoldable pub mask_in_range : ℕ → Bool
mask_in_range mask = ltb mask 1024

-- "channel 0 for none or 1 to 10"
unfoldable pub channel_in_range : ℕ → Bool
channel_in_range channel = leb channel 10

-- "level 0 or 1"
unfoldable pub level_in_range : ℕ → Bool
level_in_range level = leb level 1

-- "with channel 0 the level is 0"
unfoldable pub level_allowed : ℕ → ℕ → Bool
level_allowed channel level = not (eqb channel 0) || eqb level 0

-- "Word 1023 is taken, 1024 refused"
unfoldable pub word_in_range : ℕ → Bool
word_in_range word = ltb word 1024

-- "elapsed below the larger of 1 and the timeout"
unfoldable pub elapsed_in_range : ℕ → ℕ → Bool
elapsed_in_range timeout elapsed = ltb elapsed (max 1 timeout)

-- ---- kinds of fault: a record's test answers the kind, and the offset of the field at fault as place

abbrev pub range_fault : ℕ
range_fault = 12

abbrev pub jump_without_exit : ℕ
jump_without_exit = 13

abbrev pub exit_without_jump : ℕ
exit_without_jump = 14

abbrev pub level_without_channel : ℕ
level_without_channel = 15
