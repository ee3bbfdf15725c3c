-- The paper's list "Numbers given back", each under the name by which every other definition calls it. Assumes nothing.
use Rattle.std.specs.Prelude.{ℕ}

-- "0 | accepted"
abbrev pub accepted_number : ℕ
accepted_number = 0

-- "1 | wrong length of an input, or of the writer's buffer"
abbrev pub wrong_length : ℕ
wrong_length = 1

-- "2 | a "cannot be used" bit is set, or an unlisted byte is not 0"
abbrev pub reserved : ℕ
reserved = 2

-- "3 | a code that the source's table does not print"
abbrev pub unprinted : ℕ
unprinted = 3

-- "4 | a field or setting out of its range"
abbrev pub out_of_range : ℕ
out_of_range = 4

-- "5 | a tag used by an earlier step"
abbrev pub repeated_tag : ℕ
repeated_tag = 5

-- "6 | a jump to a tag that no step has"
abbrev pub unknown_tag : ℕ
unknown_tag = 6

-- "7 | more than 63 cells"
abbrev pub too_many_cells : ℕ
too_many_cells = 7

-- "8 | a state that the rules cannot reach by range"
abbrev pub unreachable : ℕ
unreachable = 8

-- "9 | an input word out of range"
abbrev pub bad_word : ℕ
bad_word = 9

-- "10 | the lent table buffer is under 12 bytes a cell"
abbrev pub no_room : ℕ
no_room = 10
