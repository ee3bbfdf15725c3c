-- Ten groups of eight bytes, and which pin each belongs to. Assumes nothing.
use Rattle.std.specs.Prelude.{ℕ, ◌*◌, Bool, List, ltb, eqb, leb, take, drop}

-- "in the order VP1, VP2, VP3, VP4, VH, VX1 to VX5"
abbrev pub is_vp : ℕ → Bool
is_vp k = ltb k 4

abbrev pub is_vh : ℕ → Bool
is_vh k = eqb k 4

abbrev pub is_vx : ℕ → Bool
is_vx k = leb 5 k

-- "Each group is read by itself, as a part of the image": the eight bytes from 8k on
unfoldable pub part : List ℕ → ℕ → List ℕ
part image k = take 8 (drop (8 * k) image)
