-- Fields of a byte, in arithmetic. Assumes nothing.
use Rattle.std.specs.Prelude.{ℕ, ◌+◌, ◌*◌, ◌/◌, ◌%◌, ◌^◌}

-- the `width` bits of a number that begin at bit `low`, as "bits 4:2" is 3 bits from bit 2
unfoldable pub bits : ℕ → ℕ → ℕ → ℕ
bits b low width = b / 2 ^ low % 2 ^ width

-- the byte whose lowest `low` bits are those of `rest`, and whose bits above are `value`
unfoldable pub joined : ℕ → ℕ → ℕ → ℕ
joined value low rest = value * 2 ^ low % 2 ^ 8 + rest % 2 ^ low
