-- "Normal bytes use the lowest code where two codes mean the same", byte by byte. Assumes nothing.
use Rattle.std.specs.Prelude.{ℕ, ◌-◌, ◌/◌, ◌%◌, Bool, cond, ◌&&◌, ◌||◌, List, eqb, get_or}
use Rattle.records.specs.Bits.{bits}
use Rattle.records.specs.Lists.{each}
use Rattle.image.specs.Groups.{is_vp}

-- byte 5 of VP: "2 and 3 ultralow"
unfoldable pub range_twice : ℕ → ℕ → ℕ → Bool
range_twice k j b = is_vp k && eqb j 5 && eqb (bits b 0 2) 3

-- byte 7: "0 and 1 none; 2 and 3 300 kΩ to VDDCAP"
unfoldable pub pull_twice : ℕ → ℕ → Bool
pull_twice j b = eqb j 7 && (eqb (bits b 0 4) 1 || eqb (bits b 0 4) 3)

-- in each pair the lower code is one less
unfoldable pub normal_byte : ℕ → ℕ → ℕ → ℕ
normal_byte k j b = cond (range_twice k j b || pull_twice j b) (b - 1) b

unfoldable pub normal : List ℕ → List ℕ
normal image = each (λ address. normal_byte (address / 8) (address % 8) (get_or image address 0)) 0 80
