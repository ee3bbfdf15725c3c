-- Lists made by a rule from a run of numbers, and copies of bytes. Assumes nothing.
use Rattle.std.specs.Prelude.{ℕ, zero, suc, ◌*◌, ◌%◌, Bool, cond, ◌&&◌, List, [], ◌∷◌, ◌++◌, ltb, leb, eqb, length}

-- f i, f (i + 1) and so on, n of them
unfoldable pub each {ℓ} : {A : Type ℓ} → (ℕ → A) → ℕ → ℕ → List A
each f i zero = []
each f i (suc n) = f i ∷ each f (suc i) n

-- the lists f i, f (i + 1) and so on, n of them, one after the other
unfoldable pub pieces {ℓ} : {A : Type ℓ} → (ℕ → List A) → ℕ → ℕ → List A
pieces f i zero = []
pieces f i (suc n) = f i ++ pieces f (suc i) n

-- as many bytes in the place of others; where the two differ in length, the others stay
unfoldable pub copied : List ℕ → List ℕ → List ℕ
copied bytes part = cond (eqb (length part) (length bytes)) bytes part

-- 1 to 63 records of so many bytes, one after the other, and nothing else
unfoldable pub whole_records : ℕ → List ℕ → Bool
whole_records width bytes = ltb 0 width && leb width (length bytes) && leb (length bytes) (63 * width) && eqb (length bytes % width) 0
