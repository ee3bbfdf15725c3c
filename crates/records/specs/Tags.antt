-- Records of any width, one after the other, each with its tag in its first two bytes. Assumes nothing.
use Rattle.std.specs.Prelude.{ℕ, zero, suc, ◌*◌, Bool, false, cond, ◌||◌, List, eqb}
use Rattle.records.specs.Words.{word_at}

-- "Both are plain records, no header": record k of width w begins at w * k. Its tag is a whole number of sixteen bits
unfoldable pub tag_at : ℕ → List ℕ → ℕ → ℕ
tag_at w bytes k = word_at bytes (w * k)

-- one of the first n records has the tag
unfoldable pub used_before : ℕ → List ℕ → ℕ → ℕ → Bool
used_before w bytes tag zero = false
used_before w bytes tag (suc n) = used_before w bytes tag n || eqb (tag_at w bytes n) tag

-- "a tag used by an earlier step": record j repeats the tag of one before it
unfoldable pub repeats : ℕ → List ℕ → ℕ → Bool
repeats w bytes j = used_before w bytes (tag_at w bytes j) j

-- the lowest of n numbers from i on for which the test holds; past them where it holds for none
unfoldable pub lowest : (ℕ → Bool) → ℕ → ℕ → ℕ
lowest test i zero = i
lowest test i (suc n) = cond (test i) i (lowest test (suc i) n)

-- the lowest of the first n records with the tag, n where none has it
unfoldable pub look_up : ℕ → List ℕ → ℕ → ℕ → ℕ
look_up w bytes n tag = lowest (λ k. eqb (tag_at w bytes k) tag) 0 n
