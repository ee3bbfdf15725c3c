-- "Numbers of several bytes have the low byte first." Assumes nothing.
use Rattle.std.specs.Prelude.{ℕ, zero, suc, ◌+◌, ◌*◌, ◌/◌, ◌%◌, ◌^◌, Bool, cond, List, get_or}

-- the word of two bytes at a place
unfoldable pub word_at : List ℕ → ℕ → ℕ
word_at bytes at = get_or bytes at 0 + 256 * get_or bytes (at + 1) 0

-- the two bytes of a word
unfoldable pub low_byte : ℕ → ℕ
low_byte word = word % 256

unfoldable pub high_byte : ℕ → ℕ
high_byte word = word / 256

-- the word of sixteen bits with bit k alone, or with none
unfoldable pub bit_word : Bool → ℕ → ℕ
bit_word on k = cond on (2 ^ k % 2 ^ 16) 0

-- the word whose bit k is set where f k holds, for k below n
unfoldable pub word_of : (ℕ → Bool) → ℕ → ℕ
word_of f zero = 0
word_of f (suc n) = word_of f n + cond (f n) (2 ^ n) 0
