-- A line of text and what is put into it: words, and numbers as digits. Assumes nothing.
use Rattle.std.specs.Prelude.{ℕ, zero, suc, ◌-◌, ◌^◌, min, max, cond, List, ◌++◌, ltb, length, take, drop, replicate}
use Rattle.io.specs.Digits.{last_digits}
use Rattle.text.specs.declared.Line.{Line}

-- ---- a line
abbrev pub empty_line : Line
empty_line = record { bytes = replicate 256 0; length = 0 }

-- the bytes that stand in a line
unfoldable pub written : Line → List ℕ
written line = take (min line.length 256) line.bytes

-- the line in which these bytes stand, and behind them what was there
unfoldable pub rewritten : Line → List ℕ → Line
rewritten line bytes = record { bytes = bytes ++ drop (length bytes) line.bytes; length = length bytes }

-- the line with the text after what stands there, as much of it as 256 bytes hold
unfoldable pub appended : Line → List ℕ → Line
appended line text = rewritten line (take 256 (written line ++ text))

-- ---- numbers as text
-- the fewest digits that hold n in base b: k at least, k + more at most
unfoldable pub places : ℕ → ℕ → ℕ → ℕ → ℕ
places b n k zero = k
places b n k (suc more) = cond (ltb n (b ^ k)) k (places b n (suc k) more)

-- the fewest digits of n in base b, from `least` to `most` of them, that hold it; the last `most` where none hold it
unfoldable pub numeral : ℕ → ℕ → ℕ → ℕ → List ℕ
numeral b least most n = last_digits b (places b n least (most - least)) n

-- a number of 64 bits in decimal, with no zero in front
unfoldable pub decimal_text : ℕ → List ℕ
decimal_text n = numeral 10 1 20 n

-- a number of 64 bits in hexadecimal, in lower case, with zeros in front up to `width` digits, of which it has 1 to 16
unfoldable pub hex_text : ℕ → ℕ → List ℕ
hex_text width n = numeral 16 (min (max width 1) 16) 16 n
