-- The bytes of a cell, read back where they stand. Assumes nothing.
use Prim.Native.Nat.{ℕ, ◌+◌, ◌*◌}
use mathlib.Core.Path.{◌≡◌, refl, ap, ap₂, sym, subst, ◌∙◌}
use mathlib.Core.List.{List, ◌++◌}
use native.Mathlib.Nat.{add-zero, add_assoc}
use native.Mathlib.Omega.{arith}
use lib.ListN.{length, get_or}
use lib.Seq.{get_or-append-add}
use Rattle.records.specs.Words.{word_at, low_byte, high_byte}
use Rattle.machine.specs.declared.Node.{Node}
use Rattle.tables.specs.Tables.{cell_at, cell_bytes}

-- a word is its two bytes
pub word_bytes : (word : ℕ) → low_byte word + 256 * high_byte word ≡ word
unfolding low_byte high_byte
word_bytes word = omega arith

-- a cell is twelve bytes
pub cell_length : (cell : Node) → length (cell_bytes cell) ≡ 12
unfolding cell_bytes
cell_length cell = refl

module _ (before bytes : List ℕ) (at : ℕ) (place : length before ≡ at) where
  byte_past : (n : ℕ) → get_or (before ++ bytes) (at + n) 0 ≡ get_or bytes n 0
  byte_past n = subst (λ (m : ℕ). get_or (before ++ bytes) (m + n) 0 ≡ get_or bytes n 0) place (get_or-append-add before bytes n 0)

  word_past : (n : ℕ) → word_at (before ++ bytes) (at + n) ≡ get_or bytes n 0 + 256 * get_or bytes (n + 1) 0
  unfolding word_at
  word_past n =
      ap₂ (λ (a b : ℕ). a + 256 * b) (byte_past n)
      (ap (λ (m : ℕ). get_or (before ++ bytes) m 0) (add_assoc at n 1) ∙ byte_past (n + 1))

  first_word : word_at (before ++ bytes) at ≡ get_or bytes 0 0 + 256 * get_or bytes 1 0
  first_word = ap (word_at (before ++ bytes)) (sym (add-zero at)) ∙ word_past 0

-- cell k, read from bytes of which twelve, past 12 * k others, are the cell's, is the cell
pub cell_read : (before : List ℕ) (cell : Node) (rest : List ℕ) (k : ℕ) → length before ≡ 12 * k
    → cell_at (before ++ (cell_bytes cell ++ rest)) k ≡ cell
unfolding cell_at cell_bytes
cell_read before cell rest k place i =
    let bytes = cell_bytes cell ++ rest in
    record {
      outputs = (first_word before bytes (12 * k) place ∙ word_bytes cell.outputs) i;
      mask = (word_past before bytes (12 * k) place 2 ∙ word_bytes cell.mask) i;
      faultto = byte_past before bytes (12 * k) place 4 i;
      channel = byte_past before bytes (12 * k) place 5 i;
      level = byte_past before bytes (12 * k) place 6 i;
      sequenceto = byte_past before bytes (12 * k) place 7 i;
      timeout = (word_past before bytes (12 * k) place 8 ∙ word_bytes cell.timeout) i;
      timeoutto = byte_past before bytes (12 * k) place 10 i;
      step = byte_past before bytes (12 * k) place 11 i;
    }
