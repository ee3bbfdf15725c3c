-- Laws of lines and of numbers as text. Assumes nothing.
use Prim.Native.Nat.{ℕ, zero, suc, ◌+◌, ◌-◌, ◌^◌, ◌≤◌, ◌<◌, min, max}
use mathlib.Core.Path.{◌≡◌, refl, ap, ap₂, sym, subst, ◌∙◌}
use mathlib.Core.List.{List, [], ◌∷◌, ◌++◌, append_assoc}
use native.Mathlib.Nat.{add-zero, add-suc, suc-add, add-sub_of_le, le_antisymm, le_of_suc-le-suc, lt_of_not-le, pow-le-pow_right, min-eq_left, min-le_right, min-zero, zero-min, suc-min-suc}
use native.Mathlib.Decide.{dec_le}
use native.Mathlib.Omega.{arith}
use borrow.Author.Tests.{lt-ltb, le-ltb}
use lib.ListN.{length, take, drop, length-append, length-take}
use lib.Seq.{take_at, take-append-add, drop-append-add, drop-drop}
use borrow.Rule.Slice.PartMut.{put_mid}
use mir.Val.{Val}
use denote.Laws.{Is as Owned}
use denote.Struct.Declared.{row}
use Rattle.io.specs.Digits.{last_digits, IsDigitCount}
use Rattle.text.specs.Text.{empty_line, written, rewritten, appended, places, numeral, decimal_text, hex_text}
use Rattle.text.specs.declared.Line.{Line}
use Rattle.text.specs.contracts.Line.{the_type}

-- ---- lists
module _ {ℓ} {A : Type ℓ} where
  take_joined : (n : ℕ) (s t : List A) → take n (take n s ++ t) ≡ take n (s ++ t)
  take_joined zero s t = refl
  take_joined (suc n) [] t = refl
  take_joined (suc n) (a ∷ s) t = ap (λ (l : List A). a ∷ l) (take_joined n s t)

  take_within : (n : ℕ) (l : List A) → take (min (length l) n) l ≡ take n l
  take_within zero l = ap (λ (k : ℕ). take k l) (min-zero (length l))
  take_within (suc n) [] = ap (λ (k : ℕ). take k []) (zero-min (suc n))
  take_within (suc n) (a ∷ l) =
      ap (λ (k : ℕ). take k (a ∷ l)) (suc-min-suc (length l) n) ∙ ap (λ (r : List A). a ∷ r) (take_within n l)

  drop_behind : (n : ℕ) (s l : List A) → length s ≤ n → drop n (s ++ drop (length s) l) ≡ drop n l
  drop_behind n s l h =
      let past : length s + (n - length s) ≡ n = add-sub_of_le h in
      ap (λ (k : ℕ). drop k (s ++ drop (length s) l)) (sym past)
      ∙ drop-append-add s _ (n - length s)
      ∙ drop-drop (n - length s) (length s) l
      ∙ ap (λ (k : ℕ). drop k l) past

-- ---- a line
abbrev pub line_of : List ℕ → ℕ → Line
line_of bytes length = record { bytes = bytes; length = length }

-- what its type tells of a line
pub line_bytes : (line : Line) (values : List Val) → Owned (row the_type) line values → length line.bytes ≡ 256
line_bytes line values owned = owned.1.1.0.1.0.1

pub written_empty : written empty_line ≡ []
unfolding written
written_empty = refl

written_rewritten : (line : Line) (bytes : List ℕ) → length bytes ≤ 256 → written (rewritten line bytes) ≡ bytes
unfolding written rewritten
written_rewritten line bytes h =
    ap (λ (n : ℕ). take n (bytes ++ drop (length bytes) line.bytes)) (min-eq_left h) ∙ take_at bytes _ (length bytes) refl

rewritten_twice : (line : Line) (s t : List ℕ) → length s ≤ length t → rewritten (rewritten line s) t ≡ rewritten line t
unfolding rewritten
rewritten_twice line s t h = ap (λ (rest : List ℕ). line_of (t ++ rest) (length t)) (drop_behind (length t) s line.bytes h)

pub written_appended : (line : Line) (text : List ℕ) → written (appended line text) ≡ take 256 (written line ++ text)
unfolding appended
written_appended line text = written_rewritten line _ (simp length-take (omega arith))

pub appended_twice : (line : Line) (s t : List ℕ) → appended (appended line s) t ≡ appended line (s ++ t)
unfolding appended
appended_twice line s t =
    let all = written line ++ (s ++ t) in
    let text : take 256 (written (appended line s) ++ t) ≡ take 256 all =
    ap (λ (w : List ℕ). take 256 (w ++ t)) (written_appended line s)
    ∙ take_joined 256 (written line ++ s) t
    ∙ ap (take 256) (append_assoc (written line) s t)
    in
    ap (rewritten (appended line s)) text
    ∙ rewritten_twice line (take 256 (written line ++ s)) (take 256 all) (simp (length-take, length-append) (omega arith))

-- ---- a line that is written to: as many bytes of the text as fit, from the end of what stands there on
module _ (line : Line) (whole : length line.bytes ≡ 256) where
  pub written_length : length (written line) ≡ min line.length 256
  unfolding written
  written_length = length-take (min line.length 256) line.bytes ∙ omega arith

  pub written_take : take (length (written line)) line.bytes ≡ written line
  unfolding written
  written_take = ap (λ (n : ℕ). take n line.bytes) written_length

  module _ (text : List ℕ) where
    standing : take 256 (written line ++ text)
        ≡ take (length (written line)) line.bytes ++ take (min (length text) (256 - length (written line))) text
    standing =
        let start = length (written line) in
        let past : start + (256 - start) ≡ 256 = omega (arith, written_length) in
        ap (λ (n : ℕ). take n (written line ++ text)) (sym past)
        ∙ take-append-add (written line) text (256 - start)
        ∙ ap₂ (λ (s t : List ℕ). s ++ t) (sym written_take) (sym (take_within (256 - start) text))

    standing_length : length (take 256 (written line ++ text)) ≡ length (written line) + min (length text) (256 - length (written line))
    standing_length = simp (length-take, length-append) (omega (arith, written_length))

    -- as much of the text as fits, put behind what stands in the line
    pub appended_put : (start count k : ℕ) (part : List ℕ) → start ≡ length (written line) → count ≡ min (length text) (256 - start)
        → k ≡ count → part ≡ take count text → line_of (put_mid start k line.bytes part) (start + count) ≡ appended line text
    unfolding appended rewritten
    appended_put start count k part p q same copied =
        let counted : count ≡ min (length text) (256 - length (written line)) = q ∙ ap (λ (n : ℕ). min (length text) (256 - n)) p in
        ap (λ (bytes : List ℕ). line_of bytes (start + count))
        (ap₂ (λ (n : ℕ) (l : List ℕ). put_mid start n line.bytes l) same copied
        ∙ sym (append_assoc (take start line.bytes) (take count text) (drop count (drop start line.bytes)))
        ∙ ap (λ (l : List ℕ). (take start line.bytes ++ take count text) ++ l) (drop-drop count start line.bytes))
        ∙ ap₂ (λ (t : List ℕ) (n : ℕ). line_of (t ++ drop n line.bytes) n)
        (ap₂ (λ (m n : ℕ). take m line.bytes ++ take n text) p counted ∙ sym standing)
        (ap₂ ◌+◌ p counted ∙ sym standing_length)

-- ---- the fewest digits
module _ (b least n : ℕ) (positive : 0 < b) where
  not_more : (j k : ℕ) → IsDigitCount b least n j → IsDigitCount b least n k → k < j → ⊥
  not_more j k fj fk over =
      let p : b ^ (j - 1) ≤ n = fj.2 (omega arith) in
      let q : b ^ k ≤ b ^ (j - 1) = pow-le-pow_right positive (omega arith) in
      omega arith

  -- two counts of digits that are the fewest are equal
  pub fewest_equal : (j k : ℕ) → IsDigitCount b least n j → IsDigitCount b least n k → j ≡ k
  fewest_equal j k fj fk =
      le_antisymm (le_of_suc-le-suc (lt_of_not-le (not_more j k fj fk))) (le_of_suc-le-suc (lt_of_not-le (not_more k j fk fj)))

places_hit : (b n k more : ℕ) → n < b ^ k → places b n k (suc more) ≡ k
unfolding places
places_hit b n k more h = rw (lt-ltb _ _ h)

places_pass : (b n k more : ℕ) → b ^ k ≤ n → places b n k (suc more) ≡ places b n (suc k) more
unfolding places
places_pass b n k more h = rw (le-ltb _ _ h)

places_fewest : (b least n k more : ℕ) → least ≤ k → (least < k → b ^ (k - 1) ≤ n) → n < b ^ (k + more)
    → IsDigitCount b least n (places b n k more)
unfolding places
places_fewest b least n k zero within before holds = (within, subst (λ (m : ℕ). n < b ^ m) (add-zero k) holds, before)
places_fewest b least n k (suc more) within before holds =
    elim (dec_le (b ^ k) n) [
      | no p ↦ subst (IsDigitCount b least n) (sym (places_hit b n k more (lt_of_not-le p))) (within, lt_of_not-le p, before)
      | yes p ↦ subst (IsDigitCount b least n) (sym (places_pass b n k more p))
          (places_fewest b least n (suc k) more (omega arith) (λ _. subst (λ (m : ℕ). b ^ m ≤ n) (one_less k) p)
          (subst (λ (m : ℕ). n < b ^ m) (add-suc k more ∙ sym (suc-add k more)) holds))
    ]
  where
    one_less : (m : ℕ) → m ≡ suc m - 1
    one_less m = omega arith

-- the fewest digits are the numeral
pub numeral_fewest : (b least most n k : ℕ) → 0 < b → least ≤ most → n < b ^ most → IsDigitCount b least n k → last_digits b k n ≡ numeral b least most n
unfolding numeral
numeral_fewest b least most n k positive within holds fewest =
    let found = places_fewest b least n least (most - least) (omega arith) (λ h. absurd (not-less least h))
    (subst (λ (m : ℕ). n < b ^ m) (sym (add-sub_of_le within)) holds)
    in
    ap (λ (m : ℕ). last_digits b m n) (fewest_equal b least n positive k _ fewest found)
  where
    not-less : (m : ℕ) → m < m → ⊥
    not-less m h = omega arith

pub decimal_fewest : (n k : ℕ) → n < 2 ^ 64 → IsDigitCount 10 1 n k → last_digits 10 k n ≡ decimal_text n
unfolding decimal_text
decimal_fewest n k holds fewest = numeral_fewest 10 1 20 n k (omega arith) (omega arith) (omega arith) fewest

pub hex_fewest : (width n k : ℕ) → n < 2 ^ 64 → IsDigitCount 16 (min (max width 1) 16) n k → last_digits 16 k n ≡ hex_text width n
unfolding hex_text
hex_fewest width n k holds fewest = numeral_fewest 16 (min (max width 1) 16) 16 n k (omega arith) (min-le_right _ _) holds fewest

-- ---- a few texts in full
-- "0", "207" and the greatest number of 64 bits, which has twenty digits
pub decimal_zero : decimal_text 0 ≡ 48 ∷ []
unfolding decimal_text numeral places
decimal_zero = refl

pub decimal_207 : decimal_text 207 ≡ 50 ∷ 48 ∷ 55 ∷ []
unfolding decimal_text numeral places
decimal_207 = refl

pub decimal_greatest : length (decimal_text (2 ^ 64 - 1)) ≡ 20
unfolding decimal_text numeral places
decimal_greatest = refl

-- "00af", and "af" where fewer digits are asked for
pub hex_padded : hex_text 4 0xaf ≡ 48 ∷ 48 ∷ 97 ∷ 102 ∷ []
unfolding hex_text numeral places
hex_padded = refl

pub hex_narrow : hex_text 0 0xaf ≡ 97 ∷ 102 ∷ []
unfolding hex_text numeral places
hex_narrow = refl

-- "refused 7" in a line
pub line_in_full : written (appended (appended empty_line (114 ∷ 101 ∷ 102 ∷ 117 ∷ 115 ∷ 101 ∷ 100 ∷ [])) (32 ∷ decimal_text 7))
    ≡ 114 ∷ 101 ∷ 102 ∷ 117 ∷ 115 ∷ 101 ∷ 100 ∷ 32 ∷ 55 ∷ []
unfolding written appended rewritten decimal_text numeral places
line_in_full = refl
