-- Laws of a list that is taken apart from the front, `width` elements at a time or one. Assumes nothing.
use Prim.Native.Nat.{ℕ, suc, ◌+◌, ◌-◌, ◌*◌, ◌/◌, ◌<◌, ◌≤◌}
use mathlib.Core.Path.{◌≡◌, ap, sym, ◌∙◌}
use mathlib.Core.List.{List, ◌∷◌, ◌++◌}
use native.Mathlib.Nat.{mul-suc}
use native.Mathlib.Numerals.{add-one}
use native.Mathlib.Omega.{arith}
use Rattle.std.proofs.Math.Nat.{le-div_iff_mul-le, div-lt_iff_lt-mul}
use lib.ListN.{length, get_or, take, drop, length-append, length-drop}
use lib.Seq.{drop-cons, drop-drop, take_at, drop_at}

-- what is left after k chunks
module _ {A : Type 0} (width k : ℕ) (whole : List A) {rest : List A} (left : rest ≡ drop (width * k) whole) where
  length_left : length rest ≡ length whole - width * k
  length_left = ap length left ∙ length-drop (width * k) whole

  -- is too short for one more
  pub none_left : length rest < width → length whole / width ≤ k
  none_left short =
      let short_of : length whole < (k + 1) * width = omega (arith, length_left) in
      let some : 0 < width = omega arith in
      let below : length whole / width < k + 1 = (div-lt_iff_lt-mul some).1 short_of in
      omega arith

  -- begins with chunk k, and has the next behind it
  module _ (chunk others : List A) (cut : rest ≡ chunk ++ others) (wide : length chunk ≡ width) where
    pub one_left : 0 < width → k < length whole / width
    one_left some =
        let parts : length rest ≡ length chunk + length others = ap length cut ∙ length-append chunk others in
        let room : (k + 1) * width ≤ length whole = omega (arith, length_left) in
        let within : k + 1 ≤ length whole / width = (le-div_iff_mul-le some).1 room in
        omega arith

    pub chunk_is : chunk ≡ take width (drop (width * k) whole)
    chunk_is = sym (ap (take width) (sym left ∙ cut) ∙ take_at chunk others width wide)

    pub others_left : others ≡ drop (width * (k + 1)) whole
    others_left =
        sym (ap (drop width) (sym left ∙ cut) ∙ drop_at chunk others width wide)
        ∙ drop-drop width (width * k) whole
        ∙ ap (λ (n : ℕ). drop n whole) (sym (mul-suc width k) ∙ ap (λ (n : ℕ). width * n) (sym (add-one k)))

-- what is left after k elements
module _ {A : Type 0} (k : ℕ) (whole : List A) {rest : List A} (left : rest ≡ drop k whole) where
  element_length : length rest ≡ length whole - k
  element_length = ap length left ∙ length-drop k whole

  pub no_element_left : length rest ≡ 0 → length whole ≤ k
  no_element_left none = omega (arith, element_length)

  -- begins with element k, and has the next behind it
  module _ (element : A) (others : List A) (cut : rest ≡ element ∷ others) where
    pub element_left : k < length whole
    element_left =
        let parts : length rest ≡ suc (length others) = ap length cut in
        omega (arith, element_length)

    pub element_is : (d : A) → element ≡ get_or whole k d
    element_is d = let cons = drop-cons whole k d element_left in cc

    pub elements_left : others ≡ drop (k + 1) whole
    elements_left =
        let cons = drop-cons whole k element element_left in
        let behind : others ≡ drop (suc k) whole = cc in
        behind ∙ ap (λ (n : ℕ). drop n whole) (sym (add-one k))
