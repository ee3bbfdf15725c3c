-- Laws of lists made of pieces, one after the other, over any element. Assumes nothing.
use Prim.Native.Nat.{ℕ, zero, suc, ◌+◌, ◌-◌, ◌*◌, ◌<◌}
use mathlib.Core.Path.{◌≡◌, ap, ap₂, sym, ◌∙◌}
use mathlib.Core.List.{List, ◌++◌, append_assoc, append-nil}
use native.Mathlib.Nat.{add-zero, zero-add, add-suc, suc-add, mul-zero, mul-suc}
use native.Mathlib.Omega.{arith}
use lib.ListN.{length, length-append}
use Rattle.records.specs.Lists.{pieces}

module _ {ℓ} {A : Type ℓ} where
  -- the first m pieces, and then the others
  pub pieces_split : (f : ℕ → List A) (i m n : ℕ) → pieces f i (m + n) ≡ pieces f i m ++ pieces f (i + m) n
  unfolding pieces
  pieces_split f i zero n = ap₂ (λ (k c : ℕ). pieces f k c) (sym (add-zero i)) (zero-add n)
  pieces_split f i (suc m) n =
      ap (pieces f i) (suc-add m n)
      ∙ ap (λ (l : List A). f i ++ l)
      (pieces_split f (suc i) m n ∙ ap (λ (k : ℕ). pieces f (suc i) m ++ pieces f k n) (suc-add i m ∙ sym (add-suc i m)))
      ∙ sym (append_assoc (f i) (pieces f (suc i) m) (pieces f (i + suc m) n))

  -- one more piece at the end
  pub pieces_more : (f : ℕ → List A) (i n : ℕ) → pieces f i (n + 1) ≡ pieces f i n ++ f (i + n)
  unfolding pieces
  pieces_more f i n = pieces_split f i n 1 ∙ ap (λ (l : List A). pieces f i n ++ l) (append-nil (f (i + n)))

  -- piece k, with what stands before it and after it
  pub pieces_at : (f : ℕ → List A) (n k : ℕ) → k < n → pieces f 0 n ≡ pieces f 0 k ++ (f k ++ pieces f (suc k) (n - suc k))
  unfolding pieces
  pieces_at f n k h =
      let split : n ≡ k + suc (n - suc k) = omega arith in
      ap (pieces f 0) split
      ∙ pieces_split f 0 k (suc (n - suc k))
      ∙ ap (λ (m : ℕ). pieces f 0 k ++ pieces f m (suc (n - suc k))) (zero-add k)

  -- n pieces of w elements each
  pub pieces_length : (f : ℕ → List A) (w : ℕ) → ((k : ℕ) → length (f k) ≡ w) → (i n : ℕ) → length (pieces f i n) ≡ w * n
  unfolding pieces
  pieces_length f w each i zero = sym (mul-zero w)
  pieces_length f w each i (suc n) =
      length-append (f i) (pieces f (suc i) n)
      ∙ ap₂ ◌+◌ (each i) (pieces_length f w each (suc i) n)
      ∙ (let sum : w + w * n ≡ w * n + w = omega arith in sum)
      ∙ sym (mul-suc w n)
