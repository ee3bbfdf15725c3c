-- Laws of lists made by a rule, over any element. Assumes nothing.
use Prim.Native.Nat.{ℕ, zero, suc, ◌+◌, ◌-◌, ◌*◌, ◌/◌, ◌%◌, ◌≤◌, ◌<◌}
use mathlib.Core.Path.{◌≡◌, refl, ap, ap₂, sym, subst, ◌∙◌}
use mathlib.Core.List.{List, [], ◌∷◌, ◌++◌, append_assoc, append-nil}
use native.Mathlib.Nat.{add-zero, zero-add, add-suc, suc-add, not-suc-le-zero, le_of_suc-le-suc, mul-suc, mul_comm}
use native.Mathlib.Numerals.{add-one}
use native.Mathlib.Omega.{arith}
use lib.Arith.{digits_div, digits_mod}
use lib.ListN.{length, get_or, take, drop, set, length-append, length-drop}
use lib.Seq.{drop-cons, drop-drop, drop-length, take_at, drop_at, set_at, append_snoc, ext_get_or}
use borrow.Author.Tests.{eq-eqb}
use Rattle.records.specs.Lists.{each, copied}

module _ {ℓ} {A : Type ℓ} where
  -- ---- an element
  -- below the length the default does not matter
  pub get_d_default : (l : List A) (i : ℕ) (d e : A) → i < length l → get_or l i d ≡ get_or l i e
  get_d_default [] i d e h = absurd (not-suc-le-zero h)
  get_d_default (x ∷ l) zero d e h = refl
  get_d_default (x ∷ l) (suc i) d e h = get_d_default l i d e (le_of_suc-le-suc h)

  -- ---- each
  pub each_length : (f : ℕ → A) (i n : ℕ) → length (each f i n) ≡ n
  unfolding each
  each_length f i zero = refl
  each_length f i (suc n) = ap suc (each_length f (suc i) n)

  pub each_at : (f : ℕ → A) (i n j : ℕ) (d : A) → j < n → get_or (each f i n) j d ≡ f (i + j)
  unfolding each
  each_at f i zero j d h = absurd (not-suc-le-zero h)
  each_at f i (suc n) zero d h = ap f (sym (add-zero i))
  each_at f i (suc n) (suc j) d h = each_at f (suc i) n j d (le_of_suc-le-suc h) ∙ ap f (suc-add i j ∙ sym (add-suc i j))

  pub each_split : (f : ℕ → A) (i m n : ℕ) → each f i (m + n) ≡ each f i m ++ each f (i + m) n
  unfolding each
  each_split f i zero n = ap₂ (λ (k c : ℕ). each f k c) (sym (add-zero i)) (zero-add n)
  each_split f i (suc m) n =
      ap (each f i) (suc-add m n)
      ∙ ap (λ (l : List A). f i ∷ l) (each_split f (suc i) m n ∙ ap (λ (k : ℕ). each f (suc i) m ++ each f k n) (suc-add i m ∙ sym (add-suc i m)))

  pub each_ext : (f g : ℕ → A) (i n : ℕ) → ((j : ℕ) → j < n → f (i + j) ≡ g (i + j)) → each f i n ≡ each g i n
  unfolding each
  each_ext f g i zero h = refl
  each_ext f g i (suc n) h =
      ap₂ ◌∷◌ (subst (λ (k : ℕ). f k ≡ g k) (add-zero i) (h zero (omega arith)))
      (each_ext f g (suc i) n (λ j p. subst (λ (k : ℕ). f k ≡ g k) (add-suc i j ∙ sym (suc-add i j)) (h (suc j) (omega arith))))

  each_shift : (f : ℕ → A) (i k n : ℕ) → each f (i + k) n ≡ each (λ j. f (i + j)) k n
  unfolding each
  each_shift f i k zero = refl
  each_shift f i k (suc n) =
      ap (λ (l : List A). f (i + k) ∷ l) (ap (λ (m : ℕ). each f m n) (sym (add-suc i k)) ∙ each_shift f i (suc k) n)

  -- counted from 0 in the place of i
  pub each_from : (f : ℕ → A) (i n : ℕ) → each f i n ≡ each (λ j. f (i + j)) 0 n
  each_from f i n = ap (λ (m : ℕ). each f m n) (sym (add-zero i)) ∙ each_shift f i 0 n

  -- one more at the end
  pub each_more : (f : ℕ → A) (i n : ℕ) → each f i (n + 1) ≡ each f i n ++ (f (i + n) ∷ [])
  unfolding each
  each_more f i n = each_split f i n 1

  -- one fewer at the front
  pub each_next : (f : ℕ → A) (i n : ℕ) → i < n → each f i (n - i) ≡ f i ∷ each f (i + 1) (n - (i + 1))
  unfolding each
  each_next f i n h =
      let left : n - i ≡ suc (n - (i + 1)) = omega arith in
      ap (each f i) left ∙ ap (λ (m : ℕ). f i ∷ each f m (n - (i + 1))) (sym (add-one i))

  pub each_none : (f : ℕ → A) (i n : ℕ) → n ≤ i → each f i (n - i) ≡ []
  unfolding each
  each_none f i n h =
      let left : n - i ≡ 0 = omega arith in
      ap (each f i) left

  -- a list is what its elements make
  pub each_elements : (l : List A) (d : A) → each (λ i. get_or l i d) 0 (length l) ≡ l
  each_elements l d =
      let all = each_length (λ i. get_or l i d) 0 (length l) in
      ext_get_or d (each (λ i. get_or l i d) 0 (length l)) l all
      (λ i h. each_at (λ i. get_or l i d) 0 (length l) i d (subst (λ (n : ℕ). i < n) all h) ∙ ap (λ (m : ℕ). get_or l m d) (zero-add i))

  -- ---- records of w elements: place a is the place a % w of record a / w
  pub each_record : (f : ℕ → ℕ → ℕ → A) (w k : ℕ) → each (λ a. f (a / w) (a % w) a) (w * k) w ≡ each (λ j. f k j (w * k + j)) 0 w
  each_record f w k = each_from (λ a. f (a / w) (a % w) a) (w * k) w ∙ each_ext _ (λ j. f k j (w * k + j)) 0 w (λ j h. inside (0 + j) (omega arith))
    where
      inside : (r : ℕ) → r < w → f ((w * k + r) / w) ((w * k + r) % w) (w * k + r) ≡ f k r (w * k + r)
      inside r h =
          ap₂ (λ (q m : ℕ). f q m (w * k + r))
          (ap (λ (n : ℕ). (n + r) / w) (mul_comm w k) ∙ digits_div k h)
          (ap (λ (n : ℕ). (n + r) % w) (mul_comm w k) ∙ digits_mod k h)

  -- ---- an array that a loop fills from the front
  pub fill_more : (f : ℕ → A) (l₀ : List A) (k : ℕ) (d : A) → k < length l₀
      → set (each f 0 k ++ drop k l₀) k (f k) ≡ each f 0 (k + 1) ++ drop (k + 1) l₀
  fill_more f l₀ k d h =
      ap (λ (l : List A). set (each f 0 k ++ l) k (f k)) (drop-cons l₀ k d h)
      ∙ set_at (each f 0 k) (get_or l₀ k d) (drop (suc k) l₀) (f k) k (each_length f 0 k)
      ∙ sym (append_snoc (each f 0 k) (f k) (drop (suc k) l₀))
      ∙ ap₂ (λ (a b : List A). a ++ b)
      (ap (λ (m : ℕ). each f 0 k ++ (f m ∷ [])) (sym (zero-add k)) ∙ sym (each_more f 0 k))
      (ap (λ (m : ℕ). drop m l₀) (sym (add-one k)))

  pub fill_all : (f : ℕ → A) (l₀ : List A) (n : ℕ) → length l₀ ≡ n → each f 0 n ++ drop n l₀ ≡ each f 0 n
  fill_all f l₀ n h = ap (λ (l : List A). each f 0 n ++ l) (subst (λ (m : ℕ). drop m l₀ ≡ []) h (drop-length l₀)) ∙ append-nil (each f 0 n)

  -- the same for the list and the element that the code holds
  pub filled_more : (f : ℕ → A) (l₀ l : List A) (k : ℕ) (x : A) → l ≡ each f 0 k ++ drop k l₀ → x ≡ f k → k < length l₀
      → set l k x ≡ each f 0 (k + 1) ++ drop (k + 1) l₀
  filled_more f l₀ l k x is here h = ap₂ (λ (m : List A) (y : A). set m k y) is here ∙ fill_more f l₀ k x h

  pub filled_all : (f : ℕ → A) (l₀ l : List A) (k n : ℕ) → l ≡ each f 0 k ++ drop k l₀ → k ≡ n → length l₀ ≡ n → l ≡ each f 0 n
  filled_all f l₀ l k n is end whole = is ∙ ap (λ (m : ℕ). each f 0 m ++ drop m l₀) end ∙ fill_all f l₀ n whole

  -- ---- a buffer whose parts are lent one after the other
  -- the part of w elements from `at` on has come back
  pub lent_part : (done part b₀ : List A) (at w : ℕ) → length done ≡ at
      → take at (done ++ drop at b₀) ++ (part ++ drop w (drop at (done ++ drop at b₀))) ≡ done ++ part ++ drop (at + w) b₀
  lent_part done part b₀ at w h =
      ap₂ (λ (a b : List A). a ++ (part ++ drop w b)) (take_at done (drop at b₀) at h) (drop_at done (drop at b₀) at h)
      ∙ sym (append_assoc done part (drop w (drop at b₀)))
      ∙ ap (λ (l : List A). done ++ part ++ l) (drop-drop w at b₀)

  -- the part for record k has come back
  pub lent_more : (f : ℕ → A) (b₀ : List A) (w k : ℕ)
      → take (w * k) (each f 0 (w * k) ++ drop (w * k) b₀) ++ (each f (w * k) w ++ drop w (drop (w * k) (each f 0 (w * k) ++ drop (w * k) b₀)))
      ≡ each f 0 (w * (k + 1)) ++ drop (w * (k + 1)) b₀
  lent_more f b₀ w k =
      let more : w * (k + 1) ≡ w * k + w = ap (λ (m : ℕ). w * m) (add-one k) ∙ mul-suc w k in
      lent_part (each f 0 (w * k)) (each f (w * k) w) b₀ (w * k) w (each_length f 0 (w * k))
      ∙ ap (λ (l : List A). l ++ drop (w * k + w) b₀)
      (ap (λ (m : ℕ). each f 0 (w * k) ++ each f m w) (sym (zero-add (w * k))) ∙ sym (each_split f 0 (w * k) w))
      ∙ ap (λ (m : ℕ). each f 0 m ++ drop m b₀) (sym more)

  -- the same for the buffer and the part that the code holds
  pub lent_back : (f : ℕ → A) (b₀ b part : List A) (w k n : ℕ) → b ≡ each f 0 (w * k) ++ drop (w * k) b₀ → part ≡ each f (w * k) w → n ≡ w
      → take (w * k) b ++ (part ++ drop n (drop (w * k) b)) ≡ each f 0 (w * (k + 1)) ++ drop (w * (k + 1)) b₀
  lent_back f b₀ b part w k n is here whole =
      ap₂ (λ (l m : List A). take (w * k) l ++ (m ++ drop n (drop (w * k) l))) is here
      ∙ ap (λ (m : ℕ). take (w * k) (each f 0 (w * k) ++ drop (w * k) b₀) ++ (each f (w * k) w ++ drop m (drop (w * k) (each f 0 (w * k) ++ drop (w * k) b₀)))) whole
      ∙ lent_more f b₀ w k

  pub lent_length : (f : ℕ → A) (b₀ : List A) (n : ℕ) → n ≤ length b₀ → length (each f 0 n ++ drop n b₀) ≡ length b₀
  lent_length f b₀ n h = simp (length-append, each_length, length-drop) (omega arith)

-- ---- a copy of as many bytes
pub copied_whole : (bytes part : List ℕ) → length part ≡ length bytes → copied bytes part ≡ bytes
unfolding copied
copied_whole bytes part same = rw (eq-eqb (length part) (length bytes) same)
