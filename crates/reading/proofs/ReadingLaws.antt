-- Laws of reading: an image's tests and meaning, group by group. Assumes nothing.
use Prim.Native.Nat.{ℕ, zero, suc, ◌+◌, ◌-◌, ◌*◌, ◌<◌}
use mathlib.Core.Path.{◌≡◌, ap, sym, ◌∙◌}
use mathlib.Core.Bool.{Bool, true, false, cond}
use mathlib.Core.List.{List, [], ◌∷◌}
use native.Mathlib.Omega.{arith}
use borrow.Author.Tests.{eqb-true}
use lib.Dec.{eqb}
use lib.ListN.{length, get_or, take, drop, length-take, length-drop}
use lib.Seq.{get_or-take, get_or-drop}
use Rattle.records.specs.Lists.{each}
use Rattle.records.specs.Numbers.{wrong_length}
use Rattle.records.specs.Verdicts.{accepted, refused_unless, or_else, first_refusal}
use Rattle.records.specs.declared.Verdict.{Verdict}
use Rattle.records.proofs.ListLaws.{get_d_default, each_length, each_ext, each_record}
use Rattle.records.proofs.VerdictLaws.{unless_zero, or_else_pass, or_else_hit, or_else_zero, first_cons, first_records}
use Rattle.image.specs.Groups.{is_vh, is_vx, part}
use Rattle.image.specs.Reading.{reserved_from, byte_verdict, part_verdict, address_verdict, image_verdict, group_of, zero_group, zero_settings}
use Rattle.image.specs.declared.Group.{Group}
use Rattle.image.specs.declared.Settings.{Settings}

-- ---- the lowest reserved bit
-- every number of the list is below n
abbrev Below : ℕ → List ℕ → Type 0
Below n [] = Unit
Below n (x ∷ l) = (x < n) × Below n l

below_at : (n : ℕ) (l : List ℕ) (j d : ℕ) → Below n l → d < n → get_or l j d < n
below_at n [] j d h e = e
below_at n (x ∷ l) zero d h e = h.0
below_at n (x ∷ l) (suc j) d h e = below_at n l j d h.1 e

either_below : (b : Bool) (x y n : ℕ) → x < n → y < n → cond b x y < n
either_below true x y n h e = h
either_below false x y n h e = e

-- the eight numbers, those of bytes 5 and 6 by the group
abbrev pub reserved_table : ℕ → ℕ → List ℕ
reserved_table five six = 8 ∷ 5 ∷ 8 ∷ 5 ∷ 5 ∷ five ∷ six ∷ 7 ∷ []

pub reserved_is : (k j : ℕ) → j < 8 → get_or (reserved_table (cond (is_vh k) 1 2) (cond (is_vx k) 7 0)) j 0 ≡ reserved_from k j
unfolding reserved_from
reserved_is k j h = get_d_default (reserved_table (cond (is_vh k) 1 2) (cond (is_vx k) 7 0)) j 0 8 h

pub reserved_below : (k j : ℕ) → reserved_from k j < 9
unfolding reserved_from
reserved_below k j =
    let five = either_below (is_vh k) 1 2 9 (omega arith) (omega arith) in
    let six = either_below (is_vx k) 7 0 9 (omega arith) (omega arith) in
    below_at 9 (reserved_table (cond (is_vh k) 1 2) (cond (is_vx k) 7 0)) j 8 (omega arith) (omega arith)

-- ---- a group's part
-- the part as the code lends it
abbrev pub lent : List ℕ → ℕ → List ℕ
lent image k = take (8 * k + 8 - 8 * k) (drop (8 * k) image)

pub part_lent : (image : List ℕ) (k : ℕ) → lent image k ≡ part image k
unfolding part
part_lent image k =
    let eight : 8 * k + 8 - 8 * k ≡ 8 = omega arith in
    ap (λ (n : ℕ). take n (drop (8 * k) image)) eight

pub part_length : (image : List ℕ) (k : ℕ) → length image ≡ 80 → k < 10 → length (part image k) ≡ 8
unfolding part
part_length image k whole h = simp (length-take, length-drop) (omega arith)

pub part_at : (image : List ℕ) (k j : ℕ) → j < 8 → get_or (part image k) j 0 ≡ get_or image (8 * k + j) 0
unfolding part
part_at image k j h = get_or-take 8 (drop (8 * k) image) j 0 h ∙ get_or-drop (8 * k) image j 0

-- ---- the tests, group by group
-- the test of byte j of a part
abbrev pub part_test : ℕ → List ℕ → ℕ → Verdict
part_test k bytes j = byte_verdict k j (get_or bytes j 0) (8 * k + j)

-- the tests of group k of an image
abbrev pub group_test : List ℕ → ℕ → Verdict
group_test image k = part_verdict k (lent image k)

part_addresses : (image : List ℕ) (k : ℕ) → first_refusal (each (address_verdict image) (8 * k) 8) ≡ group_test image k
unfolding part_verdict
part_addresses image k =
    ap first_refusal
    (each_record (λ q r a. byte_verdict q r (get_or image a 0) a) 8 k
    ∙ each_ext _ _ 0 8 (λ j h. ap (λ (b : ℕ). byte_verdict k (0 + j) b (8 * k + (0 + j))) (sym (part_at image k (0 + j) (omega arith)))))
    ∙ ap (part_verdict k) (sym (part_lent image k))

-- the length's test, then the tests of each group
abbrev pub length_test : List ℕ → Verdict
length_test image = refused_unless (eqb (length image) 80) wrong_length 0

pub image_parts : (image : List ℕ) → image_verdict image ≡ or_else (length_test image) (first_refusal (each (group_test image) 0 10))
unfolding image_verdict
image_parts image =
    first_cons _ _
    ∙ ap (or_else _) (first_records (address_verdict image) 8 0 10 ∙ ap first_refusal (each_ext _ _ 0 10 (λ k h. part_addresses image (0 + k))))

pub image_whole : (image : List ℕ) → accepted ≡ length_test image → image_verdict image ≡ first_refusal (each (group_test image) 0 10)
image_whole image passed = image_parts image ∙ or_else_pass _ _ (ap (λ (v : Verdict). v.number) (sym passed))

pub image_not_whole : {v : Verdict} (image : List ℕ) → v ≡ length_test image → (v.number ≡ 0 → ⊥) → v ≡ image_verdict image
image_not_whole image is some = is ∙ sym (image_parts image ∙ or_else_hit _ _ (λ z. some (ap (λ (v : Verdict). v.number) is ∙ z)))

-- an accepted image is whole
pub accepted_whole : (image : List ℕ) → accepted ≡ image_verdict image → length image ≡ 80
accepted_whole image passed =
    let both = or_else_zero _ _ (sym (ap (λ (v : Verdict). v.number) (passed ∙ image_parts image))) in
    eqb-true _ _ (unless_zero _ wrong_length 0 (λ e. omega arith) both.0)

-- ---- the meaning, group by group
-- group k of an image
abbrev pub group_at : List ℕ → ℕ → Group
group_at image k = group_of k (part image k)

pub zero_ten : (settings : Settings) → settings ≡ zero_settings → length settings.groups ≡ 10
unfolding zero_settings
zero_ten settings is = ap (λ (s : Settings). length s.groups) is ∙ each_length zero_group 0 10
