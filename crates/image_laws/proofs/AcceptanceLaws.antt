-- Laws behind acceptance: a byte's two tests, a setting's, and the lowest address at which one refuses. Assumes nothing.
use Prim.Native.Nat.{ℕ, ◌/◌, ◌%◌, ◌<◌}
use mathlib.Core.Path.{◌≡◌, refl, ap, sym, subst, ◌∙◌}
use mathlib.Core.Logic.{◌↔◌}
use mathlib.Core.Bool.{Bool, true, false, not}
use mathlib.Core.List.{List, ◌∷◌}
use native.Mathlib.Decide.{ℕ_discrete}
use native.Mathlib.Omega.{arith}
use borrow.Author.Tests.{eq-eqb, ne_eqb}
use lib.ListN.{length, get_or}
use lib.Dec.{T, T_not, eqb, eqb_refl}
use Rattle.records.specs.Lists.{each}
use Rattle.records.specs.Numbers.{wrong_length, reserved, unprinted, out_of_range}
use Rattle.records.specs.Verdicts.{accepted, refused, refused_unless, or_else, first_refusal}
use Rattle.records.specs.declared.Verdict.{Verdict}
use Rattle.records.proofs.VerdictLaws.{number_of, place_of, first_accepted}
use Rattle.records.proofs.TestLaws.{LowestWithout, ShowsLowest, NamesLowest, shows_lowest_of}
use Rattle.image.specs.Reading.{usable, printed, byte_verdict, address_verdict, image_verdict}
use Rattle.writing.specs.Writing.{setting_byte, code_verdict, settings_verdict}
use Rattle.std.specs.Prelude.{Option, Some, None}
use Rattle.image.specs.declared.Settings.{Settings}
use Rattle.image_laws.proofs.TableLaws.{never_lacking}
use Rattle.image_laws.proofs.Conditions.{GoodByte, Reached}

-- two numbers that differ
pub unlike : {A : Type 0} {m n : ℕ} → m ≡ n → T (not (eqb m n)) → A
unlike {m = m} {n = n} same other = absurd (T_not (eqb m n) other (subst (λ (k : ℕ). T (eqb m k)) same (eqb_refl m)))

-- ---- a verdict whose refusals have their own places
-- refused with a number at a exactly where a is the lowest without the property, and its refusal has that number
pub refused_exactly : {v : Verdict} {refusal : ℕ → Verdict} {n : ℕ} {P : ℕ → Type 0} → ShowsLowest v refusal n P
    → ((k : ℕ) → ¬ P k → (refusal k).place ≡ k) → (number a : ℕ) → ¬ (number ≡ 0)
    → (v ≡ refused number a) ↔ (LowestWithout P n a × (refusal a ≡ refused number a))
refused_exactly {v} {refusal} {n} {P} shows own number a some = (only, λ at. shows.names a at.0 ∙ at.1)
  where
    only : v ≡ refused number a → LowestWithout P n a × (refusal a ≡ refused number a)
    only e =
        let low = shows.refuses (λ z. some (sym (ap number_of e) ∙ z)) in
        let is = sym (shows.names low.0 low.1) ∙ e in
        subst (λ (k : ℕ). LowestWithout P n k × (refusal k ≡ refused number a)) (sym (own low.0 low.1.fails) ∙ ap place_of is) (low.1, is)

-- ---- one byte
-- a byte is good and accepted, or has a bit that cannot be used, or can be used and has an unprinted code
pub data ByteAnswer (k j b a : ℕ) (v : Verdict) : Type 0 where
  good : GoodByte k j b → v ≡ accepted → ByteAnswer k j b a v
  bit : usable k j b ≡ false → v ≡ refused reserved a → ByteAnswer k j b a v
  code : usable k j b ≡ true → printed j b ≡ false → v ≡ refused unprinted a → ByteAnswer k j b a v

module _ (k j b a : ℕ) where
  by_tests : (can is : Bool) → usable k j b ≡ can → printed j b ≡ is → ByteAnswer k j b a (byte_verdict k j b a)
  unfolding byte_verdict first_refusal or_else
  by_tests true true p q = ByteAnswer.good (record { can_be_used = p; is_printed = q }) (rw (p, q))
  by_tests true false p q = ByteAnswer.code p q (rw (p, q))
  by_tests false is p q = ByteAnswer.bit p (rw p)

  pub byte_answer : ByteAnswer k j b a (byte_verdict k j b a)
  byte_answer = by_tests (usable k j b) (printed j b) refl refl

  -- what each answer says of the byte
  pub byte_good : ((byte_verdict k j b a).number ≡ 0) ↔ GoodByte k j b
  unfolding byte_verdict first_refusal or_else
  byte_good = (only byte_answer, λ g. rw (g.can_be_used, g.is_printed))
    where
      only : {v : Verdict} → ByteAnswer k j b a v → v.number ≡ 0 → GoodByte k j b
      only (ByteAnswer.good g is) e = g
      only (ByteAnswer.bit can is) e = unlike (sym (ap number_of is) ∙ e) tt
      only (ByteAnswer.code can other is) e = unlike (sym (ap number_of is) ∙ e) tt

  pub byte_reserved : (byte_verdict k j b a ≡ refused reserved a) ↔ (usable k j b ≡ false)
  unfolding byte_verdict first_refusal or_else
  byte_reserved = (only byte_answer, λ can. rw can)
    where
      only : {v : Verdict} → ByteAnswer k j b a v → v ≡ refused reserved a → usable k j b ≡ false
      only (ByteAnswer.good g is) e = unlike (ap number_of (sym is ∙ e)) tt
      only (ByteAnswer.bit can is) e = can
      only (ByteAnswer.code can other is) e = unlike (ap number_of (sym is ∙ e)) tt

  pub byte_unprinted : (byte_verdict k j b a ≡ refused unprinted a) ↔ ((usable k j b ≡ true) × (printed j b ≡ false))
  unfolding byte_verdict first_refusal or_else
  byte_unprinted = (only byte_answer, λ both. rw (both.0, both.1))
    where
      only : {v : Verdict} → ByteAnswer k j b a v → v ≡ refused unprinted a → (usable k j b ≡ true) × (printed j b ≡ false)
      only (ByteAnswer.good g is) e = unlike (ap number_of (sym is ∙ e)) tt
      only (ByteAnswer.bit can is) e = unlike (ap number_of (sym is ∙ e)) tt
      only (ByteAnswer.code can other is) e = (can, other)

  -- a refusal has the byte's address as its place, and a number above 1
  pub byte_refused : ¬ GoodByte k j b → ((byte_verdict k j b a).place ≡ a) × (1 < (byte_verdict k j b a).number)
  byte_refused bad = go byte_answer
    where
      go : {v : Verdict} → ByteAnswer k j b a v → (v.place ≡ a) × (1 < v.number)
      go (ByteAnswer.good g is) = absurd (bad g)
      go (ByteAnswer.bit can is) = let two = ap number_of is in (ap place_of is, omega arith)
      go (ByteAnswer.code can other is) = let three = ap number_of is in (ap place_of is, omega arith)

-- ---- an image's tests
module _ (image : List ℕ) where
  -- number 0 comes with place 0
  pub image_zero : (image_verdict image).number ≡ 0 → image_verdict image ≡ accepted
  unfolding image_verdict
  image_zero = first_accepted (refused_unless (eqb (length image) 80) wrong_length 0 ∷ each (address_verdict image) 0 80)

  pub another_length : ¬ (length image ≡ 80) → image_verdict image ≡ refused wrong_length 0
  unfolding image_verdict first_refusal or_else
  another_length other = rw (ne_eqb _ _ other)

  -- any answer but that of another length comes from eighty bytes
  pub eighty_of : ¬ ((image_verdict image).number ≡ wrong_length) → length image ≡ 80
  eighty_of otherwise =
      elim (ℕ_discrete (length image) 80) [ yes eighty ↦ eighty | no other ↦ absurd (otherwise (ap number_of (another_length other))) ]

  -- the byte at an address is good
  abbrev GoodAt : ℕ → Type 0
  GoodAt a = GoodByte (a / 8) (a % 8) (get_or image a 0)

  passes_good : (a : ℕ) → ((address_verdict image a).number ≡ 0) ↔ GoodAt a
  passes_good a = byte_good (a / 8) (a % 8) (get_or image a 0) a

  -- eighty bytes: accepted exactly where each is good; else the refusal of the lowest that is not
  pub image_lowest : length image ≡ 80 → ShowsLowest (image_verdict image) (address_verdict image) 80 GoodAt
  unfolding image_verdict first_refusal or_else
  image_lowest eighty = rw (eq-eqb _ _ eighty) (shows_lowest_of (address_verdict image) 80 GoodAt passes_good)

  -- refused with any number but 1 exactly where the tests come to, and the byte there refuses so
  pub image_refused : (number a : ℕ) → 1 < number
      → (image_verdict image ≡ refused number a) ↔ (Reached image a × (address_verdict image a ≡ refused number a))
  image_refused number a more = (only, when)
    where
      exactly : length image ≡ 80 → (image_verdict image ≡ refused number a) ↔ (LowestWithout GoodAt 80 a × (address_verdict image a ≡ refused number a))
      exactly eighty =
          refused_exactly (image_lowest eighty) (λ i bad. (byte_refused (i / 8) (i % 8) (get_or image i 0) i bad).0) number a (λ z. omega arith)

      only : image_verdict image ≡ refused number a → Reached image a × (address_verdict image a ≡ refused number a)
      only e =
          let eighty = eighty_of (λ q. let same = ap number_of e in omega arith) in
          let at = (exactly eighty).0 e in
          (record { eighty = eighty; inside = at.0.within; below = at.0.before }, at.1)

      when : Reached image a × (address_verdict image a ≡ refused number a) → image_verdict image ≡ refused number a
      when at =
          let bad : ¬ GoodAt a = λ good. let zero = sym (ap number_of at.1) ∙ (passes_good a).1 good in omega arith in
          (exactly at.0.eighty).1 (record { within = at.0.inside; fails = bad; before = at.0.below }, at.1)

-- ---- one setting
code_meant : (code : Option ℕ) (a : ℕ) → ((code_verdict code a).number ≡ 0) ↔ (¬ (code ≡ None))
code_meant (Some b) a = (λ pass. never_lacking, λ is. refl)
code_meant None a = (λ pass. unlike pass tt, λ is. absurd (is refl))

pub not_meant : (code : Option ℕ) → ¬ (¬ (code ≡ None)) → code ≡ None
not_meant (Some b) lacks = absurd (lacks never_lacking)
not_meant None lacks = refl

-- ---- the tests of settings
module _ (settings : Settings) where
  -- number 0 comes with place 0
  pub settings_zero : (settings_verdict settings).number ≡ 0 → settings_verdict settings ≡ accepted
  unfolding settings_verdict
  settings_zero = first_accepted (each (λ a. code_verdict (setting_byte settings a) a) 0 80)

  -- accepted exactly where some byte means each setting; else number 4 at the lowest that none means
  pub settings_lowest : NamesLowest (settings_verdict settings) out_of_range 80 (λ a. ¬ (setting_byte settings a ≡ None))
  unfolding settings_verdict
  settings_lowest =
      let all = shows_lowest_of (λ a. code_verdict (setting_byte settings a) a) 80 _ (λ a. code_meant (setting_byte settings a) a) in
      record {
        accepts = all.accepts;
        refuses = all.refuses;
        names = λ a low. all.names a low ∙ ap (λ (code : Option ℕ). code_verdict code a) (not_meant (setting_byte settings a) low.fails);
      }
