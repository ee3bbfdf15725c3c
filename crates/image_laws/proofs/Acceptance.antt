-- What is accepted and what is refused, exactly: an image, settings, and a call of the writer. Assumes nothing.
use Prim.Native.Nat.{ℕ, ◌/◌, ◌%◌}
use mathlib.Core.Path.{◌≡◌, refl, ap, sym, ◌∙◌}
use mathlib.Core.Logic.{◌↔◌}
use mathlib.Core.Bool.{Bool, true, false}
use mathlib.Core.List.{List}
use native.Mathlib.Decide.{ℕ_discrete}
use native.Mathlib.Omega.{arith}
use borrow.Author.Tests.{eq-eqb, ne_eqb}
use lib.ListN.{length, get_or}
use lib.Dec.{lit<}
use Rattle.records.specs.Numbers.{wrong_length, reserved, unprinted, out_of_range}
use Rattle.records.specs.Verdicts.{accepted, refused_unless, or_else, first_refusal}
use Rattle.records.specs.declared.Verdict.{Verdict}
use Rattle.image.specs.Reading.{image_verdict}
use Rattle.writing.specs.Writing.{setting_byte, settings_verdict, write_verdict}
use Rattle.image.specs.declared.Settings.{Settings}
use Rattle.image_laws.proofs.Conditions.{usable_at, printed_at, GoodBelow, Reached, ImageAnswer, MeantBelow, LowestLacking, SettingsAnswer}
use Rattle.image_laws.proofs.AcceptanceLaws.{unlike, refused_exactly, ByteAnswer, byte_answer, byte_reserved, byte_unprinted, byte_refused, image_zero, another_length, eighty_of, image_lowest, image_refused, not_meant, settings_zero, settings_lowest}
use Rattle.records.proofs.VerdictLaws.{number_of, or_else_pass, or_else_end}

-- ---- an image
-- accepted exactly when it has eighty bytes, and at every address a byte that can be used and is printed
pub image_accepted : (image : List ℕ) → (image_verdict image ≡ accepted) ↔ ((length image ≡ 80) × GoodBelow image 80)
image_accepted image = (
  λ e.
      let eighty = eighty_of image (λ q. unlike (sym (ap number_of e) ∙ q) tt) in
      (eighty, (image_lowest image eighty).accepts.0 (ap number_of e)),
  λ good. image_zero image ((image_lowest image good.0).accepts.1 good.1),
)

-- refused for its length exactly when it has not eighty bytes
pub image_wrong_length : (image : List ℕ) → (image_verdict image ≡ record { number = wrong_length; place = 0 }) ↔ (¬ (length image ≡ 80))
image_wrong_length image = (only, another_length image)
  where
    only : image_verdict image ≡ record { number = wrong_length; place = 0 } → ¬ (length image ≡ 80)
    only e eighty =
        let one = ap number_of e in
        let low = (image_lowest image eighty).refuses (omega arith) in
        let a = low.0 in
        let same = ap number_of ((image_lowest image eighty).names a low.1) in
        let more = (byte_refused (a / 8) (a % 8) (get_or image a 0) a low.1.fails).1 in
        omega arith

-- refused for a bit that cannot be used exactly when all below are good and such a bit is set, printed or not
pub image_reserved : (image : List ℕ) (a : ℕ)
    → (image_verdict image ≡ record { number = reserved; place = a }) ↔ (Reached image a × (usable_at image a ≡ false))
image_reserved image a =
    let refuses = image_refused image reserved a (lit< tt) in
    let byte = byte_reserved (a / 8) (a % 8) (get_or image a 0) a in (
      λ e. let at = refuses.0 e in (at.0, byte.0 at.1),
      λ at. refuses.1 (at.0, byte.1 at.1),
    )

-- refused for an unprinted code exactly when all below are good, the byte can be used, and such a code stands in it
pub image_unprinted : (image : List ℕ) (a : ℕ)
    → (image_verdict image ≡ record { number = unprinted; place = a }) ↔ (Reached image a × (usable_at image a ≡ true) × (printed_at image a ≡ false))
image_unprinted image a =
    let refuses = image_refused image unprinted a (lit< tt) in
    let byte = byte_unprinted (a / 8) (a % 8) (get_or image a 0) a in (
      λ e. let at = refuses.0 e in let both = byte.0 at.1 in (at.0, both.0, both.1),
      λ at. refuses.1 (at.0, byte.1 (at.1, at.2)),
    )

-- and there is no other answer
pub image_answers : (image : List ℕ) → ImageAnswer (image_verdict image)
image_answers image =
    elim (ℕ_discrete (image_verdict image).number 0) [
      | yes pass ↦ ImageAnswer.accepts (image_zero image pass)
      | no refused ↦
          elim (ℕ_discrete (length image) 80) [
            | yes eighty ↦
                let low = (image_lowest image eighty).refuses refused in
                let a = low.0 in
                go a ((image_lowest image eighty).names a low.1) (byte_answer (a / 8) (a % 8) (get_or image a 0) a)
            | no other ↦ ImageAnswer.wrong_length_refused (another_length image other)
          ]
    ]
  where
    go : (a : ℕ) {v : Verdict} → image_verdict image ≡ v → ByteAnswer (a / 8) (a % 8) (get_or image a 0) a v → ImageAnswer (image_verdict image)
    go a same (ByteAnswer.good g is) = ImageAnswer.accepts (same ∙ is)
    go a same (ByteAnswer.bit can is) = ImageAnswer.reserved_refused a (same ∙ is)
    go a same (ByteAnswer.code can other is) = ImageAnswer.unprinted_refused a (same ∙ is)

-- ---- settings
-- accepted exactly when at every address some byte means the setting
pub settings_accepted : (settings : Settings) → (settings_verdict settings ≡ accepted) ↔ MeantBelow settings 80
settings_accepted settings =
    let all = (settings_lowest settings).accepts in
    (λ e. all.0 (ap number_of e), λ meant. settings_zero settings (all.1 meant))

-- refused exactly at the lowest address whose setting no byte means
pub settings_refused : (settings : Settings) (a : ℕ)
    → (settings_verdict settings ≡ record { number = out_of_range; place = a }) ↔ LowestLacking settings a
settings_refused settings a =
    let exactly = refused_exactly (settings_lowest settings) (λ i lacks. refl) out_of_range a (λ z. unlike z tt) in (
      λ e.
          let low = (exactly.0 e).0 in
          record { inside = low.within; lacking = not_meant (setting_byte settings a) low.fails; below = low.before },
      λ low. exactly.1 (record { within = low.inside; fails = λ meant. meant low.lacking; before = low.below }, refl),
    )

-- and there is no other answer
pub settings_answers : (settings : Settings) → SettingsAnswer (settings_verdict settings)
settings_answers settings =
    elim (ℕ_discrete (settings_verdict settings).number 0) [
      | yes pass ↦ SettingsAnswer.accepts (settings_zero settings pass)
      | no refused ↦
          let low = (settings_lowest settings).refuses refused in
          SettingsAnswer.out_of_range_refused low.0 ((settings_lowest settings).names low.0 low.1)
    ]

-- ---- the writer's call
-- the buffer's length is tested first
pub write_wrong_length : (settings : Settings) (buffer : List ℕ) → ¬ (length buffer ≡ 80)
    → write_verdict settings buffer ≡ record { number = wrong_length; place = 0 }
unfolding write_verdict first_refusal or_else
write_wrong_length settings buffer other = rw (ne_eqb _ _ other)

-- the verdict on a buffer of eighty bytes is that of the settings
pub write_eighty : (settings : Settings) (buffer : List ℕ) → length buffer ≡ 80 → write_verdict settings buffer ≡ settings_verdict settings
unfolding write_verdict first_refusal
write_eighty settings buffer eighty =
    ap (λ (holds : Bool). or_else (refused_unless holds wrong_length 0) (or_else (settings_verdict settings) accepted)) (eq-eqb (length buffer) 80 eighty)
    ∙ or_else_pass accepted (or_else (settings_verdict settings) accepted) refl
    ∙ or_else_end (settings_verdict settings) (settings_zero settings)
