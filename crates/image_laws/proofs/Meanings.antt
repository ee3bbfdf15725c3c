-- What the writer refuses is what no byte can mean, and what it accepts is what some image means. Assumes nothing.
use Prim.Native.Nat.{ℕ, ◌/◌, ◌%◌, ◌<◌}
use mathlib.Core.Path.{◌≡◌, refl, ap, ap₂, sym, subst, ◌∙◌}
use mathlib.Core.Logic.{◌↔◌}
use mathlib.Core.List.{List, [], ◌∷◌}
use native.Mathlib.Omega.{arith}
use native.Mathlib.Decide.{dec_lt}
use lib.Dec.{lit<}
use lib.ListN.{get_or, replicate, get_or-replicate, get_or-eq_default}
use Rattle.records.specs.Verdicts.{accepted}
use Rattle.image.specs.Codes.{code_value, lookup, times, fault_code, input_code}
use Rattle.image.specs.Reading.{image_verdict, threshold_of, group_of, settings_of, group_at}
use Rattle.writing.specs.Writing.{beside, hysteresis_byte, timing_byte, logic_byte, output_byte, group_bytes, setting_byte, settings_verdict, image_of}
use Rattle.std.specs.Prelude.{Option, Some, None}
use Rattle.image.specs.declared.FaultType.{FaultType}
use Rattle.image.specs.declared.Group.{Group}
use Rattle.image.specs.declared.Settings.{Settings}
use Rattle.image_laws.proofs.TableLaws.{never_lacking}
use Rattle.records.proofs.VerdictLaws.{number_of}
use Rattle.image_laws.proofs.Refusals.{image_length}
use Rattle.image_laws.proofs.RoundTripLaws.{meant_at}
use Rattle.image_laws.proofs.RoundTrip.{image_of_accepted, settings_of_image_of, settings_of_accepted}
use Rattle.image_laws.proofs.ByteLaws.{eight}
use Rattle.records.proofs.Every.{Bytes}
use Rattle.image_laws.proofs.Conditions.{GoodByte, Typed}
use Rattle.image_laws.proofs.ReadWriteLaws.{read_write}
use Rattle.image_laws.proofs.WriteReadLaws.{hysteresis_back, timing_back, input_back, logic_back, output_back, write_good, write_byte}

-- two groups have the same settings in byte j
abbrev pub SameAt : ℕ → Group → Group → Type 0
SameAt j g h =
    get_or
    ((g.over.level ≡ h.over.level)
    ∷ (g.over.hysteresis ≡ h.over.hysteresis)
    ∷ (g.under.level ≡ h.under.level)
    ∷ (g.under.hysteresis ≡ h.under.hysteresis)
    ∷ ((g.delay ≡ h.delay) × (g.faults ≡ h.faults))
    ∷ (g.input ≡ h.input)
    ∷ (g.logic ≡ h.logic)
    ∷ (g.output ≡ h.output)
    ∷ [])
    j (Unit {0})

-- they have the same byte there
same_byte : (k : ℕ) (g h : Group) (j : ℕ) → j < 8 → SameAt j g h → get_or (group_bytes k g) j None ≡ get_or (group_bytes k h) j None
unfolding group_bytes timing_byte
same_byte k g h =
    eight (λ j. SameAt j g h → get_or (group_bytes k g) j None ≡ get_or (group_bytes k h) j None)
    (ap Some)
    (ap hysteresis_byte)
    (ap Some)
    (ap hysteresis_byte)
    (λ same. ap₂ (λ (delay : ℕ) (faults : FaultType). beside (lookup times delay) 2 (Some (fault_code faults))) same.0 same.1)
    (ap (input_code k))
    (ap (logic_byte k))
    (ap output_byte)

-- a byte that is written means what it was written for
byte_means : (k : ℕ) (g : Group) (b j : ℕ) → j < 8 → get_or (group_bytes k g) j None ≡ Some b → SameAt j (group_of k (replicate 8 b)) g
unfolding group_bytes group_of threshold_of
byte_means k g b =
    eight (λ j. get_or (group_bytes k g) j None ≡ Some b → SameAt j (group_of k (replicate 8 b)) g)
    (λ e. sym (ap code_value e))
    (λ e. (hysteresis_back g.over.hysteresis b e).0)
    (λ e. sym (ap code_value e))
    (λ e. (hysteresis_back g.under.hysteresis b e).0)
    (λ e. ((timing_back g b e).0, (timing_back g b e).1))
    (λ e. (input_back k g.input b e).0)
    (λ e. (logic_back k g.logic b e).0)
    (λ e. (output_back g.output b e).0)

-- ---- one byte
-- no good byte j of group k means what group g has there
abbrev pub NoneMeans : ℕ → ℕ → Group → Type 0
NoneMeans k j g = (bytes : List ℕ) → get_or bytes j 0 < 256 → GoodByte k j (get_or bytes j 0) → ¬ SameAt j (group_of k bytes) g

module _ (k j : ℕ) (inside : j < 8) (g : Group) where
  lacking_none : get_or (group_bytes k g) j None ≡ None → NoneMeans k j g
  lacking_none lacking bytes byte good same =
      never_lacking
      (sym (read_write k bytes j inside byte good.can_be_used good.is_printed) ∙ same_byte k (group_of k bytes) g j inside same ∙ lacking)

  none_lacking : g.over.level < 256 → g.under.level < 256 → NoneMeans k j g
      → (code : Option ℕ) → get_or (group_bytes k g) j None ≡ code → code ≡ None
  none_lacking over under none (Some b) e =
      let here : get_or (replicate 8 b) j 0 ≡ b = get_or-replicate 8 j b 0 inside in
      absurd
      (none (replicate 8 b) (rw here (write_byte k g over under j inside b e)) (rw here (write_good k g j inside b e)) (byte_means k g b j inside e))
  none_lacking over under none None e = refl

-- "any setting that no byte of its group can mean": a setting lacks a byte exactly when no good byte at its address means it
pub setting_lacking : (settings : Settings) → Typed settings → (a : ℕ)
    → (setting_byte settings a ≡ None) ↔ NoneMeans (a / 8) (a % 8) (group_at settings (a / 8))
unfolding setting_byte
setting_lacking settings typed a = (
  lacking_none (a / 8) (a % 8) (omega arith) (group_at settings (a / 8)),
  λ none.
      none_lacking (a / 8) (a % 8) (omega arith) (group_at settings (a / 8)) (typed.over (a / 8)) (typed.under (a / 8)) none
      (setting_byte settings a) refl,
)

-- ---- all settings
image_bytes : (settings : Settings) → Typed settings → (settings_verdict settings).number ≡ 0 → Bytes (image_of settings)
unfolding setting_byte
image_bytes settings typed pass a =
    elim (dec_lt a 80) [
      | yes inside ↦
          write_byte (a / 8) (group_at settings (a / 8)) (typed.over (a / 8)) (typed.under (a / 8)) (a % 8) (omega arith)
          (get_or (image_of settings) a 0) (meant_at settings pass a inside)
      | no outside ↦ rw (get_or-eq_default (image_of settings) 0 {n = a} (rw (image_length settings) (omega arith))) (lit< tt)
    ]

-- settings are accepted exactly when some accepted image means them
pub settings_meant : (settings : Settings) → Typed settings
    → (settings_verdict settings ≡ accepted)
    ↔ ((image : List ℕ) × Bytes image × (image_verdict image ≡ accepted) × (settings_of image ≡ settings))
settings_meant settings typed = (
  λ e.
      let pass = ap number_of e in (
        image_of settings,
        image_bytes settings typed pass,
        image_of_accepted settings pass,
        settings_of_image_of settings typed.ten pass,
      ),
  λ some.
      subst (λ (s : Settings). settings_verdict s ≡ accepted) some.3 (settings_of_accepted some.0 some.1 (ap number_of some.2)),
)
