-- The path for any accepted settings and any words below 1024: an accepted sheet's run and its table's drive the same pins, and no call is refused. Assumes nothing.
use Prim.Native.Nat.{ℕ, ◌<◌}
use mathlib.Core.Path.{◌≡◌, ap, sym, subst, ◌∙◌}
use mathlib.Core.List.{List, map, map-map}
use Rattle.records.proofs.Every.{Every, none, ◌also◌, every_map, Bytes}
use Rattle.records.proofs.TestLaws.{lt_test, unless_passes, all_zero}
use Rattle.records.proofs.VerdictLaws.{number_of}
use Rattle.image.specs.Reading.{reading}
use Rattle.image.specs.Answers.{Reading}
use Rattle.image.specs.declared.Settings.{Settings}
use Rattle.writing.specs.Writing.{settings_verdict}
use Rattle.pins.specs.Pins.{pins_verdict, driven}
use Rattle.pins.specs.Answers.{Driven}
use Rattle.engine.specs.Engine.{sheet_form}
use Rattle.engine.specs.Runs.{sheet_run, table_run}
use Rattle.engine.specs.declared.Ticked.{Ticked}
use Rattle.translator.specs.Translation.{translation}
use Rattle.image_laws.proofs.Refusals.{reading_accepted}
use Rattle.image_laws.proofs.RoundTrip.{settings_of_accepted}
use Rattle.translation_laws.proofs.TranslationLaws.{translation_accepted}
use Rattle.translation_laws.proofs.RunOutputs.{run_outputs}
use Rattle.sheets.proofs.AcceptedSheet.{sheet_accepted}
use Rattle.demands.proofs.Point3.{shown, NoneRefused, lent_table, third_point}

-- the settings of an accepted image are accepted
pub read_settings : (image : List ℕ) → Bytes image → (reading image).verdict.number ≡ 0 → (settings_verdict (reading image).settings).number ≡ 0
unfolding reading
read_settings image bytes reads =
    ap (λ (r : Reading). (settings_verdict r.settings).number) (reading_accepted image reads) ∙ ap number_of (settings_of_accepted image bytes reads)

-- the pins take every word of outputs below 1024 under accepted settings
pins_taken : (settings : Settings) → (settings_verdict settings).number ≡ 0 → (outputs : ℕ) → outputs < 1024 → (driven settings outputs).verdict.number ≡ 0
unfolding driven pins_verdict
pins_taken settings good outputs below = all_zero _ (good also unless_passes (lt_test _ _) _ _ below also none)

-- what is made of the outputs alone is the same for answers that show the same
same_outputs : {B : Type 0} (make : ℕ → B) (sheets tables : List Ticked) → map shown sheets ≡ map shown tables
    → map (λ answer. make answer.outputs) sheets ≡ map (λ answer. make answer.outputs) tables
same_outputs {B} make sheets tables same = sym (map-map first shown sheets) ∙ ap (map first) same ∙ map-map first shown tables
  where
    first : ℕ × ℕ → B
    first seen = make seen.0

-- the two runs drive the same pins, and no call along them is refused
pub same_path : (settings : Settings) (sheet buffer words : List ℕ) → (settings_verdict settings).number ≡ 0 → (translation sheet buffer).verdict.number ≡ 0
    → Every (λ word. word < 1024) words
    → let pins : List Ticked → List Driven = map (λ answer. driven settings answer.outputs) in
    let sheets = sheet_run sheet words in
    let tables = table_run (lent_table sheet buffer) words in
    (pins sheets ≡ pins tables)
    × Every (λ answer. answer.verdict.number ≡ 0) (pins sheets)
    × Every (λ answer. answer.verdict.number ≡ 0) (pins tables)
    × NoneRefused sheets
    × NoneRefused tables
same_path settings sheet buffer words good translates below =
    let runs = third_point sheet buffer words translates below in
    let fits = run_outputs sheet_form sheet ((sheet_accepted sheet).1 ((translation_accepted sheet buffer).0 translates).0) words below in
    let same = same_outputs (driven settings) (sheet_run sheet words) (table_run (lent_table sheet buffer) words) runs.0 in
    let taken = every_map (λ answer. driven settings answer.outputs) (λ answer. pins_taken settings good answer.outputs) fits in
    (same, taken, subst (Every (λ answer. answer.verdict.number ≡ 0)) same taken, runs.1, runs.2)
