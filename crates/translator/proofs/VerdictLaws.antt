-- Laws of the translation's verdict, answer and buffer: the sheet's tests, then cells, then room. Assumes nothing.
use Prim.Native.Nat.{ℕ, ◌*◌, ◌≤◌}
use mathlib.Core.Path.{◌≡◌, ap, sym, ◌∙◌}
use mathlib.Core.List.{List, [], ◌∷◌, ◌++◌}
use mathlib.Core.Logic.{◌↔◌}
use native.Mathlib.Omega.{arith}
use borrow.Author.Tests.{eq-eqb, ne_eqb}
use lib.Dec.{leb}
use lib.ListN.{length, drop}
use Rattle.records.specs.Verdicts.{accepted, refused_unless, first_refusal}
use Rattle.records.specs.declared.Verdict.{Verdict}
use Rattle.records.proofs.Every.{none, ◌also◌}
use Rattle.records.proofs.ReturnLaws.{tests, number_some}
use Rattle.records.proofs.VerdictLaws.{first_append, first_cons, number_of}
use Rattle.records.proofs.TestLaws.{le_test, unless_passed, unless_passes, all_zero, all_pass}
use Rattle.sheets.specs.Sheets.{sheet_tests, sheet_verdict}
use Rattle.translator.specs.Translation.{cell_total, table_of, translation_verdict, translation, translated}

module _ (sheet : List ℕ) (room : ℕ) where
  -- the two tests that follow the sheet's
  abbrev room_tests : List Verdict
  room_tests = refused_unless (leb (cell_total sheet) 63) 7 0 ∷ refused_unless (leb (12 * cell_total sheet) room) 10 0 ∷ []

  -- the sheet's verdict stands for the sheet's tests
  pub in_order : translation_verdict sheet room ≡ first_refusal (sheet_verdict sheet ∷ room_tests)
  unfolding translation_verdict sheet_verdict
  in_order = first_append (sheet_tests sheet) room_tests ∙ sym (first_cons _ _)

  pub in_turn : {r : Verdict} → r ≡ first_refusal (sheet_verdict sheet ∷ room_tests) → r ≡ translation_verdict sheet room
  in_turn e = e ∙ sym in_order

  -- every test passes
  pub record Accepted : Type 0 where
    pub sound : (sheet_verdict sheet).number ≡ 0
    pub few : cell_total sheet ≤ 63
    pub roomy : 12 * cell_total sheet ≤ room

  -- accepted exactly there
  pub verdict_accepted : ((translation_verdict sheet room).number ≡ 0) ↔ Accepted
  verdict_accepted = (
    λ e.
        elim (all_pass _ (ap number_of (sym in_order) ∙ e)) [
          | sound also few also roomy also none ↦
              record {
                sound = sound;
                few = unless_passed (le_test _ _) _ _ (omega arith) few;
                roomy = unless_passed (le_test _ _) _ _ (omega arith) roomy;
              }
        ],
    λ a.
        ap number_of in_order
        ∙ all_zero _
        (a.sound also unless_passes (le_test _ _) _ _ a.few also unless_passes (le_test _ _) _ _ a.roomy also none),
  )

  -- and there is room for it
  pub room_for : accepted ≡ translation_verdict sheet room → 12 * cell_total sheet ≤ room
  room_for e = (verdict_accepted.0 (ap number_of (sym e))).roomy

-- the sheet's tests and the two that follow, one after the other
pub ruleset in_turn_tests = (in_turn, tests)

-- and what follows of the answer
pub ruleset answered = (room_for, number_some)

-- ---- the answer and the buffer

module _ (sheet buffer : List ℕ) where
  module _ (e : (translation sheet buffer).verdict.number ≡ 0) where
    -- accepted: the cells are counted
    pub accepted_cells : (translation sheet buffer).cells ≡ cell_total sheet
    unfolding translation
    accepted_cells = rw (eq-eqb _ 0 e)

    -- and the table stands before the buffer's own bytes
    pub accepted_bytes : translated sheet buffer ≡ table_of sheet ++ drop (12 * cell_total sheet) buffer
    unfolding translation translated
    accepted_bytes = rw (eq-eqb (translation_verdict sheet (length buffer)).number 0 e)

  module _ (r : (translation sheet buffer).verdict.number ≡ 0 → ⊥) where
    -- "A refused call ... counts zero cells"
    pub refused_cells : (translation sheet buffer).cells ≡ 0
    unfolding translation
    refused_cells = rw (ne_eqb _ 0 r)

    -- "A refused call writes to no buffer"
    pub refused_bytes : translated sheet buffer ≡ buffer
    unfolding translation translated
    refused_bytes = rw (ne_eqb (translation_verdict sheet (length buffer)).number 0 r)
