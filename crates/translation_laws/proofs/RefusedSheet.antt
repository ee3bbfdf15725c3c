-- A refused sheet: which number stands at which place, in the order of the tests. Assumes nothing.
use Prim.Native.Nat.{ℕ, ◌<◌}
use mathlib.Core.Path.{◌≡◌, refl, sym, subst, ◌∙◌}
use mathlib.Core.List.{List}
use native.Mathlib.Decide.{ℕ_discrete}
use native.Mathlib.Omega.{arith}
use Rattle.records.specs.Verdicts.{accepted, refused_unless, or_else, first_refusal}
use Rattle.records.specs.declared.Verdict.{Verdict}
use Rattle.records.proofs.VerdictLaws.{or_else_pass}
use Rattle.records.proofs.TestLaws.{unless_passed, unless_passes, unless_shows, refusal_shows, LowestWithout}
use Rattle.steps.specs.Steps.{step_at, step_count}
use Rattle.sheets.specs.Sheets.{is_sheet, fields_verdict, repeats_verdict, unknown_verdict, sheet_tests, sheet_verdict}
use Rattle.sheets.proofs.AcceptedSheet.{AcceptedStep, sheet_accepted, SheetLength, Fresh, KnownJumps, length_accepted, fields_test, repeats_test, unknown_test}

-- "Tests: length; fields of every step; repeated tags; unknown tags"; "The lowest step is named."
pub data Refused (sheet : List ℕ) : Verdict → Type 0 where
  by_length : (SheetLength sheet → ⊥) → Refused sheet (record { number = 1; place = 0 })
  by_fields : (j : ℕ) → SheetLength sheet → LowestWithout (λ k. AcceptedStep (step_at sheet k)) (step_count sheet) j
      → Refused sheet (record { number = 4; place = j })
  by_repeat : (j : ℕ) → SheetLength sheet → ((k : ℕ) → k < step_count sheet → AcceptedStep (step_at sheet k))
      → LowestWithout (Fresh sheet) (step_count sheet) j → Refused sheet (record { number = 5; place = j })
  by_unknown : (j : ℕ) → SheetLength sheet → ((k : ℕ) → k < step_count sheet → AcceptedStep (step_at sheet k))
      → ((k : ℕ) → k < step_count sheet → Fresh sheet k) → LowestWithout (λ k. KnownJumps sheet (step_at sheet k)) (step_count sheet) j
      → Refused sheet (record { number = 6; place = j })

-- no refusal has number 0
pub refused_number : (sheet : List ℕ) {v : Verdict} → Refused sheet v → v.number ≡ 0 → ⊥
refused_number sheet (by_length r) z = omega arith
refused_number sheet (by_fields j h low) z = omega arith
refused_number sheet (by_repeat j h fields low) z = omega arith
refused_number sheet (by_unknown j h fields tags low) z = omega arith

module _ (sheet : List ℕ) where
  size : Verdict
  size = refused_unless (is_sheet sheet) 1 0

  size_passes : SheetLength sheet → size.number ≡ 0
  unfolding size
  size_passes h = unless_passes (length_accepted sheet) _ _ h

  size_fails : (SheetLength sheet → ⊥) → size ≡ record { number = 1; place = 0 }
  unfolding size
  size_fails r = unless_shows (is_sheet sheet) 1 0 (length_accepted sheet) r

  parts : sheet_verdict sheet ≡ or_else size (or_else (fields_verdict sheet) (or_else (repeats_verdict sheet) (or_else (unknown_verdict sheet) accepted)))
  unfolding sheet_verdict sheet_tests size first_refusal
  parts = refl

  -- each refusal is the sheet's verdict
  pub refused_shows : {v : Verdict} → Refused sheet v → sheet_verdict sheet ≡ v
  refused_shows (by_length r) = parts ∙ refusal_shows _ _ (omega arith) (size_fails r)
  refused_shows (by_fields j h low) = parts ∙ or_else_pass _ _ (size_passes h) ∙ refusal_shows _ _ (omega arith) ((fields_test sheet).names j low)
  refused_shows (by_repeat j h fields low) =
      parts
      ∙ or_else_pass _ _ (size_passes h)
      ∙ or_else_pass _ _ ((fields_test sheet).accepts.1 fields)
      ∙ refusal_shows _ _ (omega arith) ((repeats_test sheet).names j low)
  refused_shows (by_unknown j h fields tags low) =
      parts
      ∙ or_else_pass _ _ (size_passes h)
      ∙ or_else_pass _ _ ((fields_test sheet).accepts.1 fields)
      ∙ or_else_pass _ _ ((repeats_test sheet).accepts.1 tags)
      ∙ refusal_shows _ _ (omega arith) ((unknown_test sheet).names j low)

  it : {v : Verdict} → Refused sheet v → Refused sheet (sheet_verdict sheet)
  it refused = subst (Refused sheet) (sym (refused_shows refused)) refused

  -- and a verdict that refuses is one of them
  pub shows_refused : ((sheet_verdict sheet).number ≡ 0 → ⊥) → Refused sheet (sheet_verdict sheet)
  unfolding size
  shows_refused r =
      elim (ℕ_discrete size.number 0) [
        | no p ↦ it (by_length (λ h. p (size_passes h)))
        | yes p ↦ sized (unless_passed (length_accepted sheet) _ _ (omega arith) p)
      ]
    where
      known : SheetLength sheet → ((k : ℕ) → k < step_count sheet → AcceptedStep (step_at sheet k)) → ((k : ℕ) → k < step_count sheet → Fresh sheet k)
          → Refused sheet (sheet_verdict sheet)
      known h fields tags =
          elim (ℕ_discrete (unknown_verdict sheet).number 0) [
            | no p ↦ (let low = (unknown_test sheet).refuses p in it (by_unknown low.0 h fields tags low.1))
            | yes p ↦ absurd
                (r ((sheet_accepted sheet).1 (record { size = h; steps = fields; tags = tags; jumps = (unknown_test sheet).accepts.0 p })))
          ]

      fresh : SheetLength sheet → ((k : ℕ) → k < step_count sheet → AcceptedStep (step_at sheet k)) → Refused sheet (sheet_verdict sheet)
      fresh h fields =
          elim (ℕ_discrete (repeats_verdict sheet).number 0) [
            | no p ↦ (let low = (repeats_test sheet).refuses p in it (by_repeat low.0 h fields low.1))
            | yes p ↦ known h fields ((repeats_test sheet).accepts.0 p)
          ]

      sized : SheetLength sheet → Refused sheet (sheet_verdict sheet)
      sized h =
          elim (ℕ_discrete (fields_verdict sheet).number 0) [
            | no p ↦ (let low = (fields_test sheet).refuses p in it (by_fields low.0 h low.1))
            | yes p ↦ fresh h ((fields_test sheet).accepts.0 p)
          ]
