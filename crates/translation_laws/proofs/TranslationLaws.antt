-- What a translation answers and writes: accepted exactly when the paper's conditions hold; else the first failing test, no cell and no byte. Assumes nothing.
use Prim.Native.Nat.{ℕ, ◌+◌, ◌*◌, ◌≤◌, ◌<◌}
use mathlib.Core.Path.{◌≡◌, ap, sym, subst, ◌∙◌}
use mathlib.Core.List.{List}
use mathlib.Core.Logic.{◌↔◌}
use native.Mathlib.Decide.{ℕ_discrete, dec_lt}
use native.Mathlib.Omega.{arith}
use borrow.Author.Tests.{le-leb, lt-leb}
use lib.ListN.{length, take, drop, length-append, length-drop}
use lib.Seq.{take_at, drop_at}
use Rattle.records.specs.Verdicts.{or_else, first_refusal}
use Rattle.records.specs.declared.Verdict.{Verdict}
use Rattle.records.proofs.VerdictLaws.{number_of, or_else_pass}
use Rattle.records.proofs.TestLaws.{refusal_shows}
use Rattle.tables.specs.Tables.{cell_at}
use Rattle.steps.specs.Steps.{step_count}
use Rattle.sheets.specs.Sheets.{sheet_verdict}
use Rattle.translation_laws.proofs.RefusedSheet as sheets
use Rattle.sheets.proofs.AcceptedSheet.{AcceptedSheet, sheet_accepted}
use Rattle.translator.specs.Translation.{cells_of, first_cell, cell_total, cut_at, table_of, translation_verdict, translation, translated}
use Rattle.translator.proofs.CutBytes.{table_length, table_cell}
use Rattle.translator.proofs.VerdictLaws.{in_order, verdict_accepted, accepted_cells, accepted_bytes, refused_cells}
pub use Rattle.translator.proofs.VerdictLaws.{refused_bytes}

-- ---- the verdict

-- "Tests: length; fields of every step; repeated tags; unknown tags; cells; room.": the sheet's refusals, and then two more
pub data Refused (sheet : List ℕ) (room : ℕ) : Verdict → Type 0 where
  by_sheet : {v : Verdict} → sheets.Refused sheet v → Refused sheet room v
  by_cells : AcceptedSheet sheet → 63 < cell_total sheet → Refused sheet room (record { number = 7; place = 0 })
  by_room : AcceptedSheet sheet → cell_total sheet ≤ 63 → room < 12 * cell_total sheet → Refused sheet room (record { number = 10; place = 0 })

-- no refusal has number 0
pub refused_number : (sheet : List ℕ) (room : ℕ) {v : Verdict} → Refused sheet room v → v.number ≡ 0 → ⊥
refused_number sheet room (by_sheet refused) z = sheets.refused_number sheet refused z
refused_number sheet room (by_cells a many) z = omega arith
refused_number sheet room (by_room a few short) z = omega arith

module _ (sheet : List ℕ) (room : ℕ) where
  -- each refusal is the translation's verdict
  pub refused_shows : {v : Verdict} → Refused sheet room v → translation_verdict sheet room ≡ v
  unfolding first_refusal or_else
  refused_shows (by_sheet refused) = in_order sheet room ∙ refusal_shows _ _ (sheets.refused_number sheet refused) (sheets.refused_shows sheet refused)
  refused_shows (by_cells a many) =
      in_order sheet room ∙ or_else_pass _ _ ((sheet_accepted sheet).1 a) ∙ rw (lt-leb (cell_total sheet) 63 many)
  refused_shows (by_room a few short) =
      in_order sheet room
      ∙ or_else_pass _ _ ((sheet_accepted sheet).1 a)
      ∙ rw (le-leb (cell_total sheet) 63 few, lt-leb (12 * cell_total sheet) room short)

  it : {v : Verdict} → Refused sheet room v → Refused sheet room (translation_verdict sheet room)
  it refused = subst (Refused sheet room) (sym (refused_shows refused)) refused

  -- and a verdict that refuses is one of them
  pub shows_refused : ((translation_verdict sheet room).number ≡ 0 → ⊥) → Refused sheet room (translation_verdict sheet room)
  shows_refused r =
      elim (ℕ_discrete (sheet_verdict sheet).number 0) [
        | no p ↦ it (by_sheet (sheets.shows_refused sheet p))
        | yes p ↦ elim (dec_lt 63 (cell_total sheet)) [
          | yes many ↦ it (by_cells ((sheet_accepted sheet).0 p) many)
          | no few ↦ elim (dec_lt room (12 * cell_total sheet)) [
            | yes short ↦ it (by_room ((sheet_accepted sheet).0 p) (omega arith) short)
            | no long ↦ absurd (r ((verdict_accepted sheet room).1 (record { sound = p; few = omega arith; roomy = omega arith })))
          ]
        ]
      ]

-- ---- the answer and the buffer

module _ (sheet buffer : List ℕ) where
  -- a translation is accepted exactly when the paper's conditions hold
  pub translation_accepted : ((translation sheet buffer).verdict.number ≡ 0)
      ↔ (AcceptedSheet sheet × (cell_total sheet ≤ 63) × (12 * cell_total sheet ≤ length buffer))
  unfolding translation
  translation_accepted = (
    λ e. let all = (verdict_accepted sheet (length buffer)).0 e in ((sheet_accepted sheet).0 all.sound, all.few, all.roomy),
    λ h. (verdict_accepted sheet (length buffer)).1 (record { sound = (sheet_accepted sheet).1 h.0; few = h.1; roomy = h.2 }),
  )

  -- the first 12 bytes for each cell are the table
  pub written_table : (translation sheet buffer).verdict.number ≡ 0 → take (12 * (translation sheet buffer).cells) (translated sheet buffer) ≡ table_of sheet
  written_table e =
      rw (accepted_cells sheet buffer e, accepted_bytes sheet buffer e)
      (take_at (table_of sheet) (drop (12 * cell_total sheet) buffer) (12 * cell_total sheet) (table_length sheet))

  -- the whole answer of a refused call: the first failing test, and no cell
  pub refused_answer : {v : Verdict} → Refused sheet (length buffer) v → translation sheet buffer ≡ record { verdict = v; cells = 0 }
  unfolding translation
  refused_answer refused =
      let shows = refused_shows sheet (length buffer) refused in
      let none = refused_cells sheet buffer (λ z. refused_number sheet (length buffer) refused (ap number_of (sym shows) ∙ z)) in
      λ i. record { verdict = shows i; cells = none i }

  -- "Bytes beyond the cells stay."
  pub bytes_beyond : drop (12 * (translation sheet buffer).cells) (translated sheet buffer) ≡ drop (12 * (translation sheet buffer).cells) buffer
  bytes_beyond =
      elim (ℕ_discrete (translation sheet buffer).verdict.number 0) [
        | yes e ↦ rw (accepted_cells sheet buffer e, accepted_bytes sheet buffer e)
            (drop_at (table_of sheet) (drop (12 * cell_total sheet) buffer) (12 * cell_total sheet) (table_length sheet))
        | no r ↦ ap (drop (12 * (translation sheet buffer).cells)) (refused_bytes sheet buffer r)
      ]

  -- the buffer keeps its length
  pub bytes_length : length (translated sheet buffer) ≡ length buffer
  bytes_length =
      elim (ℕ_discrete (translation sheet buffer).verdict.number 0) [
        | yes e ↦ ap length (accepted_bytes sheet buffer e)
            ∙ length-append (table_of sheet) (drop (12 * cell_total sheet) buffer)
            ∙ omega (arith, table_length sheet, length-drop (12 * cell_total sheet) buffer, (translation_accepted.0 e).2)
        | no r ↦ ap length (refused_bytes sheet buffer r)
      ]

-- cell j of step i stands j past the step's first cell in the written buffer
pub written_cell : (sheet buffer : List ℕ) → (translation sheet buffer).verdict.number ≡ 0 → (i j : ℕ) → i < step_count sheet → j < cells_of sheet i
    → cell_at (take (12 * (translation sheet buffer).cells) (translated sheet buffer)) (first_cell sheet i + j) ≡ cut_at sheet i j
written_cell sheet buffer e i j h k = rw (written_table sheet buffer e) (table_cell sheet i j h k)
