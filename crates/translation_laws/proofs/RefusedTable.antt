-- A refused table: which number stands at which place, in the order of the tests. Assumes nothing.
use Prim.Native.Nat.{ℕ}
use mathlib.Core.Path.{◌≡◌, sym, subst, ◌∙◌}
use mathlib.Core.List.{List}
use native.Mathlib.Decide.{ℕ_discrete}
use native.Mathlib.Omega.{arith}
use Rattle.records.specs.Verdicts.{refused_unless, first_refusal}
use Rattle.records.specs.Lists.{each}
use Rattle.records.specs.declared.Verdict.{Verdict}
use Rattle.records.proofs.VerdictLaws.{or_else_pass}
use Rattle.records.proofs.TestLaws.{unless_passed, unless_passes, unless_shows, refusal_shows, LowestWithout}
use Rattle.tables.specs.Tables.{is_table, cell_count, cell_at, fields_verdict, table_verdict}
use Rattle.translation_laws.proofs.AcceptedTable.{AcceptedCell, TableLength, length_accepted, cells_test, verdict_parts, table_accepted}

-- the length first; then the lowest cell that is out of range
pub data Refused (table : List ℕ) : Verdict → Type 0 where
  by_length : (TableLength table → ⊥) → Refused table (record { number = 1; place = 0 })
  by_cell : (j : ℕ) → TableLength table → LowestWithout (λ k. AcceptedCell (cell_count table) (cell_at table k)) (cell_count table) j
      → Refused table (record { number = 4; place = j })

module _ (table : List ℕ) where
  -- each refusal is the table's verdict
  pub refused_shows : {v : Verdict} → Refused table v → table_verdict table ≡ v
  refused_shows (by_length r) =
      verdict_parts table ∙ refusal_shows _ _ (omega arith) (unless_shows (is_table table) 1 0 (length_accepted table) r)
  refused_shows (by_cell j h low) =
      verdict_parts table ∙ or_else_pass _ _ (unless_passes (length_accepted table) _ _ h) ∙ (cells_test table).names j low

  it : {v : Verdict} → Refused table v → Refused table (table_verdict table)
  it refused = subst (Refused table) (sym (refused_shows refused)) refused

  -- and a verdict that refuses is one of them
  pub shows_refused : ((table_verdict table).number ≡ 0 → ⊥) → Refused table (table_verdict table)
  shows_refused r =
      elim (ℕ_discrete (refused_unless (is_table table) 1 0).number 0) [
        | no p ↦ it (by_length (λ h. p (unless_passes (length_accepted table) _ _ h)))
        | yes p ↦ sized (unless_passed (length_accepted table) _ _ (omega arith) p)
      ]
    where
      sized : TableLength table → Refused table (table_verdict table)
      sized h =
          elim (ℕ_discrete (first_refusal (each (fields_verdict table) 0 (cell_count table))).number 0) [
            | no p ↦ (let low = (cells_test table).refuses p in it (by_cell low.0 h low.1))
            | yes p ↦ absurd (r ((table_accepted table).1 (record { size = h; cells = (cells_test table).accepts.0 p })))
          ]
