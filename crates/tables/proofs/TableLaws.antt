-- Laws of the part lent for a cell, and of the verdict on a cell. Assumes nothing.
use Prim.Native.Nat.{ℕ, ◌/◌}
use mathlib.Core.Path.{◌≡◌, ap, ◌∙◌}
use mathlib.Core.List.{List}
use borrow.Author.Tests.{eq-eqb, ne_eqb}
use lib.Dec.{eqb}
use lib.ListN.{length}
use Rattle.records.specs.Numbers.{out_of_range}
use Rattle.records.specs.Verdicts.{accepted, refused, refused_unless}
use Rattle.records.specs.declared.Verdict.{Verdict}
use Rattle.machine.specs.declared.Node.{Node}
use Rattle.tables.specs.Tables.{cell_at, cell_bytes, part_verdict, cell_written, cell_fault, cell_count, fields_verdict}

-- ---- the part lent for a cell
module _ (cell : Node) (part : List ℕ) where
  pub part_taken : length part ≡ 12 → (accepted ≡ part_verdict part) × (cell_bytes cell ≡ cell_written cell part)
  unfolding part_verdict cell_written
  part_taken h = (rw (eq-eqb (length part) 12 h), rw (eq-eqb (length part) 12 h))

  pub part_refused : (length part ≡ 12 → ⊥) → (refused 1 0 ≡ part_verdict part) × (part ≡ cell_written cell part)
  unfolding part_verdict cell_written
  part_refused h = (rw (ne_eqb (length part) 12 h), rw (ne_eqb (length part) 12 h))

-- ---- the verdict on the fields of a cell that was decoded is the verdict on the fields of its bytes
pub fields_of : {v : Verdict} {cell : Node} (table : List ℕ) (k : ℕ)
    → v ≡ refused_unless (eqb (cell_fault (length table / 12) cell).number 0) out_of_range k → cell ≡ cell_at table k → v ≡ fields_verdict table k
unfolding fields_verdict cell_count
fields_of table k v cell =
    v ∙ ap (λ (x : Node). refused_unless (eqb (cell_fault (length table / 12) x).number 0) out_of_range k) cell
