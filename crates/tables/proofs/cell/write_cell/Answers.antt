-- `tables::cell::write_cell` meets its contract: a part of twelve bytes becomes the cell's bytes. Assumes nothing.
use Prim.Native.Nat.{ℕ}
use mathlib.Core.Path.{ap, sym, ◌∙◌}
use mathlib.Core.List.{List}
use native.Mathlib.Omega.{arith}
use borrow.Author.Tests.{eqb-true}
use Rattle.records.specs.Lists.{copied}
use Rattle.records.proofs.ListLaws.{copied_whole}
use Rattle.records.proofs.ReturnLaws.{held}
use Rattle.tables.specs.Tables.{cell_bytes}
use Rattle.tables.proofs.CellBytes.{cell_length}
use Rattle.tables.proofs.TableLaws.{part_taken}
use Rattle.tables.proofs.cell.write_cell.Goals as goal

pub returns-clause-part_after : goal.returns-clause-part_after
returns-clause-part_after c =
    let part = c.args.part.now in
    let twelve = eqb-true _ _ (held _ 1 0 (λ z. omega arith) c.in_ok-ensure.ensures.verdict) in
    c.copy.ensures
    ∙ ap (λ (bytes : List ℕ). copied bytes part) c.cell_bytes.ensures
    ∙ copied_whole (cell_bytes c.args.cell) part (twelve ∙ sym (cell_length c.args.cell))
    ∙ (part_taken c.args.cell part twelve).1
