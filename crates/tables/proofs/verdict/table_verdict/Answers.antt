-- `tables::verdict::table_verdict` meets its contract: its number of cells is a byte. Assumes nothing.
use mathlib.Core.Path.{◌≡◌, sym, ◌∙◌}
use mathlib.Core.Bool.{true}
use native.Mathlib.Omega.{arith}
use lib.ListN.{length}
use Rattle.records.proofs.ReturnLaws.{held}
use Rattle.records.proofs.TestLaws.{whole_test}
use Rattle.tables.specs.Tables.{is_table}
use Rattle.tables.proofs.verdict.table_verdict.Goals as goal

pub overflow_cast-cells : goal.overflow_cast-cells
unfolding is_table
overflow_cast-cells c =
    let whole : c.is_table.result ≡ true = held _ 1 0 (λ z. omega arith) c.in_ok-ensure.ensures.verdict in
    omega (arith, ((whole_test 12 (length c.args.table.now)).0 (sym c.is_table.ensures ∙ whole)).most)
