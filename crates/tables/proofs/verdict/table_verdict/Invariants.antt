-- `tables::verdict::table_verdict` meets its contract. The invariant: the cells from k on give the whole verdict. Assumes nothing.
use Rattle.records.proofs.VerdictLaws.{Searched}
use Rattle.tables.specs.Tables.{fields_verdict, table_verdict}
use Rattle.tables.proofs.verdict.table_verdict.Given as goal

abbrev pub invariant-loop-k : goal.invariant-loop-k
invariant-loop-k l = Searched (table_verdict l.table) (fields_verdict l.table) l.cells l.k
