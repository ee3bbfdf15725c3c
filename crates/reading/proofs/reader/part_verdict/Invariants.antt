-- `reading::reader::part_verdict` meets its contract: what is left of the tests gives the whole answer. Assumes nothing.
use Rattle.records.proofs.VerdictLaws.{Searched}
use Rattle.image.specs.Reading.{part_verdict}
use Rattle.reading.proofs.ReadingLaws.{part_test}
use Rattle.reading.proofs.reader.part_verdict.Given as goal

abbrev pub invariant-loop-j : goal.invariant-loop-j
invariant-loop-j l = Searched (part_verdict l.k l.part) (part_test l.k l.part) 8 l.j
