-- `reading::reader::image_verdict` meets its contract: what is left of the groups' tests gives the whole answer. Assumes nothing.
use Rattle.records.proofs.VerdictLaws.{Searched}
use Rattle.image.specs.Reading.{image_verdict}
use Rattle.reading.proofs.ReadingLaws.{group_test}
use Rattle.reading.proofs.reader.image_verdict.Given as goal

abbrev pub invariant-loop-k : goal.invariant-loop-k
invariant-loop-k l = Searched (image_verdict l.image) (group_test l.image) 10 l.k
