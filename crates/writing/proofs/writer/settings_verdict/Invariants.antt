-- `writing::writer::settings_verdict` meets its contract: what is left of the groups' tests gives the whole answer. Assumes nothing.
use Rattle.records.proofs.VerdictLaws.{Searched}
use Rattle.writing.specs.Writing.{settings_verdict}
use Rattle.writing.proofs.WritingLaws.{settings_test}
use Rattle.writing.proofs.writer.settings_verdict.Given as goal

abbrev pub invariant-loop-k : goal.invariant-loop-k
invariant-loop-k l = Searched (settings_verdict l.fn.settings) (settings_test l.fn.settings.groups) 10 l.k
