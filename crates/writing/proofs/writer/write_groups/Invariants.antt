-- `writing::writer::write_groups` meets its contract: each turn lends the part of one more group, whose bytes are the encoder's. Assumes nothing.
use Rattle.std.proofs.Common.{◌*◌, ◌≡◌, ◌++◌, drop}
use Rattle.records.specs.Lists.{each}
use Rattle.writing.proofs.WritingLaws.{byte_at}
use Rattle.writing.proofs.writer.write_groups.Given as goal

abbrev pub invariant-loop-k : goal.invariant-loop-k
invariant-loop-k l = l.buffer ≡ each (byte_at l.fn.settings) 0 (8 * l.k) ++ drop (8 * l.k) l.initial.buffer
