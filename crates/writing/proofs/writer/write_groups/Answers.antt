-- `writing::writer::write_groups` meets its contract: each turn lends the part of one more group, whose bytes are the encoder's. Assumes nothing.
use Rattle.std.proofs.Common.{arith, ◌+◌, ◌-◌, ◌*◌, ap, ◌∙◌, refl, sym}
use Rattle.records.specs.Lists.{each}
use Rattle.records.proofs.ListLaws.{lent_back, filled_all}
use Rattle.writing.specs.Writing.{image_of, as_encoded}
use Rattle.image.proofs.SettingsLaws.{ten_groups}
use Rattle.writing.proofs.WritingLaws.{byte_at, group_encoded, bytes_encoded}
use Rattle.writing.proofs.writer.write_groups.Goals as goal

pub loop-k-init : goal.loop-k-init
unfolding each
loop-k-init c = refl

pub unwrap-bytes-requires : goal.unwrap-bytes-requires
unwrap-bytes-requires c =
    group_encoded _ c.requires.settings_value c.loop-k.k _ c.encode.result c.encode.ensures (ten_groups _ _ c.well_formed.0) c.loop-k-test.true

pub loop-k-preserved : goal.loop-k-preserved
loop-k-preserved c =
    let l = c.loop-k in
    let a = c.args in
    let ten = ten_groups a.settings _ c.well_formed.0 in
    let bytes = bytes_encoded a.settings c.requires.settings_value l.k _ _ (ap as_encoded (sym c.unwrap-bytes.ensures) ∙ c.encode.ensures) ten c.loop-k-test.true in
    lent_back (byte_at a.settings) a.buffer.now l.buffer _ 8 l.k (8 * l.k + 8 - 8 * l.k) l.invariant (c.write_group.ensures ∙ bytes) (omega arith)

pub returns : goal.returns
unfolding image_of
returns c = filled_all _ _ _ _ 80 c.loop-k.invariant (omega arith) c.requires.buffer_len
