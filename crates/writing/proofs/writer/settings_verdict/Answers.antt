-- `writing::writer::settings_verdict` meets its contract: the encoder answers each group's verdict. Assumes nothing.
use Rattle.std.proofs.Common.{rules, arith}
use Rattle.records.proofs.ReturnLaws.{loop_ends, loop_goes_on, number_some}
use Rattle.image.proofs.SettingsLaws.{ten_groups}
use Rattle.writing.proofs.WritingLaws.{group_tested}
use Rattle.writing.proofs.writer.settings_verdict.Goals as goal

pub returns-in_err-encode : goal.returns-in_err-encode
returns-in_err-encode c =
    let ten = ten_groups c.args.settings _ c.well_formed.0 in
    let tested = group_tested c.args.settings.groups c.loop-k.k _ c.in_err-encode.ensures ten (omega arith) in
    search (rules, loop_ends, number_some)

pub loop-k-preserved : goal.loop-k-preserved
loop-k-preserved c =
    let ten = ten_groups c.args.settings _ c.well_formed.0 in
    loop_goes_on c.loop-k.invariant (omega arith) (group_tested _ _ _ c.in_ok-encode.ensures ten (omega arith))
