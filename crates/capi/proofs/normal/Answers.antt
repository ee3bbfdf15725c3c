-- `capi::normal` meets its contract: a refused image leaves the buffer, and of an accepted one the writer leaves the normal bytes. Assumes nothing.
use Rattle.std.proofs.Common.{rules, refl, ◌≡◌}
use Rattle.records.specs.Verdicts.{refused}
use Rattle.records.specs.Answers.{number_of}
use Rattle.records.proofs.ReturnLaws.{number_some}
use Rattle.capi.specs.Calls.{normal_verdict}
use Rattle.capi.proofs.CallLaws.{image_refused, image_keeps, image_answered, image_written}
use Rattle.capi.proofs.normal.Goals as goal

pub returns-in_err-settings-clause-value : goal.returns-in_err-settings-clause-value
returns-in_err-settings-clause-value c =
    let r = c.in_err-settings.field-0.0 in
    let told : refused (number_of r.kind) r.place ≡ normal_verdict c.args.image.now c.args.buffer.now = image_refused _ _ c.in_err-settings.ensures (number_some _) in
    search rules

pub returns-in_err-settings-clause-buffer_after : goal.returns-in_err-settings-clause-buffer_after
returns-in_err-settings-clause-buffer_after c = image_keeps _ _ c.in_err-settings.ensures (number_some _)

pub returns-clause-value : goal.returns-clause-value
returns-clause-value c = image_answered _ _ c.in_ok-settings.ensures (λ i. (c.type_inv.image i).fits) refl c.write.ensures.value

pub returns-clause-buffer_after : goal.returns-clause-buffer_after
returns-clause-buffer_after c = image_written _ _ c.in_ok-settings.ensures (λ i. (c.type_inv.image i).fits) refl c.write.ensures.buffer_after
