use Rattle.std.proofs.Common.{◌∙◌}
use Rattle.zarrs_check.proofs.DocumentCounts.{joined_is, joined_text_of}
use Rattle.zarrs_check.proofs.orphans.path_joined.Goals as goal

pub returns-in-Ok : goal.returns-in-Ok
returns-in-Ok c = (c.in-Ok.ensures.valid, joined_is c.in-Ok.path c.args.names.now c.as_str.result.now c.in-Ok.ensures.text (c.as_str.ensures.value ∙ c.in_ok-text.ensures.ok))

pub returns-in-Err-Invalid : goal.returns-in-Err-Invalid
returns-in-Err-Invalid c = λ p valid is.
    let refused = rw c.in-Err-Invalid.field-0-is at c.in-Err-Invalid.ensures in
    refused.err.1 (joined_text_of p c.args.names.now c.as_str.result.now valid is (c.as_str.ensures.value ∙ c.in_ok-text.ensures.ok))
