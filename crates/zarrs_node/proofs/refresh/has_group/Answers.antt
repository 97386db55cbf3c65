use Rattle.std.proofs.Common.{◌∷◌, ◌∙◌, ap, sym}
use Rattle.std.specs.Prelude.{option_copied}
use Rattle.zarrs_node.proofs.blocks.Leads.{bare_is, group_at_key, group_rooted, some_group}
use Rattle.zarrs_node.proofs.refresh.has_group.Goals as goal

pub returns-in-Some : goal.returns-in-Some
returns-in-Some c b p valid below text =
    group_at_key c.args.block.now b p below valid c.without_leading_slash-key.result.now _ c.in-Some.metadata.now c.is_group.result
    (bare_is _ _ _ c.without_leading_slash-key.ensures text) c.get.ensures (ap option_copied c.in-Some.is) c.is_group.ensures

pub returns-in-Some-get : goal.returns-in-Some-get
returns-in-Some-get c b p valid below text =
    let key = bare_is _ _ _ c.without_leading_slash-key.ensures text in
    group_rooted c.args.block.now b p below valid c.without_leading_slash-key.result.now c.args.rooted.now _ _ c.is_group-in-Some-get.result
    key c.get.ensures (ap option_copied c.in_default.is) (text ∙ ap (λ t. 47 ∷ t) (sym key)) c.get-2.ensures
    (c.is_group-in-Some-get.ensures ∙ sym (ap (λ o. some_group (option_copied o)) c.in-Some-get.is))

pub returns-in-None : goal.returns-in-None
returns-in-None c b p valid below text =
    let key = bare_is _ _ _ c.without_leading_slash-key.ensures text in
    group_rooted c.args.block.now b p below valid c.without_leading_slash-key.result.now c.args.rooted.now _ _ _
    key c.get.ensures (ap option_copied c.in_default.is) (text ∙ ap (λ t. 47 ∷ t) (sym key)) c.get-2.ensures
    (sym (ap (λ o. some_group (option_copied o)) c.in-None.is))
