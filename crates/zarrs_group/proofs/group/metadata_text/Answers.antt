use Rattle.std.proofs.Common.{◌≡◌, ◌∙◌, ap, sym}
use Rattle.serde_json.specs.View.{view}
use Rattle.serde_json.specs.Written.{has_float, compact_text}
use Rattle.zarrs_group.specs.Groups.{group_tree}
use Rattle.zarrs_group.proofs.PlainLaws.{no_float_group}
use Rattle.zarrs_group.proofs.group.metadata_text.Goals as goal
use Rattle.zarrs_group.proofs.group.metadata_text.Goals.{in-V3+in_ok-value-in-V3, in-V2+in_ok-value-in-V2}

pub returns : goal.returns
returns c plain =
    let is : view c.match-metadata.value ≡ group_tree c.args.metadata.now = elim c.match-metadata.branch [ in-V3+in_ok-value-in-V3 w ↦ ap view w.value-is ∙ w.in_ok-value-in-V3.ensures ∙ ap group_tree (sym w.in-V3.is) | in-V2+in_ok-value-in-V2 w ↦ ap view w.value-is ∙ w.in_ok-value-in-V2.ensures ∙ ap group_tree (sym w.in-V2.is) ] in
    c.in_ok-text.ensures.text (ap has_float is ∙ no_float_group c.args.metadata.now plain) ∙ ap compact_text is
