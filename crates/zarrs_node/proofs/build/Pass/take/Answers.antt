use Rattle.std.proofs.Common.{sym, subst, ◌∙◌, rules, inr, refl, true≢false}
use Rattle.zarrs_node.specs.Forest.{IsChildOf}
use Rattle.zarrs_node.proofs.OpenGroups.{taken_open, taken_added}
use Rattle.zarrs_node.proofs.build.Pass.take.Goals as goal

pub returns-then-not-is_child : goal.returns-then-not-is_child
returns-then-not-is_child c = inr ((λ child. true≢false (search rules)), refl, refl)

pub returns-in_ok-push : goal.returns-in_ok-push
returns-in_ok-push c = taken_open _ _ _ (record { path = c.args.path; metadata = c.args.metadata; children = c.new.result; count = 1 })
    (subst (λ x. IsChildOf x c.args.path) c.parent.ensures (c.is_child.ensures.child.0 (search rules))) c.is_child.ensures.valid c.new.ensures.items _ c.in_ok-push.ensures.items (sym c.is_group-is_group.ensures ∙ c.if-is_group.true)

pub returns-in_ok-add : goal.returns-in_ok-add
returns-in_ok-add c = taken_added _ _ _ (record { path = c.args.path; metadata = c.args.metadata; children = c.new.result; count = 1 })
    (subst (λ x. IsChildOf x c.args.path) c.parent.ensures (c.is_child.ensures.child.0 (search rules))) c.is_child.ensures.valid c.new.ensures.items _ _ c.in_ok-add.ensures.grows c.in_ok-add.ensures.heads (sym c.is_group-is_group.ensures ∙ c.if-is_group.false)
