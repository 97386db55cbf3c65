use Rattle.std.proofs.Common.{sym, refl, ◌∙◌, true≢false}
use Rattle.zarrs_node.proofs.OpenGroups.{added_last_by, none_if, added_root}
use Rattle.zarrs_node.proofs.build.Pass.add.Goals as goal

pub returns-in_ok-push-in-Some-clause-grows : goal.returns-in_ok-push-in-Some-clause-grows
returns-in_ok-push-in-Some-clause-grows c =
    (added_last_by _ _ _ c.in-Some.parent.now c.args.node _ c.args.self.now.opened.ok.0 (c.in-Some.ensures.variant.0 refl) c.in-Some.ensures.value refl refl c.in_ok-push-in-Some.ensures.items).0

pub returns-in_ok-push-in-Some-clause-heads : goal.returns-in_ok-push-in-Some-clause-heads
returns-in_ok-push-in-Some-clause-heads c =
    (added_last_by c.args.self.now.roots.items _ _ c.in-Some.parent.now c.args.node _ c.args.self.now.opened.ok.0 (c.in-Some.ensures.variant.0 refl) c.in-Some.ensures.value refl refl c.in_ok-push-in-Some.ensures.items).1

pub returns-in_ok-push-in-None-clause-grows : goal.returns-in_ok-push-in-None-clause-grows
returns-in_ok-push-in-None-clause-grows c =
    added_root _ _ _ _ c.in_ok-push-in-None.ensures.items (sym c.args.self.now.opened.ok.0 ∙ none_if _ (λ h. true≢false (sym (c.in-None.ensures.variant.1 h))))
