use Rattle.std.proofs.Common.{◌∷◌, [], ◌++◌, refl, subst, sym, ap, ◌∙◌, append-nil, append_assoc, Some, None}
use Rattle.std.specs.Vec.Iter.{into_iter_items}
use Rattle.zarrs_meaning.specs.Exists.{HasNodeKey}
use Rattle.zarrs_check.specs.StepsOfChecks.{HasBad}
use Rattle.zarrs_check.specs.StepsOfComparisons.{AreSettled, IsSettled}
use Rattle.zarrs_check.proofs.SurveyFaults.{none_left}
use Rattle.zarrs_check.proofs.UnderWay.{settled_more}
use Rattle.zarrs_check.proofs.comparison.put_settled.Goals as goal

pub loop-finding-init : goal.loop-finding-init
loop-finding-init g c = (c.into_iter-finding-iterator.ensures.into_iter_gives.0, ([], sym (append-nil _), refl))

pub returns-clause-ok : goal.returns-clause-ok
returns-clause-ok g c =
    let l = c.loop-finding in
    let empty = none_left _ _ l.finding-iterator.rest.ok.0 c.in-None.ensures.steps.0 in
    let all = sym (append-nil l.yielded) ∙ ap (λ xs. l.yielded ++ xs) (sym empty) ∙ l.invariant.0 in
    let h = l.invariant.1 in
    (h.0, h.1, subst (λ xs. AreSettled (HasBad c.args.bad.now) (HasNodeKey (g.S.Store.contents c.args.storage.now)) xs h.0) all h.2)

pub loop-finding-preserved : goal.loop-finding-preserved
loop-finding-preserved g c =
    let l = c.loop-finding in
    let x = c.in-Some.finding in
    let rest = into_iter_items c.next.new.self in
    let F = HasBad c.args.bad.now in
    let D = HasNodeKey (g.S.Store.contents c.args.storage.now) in
    let h = l.invariant.1 in (
      append_assoc l.yielded (x ∷ []) rest ∙ (ap (λ xs. l.yielded ++ xs) (sym c.in-Some.ensures.steps.0) ∙ l.invariant.0),
      (h.0, h.1, settled_more F D l.yielded x None h.0 h.0 (sym (append-nil h.0)) h.2 (subst (IsSettled F D x) c.in_default.is c.in_ok-left.ensures.ok)),
    )

pub loop-finding-preserved-in-Continue-branch-3 : goal.loop-finding-preserved-in-Continue-branch-3
loop-finding-preserved-in-Continue-branch-3 g c =
    let l = c.loop-finding in
    let x = c.in-Some.finding in
    let left = c.in-Some-2.left in
    let rest = into_iter_items c.next.new.self in
    let F = HasBad c.args.bad.now in
    let D = HasNodeKey (g.S.Store.contents c.args.storage.now) in
    let h = l.invariant.1 in (
      append_assoc l.yielded (x ∷ []) rest ∙ (ap (λ xs. l.yielded ++ xs) (sym c.in-Some.ensures.steps.0) ∙ l.invariant.0),
      (
        h.0 ++ left ∷ [],
        c.in_ok-push.ensures.items ∙ (ap (λ xs. xs ++ left ∷ []) h.1 ∙ append_assoc c.args.told.items h.0 (left ∷ [])),
        settled_more F D l.yielded x (Some left) h.0 (h.0 ++ left ∷ []) refl h.2 (subst (IsSettled F D x) c.in-Some-2.is c.in_ok-left.ensures.ok),
      ),
    )
