use Rattle.std.proofs.Common.{◌∷◌, [], ◌++◌, subst, sym, ap, ◌∙◌, append-nil, append_assoc}
use Rattle.std.specs.Vec.Iter.{into_iter_items}
use Rattle.zarrs_meaning.specs.Exists.{HasNodeKey}
use Rattle.zarrs_check.specs.StepsOfTaking.{AreEnds}
use Rattle.zarrs_check.proofs.CheckedBlocks.{ends_more}
use Rattle.zarrs_check.proofs.SurveyFaults.{none_left}
use Rattle.zarrs_check.proofs.check.finish.Goals as goal

pub loop-block-init : goal.loop-block-init
loop-block-init g c = (c.into_iter-block-iterator.ensures.into_iter_gives.0, c.new-found.ensures.items)

pub loop-block-preserved : goal.loop-block-preserved
loop-block-preserved g c =
    let l = c.loop-block in
    let x = c.in-Some.block in
    let rest = into_iter_items c.next.new.self in (
      append_assoc l.yielded (x ∷ []) rest ∙ (ap (λ xs. l.yielded ++ xs) (sym c.in-Some.ensures.steps.0) ∙ l.invariant.0),
      ends_more (HasNodeKey (g.S.Store.contents c.args.storage.now)) l.yielded x c.args.bad.now l.found.items _ c.append.new.self.items c.in_ok-append.ensures.items l.invariant.1 c.in_ok-finish.ensures.ok,
    )

pub returns-clause-ok : goal.returns-clause-ok
returns-clause-ok g c =
    let l = c.loop-block in
    let empty = none_left _ _ l.block-iterator.rest.ok.0 c.in-None.ensures.steps.0 in
    subst (λ xs. AreEnds (HasNodeKey (g.S.Store.contents c.args.storage.now)) xs c.args.bad.now l.found.items) (sym (append-nil l.yielded) ∙ ap (λ xs. l.yielded ++ xs) (sym empty) ∙ l.invariant.0) l.invariant.1
