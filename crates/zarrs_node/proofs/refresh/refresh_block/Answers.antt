use Rattle.std.proofs.Common.{◌⊎◌, IfErr, IfOk, subst}
use Rattle.zarrs_meaning.specs.Meaning.{meaning}
use Rattle.zarrs_meaning.specs.Refusals.{IsExcused}
use Rattle.zarrs_node.specs.CurrentBlocks.{LeadsTo, IsFresh, BadAnew, ShowsBadAnew}
use Rattle.zarrs_node.proofs.refresh.refresh_block.Goals as goal

pub returns-clause-fresh : goal.returns-clause-fresh
returns-clause-fresh g c =
    let of = meaning (g.S.Store.contents c.args.storage.now) c.args.version.now in
    subst (λ B. IfOk c.refresh_owned_block.result (IsFresh of c.args.base.now B c.args.path.now)) c.in_ok-copy.ensures c.refresh_owned_block.ensures.fresh

pub returns-clause-clean : goal.returns-clause-clean
returns-clause-clean g c =
    let bad = BadAnew (g.S.Store.contents c.args.storage.now) c.args.version.now c.args.path.now in
    subst (λ B. IfOk c.refresh_owned_block.result (λ _. LeadsTo B c.args.base.now c.args.path.now → bad → ⊥)) c.in_ok-copy.ensures c.refresh_owned_block.ensures.clean

pub returns-clause-refused : goal.returns-clause-refused
returns-clause-refused g c =
    let store = g.S.Store.contents c.args.storage.now in
    let p = c.args.path.now in
    subst (λ B. IfErr c.refresh_owned_block.result (λ e. IsExcused (g.S.Store.can_fail c.args.storage.now) e ⊎ (LeadsTo B c.args.base.now p × ShowsBadAnew store c.args.version.now p e)))
    c.in_ok-copy.ensures c.refresh_owned_block.ensures.refused
