use Rattle.std.proofs.Common.{rules}
use Rattle.std.proofs.lemmas.Fn.{filter_same}
use Rattle.std.proofs.lemmas.Result.{IfOk-weaker}
use Rattle.zarrs_meaning.specs.Exists.{HasNodeKey}
use Rattle.zarrs_check.specs.StepsOfBlocksAbove.{IsEndFrom}
use Rattle.zarrs_check.specs.StepsOfChecks.{HasBad}
use Rattle.zarrs_check.specs.StepsOfComparisons.{PutsSettled}
use Rattle.zarrs_check.proofs.PartFindings.{ended_from, from_told, is_from}
use Rattle.zarrs_check.proofs.comparison.Comparison.finish_from.Goals as goal

pub returns-clause-ok : goal.returns-clause-ok
returns-clause-ok g c =
    let D = HasNodeKey (g.S.Store.contents c.args.storage.now) in
    let now = c.tell_rest.new.self in
    let kept = c.retain.new.self.items in
    IfOk-weaker c.put_settled.result (λ found. PutsSettled (HasBad c.args.bad.now) D c.new.result.items kept found.items) (λ found. IsEndFrom c.args.path.now D c.args.self c.args.bad.now found.items)
    (λ found. ended_from c.args.path.now D c.args.self now c.args.bad.now c.new.result.items kept found.items c.in_ok-tell_rest.ensures c.new.ensures.items
    (filter_same _ (is_from c.args.path.now) _ (λ x t q k. (from_told c.args.path.now x t (search rules), search rules)) _ _ c.retain.ensures.filtered)) c.put_settled.ensures.ok
