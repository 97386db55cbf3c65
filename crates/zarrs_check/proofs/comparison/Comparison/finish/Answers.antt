use Rattle.std.proofs.lemmas.Result.{IfOk-weaker}
use Rattle.zarrs_meaning.specs.Exists.{HasNodeKey}
use Rattle.zarrs_check.specs.StepsOfChecks.{HasBad}
use Rattle.zarrs_check.specs.StepsOfComparisons.{IsEnd, PutsSettled}
use Rattle.zarrs_check.proofs.UnderWay.{ended}
use Rattle.zarrs_check.proofs.comparison.Comparison.finish.Goals as goal

pub returns-clause-ok : goal.returns-clause-ok
returns-clause-ok g c =
    let D = HasNodeKey (g.S.Store.contents c.args.storage.now) in
    let now = c.tell_rest.new.self in
    IfOk-weaker c.put_settled.result (λ found. PutsSettled (HasBad c.args.bad.now) D now.of_block.items now.found.items found.items) (λ found. IsEnd D c.args.self c.args.bad.now found.items)
    (λ found. ended D c.args.self now c.args.bad.now found.items c.in_ok-tell_rest.ensures) c.put_settled.ensures.ok
