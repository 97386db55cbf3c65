use Rattle.std.proofs.Common.{false, [], Contains, arith, subst}
use Rattle.std.proofs.lemmas.Result.{IfOk-weaker}
use Rattle.zarrs_block.specs.Block.{Entries}
use Rattle.zarrs_meaning.specs.Exists.{HasNodeKey}
use Rattle.zarrs_check.specs.StepsOfBlocksAbove.{ArePartFindings, IsEndFrom}
use Rattle.zarrs_check.specs.StepsOfChecks.{HasBad}
use Rattle.zarrs_check.specs.StepsOfComparisons.{IsNextOf}
use Rattle.zarrs_check.proofs.PartFindings.{told_from}
use Rattle.zarrs_check.proofs.TakenNodes.{HasCompared, compared_all, compared_first}
use Rattle.zarrs_check.proofs.blocks_above.compare_from.Goals as goal

pub returns-clause-ok : goal.returns-clause-ok
returns-clause-ok store c =
    let B = c.args.block.metadata in
    let es = c.args.part.now.nodes.items in
    let bad = c.args.part.now.bad in
    let g = c.args.group in
    let b = c.args.path.now in
    let D = HasNodeKey (store.S.Store.contents c.args.storage.now) in
    let first = c.in_ok-comparison.comparison in
    let now = c.take_first.new.self in
    let next : IsNextOf first es now = subst (λ xs. IsNextOf first xs now) c.deref.ensures.value c.in_ok-take_first.ensures in
    let all : HasCompared es g B false now = compared_all [] es g B false first now (compared_first [] g B false first (λ d in' low. absurd (omega (arith, in'.1))) c.in_ok-comparison.ensures) next in
    IfOk-weaker c.finish_from.result (λ found. IsEndFrom b D now bad found.items) (λ found. ArePartFindings (Entries B g) (Contains es) (HasBad bad) D g b found.items)
    (λ found end. told_from es bad D g b B false now found.items c.requires.ascending all end) c.finish_from.ensures.ok
