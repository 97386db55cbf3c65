use Rattle.std.proofs.Common.{◌∙◌, false, Contains, Ok, drop, take, sym, ap, subst}
use Rattle.std.proofs.lemmas.List.{take_rest, take-append-drop}
use Rattle.zarrs_node.specs.Order.{Ascend}
use Rattle.zarrs_meaning.specs.Exists.{HasNodeKey}
use Rattle.zarrs_check.specs.StepsOfChecks.{HasBad}
use Rattle.zarrs_check.specs.StepsOfComparing.{IsPlaceBehind, StandBehind}
use Rattle.zarrs_check.specs.StepsOfComparisons.{IsStart, IsNextOf}
use Rattle.zarrs_check.proofs.CheckedBlocks.{found_told, told_end}
use Rattle.zarrs_check.proofs.NodeRuns.{none_before, rest_ascends, rest_behind}
use Rattle.zarrs_check.proofs.TakenNodes.{HasCompared, compared_all, compared_first}
use Rattle.zarrs_check.proofs.block.compare_block.Goals as goal

pub take_first-requires-clause-ascending : goal.take_first-requires-clause-ascending
take_first-requires-clause-ascending store c =
    let es = c.args.survey.now.nodes.items in
    let g = c.args.group.now in
    let ys = c.deref-2.result.now in
    let n = c.place_behind-start.result in
    let at : IsPlaceBehind es g n = subst (λ xs. IsPlaceBehind xs g n) c.deref.ensures.value c.place_behind-start.ensures in
    subst Ascend (sym (take_rest ys n ∙ ap (drop n) c.deref-2.ensures.value)) (rest_ascends es g n at c.args.survey.now.nodes_ascend)

pub take_first-requires-clause-behind : goal.take_first-requires-clause-behind
take_first-requires-clause-behind store c =
    let es = c.args.survey.now.nodes.items in
    let g = c.args.group.now in
    let ys = c.deref-2.result.now in
    let n = c.place_behind-start.result in
    let first = c.in_ok-comparison.comparison in
    let at : IsPlaceBehind es g n = subst (λ xs. IsPlaceBehind xs g n) c.deref.ensures.value c.place_behind-start.ensures in
    let start : IsStart c.args.block.metadata false g first = subst (λ q. IsStart c.args.block.metadata false q first) c.in_ok-try_clone.ensures.ok c.in_ok-comparison.ensures in
    subst (StandBehind first.group) (sym (take_rest ys n ∙ ap (drop n) c.deref-2.ensures.value)) (subst (λ q. StandBehind q (drop n es)) (sym start.group) (rest_behind es g n at))

pub returns-clause-findings : goal.returns-clause-findings
returns-clause-findings store c =
    let B = c.args.block.metadata in
    let es = c.args.survey.now.nodes.items in
    let g = c.args.group.now in
    let ys = c.deref-2.result.now in
    let n = c.place_behind-start.result in
    let first = c.in_ok-comparison.comparison in
    let now = c.take_first.new.self in
    let at : IsPlaceBehind es g n = subst (λ xs. IsPlaceBehind xs g n) c.deref.ensures.value c.place_behind-start.ensures in
    let start : IsStart B false g first = subst (λ q. IsStart B false q first) c.in_ok-try_clone.ensures.ok c.in_ok-comparison.ensures in
    let next : IsNextOf first (drop n es) now = subst (λ xs. IsNextOf first xs now) (take_rest ys n ∙ ap (drop n) c.deref-2.ensures.value) c.in_ok-take_first.ensures in
    let all : HasCompared es g B false now =
    subst (λ xs. HasCompared xs g B false now) (take-append-drop n es)
    (compared_all (take n es) (drop n es) g B false first now (compared_first (take n es) g B false first (none_before es g n at) start) next) in
    found_told (Contains es) (HasBad c.args.survey.now.bad_documents) (HasNodeKey (store.S.Store.contents c.args.storage.now)) g B c.in_ok-found.found.items
    (told_end es c.args.survey.now.nodes_ascend c.args.survey.now.bad_documents (HasNodeKey (store.S.Store.contents c.args.storage.now)) g now c.in_ok-found.found.items c.in_ok-found.ensures.ok (Ok (B, false)) all)
