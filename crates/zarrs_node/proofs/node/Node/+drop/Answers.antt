use Rattle.std.proofs.Common.{◌≡◌, rules, sym, ◌∙◌, vec_len}
use Rattle.zarrs_node.proofs.Sizes.{left_down, left_on, left_alone, none_less}
use Rattle.zarrs_node.proofs.node.Node.+drop.Goals as goal

pub drop-others-requires : goal.drop-others-requires
drop-others-requires t c κs =
    let e : vec_len c.loop-next.others ≡ 0 = search rules in
    let less = none_less c.args.self c.loop-next.others.items (sym c.loop-next.others.ok.0 ∙ e) in
    search (rules, less)

pub loop-next-smaller-then-is_empty : goal.loop-next-smaller-then-is_empty
loop-next-smaller-then-is_empty t c = left_alone c.loop-next.node c.in-Some-pop.next c.loop-next.others.items _ _ c.into_parts-path-in-loop-next.ensures.children c.in-Some-pop.ensures.items

pub loop-next-smaller-else-is_empty : goal.loop-next-smaller-else-is_empty
loop-next-smaller-else-is_empty t c =
    left_down c.loop-next.node c.in-Some-pop.next c.waiting-waiting.result c.loop-next.others.items _ _ c.put_first-none.new.nodes.items c.into_parts-path-in-loop-next.ensures.children c.in-Some-pop.ensures.items c.waiting-waiting.ensures
    c.put_first-none.ensures.weights

pub loop-next-smaller : goal.loop-next-smaller
loop-next-smaller t c = left_on c.loop-next.node _ c.loop-next.others.items _ c.in-Some-pop-2.ensures.items
