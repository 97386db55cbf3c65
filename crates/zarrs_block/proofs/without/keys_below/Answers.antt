use Rattle.std.proofs.Common.{◌∙◌, ◌∷◌, ◌++◌, [], ap, string_bytes}
use Rattle.std.specs.Ordering.{is_gt}
use Rattle.zarrs_store.specs.Segments.{bytes_cmp}
use Rattle.zarrs_block.proofs.CutOut.{runs_forward, range_below, all_left, copied_key, all_copied}
use Rattle.zarrs_block.proofs.without.keys_below.Goals as goal

pub range-below-items-requires : goal.range-below-items-requires
range-below-items-requires c =
    ap (λ b. is_gt (bytes_cmp b (string_bytes c.in_ok-end.end))) c.in_ok-first.ensures.ok ∙ ap (λ b. is_gt (bytes_cmp (c.args.key.now ++ 47 ∷ []) b)) c.in_ok-end.ensures.ok
    ∙ runs_forward c.args.key.now

pub loop-below-init : goal.loop-below-init
loop-below-init c =
    all_left c.args.key.now c.args.block.now c.new-keys.result.items c.into_iter-below-iterator.result c.new-keys.ensures.items
    (range_below c.args.key.now c.args.block.now c.as_map.result.now.entries c.into_iter-below-iterator.result c.in_ok-first.first c.in_ok-end.end
    c.as_map.ensures c.in_ok-first.ensures.ok c.in_ok-end.ensures.ok (c.into_iter-below-iterator.ensures.into_iter_gives ∙ c.range-below-items.ensures.between tt))

pub loop-below-preserved : goal.loop-below-preserved
loop-below-preserved c =
    let l = c.loop-below in
    copied_key c.args.key.now c.args.block.now l.keys.items c.push.new.self.items c.in_ok-clone.field-0 l.below-iterator c.next.new.self (c.in-Some.below.now, c.in-Some._metadata.now)
    c.in-Some.ensures.steps c.in_ok-clone.ensures.cases c.in_ok-push.ensures.items l.invariant

pub returns : goal.returns
returns c = all_copied c.args.key.now c.args.block.now c.loop-below.keys.items c.loop-below.below-iterator c.in-None.ensures.steps.0 c.loop-below.invariant
