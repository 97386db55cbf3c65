use Rattle.std.proofs.Common.{◌≡◌, ℕ, List, [], ◌∷◌, length, map, refl, arith, String, Global, string_bytes, ap}
use Rattle.std.specs.Vec.Iter.{into_iter_items}
use Rattle.zarrs_block.proofs.CutOut.{cut_start, cut_next, cut_end}
use Rattle.zarrs_block.proofs.without.cut.Goals as goal

none_left : (xs : List (String Global)) (n : ℕ) → n ≡ length xs → n ≡ 0 → xs ≡ []
none_left [] n e z = refl
none_left (x ∷ xs) n e z = absurd (omega (arith, e, z))

pub loop-below-init : goal.loop-below-init
loop-below-init c =
    cut_start c.args.key.now c.remove.new.self _ (map string_bytes (into_iter_items c.into_iter-below-iterator.result))
    (ap (map string_bytes) c.into_iter-below-iterator.ensures.into_iter_gives.0) c.remove.ensures.ascending c.in_ok-below-items.ensures

pub loop-below-preserved : goal.loop-below-preserved
loop-below-preserved c =
    let l = c.loop-below in
    let removed = c.remove-in-loop-below in
    cut_next c.args.key.now c.remove.new.self l.block removed.new.self (map string_bytes (into_iter_items l.below-iterator)) (map string_bytes (into_iter_items c.next.new.self))
    _ (string_bytes c.in-Some.below) (ap (map string_bytes) c.in-Some.ensures.steps.0) c.as_str.ensures.value removed.ensures.gone removed.ensures.others removed.ensures.ascending l.invariant

pub returns-clause-cut : goal.returns-clause-cut
returns-clause-cut c =
    cut_end c.args.key.now c.remove.new.self c.args.block.now c.loop-below.block (map string_bytes (into_iter_items c.loop-below.below-iterator))
    (ap (map string_bytes) (none_left _ _ c.loop-below.below-iterator.rest.ok.0 c.in-None.ensures.steps.0)) c.remove.ensures.gone c.remove.ensures.others c.loop-below.invariant

pub returns-clause-ascending : goal.returns-clause-ascending
returns-clause-ascending c = c.loop-below.invariant.0
