use Rattle.std.proofs.Common.{◌<◌, None, Some, sym, subst}
use Rattle.zarrs_path.specs.Paths.{Path}
use Rattle.zarrs_check.specs.StepsOfBlocksAbove.{AreFoundBelow, IsGoodBlock}
use Rattle.zarrs_check.proofs.GroupsAbove.{fewer_left, found_all_above, found_more, found_none, found_same, groups_left, part_behind, told_at, told_before}
use Rattle.zarrs_check.proofs.blocks_above.check_above.Goals as goal

pub loop-above-init : goal.loop-above-init
loop-above-init g c = (found_none (g.S.Store.contents c.args.storage.now) c.args.version.now c.args.path.now c.in_ok-above.above c.new-found.result.items c.in_ok-above.ensures.ok c.new-found.ensures.items, tt)

pub loop-above-smaller : goal.loop-above-smaller
loop-above-smaller g c = subst (λ o. groups_left c.in_ok-above-2.above < groups_left o) (sym c.in-Some.is) (fewer_left c.in-Some.group c.in_ok-above-2.above c.in_ok-above-2.ensures.ok)

pub loop-above-preserved : goal.loop-above-preserved
loop-above-preserved g c =
    let s = g.S.Store.contents c.args.storage.now in
    let v = c.args.version.now in
    let b = c.args.path.now in
    let q : Path = c.in-Some.group in
    let found = c.loop-above.found.items in
    let h : AreFoundBelow s v b (Some q) found = subst (λ o. AreFoundBelow s v b o found) c.in-Some.is c.loop-above.invariant.0 in
    let none : IsGoodBlock s v q None = subst (IsGoodBlock s v q) c.in_default-2.is c.in_ok-block.ensures.block in
    (found_same s v b q c.in_ok-above-2.above found c.in_ok-above-2.ensures.ok none h, c.loop-above.invariant.1)

pub compare_from-requires-clause-behind : goal.compare_from-requires-clause-behind
compare_from-requires-clause-behind g c =
    let s = g.S.Store.contents c.args.storage.now in
    let v = c.args.version.now in
    let b = c.args.path.now in
    let q : Path = c.in-Some.group in
    let found = c.loop-above.found.items in
    let h : AreFoundBelow s v b (Some q) found = subst (λ o. AreFoundBelow s v b o found) c.in-Some.is c.loop-above.invariant.0 in
    part_behind s v b q h.place c.in_ok-known.known c.in_ok-known.ensures.part

pub loop-above-preserved-in-Some-2 : goal.loop-above-preserved-in-Some-2
loop-above-preserved-in-Some-2 g c =
    let s = g.S.Store.contents c.args.storage.now in
    let v = c.args.version.now in
    let b = c.args.path.now in
    let q : Path = c.in-Some.group in
    let found = c.loop-above.found.items in
    let h : AreFoundBelow s v b (Some q) found = subst (λ o. AreFoundBelow s v b o found) c.in-Some.is c.loop-above.invariant.0 in
    let part = c.in_ok-known.known in
    let known = c.in_ok-known.ensures.part in
    let block = c.in-Some-2.block in
    let good : IsGoodBlock s v q (Some block) = subst (IsGoodBlock s v q) c.in-Some-2.is c.in_ok-block.ensures.block in
    let told = c.in_ok-told.told.items in
    let are = c.in_ok-told.ensures.ok in (
      found_more s v b q c.in_ok-above-2.above told found c.append.new.self.items c.in_ok-above-2.ensures.ok (told_at s v b q h.place part known block good told are) (told_before s v b q h.place part known block good told are) c.in_ok-append.ensures.items h,
      known,
    )

pub returns-clause-findings : goal.returns-clause-findings
returns-clause-findings g c =
    let s = g.S.Store.contents c.args.storage.now in
    let v = c.args.version.now in
    let b = c.args.path.now in
    let found = c.loop-above.found.items in
    found_all_above s v b found (subst (λ o. AreFoundBelow s v b o found) c.in_default.is c.loop-above.invariant.0)
