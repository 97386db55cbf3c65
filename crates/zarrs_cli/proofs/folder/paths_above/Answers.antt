use Rattle.std.proofs.Common.{◌<◌, Some, sym, subst}
use Rattle.zarrs_path.specs.Paths.{Path}
use Rattle.zarrs_check.proofs.GroupsAbove.{fewer_left, groups_left}
use Rattle.zarrs_cli.proofs.AllAbove.{AreAboveBut, first_above, more_above, no_more_above}
use Rattle.zarrs_cli.proofs.folder.paths_above.Goals as goal

pub loop-above-init : goal.loop-above-init
loop-above-init c = first_above c.args.base.now c.new-paths.result.items c.in_ok-above.above c.in_ok-above.ensures

pub loop-above-smaller : goal.loop-above-smaller
loop-above-smaller c = subst (λ o. groups_left c.in_ok-above-2.above < groups_left o) (sym c.in-Some.is) (fewer_left c.in-Some.path c.in_ok-above-2.above c.in_ok-above-2.ensures)

pub loop-above-preserved : goal.loop-above-preserved
loop-above-preserved c =
    let q : Path = c.in-Some.path in
    let b = c.args.base.now in
    let h : AreAboveBut b c.loop-above.paths.items (Some q) = subst (AreAboveBut b c.loop-above.paths.items) c.in-Some.is c.loop-above.invariant in
    subst (λ ps. AreAboveBut b ps c.in_ok-above-2.above) (sym c.in_ok-push.ensures.items) (more_above b q c.loop-above.paths.items c.in_ok-above-2.above c.in_ok-above-2.ensures h)

pub returns : goal.returns
returns c = no_more_above c.args.base.now c.loop-above.paths.items (subst (AreAboveBut c.args.base.now c.loop-above.paths.items) c.in_default.is c.loop-above.invariant)
