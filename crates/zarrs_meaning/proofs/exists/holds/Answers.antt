use Rattle.std.proofs.lemmas.Bool.{iff_false}
use Rattle.zarrs_meaning.proofs.ListedKeys.{not_yet}
use Rattle.zarrs_meaning.proofs.exists.holds.Goals as goal

pub loop-held-preserved : goal.loop-held-preserved
loop-held-preserved c =
    not_yet c.args.keys.now c.args.key.now c.held-item.result c.loop-held.held-index c.loop-held-test.true c.held-item.is (iff_false c.is_same.ensures c.if-is_same.false) c.loop-held.invariant
