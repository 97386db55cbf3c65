use Rattle.std.proofs.Common.{refl, arith}
use Rattle.std.proofs.lemmas.Iterator.{items_from_collect, YieldsList-from_range}
use Rattle.zarrs_convert.proofs.codecs.ascending.Goals as goal

pub returns : goal.returns
returns c =
    let n = c.args.dimensionality in
    items_from_collect _ c.collect.ensures.ran (YieldsList-from_range 0 n n refl (omega arith))
