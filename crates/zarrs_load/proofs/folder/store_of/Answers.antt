use Rattle.std.proofs.Common.{ap}
use Rattle.std.specs.FinMap as map
use Rattle.zarrs_store.specs.Segments.{key_cmp}
use Rattle.zarrs_load.proofs.FoundFiles.{first_found, holds_more, holds_none, in_order, rest_found}
use Rattle.zarrs_load.proofs.folder.store_of.Goals as goal

pub loop-key-init : goal.loop-key-init
loop-key-init c = record {
  can_next = tt;
  is_finite = tt;
  rest = λ all. in_order _ _ _ c.sort_unstable.ensures.permutation c.into_iter-key-iterator.ensures.into_iter_gives.0 all;
  held = λ all. holds_none _ (ap (λ s. map.from_entries {R = key_cmp} s) c.new-store.ensures);
}

pub loop-key-preserved : goal.loop-key-preserved
loop-key-preserved c = record {
  can_next = tt;
  is_finite = tt;
  rest = λ all. rest_found _ _ (c.in-Some.key, c.in-Some.bytes) c.in-Some.ensures.steps.0 (c.loop-key.invariant.rest all);
  held = λ all. holds_more _ _ (c.in-Some.key, c.in-Some.bytes) c.in_ok-insert.ensures.ok
      (first_found _ _ (c.in-Some.key, c.in-Some.bytes) c.in-Some.ensures.steps.0 (c.loop-key.invariant.rest all)) (c.loop-key.invariant.held all);
}

pub returns : goal.returns
returns c = c.loop-key.invariant.held
