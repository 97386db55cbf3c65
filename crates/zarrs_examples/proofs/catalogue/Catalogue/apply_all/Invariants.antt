use Rattle.std.proofs.Common.{◌≡◌, take}
use Rattle.zarrs_examples.specs.Catalogues.{IsCurrent, after_changes}
use Rattle.zarrs_examples.proofs.catalogue.Catalogue.apply_all.Given as goal

abbrev pub invariant-loop-step : goal.invariant-loop-step
invariant-loop-step g l = record {
  nature : g.S.Store.can_fail l.storage ≡ g.S.Store.can_fail l.fn.storage;
  path : l.self.path ≡ l.fn.self.path;
  changed : g.S.Store.contents l.storage ≡ after_changes (g.S.Store.contents l.fn.storage) (take l.step l.changes);
  current : IsCurrent (g.S.Store.contents l.fn.storage) l.fn.self → IsCurrent (g.S.Store.contents l.storage) l.self;
}
