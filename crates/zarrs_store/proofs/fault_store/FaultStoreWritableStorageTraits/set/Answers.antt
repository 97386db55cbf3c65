use Rattle.std.proofs.Common.{sym, subst}
use Rattle.std.specs.FinMap as map
use Rattle.zarrs_store.specs.Segments.{key_cmp}
use Rattle.zarrs_store.specs.Contents.{AgreesExceptAt}
use Rattle.zarrs_store.specs.FailingStores.{inner_contents}
use Rattle.zarrs_store.proofs.ContentsLemmas.{AgreesExceptAt-insert}
use Rattle.zarrs_store.proofs.fault_store.FaultStoreWritableStorageTraits.set.Goals as goal

-- the half is set at the key alone
pub returns-then-is_set-clause-others : goal.returns-then-is_set-clause-others
returns-then-is_set-clause-others c =
    let key = c.args.key.now in
    subst (λ s. AgreesExceptAt key (inner_contents s) (map.from_entries {R = key_cmp} c.set.new.self)) c.self.view_is
    (subst (AgreesExceptAt key (map.from_entries {R = key_cmp} c.self.inside.inner)) (sym c.in_ok-set.ensures.ok)
    (AgreesExceptAt-insert (map.from_entries {R = key_cmp} c.self.inside.inner) key _))
