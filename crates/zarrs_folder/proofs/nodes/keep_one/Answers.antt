use Rattle.std.proofs.Common.{subst}
use Rattle.std.specs.Prelude.{IfSome}
use Rattle.zarrs_store.specs.Contents.{Values, HasKey, IsKeyBelow}
use Rattle.zarrs_folder.specs.Folders.{values_of}
use Rattle.zarrs_folder.proofs.LoadingSteps.{inserted_has, marker_grown, none_found}
use Rattle.zarrs_folder.proofs.nodes.keep_one.Goals as goal

pub returns-in_ok-insert-in-Ok-None-clause-grows : goal.returns-in_ok-insert-in-Ok-None-clause-grows
returns-in_ok-insert-in-Ok-None-clause-grows g c V agrees =
    let below = subst (λ o. IfSome o (λ key. (V : Values) → g.F.Folder.agrees c.any_below.new.self V → IsKeyBelow V c.args.prefix.now key)) c.in-Some.is c.in_ok-key.ensures.some in
    marker_grown V (values_of c.args.loaded.now.inner) (values_of c.insert.new.self) c.in-Some.key _ c.in_ok-insert-in-Ok-None.ensures.ok
    (none_found _ _ _ c.in-Ok-None.ensures.ok c.in-Ok-None.field-0-is) (below V agrees).held

pub returns-in_ok-insert-in-Ok-None-clause-below : goal.returns-in_ok-insert-in-Ok-None-clause-below
returns-in_ok-insert-in-Ok-None-clause-below g c V agrees has =
    let below = subst (λ o. IfSome o (λ key. (V : Values) → g.F.Folder.agrees c.any_below.new.self V → IsKeyBelow V c.args.prefix.now key)) c.in-Some.is c.in_ok-key.ensures.some in
    let key = below V agrees in (
      key.first,
      key.rest,
      subst (HasKey (values_of c.insert.new.self)) key.is
          (inserted_has (values_of c.args.loaded.now.inner) (values_of c.insert.new.self) c.in-Some.key _ c.in_ok-insert-in-Ok-None.ensures.ok),
    )
