use Rattle.std.proofs.Common.{arith, ◌∷◌, ◌++◌, [], ap, subst, take, take_all, ◌∙◌}
use Rattle.zarrs_form.proofs.MemberLists.{take_next}
use Rattle.zarrs_folder.specs.Folders.{values_of}
use Rattle.zarrs_folder.specs.PassedPaths.{HoldsFilesOf}
use Rattle.zarrs_folder.proofs.LoadingSteps.{grows_further}
use Rattle.zarrs_folder.proofs.PassedPaths.{at_another, at_grows, loaded_grows}
use Rattle.zarrs_folder.proofs.paths.load_paths.Goals as goal

pub loop-path-preserved : goal.loop-path-preserved
loop-path-preserved g c =
    let l = c.loop-path in
    let made = c.in_ok-load_path.ensures in
    let p = c.path-item.result in
    record {
      before = λ V agrees. l.invariant.before V (c.load_path.ensures.before V agrees);
      grows = λ V agrees. grows_further V (values_of c.args.store.inner) (values_of l.loaded.inner) (values_of c.load_path.new.loaded.inner) (l.invariant.grows V (c.load_path.ensures.before V agrees)) (made.grows V agrees);
      at = λ V agrees none.
          let before = c.load_path.ensures.before V agrees in
          let grown = l.invariant.grows V before in
          let done = take l.path-index c.args.paths.now in
          let more = at_another V (values_of c.load_path.new.loaded.inner) done p
          (at_grows V (values_of l.loaded.inner) (values_of c.load_path.new.loaded.inner) done (made.grows V agrees) (l.invariant.at V before none))
          (made.got V agrees (grown.keys none)) in
          subst (HoldsFilesOf V (values_of c.load_path.new.loaded.inner)) (ap (λ x. done ++ x ∷ []) c.path-item.is ∙ take_next c.args.paths.now l.path-index p (omega arith)) more;
    }

pub returns-clause-ok : goal.returns-clause-ok
returns-clause-ok g c V agrees loaded = loaded_grows V (values_of c.args.store.inner) (values_of c.loop-path.loaded.inner) c.args.base.now (c.loop-path.invariant.grows V agrees) loaded

pub returns-clause-grows : goal.returns-clause-grows
returns-clause-grows g c V agrees = c.loop-path.invariant.grows V agrees

pub returns-clause-at : goal.returns-clause-at
returns-clause-at g c V agrees none = subst (HoldsFilesOf V (values_of c.loop-path.loaded.inner)) (take_all _ c.args.paths.now (omega arith)) (c.loop-path.invariant.at V agrees none)
