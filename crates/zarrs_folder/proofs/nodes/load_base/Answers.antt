use Rattle.std.proofs.Common.{ap, refl, subst, sym}
use Rattle.zarrs_folder.specs.Folders.{values_of}
use Rattle.zarrs_folder.specs.PrunedStores.{HasNoOtherKeys, HasSameFiles}
use Rattle.zarrs_folder.proofs.LoadingSteps.{none_in_empty}
use Rattle.zarrs_folder.proofs.nodes.load_base.Goals as goal

pub returns-clause-ok : goal.returns-clause-ok
returns-clause-ok g c V agrees =
    let none = subst (HasNoOtherKeys V) (sym (ap values_of c.new.ensures)) (none_in_empty V) in
    record {
      numbers = refl;
      keys = (c.in_ok-read_documents.ensures.grows V agrees).keys none;
      documents = subst (HasSameFiles V (values_of c.read_documents.new.loaded.inner)) c.in_ok-prefix.ensures.ok (c.in_ok-read_documents.ensures.got V agrees none);
    }
