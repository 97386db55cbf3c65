use Rattle.std.proofs.Common.{subst, sym}
use Rattle.zarrs_path.specs.Keys.{zarr_json, zarray, zgroup}
use Rattle.zarrs_folder.specs.Folders.{values_of}
use Rattle.zarrs_folder.specs.PrunedStores.{HasLoaded, HasSameFile, at_file}
use Rattle.zarrs_folder.proofs.DecidingDocuments.{all_of_files, deciding_of_files, files_grow, left_of_both}
use Rattle.zarrs_folder.proofs.LoadingSteps.{grows_further, grows_itself}
use Rattle.zarrs_folder.proofs.read.read_left.Goals as goal

pub returns-in_ok-read_document-in-All-2-clause-grows : goal.returns-in_ok-read_document-in-All-2-clause-grows
returns-in_ok-read_document-in-All-2-clause-grows g c V agrees =
    let before = c.read_document-in-All.ensures.before V agrees in
    grows_further V (values_of c.args.loaded.now.inner) (values_of c.read_document.new.loaded.inner) (values_of c.read_document-in-All.new.loaded.inner)
    (c.in_ok-read_document-in-All.ensures.grows V before) (c.in_ok-read_document-in-All-2.ensures.grows V agrees)

pub returns-in_ok-read_document-in-All-2-clause-got : goal.returns-in_ok-read_document-in-All-2-clause-got
returns-in_ok-read_document-in-All-2-clause-got g c V agrees none same =
    let p = c.args.prefix.now in
    let L = values_of c.read_document.new.loaded.inner in
    let M = values_of c.read_document-in-All.new.loaded.inner in
    let before = c.read_document-in-All.ensures.before V agrees in
    let first = c.in_ok-read_document-in-All.ensures.grows V before in
    let second = c.in_ok-read_document-in-All-2.ensures.grows V agrees in
    subst (λ d. HasLoaded d V M p) (sym c.in-All.is)
    (all_of_files V M p (files_grow V L M p second (files_grow V (values_of c.args.loaded.now.inner) L p first same))
    (left_of_both (HasSameFile V M p) (second.same _ (c.in_ok-read_document-in-All.ensures.got V before none)) (c.in_ok-read_document-in-All-2.ensures.got V agrees (first.keys none))
    (at_file V p zarr_json) (at_file V p zarray) (at_file V p zgroup)))

pub returns-in-Deciding-clause-got : goal.returns-in-Deciding-clause-got
returns-in-Deciding-clause-got g c V agrees none same =
    subst (λ d. HasLoaded d V (values_of c.args.loaded.now.inner) c.args.prefix.now) (sym c.in-Deciding.is) (deciding_of_files V (values_of c.args.loaded.now.inner) c.args.prefix.now same)

pub returns-in-Deciding-clause-grows : goal.returns-in-Deciding-clause-grows
returns-in-Deciding-clause-grows g c V agrees = grows_itself V (values_of c.args.loaded.now.inner)
