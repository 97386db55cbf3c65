use Rattle.std.proofs.Common.{sym}
use Rattle.zarrs_path.specs.Keys.{zarr_json}
use Rattle.zarrs_folder.specs.Folders.{values_of}
use Rattle.zarrs_folder.specs.PrunedStores.{at_file}
use Rattle.zarrs_folder.proofs.DecidingDocuments.{found_alone}
use Rattle.zarrs_folder.proofs.LoadingSteps.{five_got, five_grown}
use Rattle.zarrs_folder.proofs.read.read_documents.Goals as goal

pub returns-clause-grows : goal.returns-clause-grows
returns-clause-grows g c V agrees =
    let fourth = c.read_document-5.ensures.before V agrees in
    let third = c.read_document-4.ensures.before V fourth in
    let second = c.read_document-3.ensures.before V third in
    let first = c.read_document-2.ensures.before V second in
    five_grown V (values_of c.args.loaded.now.inner) (values_of c.read_document.new.loaded.inner) (values_of c.read_document-2.new.loaded.inner) (values_of c.read_document-3.new.loaded.inner)
    (values_of c.read_document-4.new.loaded.inner) (values_of c.read_document-5.new.loaded.inner)
    (c.in_ok-zarr_json.ensures.grows V first) (c.in_ok-array.ensures.grows V second) (c.in_ok-group.ensures.grows V third) (c.in_ok-any.ensures.grows V fourth) (c.in_ok-any-2.ensures.grows V agrees)

pub returns-clause-got : goal.returns-clause-got
returns-clause-got g c V agrees =
    let fourth = c.read_document-5.ensures.before V agrees in
    let third = c.read_document-4.ensures.before V fourth in
    let second = c.read_document-3.ensures.before V third in
    let first = c.read_document-2.ensures.before V second in
    five_got V (values_of c.args.loaded.now.inner) (values_of c.read_document.new.loaded.inner) (values_of c.read_document-2.new.loaded.inner) (values_of c.read_document-3.new.loaded.inner)
    (values_of c.read_document-4.new.loaded.inner) (values_of c.read_document-5.new.loaded.inner) c.args.prefix.now
    (c.in_ok-zarr_json.ensures.grows V first) (c.in_ok-array.ensures.grows V second) (c.in_ok-group.ensures.grows V third) (c.in_ok-any.ensures.grows V fourth) (c.in_ok-any-2.ensures.grows V agrees)
    (c.in_ok-zarr_json.ensures.got V first) (c.in_ok-array.ensures.got V second) (c.in_ok-group.ensures.got V third) (c.in_ok-any.ensures.got V fourth) (c.in_ok-any-2.ensures.got V agrees)

pub returns-clause-found : goal.returns-clause-found
returns-clause-found g c V agrees =
    let fourth = c.read_document-5.ensures.before V agrees in
    let third = c.read_document-4.ensures.before V fourth in
    let second = c.read_document-3.ensures.before V third in
    let first = c.read_document-2.ensures.before V second in
    record {
      zarr_json = sym (found_alone (at_file V c.args.prefix.now zarr_json) _ (c.in_ok-zarr_json.ensures.found V first));
      array = c.in_ok-array.ensures.found V second;
      group = c.in_ok-group.ensures.found V third;
    }
