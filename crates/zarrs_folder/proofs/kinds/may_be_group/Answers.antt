use Rattle.std.proofs.Common.{◌≡◌, ◌∙◌, ap, not, subst, sym}
use Rattle.std.specs.Prelude.{Ok}
use Rattle.zarrs_fault.specs.declared.numbers.Numbers.TheVariants.{Any}
use Rattle.zarrs_form.specs.Documents.{of_bytes}
use Rattle.zarrs_path.specs.Keys.{zarr_json, zarray}
use Rattle.zarrs_meta.specs.Node.{zarr_json_in}
use Rattle.zarrs_meta.specs.declared.node.ZarrJson.TheVariants.{Node}
use Rattle.zarrs_folder.specs.Folders.{in_any, values_of}
use Rattle.zarrs_folder.proofs.GroupDocuments.{by_zarr_json, by_zarray, stands, stands_not, stands_some}
use Rattle.zarrs_folder.proofs.kinds.may_be_group.Goals as goal

pub returns-in-Some : goal.returns-in-Some
returns-in-Some c none m is =
    let V = values_of c.args.store.now.inner in
    let at = stands (λ v. v.items) V c.args.path.now zarr_json _ _ c.in_ok-meta_key_v3.ensures c.in_ok-bytes.ensures c.in-Some.bytes c.in-Some.is in
    c.may_be_group_document.ensures none m
    (subst (λ b. of_bytes (zarr_json_in Any) b ≡ Ok (Node m)) (sym c.deref.ensures.value) (by_zarr_json (in_any V) c.args.path.now c.in-Some.bytes.items m at is))

pub returns : goal.returns
returns c none m is =
    let V = values_of c.args.store.now.inner in
    let other = stands_not (λ v. v.items) V c.args.path.now zarr_json _ _ c.in_ok-meta_key_v3.ensures c.in_ok-bytes.ensures c.in-None.is in
    let at = stands_some (λ v. v.items) V c.args.path.now zarray _ _ c.in_ok-meta_key_v2_array-in-None.ensures c.in_ok-bytes_at-in-None.ensures (c.is_none.ensures ∙ ap not none) in
    by_zarray (in_any V) c.args.path.now at.0 m other at.1 is
