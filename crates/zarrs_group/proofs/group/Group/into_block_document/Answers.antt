use Rattle.std.proofs.Common.{◌≡◌, [], ◌∷◌, ◌++◌, Some, Ok, rules, refl}
use Rattle.serde_json.specs.View.{view}
use Rattle.zarrs_path.specs.Keys.{zarr_json, zmetadata}
use Rattle.zarrs_meta.specs.GroupV3.{group_v3_tree}
use Rattle.zarrs_meta.specs.declared.group_v3.GroupMetadataV3.{GroupMetadataV3}
use Rattle.zarrs_meta.specs.declared.node.GroupMetadata.TheVariants.{V3, V2}
use Rattle.zarrs_block.specs.Policy.{as_block}
use Rattle.zarrs_block.specs.Zmetadata.{zmetadata_tree}
use Rattle.zarrs_group.specs.FullBlocks.{fields_with_full, with_full_block}
use Rattle.zarrs_group.proofs.BlockDocuments.{version_3_found, version_2_found}
use Rattle.zarrs_group.proofs.group.Group.into_block_document.Goals as goal

pub returns-in-V3-default-clause-ok : goal.returns-in-V3-default-clause-ok
returns-in-V3-default-clause-ok c =
    let old = c.in-V3-default.group in
    let new : GroupMetadataV3 = record { attributes = old.attributes; additional_fields = fields_with_full (as_block c.args.block) old.additional_fields } in
    let is : (with_full_block c.args.self (as_block c.args.block)).metadata ≡ V3 new = search rules in
    let key : c.in_ok-key-in-V3-default.key ≡ c.args.self.path ++ zarr_json ∷ [] = search rules in
    let tree : view c.in_ok-value-in-V3-default.value ≡ group_v3_tree new = search rules in
    version_3_found {E = Unit {0}} (with_full_block c.args.self (as_block c.args.block)) new c.in_ok-key-in-V3-default.key (view c.in_ok-value-in-V3-default.value) (Ok c.in_ok-at_key-in-V3-default.field-0) is key tree
    c.in_ok-at_key-in-V3-default.ensures.key c.in_ok-at_key-in-V3-default.ensures.text

pub returns-clause-ok : goal.returns-clause-ok
returns-clause-ok c =
    let is : (with_full_block c.args.self (as_block c.args.block)).metadata ≡ V2 c.in-V2-Some.group = search rules in
    let beside : (with_full_block c.args.self (as_block c.args.block)).block ≡ Some c.in-V2-Some.block.metadata = search rules in
    let key : c.self.inside.path ++ zmetadata ∷ [] ≡ c.args.self.path ++ zmetadata ∷ [] = search rules in
    version_2_found (with_full_block c.args.self (as_block c.args.block)) c.in-V2-Some.group c.in-V2-Some.block.metadata (c.self.inside.path ++ zmetadata ∷ []) (zmetadata_tree c.in-V2-Some.group c.in-V2-Some.block.metadata)
    c.document_beside.result is beside key refl c.document_beside.ensures.key c.document_beside.ensures.text
