use Rattle.std.proofs.Common.{◌≡◌, [], ◌∷◌, ◌++◌, Some, rules}
use Rattle.serde_json.specs.View.{view}
use Rattle.zarrs_path.specs.Keys.{zarr_json, zmetadata}
use Rattle.zarrs_meta.specs.GroupV3.{group_v3_tree}
use Rattle.zarrs_meta.specs.declared.node.GroupMetadata.TheVariants.{V3, V2}
use Rattle.zarrs_block.specs.Zmetadata.{zmetadata_tree}
use Rattle.zarrs_group.proofs.BlockDocuments.{version_3_found, version_2_found}
use Rattle.zarrs_group.proofs.group.Group.block_document.Goals as goal

pub returns-in_ok-to_value-in-V3-default-clause-ok : goal.returns-in_ok-to_value-in-V3-default-clause-ok
returns-in_ok-to_value-in-V3-default-clause-ok c =
    let is : c.args.self.now.metadata ≡ V3 c.in-V3-default.group = search rules in
    let key : c.in_ok-key-in-V3-default.key ≡ c.args.self.now.path ++ zarr_json ∷ [] = search rules in
    let tree : view c.in_ok-to_value-in-V3-default.field-0 ≡ group_v3_tree c.in-V3-default.group = search rules in
    version_3_found c.args.self.now c.in-V3-default.group c.in_ok-key-in-V3-default.key (view c.in_ok-to_value-in-V3-default.field-0) c.at_key.result is key tree c.at_key.ensures.key c.at_key.ensures.text

pub returns-in_ok-written-in-V2-Some-clause-ok : goal.returns-in_ok-written-in-V2-Some-clause-ok
returns-in_ok-written-in-V2-Some-clause-ok c =
    let is : c.args.self.now.metadata ≡ V2 c.in-V2-Some.group = search rules in
    let beside : c.args.self.now.block ≡ Some c.in-V2-Some.block.metadata = search rules in
    let key : c.in_ok-key-in-V2-Some.key ≡ c.args.self.now.path ++ zmetadata ∷ [] = search rules in
    let tree : view c.in_ok-written-in-V2-Some.field-0 ≡ zmetadata_tree c.in-V2-Some.group c.in-V2-Some.block.metadata = search rules in
    version_2_found c.args.self.now c.in-V2-Some.group c.in-V2-Some.block.metadata c.in_ok-key-in-V2-Some.key (view c.in_ok-written-in-V2-Some.field-0) c.ascii_at_key.result is beside key tree
    c.ascii_at_key.ensures.key c.ascii_at_key.ensures.text
