-- Groups as version 3.
use Rattle.std.proofs.Common.{◌≡◌, Option, refl, ap, ap₂, sym, ◌∙◌}
use Rattle.zarrs_meta.specs.declared.node.GroupMetadata.{GroupMetadata}
use Rattle.zarrs_meta.specs.declared.node.GroupMetadata.TheVariants.{V3, V2}
use Rattle.zarrs_block.specs.Block.{Block}
use Rattle.zarrs_group.specs.Groups.{GroupState, attributes_of_group, as_v3, beside_as_v3}
use Rattle.zarrs_group.specs.Laws.{Version3Keeps, Version3Stays, Version3Twice}

-- conversion keeps the attributes
same_attributes : (m : GroupMetadata) → attributes_of_group (as_v3 m) ≡ attributes_of_group m
same_attributes (V3 m) = refl
same_attributes (V2 m) = refl

-- converted metadata stay as they are
as_v3_twice : (m : GroupMetadata) → as_v3 (as_v3 m) ≡ as_v3 m
as_v3_twice (V3 m) = refl
as_v3_twice (V2 m) = refl

-- nothing more is dropped beside converted metadata
beside_twice : (m : GroupMetadata) (block : Option Block) → beside_as_v3 (as_v3 m) (beside_as_v3 m block) ≡ beside_as_v3 m block
beside_twice (V3 m) block = refl
beside_twice (V2 m) block = refl

-- a group with other metadata, and another block beside them
abbrev with_parts : GroupState → GroupMetadata → Option Block → GroupState
with_parts g m block = record { path = g.path; metadata = m; block = block; convert_version = g.convert_version; erase_version = g.erase_version }

-- path, attributes and versions are kept
pub keeps : Version3Keeps
keeps g = record { path = refl; attributes = same_attributes g.metadata; convert_version = refl; erase_version = refl }

-- version 3 stays
pub stays : Version3Stays
stays g m is = ap₂ (with_parts g) (ap as_v3 is ∙ sym is) (ap (λ x. beside_as_v3 x g.block) is)

-- twice is once
pub twice : Version3Twice
twice g = ap₂ (with_parts g) (as_v3_twice g.metadata) (beside_twice g.metadata g.block)
