-- What a group ends as, where its attributes are lent to be written.
-- <https://zarr-specs.readthedocs.io/en/latest/v3/core/index.html#group-metadata>
use Rattle.serde_json.specs.Data.{Members}
use Rattle.std.specs.Borrow.{Lends, MutBor, Fml}
use Rattle.zarrs_form.specs.contracts.shapes.Object.{the_row as object_row}
use Rattle.zarrs_group.specs.contracts.group.Group.{the_row as group_row}
use Rattle.zarrs_group.specs.Groups.{GroupState, with_attributes}

-- the group with these attributes, and all else as it was
abbrev pub group_with_attributes : GroupState → Members → GroupState
group_with_attributes g attributes = record {
  path = g.path;
  metadata = with_attributes g.metadata attributes;
  block = g.block;
  convert_version = g.convert_version;
  erase_version = g.erase_version;
}

-- the group ends with the attributes that were last written, and all else as it was
abbrev pub LendsAttributes : MutBor GroupState → MutBor Members → Fml
LendsAttributes g r = Lends group_row object_row g r (group_with_attributes g.now)
