-- What holds of every conversion, by the definitions alone.
-- <https://zarr-specs.readthedocs.io/en/latest/v3/core/index.html#array-metadata>
-- <https://zarr-specs.readthedocs.io/en/latest/v3/core/index.html#group-metadata>
use Rattle.std.specs.Prelude.{◌≡◌, IsTrue, Ok}
use Rattle.zarrs_meta.specs.ArrayV2.{is_plain_array_v2}
use Rattle.zarrs_meta.specs.ArrayV3.{is_plain_array_v3}
use Rattle.zarrs_meta.specs.GroupV2.{is_plain_group_v2}
use Rattle.zarrs_meta.specs.GroupV3.{is_plain_group_v3_in}
use Rattle.zarrs_meta.specs.declared.array_v2.ArrayMetadataV2.{ArrayMetadataV2}
use Rattle.zarrs_meta.specs.declared.array_v3.ArrayMetadataV3.{ArrayMetadataV3}
use Rattle.zarrs_meta.specs.declared.group_v2.GroupMetadataV2.{GroupMetadataV2}
use Rattle.zarrs_convert.specs.Arrays.{array_v3, regular_grid, v2_encoding}
use Rattle.zarrs_convert.specs.Groups.{group_v2_to_v3}
use Rattle.zarrs_fault.specs.declared.numbers.Numbers.TheVariants.{Whole}

-- a plain version 2 group is converted to a plain version 3 group
abbrev pub ConvertedGroupIsPlain : Type 0
ConvertedGroupIsPlain =
    (m : GroupMetadataV2) → IsTrue (is_plain_group_v2 m) → IsTrue (is_plain_group_v3_in Whole (group_v2_to_v3 m))

-- a plain version 2 array that is converted is a plain version 3 array
abbrev pub ConvertedArrayIsPlain : Type 0
ConvertedArrayIsPlain =
    (m : ArrayMetadataV2) (converted : ArrayMetadataV3) → IsTrue (is_plain_array_v2 m) → array_v3 m ≡ Ok converted
    → IsTrue (is_plain_array_v3 converted)

-- an array that is converted keeps its shape, its attributes, its chunk shape as a regular grid, and its dimension
-- separator
abbrev pub ConvertedArrayKeeps : Type 0
ConvertedArrayKeeps = (m : ArrayMetadataV2) (converted : ArrayMetadataV3) → array_v3 m ≡ Ok converted →
    (converted.shape ≡ m.shape) × (converted.attributes ≡ m.attributes) × (converted.chunk_grid ≡ regular_grid m.chunks)
    × (converted.chunk_key_encoding ≡ v2_encoding m.dimension_separator)
