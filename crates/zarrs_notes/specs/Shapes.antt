-- Zarr core specification 3.1, "Chunk grids", "Regular grids" and "dimension_names", and specification version 2,
-- "Arrays", "chunks": the dimensions of a node.
-- <https://zarr-specs.readthedocs.io/en/latest/v3/core/index.html#chunk-grids>
-- <https://zarr-specs.readthedocs.io/en/latest/v3/core/index.html#array-metadata-dimension-names>
-- <https://zarr-specs.readthedocs.io/en/latest/v2/v2.0.html#chunks>
--     rank m      the number of lengths of the shape
--     is_regular m      the node is an array whose chunks are regular
--     lengths_of_chunks m      the lengths of a chunk, where the chunks are regular
--     names_of_dimensions m      the dimension names, where there are any
use Rattle.std.specs.Prelude.{ℕ, Bool, true, false, List, length, Option, Some, None, option_and_then, bytes_eq, codes}
use Rattle.std.specs.Prelude.{if◌then◌else◌}
use Rattle.serde_json.specs.Data.{Members}
use Rattle.serde_json.specs.Find.{get_member}
use Rattle.zarrs_form.specs.Forms.{list_of, number_u64}
use Rattle.zarrs_form.specs.declared.extension.MetadataV3.{MetadataV3}
use Rattle.zarrs_meta.specs.declared.node.ArrayMetadata.TheVariants.{V3, V2}
use Rattle.zarrs_meta.specs.declared.node.NodeMetadata.{NodeMetadata}
use Rattle.zarrs_meta.specs.declared.node.NodeMetadata.TheVariants.{Group, Array}

-- the number of lengths of the shape of an array; a group has none
abbrev pub rank : NodeMetadata → ℕ
rank (Group g) = 0
rank (Array (V3 a)) = length a.shape
rank (Array (V2 a)) = length a.shape

-- the member `chunk_shape` of a configuration, where it is a list of numbers
abbrev pub chunk_shape : Members → Option (List ℕ)
chunk_shape configuration = option_and_then (list_of number_u64) (get_member (codes "chunk_shape") configuration)

-- the name of a grid is `regular`
abbrev pub is_regular_grid : MetadataV3 → Bool
is_regular_grid grid = bytes_eq grid.name (codes "regular")

-- the lengths of a chunk of a regular grid, where it has them; any other grid says none
abbrev pub lengths_of_grid : MetadataV3 → Option (List ℕ)
lengths_of_grid grid = if is_regular_grid grid then option_and_then chunk_shape grid.configuration else None

-- the chunks are regular: of a version 3 array where its grid is, and of every array of version 2; a group has none
abbrev pub is_regular : NodeMetadata → Bool
is_regular (Group g) = false
is_regular (Array (V3 a)) = is_regular_grid a.chunk_grid
is_regular (Array (V2 a)) = true

-- the lengths of a chunk: of a version 3 array those of its grid, of one of version 2 its `chunks`; a group has none
abbrev pub lengths_of_chunks : NodeMetadata → Option (List ℕ)
lengths_of_chunks (Group g) = None
lengths_of_chunks (Array (V3 a)) = lengths_of_grid a.chunk_grid
lengths_of_chunks (Array (V2 a)) = Some a.chunks

-- the dimension names of a version 3 array, each a text or nothing, where it has the member; no other node has any
abbrev pub names_of_dimensions : NodeMetadata → Option (List (Option (List ℕ)))
names_of_dimensions (Group g) = None
names_of_dimensions (Array (V3 a)) = a.dimension_names
names_of_dimensions (Array (V2 a)) = None
