-- Zarr core specification 3.1, "Array metadata" and "Storage keys": an array that was opened, its chunks, and what
-- refuses them.
-- <https://zarr-specs.readthedocs.io/en/latest/v3/core/index.html#array-metadata>
-- <https://zarr-specs.readthedocs.io/en/latest/v3/core/index.html#storage-keys>
--     RefusesOpeningArray      why a path was not opened as an array
--     shape_of, data_type_of      what the metadata of either version say
--     chunk_key_of, chunk_in      the key of a chunk, and what a store has there
--     RefusesChunkKey, RefusesChunk      why a chunk has no key, and why no chunk was read
use Rattle.std.specs.Prelude.{ℕ, ◌≡◌, ◌≢◌, ◌⊎◌, Bool, List, ◌++◌, length, string_bytes, Option, None, option_map}
use Rattle.std.specs.Prelude.{Result, Ok}
use Rattle.std.specs.FinMap.{get}
use Rattle.zarrs_store.specs.Segments.{Segments}
use Rattle.zarrs_store.specs.Contents.{Contents}
use Rattle.zarrs_store.specs.Faults.{IsStoreError}
use Rattle.zarrs_path.specs.Paths.{Path, IsPath, path_text}
use Rattle.zarrs_config.specs.declared.version.MetadataRetrieveVersion.{MetadataRetrieveVersion}
use Rattle.zarrs_form.specs.declared.extension.MetadataV3.{MetadataV3}
use Rattle.zarrs_meta.specs.declared.node.ArrayMetadata.{ArrayMetadata}
use Rattle.zarrs_meta.specs.declared.node.ArrayMetadata.TheVariants.{V3, V2}
use Rattle.zarrs_meta.specs.declared.node.GroupMetadata.{GroupMetadata}
use Rattle.zarrs_meta.specs.declared.node.NodeMetadata.TheVariants.{Group}
use Rattle.zarrs_convert.specs.Refusals.{Refusal}
use Rattle.zarrs_convert.specs.DataTypes.{data_type_v3}
use Rattle.zarrs_meaning.specs.Meaning.{meaning, node}
use Rattle.zarrs_meaning.specs.Refusals.{IsExcusedOr}
use Rattle.zarrs_meaning.specs.declared.node_create_error.NodeCreateError.{NodeCreateError}
use Rattle.zarrs_node.specs.OpeningNodes.{RefusesText, RefusesNode}
use Rattle.zarrs_examples.specs.ChunkKeys.{encoding_of, encoding_name, chunk_segments}
use Rattle.zarrs_examples.specs.declared.opened_array.OpenedArray.{OpenedArray}
use Rattle.zarrs_examples.specs.declared.opened_array.OpenArrayError.{OpenArrayError}
use Rattle.zarrs_examples.specs.declared.opened_array.OpenArrayError.TheVariants.{Node, NotAnArray}
use Rattle.zarrs_examples.specs.declared.opened_array.ChunkError.{ChunkError}
use Rattle.zarrs_examples.specs.declared.opened_array.ChunkError.TheVariants.{UnsupportedEncoding, WrongIndices, Store}
use Rattle.zarrs_examples.specs.declared.opened_array.ChunkError.TheVariants.{OutOfMemory}

-- ---- opening

-- the text is no path, and the error holds it; or it is that of a path that is refused as a node
abbrev pub RefusesNodeAt : Contents → MetadataRetrieveVersion → List ℕ → NodeCreateError → Type 0
RefusesNodeAt s v text e = RefusesText text e ⊎ ((p : Path) × IsPath p × (path_text p ≡ text) × RefusesNode s v p e)

-- no node was opened, and the error is excused or refuses the text; or the text is that of the path that the error
-- has, and the path means a group
abbrev pub RefusesOpeningArray : Bool → Contents → MetadataRetrieveVersion → List ℕ → OpenArrayError → Type 0
RefusesOpeningArray can_fail s v text (Node e) = IsExcusedOr can_fail (RefusesNodeAt s v text) e
RefusesOpeningArray can_fail s v text (NotAnArray p) =
    IsPath p × (path_text p ≡ text) × ((g : GroupMetadata) × (meaning s v p ≡ node (Group g)))

-- ---- the metadata

-- the length of each dimension
abbrev pub shape_of : ArrayMetadata → List ℕ
shape_of (V3 m) = m.shape
shape_of (V2 m) = m.shape

-- the data type of version 3; that of version 2 is converted, or refused
abbrev pub data_type_of : ArrayMetadata → Result MetadataV3 Refusal
data_type_of (V3 m) = Ok m.data_type
data_type_of (V2 m) = data_type_v3 m.dtype

-- ---- chunks

-- the key of the chunk with these indices: the names of the path, and the segments of the chunk by the array's encoding
abbrev pub chunk_key_of : OpenedArray → List ℕ → Option Segments
chunk_key_of a indices = option_map (λ e. a.path ++ chunk_segments e indices) (encoding_of a.metadata)

-- the bytes that the store has at the key of the chunk, or none
abbrev pub chunk_in : Contents → OpenedArray → List ℕ → Option (Option (List ℕ))
chunk_in s a indices = option_map (get s.values) (chunk_key_of a indices)

-- the array's encoding is not supported, and the error has its name; or the indices are not as many as the
-- dimensions, and the error has both numbers; or out of memory
abbrev pub RefusesChunkKey : ArrayMetadata → List ℕ → ChunkError → Type 0
RefusesChunkKey m indices (UnsupportedEncoding name) = (encoding_of m ≡ None) × (string_bytes name ≡ encoding_name m)
RefusesChunkKey m indices (WrongIndices given dimensions) =
    (given ≡ length indices) × (dimensions ≡ length (shape_of m)) × (given ≢ dimensions)
RefusesChunkKey m indices (Store e) = ⊥
RefusesChunkKey m indices OutOfMemory = Unit {0}

-- the key of the chunk is refused; or the error is the fault of a store that can fail, or out of memory
abbrev pub RefusesChunk : Bool → ArrayMetadata → List ℕ → ChunkError → Type 0
RefusesChunk can_fail m indices (Store e) = IsStoreError can_fail e
RefusesChunk can_fail m indices e = RefusesChunkKey m indices e
