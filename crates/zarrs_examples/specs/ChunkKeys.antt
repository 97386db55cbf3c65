-- Zarr core specification 3.1, "Chunk key encoding", and the version 2 specification, "Arrays": the keys of chunks.
-- <https://zarr-specs.readthedocs.io/en/latest/v3/core/index.html#chunk-key-encoding>
-- <https://zarr-specs.readthedocs.io/en/latest/v2/v2.0.html#arrays>
--     encoding_of m      the encoding that the metadata of an array say
--     chunk_segments e indices      the key of a chunk, as segments
--     IsNoDocument key      the key is that of no document
use Rattle.std.specs.Prelude.{ℕ, ◌≢◌, List, [], ◌∷◌, ◌++◌, Contains, map, codes, bytes_eq, if◌then◌else◌, Option, Some}
use Rattle.std.specs.Prelude.{None, option_map, option_and_then}
use Rattle.std.specs.Fmt.{decimal}
use Rattle.std.specs.List.{join_with_byte}
use Rattle.serde_json.specs.Data.{Data, Members}
use Rattle.serde_json.specs.Find.{get_member, as_str}
use Rattle.zarrs_store.specs.Segments.{Segments}
use Rattle.zarrs_path.specs.Paths.{Path}
use Rattle.zarrs_path.specs.Keys.{zmetadata}
use Rattle.zarrs_form.specs.Forms.{unless_absent}
use Rattle.zarrs_form.specs.FormsV2.{separator_named}
use Rattle.zarrs_form.specs.declared.chunks.ChunkKeySeparator.{ChunkKeySeparator}
use Rattle.zarrs_form.specs.declared.chunks.ChunkKeySeparator.TheVariants.{Dot, Slash}
use Rattle.zarrs_form.specs.declared.extension.MetadataV3.{MetadataV3}
use Rattle.zarrs_meta.specs.declared.node.ArrayMetadata.{ArrayMetadata}
use Rattle.zarrs_meta.specs.declared.node.ArrayMetadata.TheVariants as array
use Rattle.zarrs_node.specs.Changes.{document_files}
use Rattle.zarrs_examples.specs.declared.chunk_key.ChunkKeyEncoding.{ChunkKeyEncoding}
use Rattle.zarrs_examples.specs.declared.chunk_key.ChunkKeyEncoding.TheVariants.{Default, V2}
use Rattle.zarrs_fault.specs.Bytes.{period}

-- ---- the encoding of an array

-- the separator that a text is: "." or "/"
abbrev pub separator_text : Data → Option ChunkKeySeparator
separator_text d = option_and_then separator_named (as_str d)

-- what the member `separator` of a configuration says, and this separator where there is no such member
abbrev pub separator_in : ChunkKeySeparator → Option Members → Option ChunkKeySeparator
separator_in otherwise None = Some otherwise
separator_in otherwise (Some ms) = unless_absent otherwise separator_text (get_member (codes "separator") ms)

-- the encoding by its name: `default`, with a slash where no separator is said, or `v2`, with a period; another name
-- is no encoding, nor is another separator
abbrev pub encoding_v3 : MetadataV3 → Option ChunkKeyEncoding
encoding_v3 m =
    if bytes_eq m.name (codes "default") then option_map Default (separator_in Slash m.configuration)
    else (if bytes_eq m.name (codes "v2") then option_map V2 (separator_in Dot m.configuration) else None)

-- an array of version 3 says its encoding, and one of version 2 has the encoding `v2` with its separator
abbrev pub encoding_of : ArrayMetadata → Option ChunkKeyEncoding
encoding_of (array.V3 m) = encoding_v3 m.chunk_key_encoding
encoding_of (array.V2 m) = Some (V2 m.dimension_separator)

-- the name of the encoding, which is `v2` for an array of version 2
abbrev pub encoding_name : ArrayMetadata → List ℕ
encoding_name (array.V3 m) = m.chunk_key_encoding.name
encoding_name (array.V2 m) = codes "v2"

-- ---- the key of a chunk

-- what stands between two parts of a key
abbrev pub separator_of : ChunkKeyEncoding → ChunkKeySeparator
separator_of (Default s) = s
separator_of (V2 s) = s

-- `default` has `c` and the indices in decimal; `v2` has the indices alone, and `0` where there is none
abbrev pub chunk_parts : ChunkKeyEncoding → List ℕ → List (List ℕ)
chunk_parts (Default s) indices = codes "c" ∷ map decimal indices
chunk_parts (V2 s) [] = codes "0" ∷ []
chunk_parts (V2 s) (i ∷ indices) = decimal i ∷ map decimal indices

-- parts with slashes between them are segments, and with periods between them they are one segment
abbrev pub segments_by : ChunkKeySeparator → List (List ℕ) → Segments
segments_by Slash parts = parts
segments_by Dot parts = join_with_byte period parts ∷ []

-- the key of the chunk with these indices
abbrev pub chunk_segments : ChunkKeyEncoding → List ℕ → Segments
chunk_segments e indices = segments_by (separator_of e) (chunk_parts e indices)

-- ---- beside the keys of documents

-- the key is that of no document of any path, neither of those that a node has nor of `.zmetadata`
abbrev pub IsNoDocument : Segments → Type 0
IsNoDocument key = (q : Path) (file : List ℕ) → Contains (zmetadata ∷ document_files) file → key ≢ q ++ file ∷ []
