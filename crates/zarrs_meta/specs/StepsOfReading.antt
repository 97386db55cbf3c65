-- Zarr core specification 3.1, "Group metadata" and "Array metadata", and specification version 2, "Groups" and
-- "Arrays": how a reader takes the members of the table out of a document one after the other.
use Rattle.std.specs.Prelude.{ℕ, List, [], ◌∷◌, None, Result, Ok, codes}
use Rattle.serde_json.specs.Data.{object, Members, no_members}
use Rattle.serde_json.specs.Find.{as_object, as_str}
use Rattle.zarrs_form.specs.Documents.{◌>>=◌, required_member, optional_member, besides, besides_null}
use Rattle.zarrs_form.specs.Forms.{number_u64, any, nullable, list_of, extension}
use Rattle.zarrs_form.specs.FormsV2.{codec, data_type, order, separator, chunk_lengths}
use Rattle.zarrs_fault.specs.declared.fault.MetadataFault.{MetadataFault}
use Rattle.zarrs_meta.specs.declared.group_v2.GroupMetadataV2.{GroupMetadataV2}
use Rattle.zarrs_meta.specs.declared.group_v3.GroupMetadataV3.{GroupMetadataV3}
use Rattle.zarrs_meta.specs.declared.array_v2.ArrayMetadataV2.{ArrayMetadataV2}
use Rattle.zarrs_meta.specs.declared.array_v3.ArrayMetadataV3.{ArrayMetadataV3}
use Rattle.zarrs_form.specs.declared.chunks.ChunkKeySeparator.TheVariants.{Dot}

-- what a version 3 document asks of each node
abbrev pub node_names : List (List ℕ)
node_names = codes "zarr_format" ∷ codes "node_type" ∷ []

-- a version 3 group: a null `consolidated_metadata` counts as absent
unfoldable pub group_v3_taken : Members → Result GroupMetadataV3 MetadataFault
group_v3_taken ms =
    optional_member (codes "attributes") no_members as_object (object ms) >>= λ attributes.
    Ok (record {
      attributes = attributes;
      additional_fields =
          besides node_names (besides_null (codes "consolidated_metadata") (besides (codes "attributes" ∷ []) ms));
    })

-- a version 2 group, once `zarr_format` and a `shape`, which must be absent, are not among the members
unfoldable pub group_v2_taken : Members → Result GroupMetadataV2 MetadataFault
group_v2_taken ms =
    optional_member (codes "attributes") no_members as_object (object ms) >>= λ attributes.
    Ok (record { attributes = attributes; additional_fields = besides (codes "attributes" ∷ []) ms })

-- a version 3 array, each member found in what those before it left
unfoldable pub array_v3_taken : Members → Result ArrayMetadataV3 MetadataFault
array_v3_taken ms =
    required_member (codes "shape") (list_of number_u64) (object ms) >>= λ shape.
    let ms1 = besides (codes "shape" ∷ []) ms in
    required_member (codes "data_type") extension (object ms1) >>= λ data_type.
    let ms2 = besides (codes "data_type" ∷ []) ms1 in
    required_member (codes "chunk_grid") extension (object ms2) >>= λ chunk_grid.
    let ms3 = besides (codes "chunk_grid" ∷ []) ms2 in
    required_member (codes "chunk_key_encoding") extension (object ms3) >>= λ chunk_key_encoding.
    let ms4 = besides (codes "chunk_key_encoding" ∷ []) ms3 in
    required_member (codes "fill_value") any (object ms4) >>= λ fill_value.
    let ms5 = besides (codes "fill_value" ∷ []) ms4 in
    required_member (codes "codecs") (list_of extension) (object ms5) >>= λ codecs.
    let ms6 = besides (codes "codecs" ∷ []) ms5 in
    optional_member (codes "attributes") no_members as_object (object ms6) >>= λ attributes.
    let ms7 = besides (codes "attributes" ∷ []) ms6 in
    optional_member (codes "storage_transformers") [] (list_of extension) (object ms7) >>= λ storage_transformers.
    let ms8 = besides (codes "storage_transformers" ∷ []) ms7 in
    optional_member (codes "dimension_names") None (nullable (list_of (nullable as_str))) (object ms8)
    >>= λ dimension_names.
    Ok (record {
      shape = shape;
      data_type = data_type;
      chunk_grid = chunk_grid;
      chunk_key_encoding = chunk_key_encoding;
      fill_value = fill_value;
      codecs = codecs;
      attributes = attributes;
      storage_transformers = storage_transformers;
      dimension_names = dimension_names;
      additional_fields = besides node_names (besides (codes "dimension_names" ∷ []) ms8);
    })

-- a version 2 array, once `zarr_format` is not among the members, each found in what those before it left
unfoldable pub array_v2_taken : Members → Result ArrayMetadataV2 MetadataFault
array_v2_taken ms =
    required_member (codes "shape") (list_of number_u64) (object ms) >>= λ shape.
    let ms1 = besides (codes "shape" ∷ []) ms in
    required_member (codes "chunks") chunk_lengths (object ms1) >>= λ chunks.
    let ms2 = besides (codes "chunks" ∷ []) ms1 in
    required_member (codes "dtype") data_type (object ms2) >>= λ dtype.
    let ms3 = besides (codes "dtype" ∷ []) ms2 in
    required_member (codes "fill_value") any (object ms3) >>= λ fill_value.
    let ms4 = besides (codes "fill_value" ∷ []) ms3 in
    required_member (codes "order") order (object ms4) >>= λ array_order.
    let ms5 = besides (codes "order" ∷ []) ms4 in
    optional_member (codes "compressor") None (nullable codec) (object ms5) >>= λ compressor.
    let ms6 = besides (codes "compressor" ∷ []) ms5 in
    optional_member (codes "filters") None (nullable (list_of codec)) (object ms6) >>= λ filters.
    let ms7 = besides (codes "filters" ∷ []) ms6 in
    optional_member (codes "dimension_separator") Dot separator (object ms7) >>= λ dimension_separator.
    let ms8 = besides (codes "dimension_separator" ∷ []) ms7 in
    optional_member (codes "attributes") no_members as_object (object ms8) >>= λ attributes.
    Ok (record {
      shape = shape;
      chunks = chunks;
      dtype = dtype;
      fill_value = fill_value;
      order = array_order;
      compressor = compressor;
      filters = filters;
      dimension_separator = dimension_separator;
      attributes = attributes;
      additional_fields = besides (codes "attributes" ∷ []) ms8;
    })
