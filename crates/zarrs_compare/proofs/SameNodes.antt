-- The metadata of two nodes that pass the test of being the same are equal, and metadata are the same as themselves.
use Rattle.std.proofs.Common.{◌≡◌, ◌==◌, ℕ, List, true, Option, bytes_eq, refl, ap, subst}
use Rattle.std.proofs.lemmas.Bool.{and_parts, eqb-true, eq-eqb}
use Rattle.std.proofs.lemmas.Slice.Eq.{bytes_eq-Decides}
use Rattle.zarrs_form.proofs.PlainForms.{both_true}
use Rattle.zarrs_meta.specs.declared.group_v3.GroupMetadataV3.{GroupMetadataV3}
use Rattle.zarrs_meta.specs.declared.group_v2.GroupMetadataV2.{GroupMetadataV2}
use Rattle.zarrs_meta.specs.declared.array_v3.ArrayMetadataV3.{ArrayMetadataV3}
use Rattle.zarrs_meta.specs.declared.array_v2.ArrayMetadataV2.{ArrayMetadataV2}
use Rattle.zarrs_meta.specs.declared.node.GroupMetadata.{GroupMetadata}
use Rattle.zarrs_meta.specs.declared.node.GroupMetadata.TheVariants.{V3 as group_v3, V2 as group_v2}
use Rattle.zarrs_meta.specs.declared.node.ArrayMetadata.{ArrayMetadata}
use Rattle.zarrs_meta.specs.declared.node.ArrayMetadata.TheVariants.{V3 as array_v3, V2 as array_v2}
use Rattle.zarrs_meta.specs.declared.node.NodeMetadata.{NodeMetadata}
use Rattle.zarrs_meta.specs.declared.node.NodeMetadata.TheVariants.{Group, Array}
use Rattle.zarrs_compare.specs.Same.{IsSame, without_block}
use Rattle.zarrs_compare.specs.StepsOfSame.{same_array, same_array_v2, same_array_v3, same_codec, same_data, same_data_type, same_extension, same_group, same_group_v2, same_group_v3, same_list, same_members, same_node, same_option, same_order, same_separator}
use Rattle.zarrs_compare.proofs.SameData.{data_is, list_is, members_is, never, option_is, data_itself, list_itself, members_itself, option_itself, text_itself}
use Rattle.zarrs_compare.proofs.SameParts.{codec_is, data_type_is, extension_is, order_is, separator_is, codec_itself, data_type_itself, extension_itself, order_itself, separator_itself}

-- ---- what is the same is equal

-- two version 3 groups that are the same are equal
group_v3_is : (m n : GroupMetadataV3) → same_group_v3 m n ≡ true → m ≡ n
group_v3_is m n h =
    let parts = and_parts (same_members m.attributes n.attributes) (same_members m.additional_fields n.additional_fields) h in
    let attributes = members_is m.attributes n.attributes parts.0 in
    let additional_fields = members_is m.additional_fields n.additional_fields parts.1 in
    λ i. record { attributes = attributes i; additional_fields = additional_fields i }

-- two version 2 groups that are the same are equal
group_v2_is : (m n : GroupMetadataV2) → same_group_v2 m n ≡ true → m ≡ n
group_v2_is m n h =
    let parts = and_parts (same_members m.attributes n.attributes) (same_members m.additional_fields n.additional_fields) h in
    let attributes = members_is m.attributes n.attributes parts.0 in
    let additional_fields = members_is m.additional_fields n.additional_fields parts.1 in
    λ i. record { attributes = attributes i; additional_fields = additional_fields i }

-- two names of a dimension that are the same are equal
name_is : (a b : Option (List ℕ)) → same_option bytes_eq a b ≡ true → a ≡ b
name_is a b h = option_is bytes_eq (λ s t. (bytes_eq-Decides s t).0) a b h

-- two version 3 arrays that are the same are equal
array_v3_is : (m n : ArrayMetadataV3) → same_array_v3 m n ≡ true → m ≡ n
array_v3_is m n h =
    let to9 = and_parts _ (same_members m.additional_fields n.additional_fields) h in
    let to8 = and_parts _ (same_option (same_list (same_option bytes_eq)) m.dimension_names n.dimension_names) to9.0 in
    let to7 = and_parts _ (same_list same_extension m.storage_transformers n.storage_transformers) to8.0 in
    let to6 = and_parts _ (same_members m.attributes n.attributes) to7.0 in
    let to5 = and_parts _ (same_list same_extension m.codecs n.codecs) to6.0 in
    let to4 = and_parts _ (same_data m.fill_value n.fill_value) to5.0 in
    let to3 = and_parts _ (same_extension m.chunk_key_encoding n.chunk_key_encoding) to4.0 in
    let to2 = and_parts _ (same_extension m.chunk_grid n.chunk_grid) to3.0 in
    let to1 = and_parts (same_list ◌==◌ m.shape n.shape) (same_extension m.data_type n.data_type) to2.0 in
    let shape = list_is ◌==◌ eqb-true m.shape n.shape to1.0 in
    let data_type = extension_is m.data_type n.data_type to1.1 in
    let chunk_grid = extension_is m.chunk_grid n.chunk_grid to2.1 in
    let chunk_key_encoding = extension_is m.chunk_key_encoding n.chunk_key_encoding to3.1 in
    let fill_value = data_is m.fill_value n.fill_value to4.1 in
    let codecs = list_is same_extension extension_is m.codecs n.codecs to5.1 in
    let attributes = members_is m.attributes n.attributes to6.1 in
    let storage_transformers = list_is same_extension extension_is m.storage_transformers n.storage_transformers to7.1 in
    let dimension_names = option_is (same_list (same_option bytes_eq)) (list_is (same_option bytes_eq) name_is) m.dimension_names n.dimension_names to8.1 in
    let additional_fields = members_is m.additional_fields n.additional_fields to9.1 in
    λ i. record {
      shape = shape i;
      data_type = data_type i;
      chunk_grid = chunk_grid i;
      chunk_key_encoding = chunk_key_encoding i;
      fill_value = fill_value i;
      codecs = codecs i;
      attributes = attributes i;
      storage_transformers = storage_transformers i;
      dimension_names = dimension_names i;
      additional_fields = additional_fields i;
    }

-- two version 2 arrays that are the same are equal
array_v2_is : (m n : ArrayMetadataV2) → same_array_v2 m n ≡ true → m ≡ n
array_v2_is m n h =
    let to9 = and_parts _ (same_members m.additional_fields n.additional_fields) h in
    let to8 = and_parts _ (same_members m.attributes n.attributes) to9.0 in
    let to7 = and_parts _ (same_separator m.dimension_separator n.dimension_separator) to8.0 in
    let to6 = and_parts _ (same_option (same_list same_codec) m.filters n.filters) to7.0 in
    let to5 = and_parts _ (same_option same_codec m.compressor n.compressor) to6.0 in
    let to4 = and_parts _ (same_order m.order n.order) to5.0 in
    let to3 = and_parts _ (same_data m.fill_value n.fill_value) to4.0 in
    let to2 = and_parts _ (same_data_type m.dtype n.dtype) to3.0 in
    let to1 = and_parts (same_list ◌==◌ m.shape n.shape) (same_list ◌==◌ m.chunks n.chunks) to2.0 in
    let shape = list_is ◌==◌ eqb-true m.shape n.shape to1.0 in
    let chunks = list_is ◌==◌ eqb-true m.chunks n.chunks to1.1 in
    let dtype = data_type_is m.dtype n.dtype to2.1 in
    let fill_value = data_is m.fill_value n.fill_value to3.1 in
    let array_order = order_is m.order n.order to4.1 in
    let compressor = option_is same_codec codec_is m.compressor n.compressor to5.1 in
    let filters = option_is (same_list same_codec) (list_is same_codec codec_is) m.filters n.filters to6.1 in
    let dimension_separator = separator_is m.dimension_separator n.dimension_separator to7.1 in
    let attributes = members_is m.attributes n.attributes to8.1 in
    let additional_fields = members_is m.additional_fields n.additional_fields to9.1 in
    λ i. record {
      shape = shape i;
      chunks = chunks i;
      dtype = dtype i;
      fill_value = fill_value i;
      order = array_order i;
      compressor = compressor i;
      filters = filters i;
      dimension_separator = dimension_separator i;
      attributes = attributes i;
      additional_fields = additional_fields i;
    }

-- two groups that are the same are equal
group_is : (m n : GroupMetadata) → same_group m n ≡ true → m ≡ n
group_is (group_v3 m) (group_v3 n) h = ap group_v3 (group_v3_is m n h)
group_is (group_v2 m) (group_v2 n) h = ap group_v2 (group_v2_is m n h)
group_is _ _ h = never h

-- two arrays that are the same are equal
array_is : (m n : ArrayMetadata) → same_array m n ≡ true → m ≡ n
array_is (array_v3 m) (array_v3 n) h = ap array_v3 (array_v3_is m n h)
array_is (array_v2 m) (array_v2 n) h = ap array_v2 (array_v2_is m n h)
array_is _ _ h = never h

-- two nodes that are the same are equal
pub node_is : (m n : NodeMetadata) → same_node m n ≡ true → m ≡ n
node_is (Group m) (Group n) h = ap Group (group_is m n h)
node_is (Array m) (Array n) h = ap Array (array_is m n h)
node_is _ _ h = never h

-- ---- what is itself is the same

-- a version 3 group is the same as itself
group_v3_itself : (m : GroupMetadataV3) → same_group_v3 m m ≡ true
group_v3_itself m = both_true _ _ (members_itself m.attributes) (members_itself m.additional_fields)

-- a version 2 group is the same as itself
group_v2_itself : (m : GroupMetadataV2) → same_group_v2 m m ≡ true
group_v2_itself m = both_true _ _ (members_itself m.attributes) (members_itself m.additional_fields)

-- a length is the same as itself
length_itself : (n : ℕ) → (n == n) ≡ true
length_itself n = eq-eqb n n refl

-- a version 3 array is the same as itself
array_v3_itself : (m : ArrayMetadataV3) → same_array_v3 m m ≡ true
array_v3_itself m =
    both_true _ _
    (both_true _ _
    (both_true _ _
    (both_true _ _
    (both_true _ _
    (both_true _ _
    (both_true _ _
    (both_true _ _
    (both_true _ _ (list_itself ◌==◌ length_itself m.shape) (extension_itself m.data_type))
    (extension_itself m.chunk_grid))
    (extension_itself m.chunk_key_encoding))
    (data_itself m.fill_value))
    (list_itself same_extension extension_itself m.codecs))
    (members_itself m.attributes))
    (list_itself same_extension extension_itself m.storage_transformers))
    (option_itself (same_list (same_option bytes_eq)) (list_itself (same_option bytes_eq) (option_itself bytes_eq text_itself)) m.dimension_names))
    (members_itself m.additional_fields)

-- a version 2 array is the same as itself
array_v2_itself : (m : ArrayMetadataV2) → same_array_v2 m m ≡ true
array_v2_itself m =
    both_true _ _
    (both_true _ _
    (both_true _ _
    (both_true _ _
    (both_true _ _
    (both_true _ _
    (both_true _ _
    (both_true _ _
    (both_true _ _ (list_itself ◌==◌ length_itself m.shape) (list_itself ◌==◌ length_itself m.chunks))
    (data_type_itself m.dtype))
    (data_itself m.fill_value))
    (order_itself m.order))
    (option_itself same_codec codec_itself m.compressor))
    (option_itself (same_list same_codec) (list_itself same_codec codec_itself) m.filters))
    (separator_itself m.dimension_separator))
    (members_itself m.attributes))
    (members_itself m.additional_fields)

-- a node is the same as itself
node_itself : (m : NodeMetadata) → same_node m m ≡ true
node_itself (Group (group_v3 m)) = group_v3_itself m
node_itself (Group (group_v2 m)) = group_v2_itself m
node_itself (Array (array_v3 m)) = array_v3_itself m
node_itself (Array (array_v2 m)) = array_v2_itself m

-- ---- the call

-- metadata that pass the test are the same
pub same_from_test : (m n : NodeMetadata) → same_node (without_block m) (without_block n) ≡ true → IsSame m n
same_from_test m n h = node_is (without_block m) (without_block n) h

-- metadata that are the same pass the test
pub test_from_same : (m n : NodeMetadata) → IsSame m n → same_node (without_block m) (without_block n) ≡ true
test_from_same m n h = subst (λ (k : NodeMetadata). same_node (without_block m) k ≡ true) h (node_itself (without_block m))
