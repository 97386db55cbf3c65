-- Steps of a comparison of two metadata, part by part, as tests that compute; no public contract rests on them.
use Rattle.std.specs.Prelude.{ℕ, List, [], ◌∷◌, Bool, true, false, ◌&&◌, ◌==◌, if◌then◌else◌, bytes_eq, Option, Some}
use Rattle.std.specs.Prelude.{None, String}
use Rattle.std.specs.Prelude.{string_bytes, codes}
use Rattle.std.specs.Bool.{beq}
use Rattle.std.specs.Float.{Float, nan, inf, fin}
use Rattle.std.specs.Global.{Global}
use Rattle.std.specs.Ordering.{int_eq}
use Rattle.serde_json.specs.Data.{Num, unsigned, negative, float, Data, null, boolean, number, string, array, object}
use Rattle.serde_json.specs.Data.{Items, no_items, item, Members, no_members, member}
use Rattle.zarrs_form.specs.Documents.{is_own}
use Rattle.zarrs_form.specs.declared.extension.MetadataV3.{MetadataV3}
use Rattle.zarrs_form.specs.declared.codec.MetadataV2.{MetadataV2}
use Rattle.zarrs_form.specs.declared.data_type.DataTypeMetadataV2.{DataTypeMetadataV2}
use Rattle.zarrs_form.specs.declared.data_type.DataTypeMetadataV2.TheVariants.{Simple, Structured}
use Rattle.zarrs_form.specs.declared.chunks.ArrayMetadataV2Order.{ArrayMetadataV2Order}
use Rattle.zarrs_form.specs.declared.chunks.ArrayMetadataV2Order.TheVariants.{C, F}
use Rattle.zarrs_form.specs.declared.chunks.ChunkKeySeparator.{ChunkKeySeparator}
use Rattle.zarrs_form.specs.declared.chunks.ChunkKeySeparator.TheVariants.{Dot, Slash}
use Rattle.zarrs_meta.specs.declared.group_v3.GroupMetadataV3.{GroupMetadataV3}
use Rattle.zarrs_meta.specs.declared.group_v2.GroupMetadataV2.{GroupMetadataV2}
use Rattle.zarrs_meta.specs.declared.array_v3.ArrayMetadataV3.{ArrayMetadataV3}
use Rattle.zarrs_meta.specs.declared.array_v2.ArrayMetadataV2.{ArrayMetadataV2}
use Rattle.zarrs_meta.specs.declared.node.GroupMetadata.{GroupMetadata}
use Rattle.zarrs_meta.specs.declared.node.GroupMetadata.TheVariants.{V3 as group_v3, V2 as group_v2}
use Rattle.zarrs_meta.specs.declared.node.ArrayMetadata.{ArrayMetadata}
use Rattle.zarrs_meta.specs.declared.node.ArrayMetadata.TheVariants.{V3 as array_v3, V2 as array_v2}
use Rattle.zarrs_meta.specs.declared.node.NodeMetadata.{NodeMetadata}
use Rattle.zarrs_meta.specs.declared.node.NodeMetadata.TheVariants.{Group, Array}

-- ---- JSON data

-- two `f64` are one: both are no number, or one infinity, or one value with one sign, so `0.0` is not `-0.0`
abbrev pub same_float : Float → Float → Bool
same_float nan nan = true
same_float (inf s) (inf t) = beq s t
same_float (fin s m e) (fin t n d) = (beq s t && m == n) && int_eq e d
same_float _ _ = false

-- two numbers are one: both are `u64`, both are `i64`, or both are `f64`
abbrev pub same_number : Num → Num → Bool
same_number (unsigned m) (unsigned n) = m == n
same_number (negative y) (negative z) = int_eq y z
same_number (float x) (float y) = same_float x y
same_number _ _ = false

abbrev mutual
  -- two values are the same
  pub same_data : Data → Data → Bool
  same_data null null = true
  same_data (boolean a) (boolean b) = beq a b
  same_data (number m) (number n) = same_number m n
  same_data (string s) (string t) = bytes_eq s t
  same_data (array ds) (array es) = same_items ds es
  same_data (object ms) (object ns) = same_members ms ns
  same_data _ _ = false

  -- two arrays have the same items in one order
  pub same_items : Items → Items → Bool
  same_items no_items no_items = true
  same_items (item d ds) (item e es) = same_data d e && same_items ds es
  same_items _ _ = false

  -- two objects have the same members; each has them in the order of their names
  pub same_members : Members → Members → Bool
  same_members no_members no_members = true
  same_members (member k d ms) (member l e ns) = (bytes_eq k l && same_data d e) && same_members ms ns
  same_members _ _ = false

-- ---- lists, and what may be absent

-- two lists have the same items in one order
abbrev pub same_list : {A : Type 0} → (A → A → Bool) → List A → List A → Bool
same_list same [] [] = true
same_list same (x ∷ xs) (y ∷ ys) = same x y && same_list same xs ys
same_list same _ _ = false

-- two values are the same, or both are absent
abbrev pub same_option : {A : Type 0} → (A → A → Bool) → Option A → Option A → Bool
same_option same None None = true
same_option same (Some x) (Some y) = same x y
same_option same _ _ = false

-- two members have one name and the same value
abbrev pub same_entry : {A : Type 0} → (A → A → Bool) → String Global × A → String Global × A → Bool
same_entry same x y = bytes_eq (string_bytes x.0) (string_bytes y.0) && same x.1 y.1

-- ---- parts of metadata

-- two extensions are the same
abbrev pub same_extension : MetadataV3 → MetadataV3 → Bool
same_extension m n =
    bytes_eq m.name n.name && same_option same_members m.configuration n.configuration
    && beq m.must_understand n.must_understand

-- two codecs are the same
abbrev pub same_codec : MetadataV2 → MetadataV2 → Bool
same_codec m n = bytes_eq m.id n.id && same_members m.configuration n.configuration

-- two data types are the same
abbrev pub same_data_type : DataTypeMetadataV2 → DataTypeMetadataV2 → Bool
same_data_type (Simple s) (Simple t) = bytes_eq s t
same_data_type (Structured ds) (Structured es) = same_list same_data ds es
same_data_type _ _ = false

-- two orders are the same
abbrev pub same_order : ArrayMetadataV2Order → ArrayMetadataV2Order → Bool
same_order C C = true
same_order F F = true
same_order _ _ = false

-- two separators are the same
abbrev pub same_separator : ChunkKeySeparator → ChunkKeySeparator → Bool
same_separator Dot Dot = true
same_separator Slash Slash = true
same_separator _ _ = false

-- ---- metadata

-- two version 3 groups are the same
abbrev pub same_group_v3 : GroupMetadataV3 → GroupMetadataV3 → Bool
same_group_v3 m n = same_members m.attributes n.attributes && same_members m.additional_fields n.additional_fields

-- two version 2 groups are the same
abbrev pub same_group_v2 : GroupMetadataV2 → GroupMetadataV2 → Bool
same_group_v2 m n = same_members m.attributes n.attributes && same_members m.additional_fields n.additional_fields

-- two version 3 arrays are the same
abbrev pub same_array_v3 : ArrayMetadataV3 → ArrayMetadataV3 → Bool
same_array_v3 m n =
    same_list ◌==◌ m.shape n.shape && same_extension m.data_type n.data_type && same_extension m.chunk_grid n.chunk_grid
    && same_extension m.chunk_key_encoding n.chunk_key_encoding && same_data m.fill_value n.fill_value
    && same_list same_extension m.codecs n.codecs && same_members m.attributes n.attributes
    && same_list same_extension m.storage_transformers n.storage_transformers
    && same_option (same_list (same_option bytes_eq)) m.dimension_names n.dimension_names
    && same_members m.additional_fields n.additional_fields

-- two version 2 arrays are the same
abbrev pub same_array_v2 : ArrayMetadataV2 → ArrayMetadataV2 → Bool
same_array_v2 m n =
    same_list ◌==◌ m.shape n.shape && same_list ◌==◌ m.chunks n.chunks && same_data_type m.dtype n.dtype
    && same_data m.fill_value n.fill_value && same_order m.order n.order
    && same_option same_codec m.compressor n.compressor && same_option (same_list same_codec) m.filters n.filters
    && same_separator m.dimension_separator n.dimension_separator && same_members m.attributes n.attributes
    && same_members m.additional_fields n.additional_fields

-- two groups are the same
abbrev pub same_group : GroupMetadata → GroupMetadata → Bool
same_group (group_v3 m) (group_v3 n) = same_group_v3 m n
same_group (group_v2 m) (group_v2 n) = same_group_v2 m n
same_group _ _ = false

-- two arrays are the same
abbrev pub same_array : ArrayMetadata → ArrayMetadata → Bool
same_array (array_v3 m) (array_v3 n) = same_array_v3 m n
same_array (array_v2 m) (array_v2 n) = same_array_v2 m n
same_array _ _ = false

-- two nodes are the same
abbrev pub same_node : NodeMetadata → NodeMetadata → Bool
same_node (Group m) (Group n) = same_group m n
same_node (Array m) (Array n) = same_array m n
same_node _ _ = false

-- the name of the field that says what stands below a group
abbrev pub block_names : List (List ℕ)
block_names = codes "consolidated_metadata" ∷ []

-- the fields that do not say it
abbrev pub besides_block : {A : Type 0} → List (String Global × A) → List (String Global × A)
besides_block [] = []
besides_block (f ∷ fs) = if is_own block_names (string_bytes f.0) then besides_block fs else f ∷ besides_block fs
