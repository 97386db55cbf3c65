-- Zarr core specification 3.1, "Metadata documents", and the document `.zmetadata`: documents by their texts, blocks, an array of version 3, and one of version 2 converted.
use Rattle.std.proofs.Common.{◌≡◌, ℕ, List, [], ◌∷◌, ◌++◌, true, codes, refl, Option, Some, None, negsuc, map, if◌then◌else◌, Result, Ok, Err}
use Rattle.serde_json.specs.Data.{Data, null, number, unsigned, string, object, array, no_items, item, Members, no_members, member, boolean, negative}
use Rattle.zarrs_fault.specs.declared.fault.MetadataFault.TheVariants.{BadMember}
use Rattle.zarrs_fault.specs.declared.numbers.Numbers.TheVariants.{Whole}
use Rattle.zarrs_form.specs.Documents.{of_bytes, json_of, ◌>>=◌}
use Rattle.zarrs_form.specs.declared.extension.MetadataV3.{MetadataV3}
use Rattle.zarrs_meta.specs.ArrayV3.{array_v3_in}
use Rattle.zarrs_meta.specs.declared.array_v2.ArrayMetadataV2.{ArrayMetadataV2}
use Rattle.zarrs_form.specs.declared.data_type.DataTypeMetadataV2.TheVariants.{Simple}
use Rattle.zarrs_form.specs.declared.chunks.ArrayMetadataV2Order.TheVariants.{C}
use Rattle.zarrs_form.specs.declared.chunks.ChunkKeySeparator.TheVariants.{Dot}
use Rattle.zarrs_fault.specs.declared.fault.MetadataFault.{MetadataFault}
use Rattle.zarrs_store.specs.Segments.{key_cmp}
use Rattle.zarrs_path.specs.Paths.{Path}
use Rattle.std.specs.List.{list_all}
use Rattle.std.specs.FinMap.{find}
use Rattle.zarrs_config.specs.declared.version.MetadataRetrieveVersion.TheVariants.{V2}
use Rattle.zarrs_convert.specs.Arrays.{array_v3}
use Rattle.zarrs_meaning.specs.DocumentsAtKeys.{in_trees}
use Rattle.zarrs_meaning.specs.Meaning.{Meaning}
use Rattle.zarrs_meaning.specs.Small.{counted_members}
use Rattle.zarrs_block.specs.Block.{Block, block_of, block_of_in}
use Rattle.zarrs_block.specs.Zmetadata.{zmetadata_in, zmetadata_members_in, documents_below, is_good, block_from}
use Rattle.tests_definitions.proofs.Stores.{listed_in, looked_up, quoted, texts_compute, documents_compute}
use Rattle.tests_definitions.proofs.Meanings.{plain_group, small_array}

-- escapes, nesting, a doubled key of which the last stays, members in the order of their names
text_reads : json_of (quoted (codes "{ 'b' : [true, null, -1], 'a':1, 'a':2, 'c':{'d':'\\u00e9\\n'} }"))
    ≡ Some (object (member (codes "a") (number (unsigned 2)) (member (codes "b") (array (item (boolean true) (item null (item (number (negative (negsuc 0))) no_items))))
    (member (codes "c") (object (member (codes "d") (string (195 ∷ 169 ∷ 10 ∷ [])) no_members)) no_members))))
unfolding texts_compute
text_reads = refl

-- a trailing comma is no JSON
comma_is_none : json_of (quoted (codes "{'a':1,}")) ≡ None
unfolding texts_compute
comma_is_none = refl

-- a block of one group and one array below it
abbrev block_text : List ℕ
block_text =
    quoted
    (codes "{'kind':'inline','must_understand':false,'metadata':{'a':{'zarr_format':3,'node_type':'group'},'a/x':{'zarr_format':2,'shape':[4,3],'chunks':[2,3],'dtype':'<f8','fill_value':null,'order':'C'}}}")

-- its text reads as a block of this group and this array
block_reads : of_bytes block_of block_text ≡ Ok ((codes "a", plain_group) ∷ (codes "a/x", small_array) ∷ [])
unfolding documents_compute block_of_in
block_reads = refl

-- a block that must be understood is none
must_is_bad : of_bytes block_of (quoted (codes "{'kind':'inline','must_understand':true,'metadata':{}}")) ≡ Err (BadMember (codes "must_understand"))
unfolding documents_compute block_of_in
must_is_bad = refl

-- the block of a document `.zmetadata`, by look-ups in the list of its documents
abbrev block_by : (Path → Meaning) → Members → Result Block MetadataFault
block_by of ms = if list_all (λ e. is_good of e.0) (documents_below ms) then Ok (block_from of (documents_below ms)) else Err (BadMember (codes "metadata"))

-- what a path means in version 2, by look-ups in the documents that count
abbrev small_listed : Members → Path → Meaning
small_listed ms p = looked_up (in_trees Whole) (λ k. find key_cmp k (map (λ e. ([] ++ e.0, e.1)) (counted_members ms))) V2 p

-- each text reads as a document `.zmetadata` just as it does by these look-ups
block_listed : (text : List ℕ) → of_bytes (zmetadata_in Whole) text ≡ of_bytes (λ d. zmetadata_members_in Whole d >>= λ ms. block_by (small_listed ms) ms) text
unfolding zmetadata_in
block_listed text =
    λ i. of_bytes (λ d. zmetadata_members_in Whole d >>= λ ms. block_by (λ p. listed_in (in_trees Whole) (map (λ e. ([] ++ e.0, e.1)) (counted_members ms)) V2 p i) ms) text

-- a document `.zmetadata` of a group and one array below it
abbrev zmetadata_text : List ℕ
zmetadata_text =
    quoted (codes "{'zarr_consolidated_format':1,'metadata':{'.zgroup':{'zarr_format':2},'x/.zarray':{'zarr_format':2,'shape':[4,3],'chunks':[2,3],'dtype':'<f8','fill_value':null,'order':'C'}}}")

-- a document `.zmetadata` is the block of what stands below its group
zmetadata_reads : of_bytes (zmetadata_in Whole)
    zmetadata_text
    ≡ Ok ((codes "x", small_array) ∷ [])
unfolding documents_compute zmetadata_in
zmetadata_reads = block_listed zmetadata_text

-- an array of version 3, with configurations, two codecs, attributes and a dimension without a name
abbrev array_text : List ℕ
array_text =
    quoted
    (codes "{'shape':[10000,1000],'data_type':'float64','chunk_grid':{'name':'regular','configuration':{'chunk_shape':[1000,100]}},'chunk_key_encoding':{'name':'default','configuration':{'separator':'/'}},'fill_value':'NaN','codecs':[{'name':'bytes','configuration':{'endian':'little'}},{'name':'gzip','configuration':{'level':5}}],'attributes':{'units':'m'},'zarr_format':3,'node_type':'array','dimension_names':['rows',null]}")

-- a plain object with one member
abbrev one : List ℕ → Data → Members
one name d = member name d no_members

-- an extension with this name and this configuration, which must be understood
abbrev plain : List ℕ → Option Members → MetadataV3
plain name configuration = record { name = name; configuration = configuration; must_understand = true }

-- its text reads as this array
array_reads : of_bytes (array_v3_in Whole) array_text ≡ Ok (record {
  shape = 10000 ∷ 1000 ∷ [];
  data_type = plain (codes "float64") None;
  chunk_grid = plain (codes "regular") (Some (one (codes "chunk_shape") (array (item (number (unsigned 1000)) (item (number (unsigned 100)) no_items)))));
  chunk_key_encoding = plain (codes "default") (Some (one (codes "separator") (string (codes "/"))));
  fill_value = string (codes "NaN");
  codecs = plain (codes "bytes") (Some (one (codes "endian") (string (codes "little")))) ∷ plain (codes "gzip") (Some (one (codes "level") (number (unsigned 5)))) ∷ [];
  attributes = one (codes "units") (string (codes "m"));
  storage_transformers = [];
  dimension_names = Some (Some (codes "rows") ∷ None ∷ []);
  additional_fields = no_members;
})
unfolding documents_compute
array_reads = refl

-- an array of version 2, of floats of eight bytes, with no compressor, no filters and no attributes
abbrev small_v2 : ArrayMetadataV2
small_v2 = record {
  shape = 4 ∷ 3 ∷ [];
  chunks = 2 ∷ 3 ∷ [];
  dtype = Simple (codes "<f8");
  fill_value = number (unsigned 0);
  order = C;
  compressor = None;
  filters = None;
  dimension_separator = Dot;
  attributes = no_members;
  additional_fields = no_members;
}

-- the array of version 2, converted
array_converts : array_v3 small_v2 ≡ Ok (record {
  shape = 4 ∷ 3 ∷ [];
  data_type = plain (codes "float64") None;
  chunk_grid = plain (codes "regular") (Some (one (codes "chunk_shape") (array (item (number (unsigned 2)) (item (number (unsigned 3)) no_items)))));
  chunk_key_encoding = plain (codes "v2") (Some (one (codes "separator") (string (codes "."))));
  fill_value = number (unsigned 0);
  codecs = plain (codes "bytes") (Some (one (codes "endian") (string (codes "little")))) ∷ [];
  attributes = no_members;
  storage_transformers = [];
  dimension_names = None;
  additional_fields = no_members;
})
unfolding array_v3
array_converts = refl
