-- What is written of a block in full reads as that block.
use Rattle.std.proofs.Common.{◌≡◌, ℕ, List, [], ◌∷◌, Bool, true, false, Option, Some, None, Ok, IsTrue, codes, refl, ap, ◌∙◌}
use Rattle.std.proofs.lemmas.List.Elements.{All-head, All-tail}
use Rattle.std.specs.List.{list_all}
use Rattle.serde_json.specs.Data.{number, string, object, unsigned, Members, no_members}
use Rattle.serde_json.specs.Find.{get_member, as_object, as_str}
use Rattle.serde_json.specs.Written.{has_float, members_have_float}
use Rattle.zarrs_fault.specs.declared.numbers.Numbers.{Numbers}
use Rattle.zarrs_fault.specs.declared.numbers.Numbers.TheVariants.{Whole, Any}
use Rattle.zarrs_form.specs.Documents.{besides, document_in, has_own, optional_found, required_member, optional_member, format_of, node_type_of}
use Rattle.zarrs_form.specs.Forms.{number_u64, any, nullable, list_of, extension, list_data, extension_data, extension_fits_in, fits_in, unless, is_nil, put_rows}
use Rattle.zarrs_form.specs.declared.extension.MetadataV3.{MetadataV3}
use Rattle.zarrs_form.proofs.AttributeLaws.{not_true}
use Rattle.zarrs_form.proofs.MemberLaws.{besides-others, get-others}
use Rattle.zarrs_form.proofs.RowLaws.{or_rest, found, get-put_rows, besides-put_rows, no_float-put_rows, list_again, list_no_float, has_no_float, ◌◂◌}
use Rattle.zarrs_meta.specs.ArrayV3.{array_v3_in, array_v3_names, array_v3_rows, is_plain_array_v3_in}
use Rattle.zarrs_meta.specs.Node.{node_in, is_plain_node_in}
use Rattle.zarrs_meta.specs.declared.array_v3.ArrayMetadataV3.{ArrayMetadataV3}
use Rattle.zarrs_meta.specs.declared.node.ArrayMetadata.TheVariants.{V3 as array_v3, V2 as array_v2}
use Rattle.zarrs_meta.specs.declared.node.NodeMetadata.{NodeMetadata}
use Rattle.zarrs_meta.specs.declared.node.NodeMetadata.TheVariants.{Group, Array}
use Rattle.zarrs_meta.proofs.ArrayV3Laws.{array_v3_no_float, plain_parts}
use Rattle.zarrs_meta.proofs.ArrayV3Laws as written
use Rattle.zarrs_meta.proofs.NodeLaws.{node_again_in, node_no_float}
use Rattle.zarrs_block.specs.Block.{Block, HasPlainNodesIn, block_of_in, nodes_in}
use Rattle.zarrs_block.proofs.NumbersWithin.{asked_document}
use Rattle.zarrs_group.specs.FullBlocks.{full_array, full_block_tree, full_documents, full_extension, full_node, full_rows}

-- ---- extensions

-- an extension that was written in full reads again, field by field
again_by : (name : List ℕ) (configuration : Option Members) (must_understand : Bool)
    → extension (full_extension (record { name = name; configuration = configuration; must_understand = must_understand })) ≡ Some (record { name = name; configuration = configuration; must_understand = must_understand })
again_by name None true = refl
again_by name None false = refl
again_by name (Some ms) true = refl
again_by name (Some ms) false = refl

-- an extension that was written in full reads as that extension
full_again : (m : MetadataV3) → extension (full_extension m) ≡ Some m
full_again m = again_by m.name m.configuration m.must_understand

-- an extension whose numbers fit is written in full with numbers that fit, field by field
no_float_by : (name : List ℕ) (configuration : Option Members) (must_understand : Bool) → extension_fits_in Whole (record { name = name; configuration = configuration; must_understand = must_understand }) ≡ true
    → has_float (full_extension (record { name = name; configuration = configuration; must_understand = must_understand })) ≡ false
no_float_by name None true e = refl
no_float_by name None false e = refl
no_float_by name (Some ms) true e = rw (not_true (members_have_float ms) e) refl
no_float_by name (Some ms) false e = rw (not_true (members_have_float ms) e) refl

-- an extension whose numbers fit is written in full with numbers that fit
full_no_float : (m : MetadataV3) → extension_fits_in Whole m ≡ true → has_float (full_extension m) ≡ false
full_no_float m = no_float_by m.name m.configuration m.must_understand

-- ---- members that may be absent

-- storage transformers that were written in full, in the place of those of the document, read again, and those that were not written read as none
transformers_again : (xs : List MetadataV3)
    → optional_found (codes "storage_transformers") [] (list_of extension) (or_rest (unless (is_nil xs) (list_data full_extension xs)) (or_rest (unless (is_nil xs) (list_data extension_data xs)) None)) ≡ Ok xs
transformers_again [] = refl
transformers_again (x ∷ xs) = rw (full_again x, list_again extension full_extension full_again xs) refl

-- storage transformers whose numbers fit are written with numbers that fit
transformers_no_float : (xs : List MetadataV3) → list_all (extension_fits_in Whole) xs ≡ true → has_no_float (unless (is_nil xs) (list_data full_extension xs))
transformers_no_float [] e = tt
transformers_no_float (x ∷ xs) e = list_no_float full_extension (extension_fits_in Whole) full_no_float (x ∷ xs) e

-- ---- an array

module _ (m : ArrayMetadataV3) (no_own : has_own array_v3_names m.additional_fields ≡ false) where
  -- the members of the document
  abbrev document : Members
  document = put_rows (array_v3_rows m) m.additional_fields

  -- the members of what is written in full
  abbrev whole : Members
  whole = put_rows (full_rows m) document

  -- what stands at a name: what its full row says, else what the document has
  at : (k : List ℕ) → get_member k whole ≡ found k (full_rows m) (get_member k document)
  at k = get-put_rows k (full_rows m) document

  -- the format is that of the document
  has_format : get_member (codes "zarr_format") whole ≡ Some (number (unsigned 3))
  has_format = at (codes "zarr_format") ∙ written.has_format m no_own

  -- the kind of node is that of the document
  has_kind : get_member (codes "node_type") whole ≡ Some (string (codes "array"))
  has_kind = at (codes "node_type") ∙ written.has_kind m no_own

  -- the shape is that of the document
  shape : required_member (codes "shape") (list_of number_u64) (object whole) ≡ Ok m.shape
  shape = let here : get_member (codes "shape") whole ≡ get_member (codes "shape") document = at (codes "shape") in rw here (written.shape m no_own)

  -- the data type is that of the document
  data_type : required_member (codes "data_type") extension (object whole) ≡ Ok m.data_type
  data_type = let here : get_member (codes "data_type") whole ≡ get_member (codes "data_type") document = at (codes "data_type") in rw here (written.data_type m no_own)

  -- the chunk grid reads again
  chunk_grid : required_member (codes "chunk_grid") extension (object whole) ≡ Ok m.chunk_grid
  chunk_grid = let here : get_member (codes "chunk_grid") whole ≡ Some (full_extension m.chunk_grid) = at (codes "chunk_grid") in rw (here, full_again m.chunk_grid) refl

  -- the chunk key encoding reads again
  chunk_key_encoding : required_member (codes "chunk_key_encoding") extension (object whole) ≡ Ok m.chunk_key_encoding
  chunk_key_encoding =
      let here : get_member (codes "chunk_key_encoding") whole ≡ Some (full_extension m.chunk_key_encoding) = at (codes "chunk_key_encoding") in
      rw (here, full_again m.chunk_key_encoding) refl

  -- the fill value is that of the document
  fill_value : required_member (codes "fill_value") any (object whole) ≡ Ok m.fill_value
  fill_value = let here : get_member (codes "fill_value") whole ≡ get_member (codes "fill_value") document = at (codes "fill_value") in rw here (written.fill_value m no_own)

  -- the codecs read again
  codecs : required_member (codes "codecs") (list_of extension) (object whole) ≡ Ok m.codecs
  codecs =
      let here : get_member (codes "codecs") whole ≡ Some (list_data full_extension m.codecs) = at (codes "codecs") in
      rw (here, list_again extension full_extension full_again m.codecs) refl

  -- the attributes are those of the document
  attributes : optional_member (codes "attributes") no_members as_object (object whole) ≡ Ok m.attributes
  attributes = ap (optional_found (codes "attributes") no_members as_object) (at (codes "attributes")) ∙ written.attributes m no_own

  -- the storage transformers read again
  transformers : optional_member (codes "storage_transformers") [] (list_of extension) (object whole) ≡ Ok m.storage_transformers
  transformers = ap (optional_found (codes "storage_transformers") [] (list_of extension))
      (at (codes "storage_transformers")
      ∙ ap (or_rest (unless (is_nil m.storage_transformers) (list_data full_extension m.storage_transformers)))
      (get-put_rows (codes "storage_transformers") (array_v3_rows m) m.additional_fields
      ∙ ap (or_rest (unless (is_nil m.storage_transformers) (list_data extension_data m.storage_transformers))) (get-others array_v3_names (codes "storage_transformers") m.additional_fields refl no_own)))
      ∙ transformers_again m.storage_transformers

  -- the dimension names are those of the document
  names : optional_member (codes "dimension_names") None (nullable (list_of (nullable as_str))) (object whole) ≡ Ok m.dimension_names
  names = ap (optional_found (codes "dimension_names") None (nullable (list_of (nullable as_str)))) (at (codes "dimension_names")) ∙ written.names m no_own

  -- the members with no own name are the additional fields
  others : besides array_v3_names whole ≡ m.additional_fields
  others = besides-put_rows array_v3_names (full_rows m) document refl
      ∙ (besides-put_rows array_v3_names (array_v3_rows m) m.additional_fields refl ∙ besides-others array_v3_names m.additional_fields no_own)

  -- an array whose full form is a document reads again
  array_again_where : (numbers : Numbers) → document_in numbers (full_array m) ≡ Ok whole → array_v3_in numbers (full_array m) ≡ Ok m
  unfolding array_v3_in format_of node_type_of
  array_again_where numbers is_document = rw (is_document, has_format, has_kind, shape, data_type, chunk_grid, chunk_key_encoding, fill_value, codecs, attributes, transformers, names, others) refl

-- a plain array is written in full with numbers that fit
array_no_float : (m : ArrayMetadataV3) → IsTrue (is_plain_array_v3_in Whole m) → has_float (full_array m) ≡ false
array_no_float m plain =
    let p = plain_parts m plain in
    no_float-put_rows (full_rows m) (put_rows (array_v3_rows m) m.additional_fields)
    (full_no_float m.chunk_grid p.1
    ◂ full_no_float m.chunk_key_encoding p.2
    ◂ list_no_float full_extension (extension_fits_in Whole) full_no_float m.codecs p.4
    ◂ transformers_no_float m.storage_transformers p.6
    ◂ tt)
    (array_v3_no_float m plain)

-- what is written is a document that may hold these numbers
is_document : (numbers : Numbers) (m : ArrayMetadataV3) → IsTrue (is_plain_array_v3_in numbers m) → document_in numbers (full_array m) ≡ Ok (put_rows (full_rows m) (put_rows (array_v3_rows m) m.additional_fields))
is_document Whole m plain = rw (array_no_float m plain) refl
is_document Any m plain = refl

-- an array that is plain in these numbers and was written in full reads as that array in them
array_again_in : (numbers : Numbers) (m : ArrayMetadataV3) → IsTrue (is_plain_array_v3_in numbers m) → array_v3_in numbers (full_array m) ≡ Ok m
array_again_in numbers m plain = array_again_where m (written.plain_own numbers m plain) numbers (is_document numbers m plain)

-- ---- a node

-- a plain node is written in full with numbers that fit
full_node_no_float : (m : NodeMetadata) → IsTrue (is_plain_node_in Whole m) → has_float (full_node m) ≡ false
full_node_no_float (Array (array_v3 m)) plain = array_no_float m plain
full_node_no_float (Array (array_v2 m)) plain = node_no_float (Array (array_v2 m)) plain
full_node_no_float (Group m) plain = node_no_float (Group m) plain

-- a node that is plain in these numbers and was written in full reads as that node in them
full_node_again : (numbers : Numbers) (m : NodeMetadata) → IsTrue (is_plain_node_in numbers m) → node_in numbers (full_node m) ≡ Ok m
unfolding node_in format_of node_type_of
full_node_again numbers (Array (array_v3 m)) plain =
    rw (is_document numbers m plain, has_format m (written.plain_own numbers m plain), has_kind m (written.plain_own numbers m plain), array_again_in numbers m plain) refl
full_node_again numbers (Array (array_v2 m)) plain = node_again_in numbers (Array (array_v2 m)) plain
full_node_again numbers (Group m) plain = node_again_in numbers (Group m) plain

-- ---- a block

-- the node of an entry could have come from a document that may hold these numbers
abbrev IsPlainIn : Numbers → List ℕ × NodeMetadata → Type 0
IsPlainIn numbers e = IsTrue (is_plain_node_in numbers e.1)

-- nodes that are plain in whole numbers have no fraction
documents_fit : (B : Block) → HasPlainNodesIn Whole B → members_have_float (full_documents B) ≡ false
documents_fit [] plain = refl
documents_fit (e ∷ B) plain =
    rw (full_node_no_float e.1 (All-head (IsPlainIn Whole) e B plain), documents_fit B (All-tail (IsPlainIn Whole) e B plain)) refl

-- the numbers of a block of nodes that are plain in these numbers are among them
tree_fits : (numbers : Numbers) (B : Block) → HasPlainNodesIn numbers B → IsTrue (fits_in numbers (full_block_tree B))
tree_fits Whole B plain = rw (documents_fit B plain) refl
tree_fits Any B plain = refl

-- nodes that are plain in these numbers read in them again
nodes_again : (numbers : Numbers) (B : Block) → HasPlainNodesIn numbers B → nodes_in numbers (full_documents B) ≡ Some B
nodes_again numbers [] plain = refl
nodes_again numbers (e ∷ B) plain =
    rw (full_node_again numbers e.1 (All-head (IsPlainIn numbers) e B plain), nodes_again numbers B (All-tail (IsPlainIn numbers) e B plain)) refl

-- a block of nodes that are plain in these numbers, which was written in full, reads in them as that block
pub full_block_again : (numbers : Numbers) (B : Block) → HasPlainNodesIn numbers B → block_of_in numbers (full_block_tree B) ≡ Ok B
unfolding block_of_in
full_block_again numbers B plain = rw (asked_document numbers (full_block_tree B) (tree_fits numbers B plain), nodes_again numbers B plain) refl
