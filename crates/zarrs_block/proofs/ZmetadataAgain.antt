-- What is written of a plain group of version 2 and its block reads as a block with the same entries, in any numbers.
use Rattle.std.proofs.Common.{◌≡◌, ℕ, true, false, not, true≢false, cond, List, [], ◌∷◌, ◌++◌, IsTrue, IfSome, Option, Some, None, option_and_then, Ok, refl, sym, ap, ◌∙◌, bytes_eq, codes}
use Rattle.std.proofs.lemmas.Bool.{not-true}
use Rattle.std.specs.FinMap.{get}
use Rattle.std.specs.List.{AllByRecursion, list_all, list_any}
use Rattle.std.specs.Map.{lookup}
use Rattle.std.proofs.lemmas.List.Elements.{recursion_from_All, All-weaker}
use Rattle.serde_json.specs.Data.{Data, number, unsigned, object, Members, no_members, member}
use Rattle.serde_json.specs.Written.{has_float, members_have_float}
use Rattle.zarrs_store.specs.Segments.{Segments, key_text}
use Rattle.zarrs_path.specs.Keys.{zarray, zgroup, zattrs}
use Rattle.zarrs_path.specs.Paths.{Path, IsPath, path_eq}
use Rattle.zarrs_form.specs.Forms.{fits_in}
use Rattle.zarrs_form.proofs.AttributeLaws.{not_true}
use Rattle.zarrs_form.proofs.MemberLaws.{no_float-put}
use Rattle.zarrs_meta.specs.ArrayV2.{array_v2_in, array_v2_tree, is_plain_array_v2, is_plain_array_v2_in}
use Rattle.zarrs_meta.specs.GroupV2.{group_v2_in, group_v2_tree, is_plain_group_v2, is_plain_group_v2_in}
use Rattle.zarrs_meta.specs.Attributes.{attributes_document_in, is_plain_attributes_in}
use Rattle.zarrs_meta.specs.Node.{array_with, group_with, array_without_attributes, group_without_attributes, is_plain_node, is_plain_node_in}
use Rattle.zarrs_meta.specs.declared.array_v2.ArrayMetadataV2.{ArrayMetadataV2}
use Rattle.zarrs_meta.specs.declared.group_v2.GroupMetadataV2.{GroupMetadataV2}
use Rattle.zarrs_meta.specs.declared.attributes.AttributesDocument.{AttributesDocument}
use Rattle.zarrs_meta.specs.declared.node.ArrayMetadata.TheVariants.{V2 as array_v2, V3 as array_v3}
use Rattle.zarrs_meta.specs.declared.node.GroupMetadata.TheVariants.{V2 as group_v2, V3 as group_v3}
use Rattle.zarrs_meta.specs.declared.node.NodeMetadata.{NodeMetadata}
use Rattle.zarrs_meta.specs.declared.node.NodeMetadata.TheVariants.{Group, Array}
use Rattle.zarrs_meta.proofs.GroupV2Laws as groups
use Rattle.zarrs_meta.proofs.ArrayV2Laws as arrays
use Rattle.zarrs_meta.proofs.PlainNodes.{group_with_is_plain_in, array_with_is_plain_in}
use Rattle.zarrs_block.specs.Block.{Block, IsAscending, HasValidKeys, Entries, entry, first_some, node_at_key}
use Rattle.zarrs_meaning.specs.DocumentsAtKeys.{document_at, document_from, document_or_fault}
use Rattle.zarrs_meaning.specs.Meaning.{Meaning, node, nothing, meaning_in, zarray_line, zgroup_line, version_2_line}
use Rattle.zarrs_fault.specs.declared.numbers.Numbers.{Numbers}
use Rattle.zarrs_fault.specs.declared.numbers.Numbers.TheVariants.{Whole, Any}
use Rattle.zarrs_meaning.specs.Small.{SmallStore, is_document_v2, small, small_meaning_in}
use Rattle.zarrs_meaning.specs.Meaning.{is_bad}
use Rattle.zarrs_block.specs.Zmetadata.{before_last, documents_below, is_good, block_from, zmetadata_in, zmetadata_tree, attributes_written, node_written, put_documents, nodes_written, documents_written, is_version_2, HasVersion2, HasPlainEntriesIn, HaveSameEntries, node_at, document_written, WrittenReadsBackIn}
use Rattle.zarrs_block.proofs.Expansion.{entries_listed}
use Rattle.zarrs_block.proofs.BlockFrom.{node_of, none_either, found_block, found_slashed, all_good, below_named, listed_below}
use Rattle.zarrs_block.proofs.NumbersWithin.{asked_document}
use Rattle.zarrs_block.proofs.SmallLaws.{get_document}
use Rattle.zarrs_block.proofs.ZmetadataDocuments.{pairs, pairs_have_paths, found_documents, AreNamed, nodes_named}

-- ---- all numbers fit

-- the numbers of the documents fit
abbrev HaveNoFloat : List (List ℕ × Data) → Type 0
HaveNoFloat ds = AllByRecursion (λ d. has_float d.1 ≡ false) ds

-- attributes whose numbers fit are written so
attributes_fit : (a : Members) → members_have_float a ≡ false → HaveNoFloat (attributes_written a)
attributes_fit no_members fits = tt
attributes_fit (member k d ms) fits = (fits, tt)

-- no attributes are plain in any numbers
none_plain : (numbers : Numbers) → IsTrue (is_plain_attributes_in numbers (record { 0 = no_members }))
none_plain Whole = refl
none_plain Any = refl

-- a group that is plain in these numbers is plain in them without its attributes
bare_group : (numbers : Numbers) (m : GroupMetadataV2) → IsTrue (is_plain_group_v2_in numbers m) → IsTrue (is_plain_group_v2_in numbers (group_without_attributes m))
bare_group numbers m plain = group_with_is_plain_in numbers (record { 0 = no_members }) m (none_plain numbers) plain

-- so is an array
bare_array : (numbers : Numbers) (m : ArrayMetadataV2) → IsTrue (is_plain_array_v2_in numbers m) → IsTrue (is_plain_array_v2_in numbers (array_without_attributes m))
bare_array numbers m plain = array_with_is_plain_in numbers (record { 0 = no_members }) m (none_plain numbers) plain

-- the numbers of a plain group's attributes fit
group_attributes : (m : GroupMetadataV2) → IsTrue (is_plain_group_v2 m) → members_have_float m.attributes ≡ false
group_attributes m plain = not_true (members_have_float m.attributes) (groups.plain_group_v2 m plain).0

-- those of the attributes of a group that is plain in these numbers are among them
group_attributes_in : (numbers : Numbers) (m : GroupMetadataV2) → IsTrue (is_plain_group_v2_in numbers m) → IsTrue (fits_in numbers (object m.attributes))
group_attributes_in Whole m plain = ap not (group_attributes m plain)
group_attributes_in Any m plain = refl

-- and those of a plain array's
array_attributes : (m : ArrayMetadataV2) → IsTrue (is_plain_array_v2 m) → members_have_float m.attributes ≡ false
array_attributes m plain = not_true (members_have_float m.attributes) (arrays.plain_array_v2 m plain).5

-- those of the attributes of an array that is plain in these numbers are among them
array_attributes_in : (numbers : Numbers) (m : ArrayMetadataV2) → IsTrue (is_plain_array_v2_in numbers m) → IsTrue (fits_in numbers (object m.attributes))
array_attributes_in Whole m plain = ap not (array_attributes m plain)
array_attributes_in Any m plain = refl

-- the documents of a plain node have numbers that fit
node_fits : (m : NodeMetadata) → IsTrue (is_plain_node m) → HaveNoFloat (node_written m)
node_fits (Group (group_v2 m)) plain = (groups.group_v2_no_float (group_without_attributes m) (bare_group Whole m plain), attributes_fit m.attributes (group_attributes m plain))
node_fits (Group (group_v3 m)) plain = tt
node_fits (Array (array_v2 m)) plain = (arrays.array_v2_no_float (array_without_attributes m) (bare_array Whole m plain), attributes_fit m.attributes (array_attributes m plain))
node_fits (Array (array_v3 m)) plain = tt

-- put into members, they still fit
documents_fit : (p : Path) (ds : List (List ℕ × Data)) (ms : Members) → HaveNoFloat ds → members_have_float ms ≡ false → members_have_float (put_documents p ds ms) ≡ false
documents_fit p [] ms fits rest = rest
documents_fit p (d ∷ ds) ms fits rest = no_float-put (key_text (p ++ d.0 ∷ [])) d.1 (put_documents p ds ms) fits.0 (documents_fit p ds ms fits.1 rest)

-- the node of a pair is plain in these numbers
abbrev IsPlainIn : Numbers → Path × NodeMetadata → Type 0
IsPlainIn numbers e = IsTrue (is_plain_node_in numbers e.1)

-- what is written of plain nodes has numbers that fit
nodes_fit : (es : List (Path × NodeMetadata)) → AllByRecursion (IsPlainIn Whole) es → members_have_float (nodes_written es) ≡ false
nodes_fit [] plain = refl
nodes_fit (e ∷ es) plain = documents_fit e.0 (node_written e.1) (nodes_written es) (node_fits e.1 plain.0) (nodes_fit es plain.1)

-- what is written of nodes that are plain in these numbers has no others
all_fit : (numbers : Numbers) (es : List (Path × NodeMetadata)) → AllByRecursion (IsPlainIn numbers) es → IsTrue (fits_in numbers (object (nodes_written es)))
all_fit Whole es plain = ap not (nodes_fit es plain)
all_fit Any es plain = refl

-- ---- what is written of a node means the node

-- a document without attributes and the attributes beside it mean the whole
attributes_line : {D : Type 0} (numbers : Numbers) (kind : D → NodeMetadata) (join : AttributesDocument → D → D) (bare m : D) (a : Members) (k : Segments) (after : Meaning)
    → IsTrue (fits_in numbers (object a)) → join (record { 0 = a }) bare ≡ m → (a ≡ no_members → bare ≡ m)
    → version_2_line kind join (Ok (Some bare)) (document_from (attributes_document_in numbers) k (lookup (bytes_eq zattrs) (attributes_written a))) after ≡ node (kind m)
attributes_line numbers kind join bare m no_members k after fits whole none = ap (λ d. node (kind d)) (none refl)
attributes_line numbers kind join bare m (member l d ms) k after fits whole none = rw (asked_document numbers (object (member l d ms)) fits) (ap (λ d. node (kind d)) whole)

-- the meaning of a path by its three documents
abbrev read_by : Numbers → Path → Option Data → Option Data → Option Data → Meaning
read_by numbers p a g t =
    version_2_line (λ m. Array (array_v2 m)) array_with (document_from (array_v2_in numbers) (p ++ zarray ∷ []) a) (document_from (attributes_document_in numbers) (p ++ zattrs ∷ []) t)
    (version_2_line (λ m. Group (group_v2 m)) group_with (document_from (group_v2_in numbers) (p ++ zgroup ∷ []) g) (document_from (attributes_document_in numbers) (p ++ zattrs ∷ []) t) nothing)

-- what a path means in a small store, by its documents
small_by : (numbers : Numbers) (z : SmallStore) (p : Path) → small_meaning_in numbers z p ≡ read_by numbers p (get z (p ++ zarray ∷ [])) (get z (p ++ zgroup ∷ [])) (get z (p ++ zattrs ∷ []))
unfolding meaning_in zarray_line zgroup_line document_at
small_by numbers z p = refl

-- a node that there may be is of version 2 and plain in these numbers
abbrev Fits : Numbers → Option NodeMetadata → Type 0
Fits numbers o = IfSome o (λ m. IsTrue (is_version_2 m) × IsTrue (is_plain_node_in numbers m))

-- the meaning that is a node, or nothing
abbrev meant : Option NodeMetadata → Meaning
meant None = nothing
meant (Some m) = node m

-- attributes are no array
no_array : (a : Members) → lookup (bytes_eq zarray) (attributes_written a) ≡ None
no_array no_members = refl
no_array (member k d ms) = refl

module _ (numbers : Numbers) (p : Path) where
  -- the documents of a plain group mean the group
  group_again : (m : GroupMetadataV2) → IsTrue (is_plain_group_v2_in numbers m)
      → read_by numbers p (document_written zarray (Group (group_v2 m))) (document_written zgroup (Group (group_v2 m))) (document_written zattrs (Group (group_v2 m))) ≡ node (Group (group_v2 m))
  group_again m plain =
      ap (λ x. read_by numbers p x (Some (group_v2_tree (group_without_attributes m))) (lookup (bytes_eq zattrs) (attributes_written m.attributes))) (no_array m.attributes)
      ∙ ap (λ r. version_2_line (λ d. Group (group_v2 d)) group_with (document_or_fault (p ++ zgroup ∷ []) r) (document_from (attributes_document_in numbers) (p ++ zattrs ∷ []) (lookup (bytes_eq zattrs) (attributes_written m.attributes))) nothing)
      (groups.group_v2_again_in numbers (group_without_attributes m) (bare_group numbers m plain))
      ∙ attributes_line numbers (λ d. Group (group_v2 d)) group_with (group_without_attributes m) m m.attributes (p ++ zattrs ∷ []) nothing (group_attributes_in numbers m plain) refl
      (λ e i. record { attributes = sym e i; additional_fields = m.additional_fields })

  -- those of a plain array mean the array
  array_again : (m : ArrayMetadataV2) → IsTrue (is_plain_array_v2_in numbers m)
      → read_by numbers p (document_written zarray (Array (array_v2 m))) (document_written zgroup (Array (array_v2 m))) (document_written zattrs (Array (array_v2 m))) ≡ node (Array (array_v2 m))
  array_again m plain =
      ap (λ r. version_2_line (λ d. Array (array_v2 d)) array_with (document_or_fault (p ++ zarray ∷ []) r) (document_from (attributes_document_in numbers) (p ++ zattrs ∷ []) (lookup (bytes_eq zattrs) (attributes_written m.attributes)))
      (version_2_line (λ d. Group (group_v2 d)) group_with (document_from (group_v2_in numbers) (p ++ zgroup ∷ []) (document_written zgroup (Array (array_v2 m)))) (document_from (attributes_document_in numbers) (p ++ zattrs ∷ []) (lookup (bytes_eq zattrs) (attributes_written m.attributes))) nothing))
      (arrays.array_v2_again_in numbers (array_without_attributes m) (bare_array numbers m plain))
      ∙ attributes_line numbers (λ d. Array (array_v2 d)) array_with (array_without_attributes m) m m.attributes (p ++ zattrs ∷ []) _ (array_attributes_in numbers m plain) refl
      (λ e i. record {
        shape = m.shape;
        chunks = m.chunks;
        dtype = m.dtype;
        fill_value = m.fill_value;
        order = m.order;
        compressor = m.compressor;
        filters = m.filters;
        dimension_separator = m.dimension_separator;
        attributes = sym e i;
        additional_fields = m.additional_fields;
      })

  -- the documents of a node mean the node, and none mean nothing
  node_again : (o : Option NodeMetadata) → Fits numbers o → read_by numbers p (option_and_then (document_written zarray) o) (option_and_then (document_written zgroup) o) (option_and_then (document_written zattrs) o) ≡ meant o
  node_again None fits = refl
  node_again (Some (Group (group_v2 m))) fits = group_again m fits.1
  node_again (Some (Group (group_v3 m))) fits = absurd (true≢false (sym fits.0))
  node_again (Some (Array (array_v2 m))) fits = array_again m fits.1
  node_again (Some (Array (array_v3 m))) fits = absurd (true≢false (sym fits.0))

-- ---- the whole

-- members with these numbers, of which all are good, read as the block of their meanings
read_members : (numbers : Numbers) (ms : Members) → IsTrue (fits_in numbers (object ms))
    → list_all (λ e. is_good (small_meaning_in numbers (small [] ms)) e.0) (documents_below ms) ≡ true
    → zmetadata_in numbers (object (member (codes "metadata") (object ms) (member (codes "zarr_consolidated_format") (number (unsigned 1)) no_members)))
    ≡ Ok (block_from (small_meaning_in numbers (small [] ms)) (documents_below ms))
unfolding zmetadata_in
read_members Whole ms fits good = rw (not-true (members_have_float ms) fits, good) refl
read_members Any ms fits good = rw good refl

-- ---- the entries of the block that is read

-- the first alone
first_alone : (o : Option NodeMetadata) → first_some o None ≡ o
first_alone None = refl
first_alone (Some m) = refl

-- a node that is meant is the node
node_meant : (o : Option NodeMetadata) → node_of (meant o) ≡ o
node_meant None = refl
node_meant (Some m) = refl

-- it is not bad
meant_good : (o : Option NodeMetadata) → is_bad (meant o) ≡ false
meant_good None = refl
meant_good (Some m) = refl

module _ (numbers : Numbers) (g : GroupMetadataV2) (B : Block) (plain_group : IsTrue (is_plain_group_v2_in numbers g)) (up : IsAscending B) (valid : HasValidKeys B)
    (new : HasVersion2 B) (plain : HasPlainEntriesIn numbers B) where
  -- the documents that are written
  abbrev ms : Members
  ms = documents_written g B

  -- what a path means in their small store
  abbrev of : Path → Meaning
  of p = small_meaning_in numbers (small [] ms) p

  -- the block of these meanings
  abbrev C : Block
  C = block_from of (documents_below ms)

  -- the node at each path is plain and of version 2
  entry_fits : (n : List ℕ) (ns : Path) → IsPath (n ∷ ns) → (o : Option NodeMetadata) → entry B (n ∷ ns) ≡ o → Fits numbers o
  entry_fits n ns h None is = tt
  entry_fits n ns h (Some m) is = (new (n ∷ ns, m) (n, ns, h, refl, is), plain (n ∷ ns, m) (n, ns, h, refl, is))

  -- the node at each path, also the group itself, is plain and of version 2
  fits_at : (ns : Path) → IsPath ns → Fits numbers (node_at g B ns)
  fits_at [] h = (refl, plain_group)
  fits_at (n ∷ ns) h = entry_fits n ns h (entry B (n ∷ ns)) refl

  -- a document of a path stands in the small store of what is written
  document_is : (ns : Path) (file : List ℕ) → IsPath ns → IsTrue (is_document_v2 file) → get (small [] ms) (ns ++ file ∷ []) ≡ option_and_then (document_written file) (node_at g B ns)
  document_is ns file h doc = get_document [] ns file ms h doc ∙ found_documents B up valid g ns file h doc

  -- each path means in it the node that it had
  meaning_is : (ns : Path) → IsPath ns → of ns ≡ meant (node_at g B ns)
  meaning_is ns h =
      small_by numbers (small [] ms) ns ∙ (λ i. read_by numbers ns (document_is ns zarray h refl i) (document_is ns zgroup h refl i) (document_is ns zattrs h refl i)) ∙ node_again numbers ns (node_at g B ns) (fits_at ns h)

  -- the names of the members are those of documents
  names : AreNamed ms
  names = nodes_named (([], Group (group_v2 g)) ∷ pairs B) (refl, pairs_have_paths B up valid)

  -- the nodes of the pairs are plain
  pairs_plain : AllByRecursion (IsPlainIn numbers) (pairs B)
  pairs_plain = recursion_from_All (IsPlainIn numbers) (pairs B) (All-weaker (Entries B []) (IsPlainIn numbers) plain (pairs B) (entries_listed [] B up valid).sound)

  -- all numbers fit
  numbers_fit : IsTrue (fits_in numbers (object ms))
  numbers_fit = all_fit numbers (([], Group (group_v2 g)) ∷ pairs B) (plain_group, pairs_plain)

  -- and all is good
  good : list_all (λ e. is_good of e.0) (documents_below ms) ≡ true
  good = all_good of (documents_below ms) (below_named ms names) (λ p h. ap is_bad (meaning_is p h) ∙ meant_good (node_at g B p))

  -- the document reads as the block of these meanings
  reads : zmetadata_in numbers (zmetadata_tree g B) ≡ Ok C
  reads = read_members numbers ms numbers_fit good

  -- a document of an entry is listed
  listed : (n : List ℕ) (ns : Path) → IsPath (n ∷ ns) → (file : List ℕ) → is_document_v2 file ≡ true → (m : NodeMetadata) (d : Data) → entry B (n ∷ ns) ≡ Some m → document_written file m ≡ Some d
      → list_any (λ e. path_eq (n ∷ ns) (before_last e.0)) (documents_below ms) ≡ true
  listed n ns h file doc m d is written = listed_below n ns h file doc ms d (found_documents B up valid g (n ∷ ns) file h doc ∙ ap (option_and_then (document_written file)) is ∙ written)

  -- each entry has one
  listed_node : (n : List ℕ) (ns : Path) → IsPath (n ∷ ns) → (m : NodeMetadata) → IsTrue (is_version_2 m) → entry B (n ∷ ns) ≡ Some m → list_any (λ e. path_eq (n ∷ ns) (before_last e.0)) (documents_below ms) ≡ true
  listed_node n ns h (Group (group_v2 m)) fits is = listed n ns h zgroup refl (Group (group_v2 m)) (group_v2_tree (group_without_attributes m)) is refl
  listed_node n ns h (Group (group_v3 m)) fits is = absurd (true≢false (sym fits))
  listed_node n ns h (Array (array_v2 m)) fits is = listed n ns h zarray refl (Array (array_v2 m)) (array_v2_tree (array_without_attributes m)) is refl
  listed_node n ns h (Array (array_v3 m)) fits is = absurd (true≢false (sym fits))

  -- so nothing is lost by the test
  found_by : (n : List ℕ) (ns : Path) → IsPath (n ∷ ns) → (o : Option NodeMetadata) → entry B (n ∷ ns) ≡ o → Fits numbers o → cond (list_any (λ e. path_eq (n ∷ ns) (before_last e.0)) (documents_below ms)) o None ≡ o
  found_by n ns h None is fits = none_either (list_any (λ e. path_eq (n ∷ ns) (before_last e.0)) (documents_below ms)) None refl
  found_by n ns h (Some m) is fits = ap (λ b. cond b (Some m) None) (listed_node n ns h m fits.0 is)

  -- that block has the same entries
  entry_again : (n : List ℕ) (ns : Path) → IsPath (n ∷ ns) → entry C (n ∷ ns) ≡ entry B (n ∷ ns)
  entry_again n ns h =
      ap (first_some (node_at_key C (key_text (n ∷ ns)))) (found_slashed of (documents_below ms) (below_named ms names) (n ∷ ns)) ∙ first_alone (node_at_key C (key_text (n ∷ ns)))
      ∙ found_block of (documents_below ms) (below_named ms names) (n ∷ ns) h
      ∙ ap (λ o. cond (list_any (λ e. path_eq (n ∷ ns) (before_last e.0)) (documents_below ms)) o None) (ap node_of (meaning_is (n ∷ ns) h) ∙ node_meant (entry B (n ∷ ns)))
      ∙ found_by n ns h (entry B (n ∷ ns)) refl (fits_at (n ∷ ns) h)

  -- both blocks have the same entries
  same_entries : HaveSameEntries B C
  same_entries b e = (λ w. (w.0, w.1, w.2, w.3, sym (entry_again w.0 w.1 w.2) ∙ w.4), λ w. (w.0, w.1, w.2, w.3, entry_again w.0 w.1 w.2 ∙ w.4))

-- what is written of a group of version 2 and its block, both plain in these numbers, reads back in them
pub written_reads_back_in : (numbers : Numbers) → WrittenReadsBackIn numbers
written_reads_back_in numbers g B plain_group up valid new plain =
    (C numbers g B plain_group up valid new plain, reads numbers g B plain_group up valid new plain, same_entries numbers g B plain_group up valid new plain)
