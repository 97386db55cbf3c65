-- The block that a document `.zmetadata` is can be written again: its keys are names joined by slashes, and its entries are of version 2.
use Rattle.std.proofs.Common.{◌≡◌, ℕ, ◌⊎◌, inl, inr, ⊎_elim, Bool, true, false, true≢false, cond, not, if◌then◌else◌, List, [], ◌∷◌, ◌++◌, Option, Some, None, option_and_then, Result, Ok, Err, IsSome, IsTrue, refl, sym, ap, subst, ◌∙◌}
use Rattle.std.specs.List.{list_all}
use Rattle.std.specs.Ordering.{is_eq}
use Rattle.std.specs.Result.{result_ok}
use Rattle.std.specs.FinMap.{FinMap, get}
use Rattle.std.proofs.lemmas.Bool.{and_parts}
use Rattle.serde_json.specs.Data.{Data, Members}
use Rattle.zarrs_store.specs.Segments.{Segments, bytes_cmp, key_cmp, key_text}
use Rattle.zarrs_store.specs.Contents.{Contents}
use Rattle.zarrs_fault.specs.declared.fault.MetadataFault.{MetadataFault}
use Rattle.zarrs_fault.specs.declared.numbers.Numbers.{Numbers}
use Rattle.zarrs_store.specs.declared.storage_error.StorageError.{StorageError}
use Rattle.zarrs_path.specs.Keys.{zarray, zgroup, zmetadata}
use Rattle.zarrs_path.specs.Names.{is_name}
use Rattle.zarrs_path.specs.Paths.{Path, IsPath}
use Rattle.zarrs_config.specs.declared.version.MetadataRetrieveVersion.TheVariants.{V2 as OfVersion2}
use Rattle.zarrs_form.specs.Documents.{◌>>=◌, json_of, tree_or_fault, of_bytes}
use Rattle.zarrs_meta.specs.declared.array_v2.ArrayMetadataV2.{ArrayMetadataV2}
use Rattle.zarrs_meta.specs.declared.group_v2.GroupMetadataV2.{GroupMetadataV2}
use Rattle.zarrs_meta.specs.declared.attributes.AttributesDocument.{AttributesDocument}
use Rattle.zarrs_meta.specs.declared.node.GroupMetadata.{GroupMetadata}
use Rattle.zarrs_meta.specs.declared.node.GroupMetadata.TheVariants.{V3, V2}
use Rattle.zarrs_meta.specs.ArrayV2.{array_v2_in}
use Rattle.zarrs_meta.specs.GroupV2.{group_v2_in}
use Rattle.zarrs_meta.specs.Node.{array_with, group_with}
use Rattle.zarrs_meta.specs.declared.node.ArrayMetadata.TheVariants.{V2 as array_v2}
use Rattle.zarrs_meta.specs.declared.node.GroupMetadata.TheVariants.{V2 as group_v2}
use Rattle.zarrs_meta.specs.declared.node.NodeMetadata.{NodeMetadata}
use Rattle.zarrs_meta.specs.declared.node.NodeMetadata.TheVariants.{Group, Array}
use Rattle.zarrs_block.specs.Block.{Block, IsValidKey, first_some, node_at_key, put}
use Rattle.zarrs_meaning.specs.DocumentsAtKeys.{Reading, attributes_in, document_at, in_trees}
use Rattle.zarrs_meaning.specs.Meaning.{Meaning, node, nothing, bad, version_2_line, meaning_in, zarray_line, zgroup_line}
use Rattle.zarrs_meaning.specs.Small.{small, small_meaning_in}
use Rattle.zarrs_meaning.specs.Meaning.{is_bad}
use Rattle.zarrs_block.specs.Zmetadata.{before_last, documents_below, block_from, is_good, is_version_2, small_block_in, with_node, zmetadata_members_in, zmetadata_in}
use Rattle.zarrs_block.proofs.Expansion.{same_text}
use Rattle.zarrs_node.proofs.walk.Child.{node_same}
use Rattle.zarrs_node.proofs.blocks.PairsInBlocks.{found_put}
use Rattle.zarrs_group.specs.BlocksBeside.{IsBeside}
use Rattle.zarrs_group.specs.BlocksOfGroups.{block_beside}

-- ---- what a line of version 2 means

-- a line of documents of version 2 means a node of version 2, where the lines after it do
line_v2 : {D : Type 0} (kind : D → NodeMetadata) (with' : AttributesDocument → D → D) (r : Result (Option D) StorageError) (a : Result (Option AttributesDocument) StorageError)
    (after : Meaning) (m : NodeMetadata) → ((d : D) → IsTrue (is_version_2 (kind d))) → (after ≡ node m → IsTrue (is_version_2 m)) → version_2_line kind with' r a after ≡ node m → IsTrue (is_version_2 m)
line_v2 kind with' (Ok None) a after m all rest e = rest e
line_v2 kind with' (Ok (Some d)) (Ok None) after m all rest e = subst (λ x. IsTrue (is_version_2 x)) (node_same (kind d) m e) (all d)
line_v2 kind with' (Ok (Some d)) (Ok (Some x)) after m all rest e = subst (λ x. IsTrue (is_version_2 x)) (node_same (kind (with' x d)) m e) (all (with' x d))
line_v2 kind with' (Ok (Some d)) (Err wrong) after m all rest e = cc
line_v2 kind with' (Err wrong) a after m all rest e = cc

-- the line of `.zgroup` means a group of version 2
group_line_v2 : {V : Type 0} (reading : Reading V) (z : FinMap key_cmp V) (p : Path) (m : NodeMetadata) → zgroup_line reading z p nothing ≡ node m → IsTrue (is_version_2 m)
unfolding zgroup_line
group_line_v2 reading z p m e =
    line_v2 (λ g. Group (group_v2 g)) group_with (document_at (reading GroupMetadataV2 group_v2_in) z (p ++ zgroup ∷ [])) (attributes_in reading z p) nothing m (λ d. refl) (λ none. cc) e

-- what a path means by the documents of version 2, in a store of bytes or of trees, is of version 2
pub means_v2 : {V : Type 0} (reading : Reading V) (z : FinMap key_cmp V) (p : Path) (m : NodeMetadata) → meaning_in reading z OfVersion2 p ≡ node m → IsTrue (is_version_2 m)
unfolding meaning_in zarray_line
means_v2 reading z p m e =
    line_v2 (λ a. Array (array_v2 a)) array_with (document_at (reading ArrayMetadataV2 array_v2_in) z (p ++ zarray ∷ [])) (attributes_in reading z p) (zgroup_line reading z p nothing) m
    (λ d. refl) (group_line_v2 reading z p m) e

-- ---- what is put into the block

-- what the block has stands at a valid key, and is of version 2
abbrev Fitting : Block → Type 0
Fitting B = (t : List ℕ) (m : NodeMetadata) → node_at_key B t ≡ Some m → IsValidKey t × IsTrue (is_version_2 m)

-- a node of version 2 that is put at names fits
put_fits : (p : Path) (k : NodeMetadata) (B : Block) → IsPath p → IsTrue (is_version_2 k) → Fitting B → Fitting (put (key_text p) k B)
put_fits p k B names kind fits t m e = at (is_eq (bytes_cmp t (key_text p))) refl (sym (found_put t (key_text p) k B) ∙ e)
  where
    at : (b : Bool) → is_eq (bytes_cmp t (key_text p)) ≡ b → cond (is_eq (bytes_cmp t (key_text p))) (Some k) (node_at_key B t) ≡ Some m → IsValidKey t × IsTrue (is_version_2 m)
    at true is h =
        let same : Some k ≡ Some m = ap (λ x. cond x (Some k) (node_at_key B t)) (sym is) ∙ h in
        let node_is : k ≡ m = cc in
        ((p, names, inl (same_text t (key_text p) is)), subst (λ x. IsTrue (is_version_2 x)) node_is kind)
    at false is h = fits t m (ap (λ x. cond x (Some k) (node_at_key B t)) (sym is) ∙ h)

-- what a meaning of version 2 adds fits
with_fits : (p : Path) (x : Meaning) (B : Block) → IsPath p → ((m : NodeMetadata) → x ≡ node m → IsTrue (is_version_2 m)) → Fitting B → Fitting (with_node p x B)
with_fits p (node m) B names kind fits = put_fits p m B names (kind m refl) fits
with_fits p nothing B names kind fits = fits
with_fits p (bad e) B names kind fits = fits

-- the block of documents that are good fits
from_fits : (of : Path → Meaning) (es : List (Segments × Data)) → ((p : Path) (m : NodeMetadata) → of p ≡ node m → IsTrue (is_version_2 m)) → list_all (λ e. is_good of e.0) es ≡ true
    → Fitting (block_from of es)
from_fits of [] kind good = λ t m e. cc
from_fits of (e ∷ es) kind good =
    let parts = and_parts (is_good of e.0) (list_all (λ d. is_good of d.0) es) good in
    let names = and_parts (list_all is_name (before_last e.0)) (not (is_bad (of (before_last e.0)))) parts.0 in
    with_fits (before_last e.0) (of (before_last e.0)) (block_from of es) names.0 (kind (before_last e.0)) (from_fits of es kind parts.1)

-- ---- the whole document

-- the first that there is, is one of both
first_cases : (o p : Option NodeMetadata) (m : NodeMetadata) → first_some o p ≡ Some m → (o ≡ Some m) ⊎ (p ≡ Some m)
first_cases (Some k) p m e = inl e
first_cases None p m e = inr e

-- a block whose nodes fit has valid keys and entries of version 2
fits_beside : (B : Block) → Fitting B → IsBeside (Some B)
fits_beside B fits = (
  λ t some. elim (node_at_key B t) as (λ o. node_at_key B t ≡ o → IsSome o → IsValidKey t) [
    | Some m ↦ λ at _. (fits t m at).0
    | None ↦ λ at none. absurd (true≢false (sym none))
  ] refl some,
  λ e h. ⊎_elim (λ plain. (fits (key_text (h.0 ∷ h.1)) e.1 plain).1) (λ slashed. (fits (47 ∷ key_text (h.0 ∷ h.1)) e.1 slashed).1) (first_cases (node_at_key B (key_text (h.0 ∷ h.1))) (node_at_key B (47 ∷ key_text (h.0 ∷ h.1))) e.1 h.4),
)

-- by whether all documents are good
small_at : (numbers : Numbers) (b : Bool) (ms : Members) → list_all (λ e. is_good (small_meaning_in numbers (small [] ms)) e.0) (documents_below ms) ≡ b → (fault : MetadataFault)
    → IsBeside (result_ok (if b then Ok (block_from (small_meaning_in numbers (small [] ms)) (documents_below ms)) else Err fault))
small_at numbers true ms good fault = fits_beside _ (from_fits (small_meaning_in numbers (small [] ms)) (documents_below ms) (means_v2 (in_trees numbers) (small [] ms)) good)
small_at numbers false ms good fault = tt

-- the block of some members can be written
members_beside : (numbers : Numbers) (ms : Members) → IsBeside (result_ok (small_block_in numbers ms))
members_beside numbers ms = small_at numbers (list_all (λ e. is_good (small_meaning_in numbers (small [] ms)) e.0) (documents_below ms)) ms refl _

-- so can the block of a tree
tree_beside : (numbers : Numbers) (d : Data) → IsBeside (result_ok (zmetadata_in numbers d))
unfolding zmetadata_in
tree_beside numbers d = at (zmetadata_members_in numbers d)
  where
    at : (r : Result Members MetadataFault) → IsBeside (result_ok (r >>= small_block_in numbers))
    at (Ok ms) = members_beside numbers ms
    at (Err fault) = tt

-- and that of the document beside the metadata of a group
pub beside_read : (s : Contents) (p : Path) (m : GroupMetadata) → IsBeside (block_beside s p m)
beside_read s p m = at m
  where
    by_tree : (r : Result Data MetadataFault) → IsBeside (result_ok (r >>= zmetadata_in s.numbers))
    by_tree (Ok d) = tree_beside s.numbers d
    by_tree (Err fault) = tt

    by_bytes : (o : Option (List ℕ)) → IsBeside (option_and_then (λ bytes. result_ok (of_bytes (zmetadata_in s.numbers) bytes)) o)
    by_bytes None = tt
    by_bytes (Some bytes) = by_tree (tree_or_fault (json_of bytes))

    at : (m : GroupMetadata) → IsBeside (block_beside s p m)
    at (V3 g) = tt
    at (V2 g) = by_bytes (get s.values (p ++ zmetadata ∷ []))

-- ---- what refuses to write it
