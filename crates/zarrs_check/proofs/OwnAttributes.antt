-- The attributes that a document `.zmetadata` has of its own group: what it means at the group itself, by look-ups among its members, and what is told of that.
use Rattle.std.proofs.Common.{◌≡◌, ◌≢◌, ◌↔◌, Bool, true, false, true≢false, not, IsTrue, ℕ, List, [], ◌∷◌, Option, Some, None, Result, Ok, Err, refl, sym, ap, subst, ◌∙◌}
use Rattle.std.specs.Prelude.{codes, option_map, option_and_then}
use Rattle.std.specs.FinMap.{get}
use Rattle.std.specs.Result.{result_ok}
use Rattle.serde_json.specs.Data.{Data, null, boolean, number, string, array, object, Members}
use Rattle.serde_json.specs.Find.{as_object, get_member}
use Rattle.serde_json.specs.Find.{get as get_data}
use Rattle.zarrs_fault.specs.declared.fault.MetadataFault.{MetadataFault}
use Rattle.zarrs_fault.specs.declared.numbers.Numbers.{Numbers}
use Rattle.zarrs_path.specs.Keys.{zarray, zgroup, zattrs}
use Rattle.zarrs_form.specs.Documents.{◌>>=◌, document_in, form_or_fault, json_of, member_or_fault, required_member, tree_or_fault}
use Rattle.zarrs_meta.specs.ArrayV2.{array_v2_in}
use Rattle.zarrs_meta.specs.Attributes.{attributes_document_in}
use Rattle.zarrs_meta.specs.GroupV2.{group_v2_in}
use Rattle.zarrs_meta.specs.Node.{array_with, group_with}
use Rattle.zarrs_meta.specs.declared.attributes.AttributesDocument.{AttributesDocument}
use Rattle.zarrs_meta.specs.declared.node.ArrayMetadata.TheVariants.{V2 as array_v2}
use Rattle.zarrs_meta.specs.declared.node.GroupMetadata.TheVariants.{V2 as group_v2}
use Rattle.zarrs_meta.specs.declared.node.NodeMetadata.{NodeMetadata}
use Rattle.zarrs_meta.specs.declared.node.NodeMetadata.TheVariants.{Group, Array}
use Rattle.zarrs_block.specs.Block.{Block}
use Rattle.zarrs_meaning.specs.Meaning.{Meaning, node, nothing, bad}
use Rattle.zarrs_meaning.specs.Small.{small, small_meaning_in}
use Rattle.zarrs_block.specs.StepsOfZmetadata.{read_with, read_documents}
use Rattle.zarrs_block.specs.Zmetadata.{one, zmetadata_in, zmetadata_members_in}
use Rattle.zarrs_block.proofs.SmallLaws.{get_document}
use Rattle.zarrs_block.proofs.SmallStores.{as_read, small_read}
use Rattle.zarrs_compare.specs.StepsOfSame.{same_members}
use Rattle.zarrs_compare.proofs.SameData.{members_is, members_itself}
use Rattle.zarrs_check.specs.Checks.{attributes_meant, node_attributes, own_attributes_in}
use Rattle.zarrs_check.specs.StepsOfChecks.{block_with, compared_bytes}
use Rattle.zarrs_check.specs.StepsOfOwnAttributes.{attributes_beside, is_other, own_in_members, read_attributes}

-- ---- other attributes

-- the test tells whether there are attributes and they are others
pub other_says : (attributes : Members) (o : Option Members) → IsTrue (is_other attributes o) ↔ ((own : Members) × (o ≡ Some own) × (own ≢ attributes))
other_says attributes o = (from o, λ w. subst (λ x. IsTrue (is_other attributes x)) (sym w.1) (of w.0 w.2 (same_members w.0 attributes) refl))
  where
    from : (x : Option Members) → IsTrue (is_other attributes x) → (own : Members) × (x ≡ Some own) × (own ≢ attributes)
    from None is = absurd (true≢false (sym is))
    from (Some own) is = (own, refl, λ same. true≢false (sym is ∙ ap (λ a. not (same_members own a)) (sym same) ∙ ap not (members_itself own)))

    of : (own : Members) → own ≢ attributes → (t : Bool) → same_members own attributes ≡ t → IsTrue (not (same_members own attributes))
    of own other true is = absurd (other (members_is own attributes is))
    of own other false is = ap not is

-- and it is what a comparison says
pub other_is : (same : Bool) (own attributes : Members) → (IsTrue same ↔ (own ≡ attributes)) → not same ≡ is_other attributes (Some own)
other_is true own attributes says = sym (ap not (ap (same_members own) (sym (says.0 refl)) ∙ members_itself own))
other_is false own attributes says = by (same_members own attributes) refl
  where
    by : (t : Bool) → same_members own attributes ≡ t → true ≡ not (same_members own attributes)
    by true is = absurd (true≢false (sym (says.1 (members_is own attributes is))))
    by false is = sym (ap not is)

-- ---- what the members mean at the group itself

-- the attributes of the node that a path means are those of what its documents are read as
meant_read : (m : Meaning) → attributes_meant m ≡ option_and_then (option_map node_attributes) (as_read m)
meant_read (node m) = refl
meant_read nothing = refl
meant_read (bad e) = refl

module _ {D : Type 0} (numbers : Numbers) (document : Numbers → Data → Result D MetadataFault) (kind : D → NodeMetadata) (with' : AttributesDocument → D → D) (attributes : D → Members) (bare : (m : D) → node_attributes (kind m) ≡ attributes m)
    (full : (a : AttributesDocument) (m : D) → node_attributes (kind (with' a m)) ≡ a.0) where
  -- without attributes beside it
  bare_line : (r : Result D MetadataFault) → option_and_then (option_map node_attributes) (result_ok ((r >>= λ m. Ok (kind m)) >>= λ m. Ok (Some m))) ≡ option_and_then (λ o. o) (result_ok (r >>= λ m. attributes_beside numbers None (attributes m) >>= λ a. Ok (Some a)))
  bare_line (Ok m) = ap (λ a. Some a) (bare m)
  bare_line (Err e) = refl

  -- with attributes beside it
  full_line : (r : Result D MetadataFault) (q : Result AttributesDocument MetadataFault)
      → option_and_then (option_map node_attributes) (result_ok ((r >>= λ m. q >>= λ x. Ok (kind (with' x m))) >>= λ m. Ok (Some m))) ≡ option_and_then (λ o. o) (result_ok (r >>= λ m. (q >>= λ x. Ok x.0) >>= λ a. Ok (Some a)))
  full_line (Ok m) (Ok x) = ap (λ a. Some a) (full x m)
  full_line (Ok m) (Err e) = refl
  full_line (Err e) (Ok x) = refl
  full_line (Err e) (Err f) = refl

  -- a document with the attributes beside it
  line_attributes : (d : Data) (t : Option Data) → option_and_then (option_map node_attributes) (result_ok (read_with numbers document kind with' d t >>= λ m. Ok (Some m)))
      ≡ option_and_then (λ o. o) (result_ok (document numbers d >>= λ m. attributes_beside numbers t (attributes m) >>= λ a. Ok (Some a)))
  line_attributes d None = bare_line (document numbers d)
  line_attributes d (Some a) = full_line (document numbers d) (attributes_document_in numbers a)

-- the attributes of what three documents are read as are those that they are read as
read_same : (numbers : Numbers) (a g t : Option Data) → option_and_then (option_map node_attributes) (result_ok (read_documents numbers a g t)) ≡ option_and_then (λ o. o) (result_ok (read_attributes numbers a g t))
read_same numbers (Some d) g t = line_attributes numbers array_v2_in (λ m. Array (array_v2 m)) array_with (λ m. m.attributes) (λ m. refl) (λ x m. refl) d t
read_same numbers None (Some d) t = line_attributes numbers group_v2_in (λ m. Group (group_v2 m)) group_with (λ m. m.attributes) (λ m. refl) (λ x m. refl) d t
read_same numbers None None t = refl

-- what members mean at the group itself has the attributes that they have of it
pub own_meant : (numbers : Numbers) (ms : Members) → attributes_meant (small_meaning_in numbers (small [] ms) []) ≡ own_in_members numbers ms
own_meant numbers ms =
    meant_read (small_meaning_in numbers (small [] ms) [])
    ∙ ap (option_and_then (option_map node_attributes)) (small_read numbers (small [] ms) [])
    ∙ read_same numbers (get (small [] ms) (zarray ∷ [])) (get (small [] ms) (zgroup ∷ [])) (get (small [] ms) (zattrs ∷ []))
    ∙ (λ i. option_and_then (λ o. o) (result_ok (read_attributes numbers (get_document [] [] zarray ms refl refl i) (get_document [] [] zgroup ms refl refl i) (get_document [] [] zattrs ms refl refl i))))

-- and so has a document with these members
own_of_members : (numbers : Numbers) (d : Data) (ms : Members) → zmetadata_members_in numbers d ≡ Ok ms → own_attributes_in numbers d ≡ own_in_members numbers ms
own_of_members numbers d ms is = ap (λ r. option_and_then (λ xs. attributes_meant (small_meaning_in numbers (small [] xs) [])) (result_ok r)) is ∙ own_meant numbers ms

-- what is a tree is that tree
tree_of : (o : Option Data) (d : Data) → tree_or_fault o ≡ Ok d → o ≡ Some d
tree_of None d is = cc
tree_of (Some x) d is = ap result_ok is

-- where the bytes are a document with a block, they are read as the block with the test of its members
pub compared : (numbers : Numbers) (attributes : Members) (bytes : List ℕ) (d : Data) (B : Block) (other : Bool) (ms : Members) → tree_or_fault (json_of bytes) ≡ Ok d → zmetadata_in numbers d ≡ Ok B → zmetadata_members_in numbers d ≡ Ok ms
    → other ≡ is_other attributes (own_in_members numbers ms) → compared_bytes numbers attributes bytes ≡ Ok (B, other)
compared numbers attributes bytes d B other ms tree block members is =
    ap (λ o. block_with (is_other attributes (option_and_then (own_attributes_in numbers) o)) (tree_or_fault o >>= zmetadata_in numbers)) (tree_of (json_of bytes) d tree)
    ∙ ap (block_with (is_other attributes (own_attributes_in numbers d))) block
    ∙ ap (λ t. Ok (B, t)) (ap (is_other attributes) (own_of_members numbers d ms members) ∙ sym is)

-- ---- the members of a document

-- where two steps answer a value, the second does of what the first answered
both_steps : {A B : Type 0} (r : Result A MetadataFault) (f : A → Result B MetadataFault) (x : B) → (r >>= f) ≡ Ok x → (a : A) × (f a ≡ Ok x)
both_steps (Ok a) f x is = (a, is)
both_steps (Err e) f x is = cc

-- a member that has to be there and is an object
found_members : (o : Option Data) (ms : Members) → (member_or_fault (codes "metadata") o >>= λ v. form_or_fault (codes "metadata") (as_object v)) ≡ Ok ms → option_and_then as_object o ≡ Some ms
found_members None ms is = cc
found_members (Some v) ms is = by (as_object v) is
  where
    by : (o : Option Members) → form_or_fault (codes "metadata") o ≡ Ok ms → o ≡ Some ms
    by None is = cc
    by (Some x) is = ap result_ok is

-- a member of an object
member_of : (d : Data) → get_data (codes "metadata") d ≡ option_and_then (get_member (codes "metadata")) (as_object d)
member_of null = refl
member_of (boolean b) = refl
member_of (number n) = refl
member_of (string s) = refl
member_of (array ds) = refl
member_of (object ms) = refl

-- a document's members are those of its member `metadata`
pub members_there : (numbers : Numbers) (d : Data) (ms : Members) → zmetadata_members_in numbers d ≡ Ok ms → option_and_then as_object (option_and_then (get_member (codes "metadata")) (as_object d)) ≡ Some ms
members_there numbers d ms is =
    let first = both_steps (document_in numbers d) (λ _. required_member (codes "zarr_consolidated_format") one d >>= λ _. required_member (codes "metadata") as_object d) ms is in
    let second = both_steps (required_member (codes "zarr_consolidated_format") one d) (λ _. required_member (codes "metadata") as_object d) ms first.1 in
    ap (option_and_then as_object) (sym (member_of d)) ∙ found_members (get_data (codes "metadata") d) ms second.1
