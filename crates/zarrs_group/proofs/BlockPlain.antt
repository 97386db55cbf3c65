-- The block beside the metadata of a version 2 group: its faults, key by key, and what is written of it where it has none.
use Rattle.std.proofs.Common.{◌≡◌, ◌≢◌, ◌==◌, ℕ, length, arith, Bool, true, false, cond, not, ◌||◌, ◌&&◌, if◌then◌else◌, List, [], ◌∷◌, ◌++◌, Option, Some, None, is_some, String, Global, string_bytes, IsTrue, codes, refl, sym, ap, ◌∙◌}
use Rattle.std.specs.List.{list_all, list_any, slice_split, onto_first}
use Rattle.std.proofs.lemmas.Bool.{and_parts, eqb-true}
use Rattle.serde_json.specs.Data.{Data, Members, no_members, member}
use Rattle.serde_json.specs.Written.{has_float, members_have_float}
use Rattle.zarrs_store.specs.Segments.{is_slash, key_text}
use Rattle.zarrs_fault.specs.declared.fault.MetadataFault.{MetadataFault}
use Rattle.zarrs_fault.specs.declared.fault.MetadataFault.TheVariants.{UnsupportedNumber, BadMember}
use Rattle.zarrs_path.specs.Paths.{Path, parts, relative_names, without_leading_slash}
use Rattle.zarrs_form.specs.Forms.{is_nil}
use Rattle.zarrs_form.proofs.AttributeLaws.{not_true}
use Rattle.zarrs_form.proofs.MemberLaws.{no_float-put}
use Rattle.zarrs_meta.specs.ArrayV2.{is_plain_array_v2}
use Rattle.zarrs_meta.specs.GroupV2.{is_plain_group_v2}
use Rattle.zarrs_fault.specs.declared.numbers.Numbers.{Numbers}
use Rattle.zarrs_fault.specs.declared.numbers.Numbers.TheVariants.{Whole, Any}
use Rattle.zarrs_meta.specs.Node.{node_tree, is_plain_node, is_plain_node_in, array_without_attributes, group_without_attributes}
use Rattle.zarrs_meta.specs.declared.array_v2.ArrayMetadataV2.{ArrayMetadataV2}
use Rattle.zarrs_meta.specs.declared.group_v2.GroupMetadataV2.{GroupMetadataV2}
use Rattle.zarrs_meta.specs.declared.node.ArrayMetadata.TheVariants.{V2 as array_v2, V3 as array_v3}
use Rattle.zarrs_meta.specs.declared.node.GroupMetadata.TheVariants.{V2 as group_v2, V3 as group_v3}
use Rattle.zarrs_meta.specs.declared.node.NodeMetadata.{NodeMetadata}
use Rattle.zarrs_meta.specs.declared.node.NodeMetadata.TheVariants.{Group, Array}
use Rattle.zarrs_meta.proofs.ArrayV2Laws as A2
use Rattle.zarrs_meta.proofs.ArrayV3Laws as A3
use Rattle.zarrs_meta.proofs.GroupV2Laws as G2
use Rattle.zarrs_meta.proofs.GroupV3Laws as G3
use Rattle.zarrs_meta.proofs.NodeLaws.{node_no_float}
use Rattle.zarrs_block.specs.Block.{Block}
use Rattle.zarrs_block.specs.BlockExpansion.{is_covered, path_at, paths_at, pairs_at, with_pair}
use Rattle.zarrs_block.specs.Zmetadata.{attributes_written, node_written, nodes_written, put_documents, zmetadata_tree}
use Rattle.zarrs_block.proofs.BlockLaws.{shown}
use Rattle.zarrs_block.proofs.KeyLaws.{no_slash}
use Rattle.zarrs_group.specs.Plain.{node_fields, node_exceeds, entries_of, block_fault_in, group_v2_fault_in}
use Rattle.zarrs_group.proofs.PlainLaws.{plain_v2, plain_without}

-- ---- a plain node

-- the additional fields of a plain node have no float
fields_fit : (m : NodeMetadata) → IsTrue (is_plain_node m) → members_have_float (node_fields m) ≡ false
fields_fit (Group (group_v3 m)) plain = (G3.plain_group_v3 m plain).1
fields_fit (Group (group_v2 m)) plain = (G2.plain_group_v2 m plain).1
fields_fit (Array (array_v3 m)) plain = not_true (members_have_float m.additional_fields) (A3.plain_parts m plain).7
fields_fit (Array (array_v2 m)) plain = (A2.plain_array_v2 m plain).6

-- a node that is plain in some numbers has none beyond them
none_beyond : (numbers : Numbers) (m : NodeMetadata) → is_plain_node_in numbers m ≡ true → node_exceeds numbers m ≡ false
none_beyond Whole m plain =
    let tree : has_float (node_tree m) ≡ false = node_no_float m plain in
    let fields : members_have_float (node_fields m) ≡ false = fields_fit m plain in
    rw (tree, fields) refl
none_beyond Any m plain = refl

-- ---- the fault, key by key

-- the entries of the keys that are left
abbrev pub entries_left : Block → Block → List (Path × NodeMetadata)
entries_left B left = pairs_at (paths_at [] B left) left

-- the fault of the entries that are left, where an earlier one clashes or none does
abbrev pub fault_left : Numbers → Bool → List (Path × NodeMetadata) → Option MetadataFault
fault_left numbers clash es =
    if list_any (λ e. node_exceeds numbers e.1) es then Some UnsupportedNumber
    else if not clash && list_all (λ e. is_plain_node_in numbers e.1) es then None
    else Some (BadMember (codes "metadata"))

-- a node that is plain changes nothing
plain_passes : (numbers : Numbers) (clash : Bool) (o : Option Path) (m : NodeMetadata) (es : List (Path × NodeMetadata)) → is_plain_node_in numbers m ≡ true → fault_left numbers clash (with_pair o m es) ≡ fault_left numbers clash es
plain_passes numbers clash None m es plain = refl
plain_passes numbers clash (Some p) m es plain = let fits : node_exceeds numbers m ≡ false = none_beyond numbers m plain in rw (fits, plain) refl

-- nor does a key that is none of an entry
other_passes : (numbers : Numbers) (clash : Bool) (o : Option Path) (m : NodeMetadata) (es : List (Path × NodeMetadata)) → is_some o ≡ false → fault_left numbers clash (with_pair o m es) ≡ fault_left numbers clash es
other_passes numbers clash None m es none = refl
other_passes numbers clash (Some p) m es none = cc

-- one more key, whose entry changes nothing
pass_by : (numbers : Numbers) (B : Block) (clash : Bool) (left : List (String Global × NodeMetadata)) (e : String Global × NodeMetadata) (es : List (String Global × NodeMetadata)) → left ≡ e ∷ es
    → fault_left numbers clash (with_pair (path_at [] B (string_bytes e.0)) e.1 (entries_left B (shown es))) ≡ fault_left numbers clash (entries_left B (shown es))
    → fault_left numbers clash (entries_left B (shown left)) ≡ block_fault_in numbers B → fault_left numbers clash (entries_left B (shown es)) ≡ block_fault_in numbers B
pass_by numbers B clash left e es is step h = sym step ∙ ap (λ xs. fault_left numbers clash (entries_left B (shown xs))) (sym is) ∙ h

-- a key with a plain node is passed
pub pass_plain : (numbers : Numbers) (B : Block) (clash : Bool) (left : List (String Global × NodeMetadata)) (e : String Global × NodeMetadata) (es : List (String Global × NodeMetadata)) → left ≡ e ∷ es
    → is_plain_node_in numbers e.1 ≡ true → fault_left numbers clash (entries_left B (shown left)) ≡ block_fault_in numbers B → fault_left numbers clash (entries_left B (shown es)) ≡ block_fault_in numbers B
pass_plain numbers B clash left e es is plain = pass_by numbers B clash left e es is (plain_passes numbers clash (path_at [] B (string_bytes e.0)) e.1 (entries_left B (shown es)) plain)

-- so is a key that is that of no entry
pub pass_other : (numbers : Numbers) (B : Block) (clash : Bool) (left : List (String Global × NodeMetadata)) (e : String Global × NodeMetadata) (es : List (String Global × NodeMetadata)) (t : List ℕ) → left ≡ e ∷ es
    → t ≡ string_bytes e.0 → is_some (path_at [] B t) ≡ false → fault_left numbers clash (entries_left B (shown left)) ≡ block_fault_in numbers B → fault_left numbers clash (entries_left B (shown es)) ≡ block_fault_in numbers B
pass_other numbers B clash left e es t is key none =
    pass_by numbers B clash left e es is (other_passes numbers clash (path_at [] B (string_bytes e.0)) e.1 (entries_left B (shown es)) (ap (λ x. is_some (path_at [] B x)) (sym key) ∙ none))

-- ---- which keys are those of entries

-- a text that is not empty has parts
some_parts : (ps : List (List ℕ)) (c : ℕ) → is_nil (onto_first c ps) ≡ false
some_parts [] c = refl
some_parts (p ∷ ps) c = refl

-- only the empty text has no parts
pub parts_nil : (t : List ℕ) → is_nil (parts t) ≡ is_nil t
parts_nil [] = refl
parts_nil (c ∷ t) = at (is_slash c)
  where
    at : (b : Bool) → is_nil (cond b ([] ∷ slice_split is_slash t) (onto_first c (slice_split is_slash t))) ≡ false
    at true = refl
    at false = some_parts (slice_split is_slash t) c

-- only the empty text has no length
pub no_length : (t : List ℕ) → (length t == 0) ≡ is_nil t
no_length [] = refl
no_length (c ∷ t) = grind arith

-- whether there is a path, by the tests
some_path : (a b : Bool) (p : Path) → is_some (if a || b then None else Some p) ≡ (not a && not b)
some_path true b p = refl
some_path false true p = refl
some_path false false p = refl

-- a key that begins with no slash is that of an entry where it is not empty
pub bare_entry : (B : Block) (t : List ℕ) → ((rest : List ℕ) → t ≢ 47 ∷ rest) → not (is_nil t) ≡ is_some (path_at [] B t)
bare_entry B t bare =
    let names : is_nil (relative_names t) ≡ is_nil t = ap (λ x. is_nil (parts x)) (itself t bare) ∙ parts_nil t in
    let covered : is_covered B t ≡ false = sym (no_slash B t bare) in
    sym (some_path (is_nil (relative_names t)) (is_covered B t) _ ∙ rw (names, covered) (and_true (not (is_nil t))))
  where
    and_true : (b : Bool) → (b && true) ≡ b
    and_true true = refl
    and_true false = refl

    itself : (t : List ℕ) → ((rest : List ℕ) → t ≢ 47 ∷ rest) → without_leading_slash t ≡ t
    itself [] bare = refl
    itself (c ∷ t) bare =
        elim (is_slash c) as (λ b. is_slash c ≡ b → cond b t (c ∷ t) ≡ c ∷ t) [
          | true ↦ λ s. absurd (bare t (ap (λ d. d ∷ t) (eqb-true c 47 s)))
          | false ↦ λ _. refl
        ] refl

-- ---- what is written

-- a plain array is plain without its attributes
plain_array_without : (m : ArrayMetadataV2) → IsTrue (is_plain_array_v2 m) → IsTrue (is_plain_array_v2 (array_without_attributes m))
plain_array_without m plain = let p = A2.plain_array_v2 m plain in rw (p.0, p.1, p.2, p.3, p.4, p.6, p.7) refl

-- documents without a float are put without one
put_fits : (p : Path) (es : List (List ℕ × Data)) (ms : Members) → list_all (λ e. not (has_float e.1)) es ≡ true → members_have_float ms ≡ false → members_have_float (put_documents p es ms) ≡ false
put_fits p [] ms all fits = fits
put_fits p (e ∷ es) ms all fits =
    let both = and_parts (not (has_float e.1)) (list_all (λ d. not (has_float d.1)) es) all in
    no_float-put (key_text (p ++ e.0 ∷ [])) e.1 (put_documents p es ms) (not_true (has_float e.1) both.0) (put_fits p es ms both.1 fits)

-- attributes without a float are written without one
attributes_fit : (a : Members) → members_have_float a ≡ false → list_all (λ e. not (has_float e.1)) (attributes_written a) ≡ true
attributes_fit no_members fits = refl
attributes_fit (member k d ms) fits = rw fits refl

-- a plain node is written without a float
written_fit : (m : NodeMetadata) → is_plain_node m ≡ true → list_all (λ e. not (has_float e.1)) (node_written m) ≡ true
written_fit (Group (group_v2 m)) plain =
    let attributes = attributes_fit m.attributes (not_true (members_have_float m.attributes) (G2.plain_group_v2 m plain).0) in
    let tree = G2.group_v2_no_float (group_without_attributes m) (plain_without Whole m plain) in
    rw (tree, attributes) refl
written_fit (Group (group_v3 m)) plain = refl
written_fit (Array (array_v2 m)) plain =
    let attributes = attributes_fit m.attributes (not_true (members_have_float m.attributes) (A2.plain_array_v2 m plain).5) in
    let tree = A2.array_v2_no_float (array_without_attributes m) (plain_array_without m plain) in
    rw (tree, attributes) refl
written_fit (Array (array_v3 m)) plain = refl

-- so are plain nodes
nodes_fit : (es : List (Path × NodeMetadata)) → list_all (λ e. is_plain_node e.1) es ≡ true → members_have_float (nodes_written es) ≡ false
nodes_fit [] all = refl
nodes_fit (e ∷ es) all =
    let both = and_parts (is_plain_node e.1) (list_all (λ d. is_plain_node d.1) es) all in
    put_fits e.0 (node_written e.1) (nodes_written es) (written_fit e.1 both.0) (nodes_fit es both.1)

-- without a fault all are plain
pub all_plain : (a b : Bool) (f g : MetadataFault) → (if a then Some f else if b then None else Some g) ≡ None → b ≡ true
all_plain true b f g h = cc
all_plain false true f g h = refl
all_plain false false f g h = cc

-- what is written of a plain version 2 group and a plain block has no float
pub tree_fits : (g : GroupMetadataV2) (B : Block) → group_v2_fault_in Whole g ≡ None → block_fault_in Whole B ≡ None → has_float (zmetadata_tree g B) ≡ false
tree_fits g B own others =
    let entries : list_all (λ e. is_plain_node e.1) (entries_of B) ≡ true = all_plain (list_any (λ e. node_exceeds Whole e.1) (entries_of B)) _ UnsupportedNumber (BadMember (codes "metadata")) others in
    let group : is_plain_group_v2 g ≡ true = plain_v2 Whole g own in
    let all : list_all (λ e. is_plain_node e.1) (([], Group (group_v2 g)) ∷ entries_of B) ≡ true = rw (group, entries) refl in
    let fits : members_have_float (nodes_written (([], Group (group_v2 g)) ∷ entries_of B)) ≡ false = nodes_fit (([], Group (group_v2 g)) ∷ entries_of B) all in
    rw fits refl
