-- A group whose block was made of a forest gives that forest back.
use Rattle.std.proofs.Common.{◌≡◌, ◌≢◌, ◌≤◌, ◌==◌, ◌&&◌, ℕ, ◌⊎◌, inl, inr, ⊎_elim, ◌↔◌, Bool, true, false, if◌then◌else◌, List, [], ◌∷◌, ◌++◌, Option, Some, None, option_and_then, Result, Ok, Err, IsSome, true≢false, codes, refl, sym, ap, ap₂, subst, ◌∙◌, Contains}
use Rattle.std.specs.FinMap as map
use Rattle.std.proofs.lemmas.Bool.{eqb-true}
use Rattle.std.proofs.lemmas.List.{append_cancel_left}
use Rattle.serde_json.specs.Data.{Data, Members, depth}
use Rattle.serde_json.specs.Find.{get, as_number, as_u64}
use Rattle.serde_json.specs.Read.{max_depth}
use Rattle.zarrs_store.specs.Segments.{Segments, segments_of}
use Rattle.zarrs_store.specs.Contents.{Contents, Lists}
use Rattle.zarrs_store.specs.declared.storage_error.StorageError.TheVariants.{Fault, InvalidMetadata, Other, OutOfMemory as NoStoreMemory}
use Rattle.zarrs_store.specs.declared.prefix.StorePrefixError.TheVariants.{Invalid as InvalidPrefix, OutOfMemory as NoPrefixMemory}
use Rattle.zarrs_fault.specs.declared.fault.MetadataFault.{MetadataFault}
use Rattle.zarrs_fault.specs.declared.fault.MetadataFault.TheVariants.{WrongFormat}
use Rattle.zarrs_fault.specs.declared.numbers.Numbers.{Numbers}
use Rattle.zarrs_path.specs.Keys.{zarr_json}
use Rattle.zarrs_path.specs.Paths.{Path, IsPath, path_text}
use Rattle.zarrs_path.specs.declared.node_path.NodePathError.TheVariants.{Invalid as InvalidPath, OutOfMemory as NoPathMemory}
use Rattle.zarrs_path.proofs.PathTexts.{segments_of-path_text}
use Rattle.zarrs_config.specs.declared.version.MetadataRetrieveVersion.{MetadataRetrieveVersion}
use Rattle.zarrs_config.specs.declared.version.MetadataRetrieveVersion.TheVariants as retrieve
use Rattle.zarrs_config.specs.declared.version.UseConsolidatedMetadata.{UseConsolidatedMetadata}
use Rattle.zarrs_config.specs.declared.version.UseConsolidatedMetadata.TheVariants.{Auto, Must, Never}
use Rattle.zarrs_form.specs.Documents.{◌>>=◌, json_of, tree_or_fault, of_bytes, document_in, format_of, node_type_of}
use Rattle.zarrs_meta.specs.GroupV3.{group_v3_in}
use Rattle.zarrs_meta.specs.Node.{node_in, zarr_json_in}
use Rattle.zarrs_meta.specs.declared.group_v2.GroupMetadataV2.{GroupMetadataV2}
use Rattle.zarrs_meta.specs.declared.group_v3.GroupMetadataV3.{GroupMetadataV3}
use Rattle.zarrs_meta.specs.declared.node.GroupMetadata.{GroupMetadata}
use Rattle.zarrs_meta.specs.declared.node.GroupMetadata.TheVariants.{V3, V2}
use Rattle.zarrs_meta.specs.declared.node.ZarrJson.TheVariants.{Node}
use Rattle.zarrs_meta.specs.declared.node.NodeMetadata.{NodeMetadata}
use Rattle.zarrs_meta.specs.declared.node.NodeMetadata.TheVariants.{Group}
use Rattle.zarrs_block.specs.Block.{Block, Entries, HasValidKeys, IsValidKey, block_of_in, block_tree, node_at_key}
use Rattle.zarrs_block.proofs.MoreBlocks.{block_too}
use Rattle.zarrs_block.specs.Zmetadata.{HasVersion2}
use Rattle.zarrs_block.specs.Policy.{use_block, block_to_use}
use Rattle.zarrs_meaning.specs.Refusals.{LacksMemory, IsExcused}
use Rattle.zarrs_block.specs.BlockExpansion.{NamesBadKey}
use Rattle.zarrs_meaning.specs.declared.node_create_error.NodeCreateError.{NodeCreateError}
use Rattle.zarrs_meaning.specs.declared.node_create_error.NodeCreateError.TheVariants as made
use Rattle.zarrs_node.specs.BlocksBelow.{block_at}
use Rattle.zarrs_node.specs.Forest.{Forest, pairs, Shows}
use Rattle.zarrs_meaning.specs.DocumentsAtKeys.{in_bytes, document_at, document_from, document_or_fault}
use Rattle.zarrs_meaning.specs.Meaning.{Meaning, node, nothing, bad, version_3_line, zarr_json_line, meaning_in, meaning, zarray_line, zgroup_line}
use Rattle.zarrs_node.specs.Inverse.{HasNames, IsInverse}
use Rattle.zarrs_node.specs.Reach.{Kept}
use Rattle.zarrs_node.specs.OpeningNodes.{ShowsChosen, RefusesChosen, ShowsBelow, RefusesOpening, RefusesText, RefusesNode}
use Rattle.zarrs_node.specs.OpeningNodes as opened
use Rattle.zarrs_node.proofs.walk.Child.{node_same}
use Rattle.zarrs_node.proofs.ListedItems.{listed_each, lists_from}
use Rattle.zarrs_node.proofs.Inverse.{block_gives_back, entries_are}
use Rattle.zarrs_node.proofs.KeptPairs.{kept_same, placed_between}
use Rattle.zarrs_node.proofs.Unique.{one_forest}
use Rattle.zarrs_group.specs.Groups.{GroupState, group_tree}
use Rattle.zarrs_group.specs.Meaning.{MeansGroup, group_v3_line, group_line, group_meaning}
use Rattle.zarrs_group.specs.BlocksOfGroups.{held_in, held_by_in, with_block, beside_with, metadata_with, Fits, MetadataHold}
use Rattle.zarrs_group.specs.Children.{is_listed, ListsChosen}
use Rattle.zarrs_group.specs.Laws.{MeansStored}
use Rattle.zarrs_group.specs.GivesBack.{Consolidates, ConsolidatesIn, ConsolidatesV2, GivesBack, GroupGivesBack, GroupV2GivesBack, OpensTo, StoredGivesBack, StoredGivesBackIn}
use Rattle.zarrs_group.proofs.BlockFields.{held_as_read, held_once_set}
use Rattle.zarrs_fault.specs.declared.numbers.Numbers.TheVariants.{Whole}

-- a block that is there is used, where the policy is not Never
pub used_there : (B : Block) (policy : UseConsolidatedMetadata) → policy ≢ Never → block_to_use (Some B) policy ≡ use_block B
used_there B Never not = absurd (not refl)
used_there B Auto not = refl
used_there B Must not = refl

-- where no store can fail, only out of memory is excused
lacks_memory : (e : NodeCreateError) → IsExcused false e → LacksMemory e
lacks_memory (made.NodePathError (InvalidPath text)) h = h
lacks_memory (made.NodePathError NoPathMemory) h = h
lacks_memory (made.StorePrefixError (InvalidPrefix text)) h = h
lacks_memory (made.StorePrefixError NoPrefixMemory) h = h
lacks_memory (made.StorageError Fault) h = absurd (true≢false (sym h))
lacks_memory (made.StorageError (InvalidMetadata key fault)) h = h
lacks_memory (made.StorageError (Other text)) h = h
lacks_memory (made.StorageError NoStoreMemory) h = h
lacks_memory made.MetadataVersionMismatch h = h
lacks_memory (made.MissingMetadata text) h = h
lacks_memory made.OutOfMemory h = h

-- where all keys are valid none is named
pub no_bad_key : (B : Block) → HasValidKeys B → (e : NodeCreateError) → NamesBadKey B e → ⊥
no_bad_key B valid (made.NodePathError (InvalidPath text)) h = h.2 (valid h.0 h.1)
no_bad_key B valid (made.NodePathError NoPathMemory) h = h
no_bad_key B valid (made.StorePrefixError e) h = h
no_bad_key B valid (made.StorageError e) h = h
no_bad_key B valid made.MetadataVersionMismatch h = h
no_bad_key B valid (made.MissingMetadata text) h = h
no_bad_key B valid made.OutOfMemory h = h

-- a group that holds the block of a forest: its block is the one that is used
module _ (g : GroupState) (f : Forest) (B : Block) (valid : HasValidKeys B)
    (entries : (e : Path × NodeMetadata) → Entries B g.path e ↔ Contains (pairs f) e) (one : (t : Forest) → Shows t g.path (Kept (Entries B g.path) true g.path) → t ≡ f) where
  -- it is the block that is used
  is_chosen : (numbers : Numbers) (policy : UseConsolidatedMetadata) → held_by_in numbers g ≡ Some B → policy ≢ Never → block_to_use (held_by_in numbers g) policy ≡ use_block B
  is_chosen numbers policy holds not = ap (λ h. block_to_use h policy) holds ∙ used_there B policy not

  -- what such a choice shows is the forest
  chosen_shows : (s : Contents) (v : MetadataRetrieveVersion) (policy : UseConsolidatedMetadata) → held_by_in s.numbers g ≡ Some B → policy ≢ Never → (t : Forest)
      → ShowsChosen s v (block_to_use (held_by_in s.numbers g) policy) true g.path t → t ≡ f
  chosen_shows s v policy holds not t shows = one t (subst (λ c. ShowsChosen s v c true g.path t) (is_chosen s.numbers policy holds not) shows)

  -- and nothing refuses it
  chosen_clean : (s : Contents) (v : MetadataRetrieveVersion) (policy : UseConsolidatedMetadata) → held_by_in s.numbers g ≡ Some B → policy ≢ Never → (e : NodeCreateError)
      → RefusesChosen s v (block_to_use (held_by_in s.numbers g) policy) true g.path e → ⊥
  chosen_clean s v policy holds not e h = no_bad_key B valid e (subst (λ c. RefusesChosen s v c true g.path e) (is_chosen s.numbers policy holds not) h)

  -- the entries of the block are the pairs
  pairs_are : (es : List (Path × NodeMetadata)) → Lists (Entries B g.path) es → Lists (Contains (pairs f)) es
  pairs_are es l = lists_from es (λ e. (λ h. (entries e).0 ((listed_each l e).0 h), λ h. (listed_each l e).1 ((entries e).1 h))) l.each_once

  -- what is listed by such a choice are the entries
  listed_by : (s : Contents) (policy : UseConsolidatedMetadata) → block_to_use (held_by_in s.numbers g) policy ≡ use_block B
      → (es : List (Path × NodeMetadata)) → ListsChosen s (block_to_use (held_by_in s.numbers g) policy) g.path es → Lists (Entries B g.path) es
  listed_by s policy is es l = subst (λ c. ListsChosen s c g.path es) is l

  -- so the group gives the forest back
  pub gives_back : ((numbers : Numbers) → held_by_in numbers g ≡ Some B) → GivesBack g f
  gives_back holds = record {
    children = λ s config not t shows. chosen_shows s retrieve.Default config.use_consolidated (holds s.numbers) not t shows;
    traversed = λ s config not es lists. pairs_are es (listed_by s config.use_consolidated (is_chosen s.numbers config.use_consolidated (holds s.numbers) not) es lists);
    excused = λ s config not can_fail e h. ⊎_elim (λ k. lacks_memory e (subst (λ c. IsExcused (is_listed c && can_fail) e) (is_chosen s.numbers config.use_consolidated (holds s.numbers) not) k)) (λ k. absurd (chosen_clean s retrieve.Default config.use_consolidated (holds s.numbers) not e k)) h;
  }

-- the block of a listed forest that is plain in some numbers has the forest in it
inverse : (numbers : Numbers) (of : Path → Meaning) (g : GroupState) (f : Forest) (B : Block) → ConsolidatesIn numbers of g f B → IsInverse numbers g.path f B
inverse numbers of g f B from =
    block_gives_back numbers g.path f B from.listed.placed (λ e in'. ((listed_each from.listed.shown e).0 in').0.below) from.plain from.ascending from.block

-- where it is plain in whole numbers, the group holds it in whatever numbers it is read
holds : (of : Path → Meaning) (g : GroupState) (f : Forest) (B : Block) → Consolidates of g f B → (numbers : Numbers) → held_by_in numbers (with_block g (Some B)) ≡ Some B
holds of g f B from numbers = held_as_read numbers g B (block_too numbers (block_tree B) B (inverse Whole of g f B from).read_back)

-- a version 3 group with the block of a listed forest gives the forest back
pub group_gives_back : GroupGivesBack
group_gives_back of g f B from =
    let back = inverse Whole of g f B from in
    gives_back (with_block g (Some B)) f B back.valid back.entries back.one_forest (holds of g f B from)

-- ---- of version 2

module _ (of : Path → Meaning) (g : GroupState) (f : Forest) (B : Block) (from : ConsolidatesV2 of g f B) where
  -- each pair stands at names below the group
  names : HasNames g.path (pairs f)
  names e in' = ((listed_each from.listed.shown e).0 in').0.below

  -- the entries of the block are the pairs
  pub same_pairs : (e : Path × NodeMetadata) → Entries B g.path e ↔ Contains (pairs f) e
  same_pairs = entries_are (Contains (pairs f)) g.path B names from.block

  -- each key is the text of names
  valid_at : (t : List ℕ) (m : NodeMetadata) → node_at_key B t ≡ Some m → IsValidKey t
  valid_at t m at =
      let w = (from.block t m).0 at in
      let pair = names (g.path ++ w.0 ∷ w.1, m) w.3 in
      (w.0 ∷ w.1, subst IsPath (sym (append_cancel_left g.path (w.0 ∷ w.1) (pair.0 ∷ pair.1) pair.2)) pair.3, inl w.2)

  -- so each key is valid
  pub keys_valid : HasValidKeys B
  keys_valid t some = elim (node_at_key B t) as (λ o. node_at_key B t ≡ o → IsSome o → IsValidKey t) [
    | Some m ↦ λ at _. valid_at t m at
    | None ↦ λ at none. absurd (true≢false (sym none))
  ] refl some

  -- the entries are of version 2
  pub entries_v2 : HasVersion2 B
  entries_v2 e h = from.nodes (g.path ++ h.0 ∷ h.1, e.1) ((same_pairs (g.path ++ h.0 ∷ h.1, e.1)).0 (h.0, h.1, h.2, refl, h.4))

  -- so the group takes the block
  takes : (m : GroupMetadata) → (k : GroupMetadataV2) × (m ≡ V2 k) → Fits m (Some B)
  takes m (k, is) = subst (λ x. Fits x (Some B)) (sym is) (keys_valid, entries_v2)

  -- and can hold it
  can_hold_v2 : (numbers : Numbers) (m : GroupMetadata) → (k : GroupMetadataV2) × (m ≡ V2 k) → MetadataHold numbers m (Some B)
  can_hold_v2 numbers m (k, is) = subst (λ x. MetadataHold numbers x (Some B)) (sym is) tt

  -- each pair is kept of what is the pairs
  kept_pair : (N : Path × NodeMetadata → Type 0) → ((e : Path × NodeMetadata) → N e ↔ Contains (pairs f) e) → (e : Path × NodeMetadata) → Contains (pairs f) e → Kept N true g.path e
  kept_pair N same e in' =
      (kept_same N (Contains (pairs f)) true g.path (λ d low. same d) e).1
      (record { below = names e in'; between = λ q low up. (refl, placed_between g.path f from.listed.placed e in' q low up) }, in')

  -- the one forest of what is the pairs is the forest
  pub one_is : (N : Path × NodeMetadata → Type 0) → ((e : Path × NodeMetadata) → N e ↔ Contains (pairs f) e) → (t : Forest) → Shows t g.path (Kept N true g.path) → t ≡ f
  one_is N same t shows = one_forest g.path t f shows.placed from.listed.placed
      (λ e. (λ in'. (same e).0 ((listed_each shows.shown e).0 in').1, λ in'. (listed_each shows.shown e).1 (kept_pair N same e in')))

-- a version 2 group takes the block of a listed forest of version 2 nodes, and gives the forest back
pub group_v2_gives_back : GroupV2GivesBack
group_v2_gives_back of g f B from = (
  takes of g f B from g.metadata from.version_2,
  gives_back (with_block g (Some B)) f B (keys_valid of g f B from) (same_pairs of g f B from) (one_is of g f B from (Entries B g.path) (same_pairs of g f B from))
      (λ numbers. held_once_set numbers g (Some B) (can_hold_v2 of g f B from numbers g.metadata from.version_2)),
)

-- ---- the stored group as the document of a node

-- a number that is there is this one, as a test
abbrev is_num : ℕ → Option ℕ → Bool
is_num n None = false
is_num n (Some m) = m == n

-- what such a test answers
abbrev answered : Bool → Result (Unit {0}) MetadataFault
answered t = if t then Ok tt else Err WrongFormat

-- the number 3 is not the number 2
num_other : (o : Option ℕ) → answered (is_num 3 o) ≡ Ok tt → answered (is_num 2 o) ≡ Err WrongFormat
num_other None e = cc
num_other (Some k) e = elim (k == 3) as (λ t. k == 3 ≡ t → answered t ≡ Ok tt → answered (k == 2) ≡ Err WrongFormat) [
  | true ↦ λ is _. ap (λ n. answered (n == 2)) (eqb-true k 3 is)
  | false ↦ λ _ wrong. cc
] refl e

-- a document of format 3 is none of format 2
other_format : (d : Data) → format_of 3 d ≡ Ok tt → format_of 2 d ≡ Err WrongFormat
unfolding format_of
other_format d e = num_other (option_and_then as_u64 (option_and_then as_number (get (codes "zarr_format") d))) e

-- a step that led to an answer gave a value
pub step_of : {A C : Type 0} (r : Result A MetadataFault) (next : A → Result C MetadataFault) (y : C) → (r >>= next) ≡ Ok y → (x : A) × (r ≡ Ok x) × (next x ≡ Ok y)
step_of (Ok x) next y e = (x, refl, e)
step_of (Err fault) next y e = cc

-- what reads as a version 3 group is a document of that format and type
read_parts : (numbers : Numbers) (d : Data) (m : GroupMetadataV3) → group_v3_in numbers d ≡ Ok m
    → (ms : Members) × (document_in numbers d ≡ Ok ms) × (format_of 3 d ≡ Ok tt) × (node_type_of (codes "group") d ≡ Ok tt)
unfolding group_v3_in
read_parts numbers d m e =
    let one = step_of (document_in numbers d) _ m e in
    let two = step_of (format_of 3 d) _ m one.2 in
    let three = step_of (node_type_of (codes "group") d) _ m two.2 in
    (one.0, one.1, two.1, three.1)

-- such a document that reads as a group reads as that group at the key `zarr.json`
node_from : (numbers : Numbers) (d : Data) (m : GroupMetadataV3) (ms : Members) → document_in numbers d ≡ Ok ms → format_of 3 d ≡ Ok tt → format_of 2 d ≡ Err WrongFormat
    → node_type_of (codes "group") d ≡ Ok tt → group_v3_in numbers d ≡ Ok m → zarr_json_in numbers d ≡ Ok (Node (Group (V3 m)))
unfolding node_in zarr_json_in
node_from numbers d m ms document three other kind group = rw (document, other, three, kind, group) refl

-- a document that reads as a version 3 group reads as that group at the key `zarr.json`
group_is_node : (numbers : Numbers) (d : Data) (m : GroupMetadataV3) → group_v3_in numbers d ≡ Ok m → zarr_json_in numbers d ≡ Ok (Node (Group (V3 m)))
group_is_node numbers d m e = let p = read_parts numbers d m e in node_from numbers d m p.0 p.1 p.2 (other_format d p.2) p.3 e

-- what stands at a key means the group by the line of groups, so it does by the line of nodes, whatever the lines after
line_says : (numbers : Numbers) (key : Segments) (m : GroupMetadataV3) (after : Meaning) (o : Option (List ℕ)) → group_v3_line (document_from (of_bytes (group_v3_in numbers)) key o) nothing ≡ node (Group (V3 m))
    → version_3_line (document_from (of_bytes (zarr_json_in numbers)) key o) after ≡ node (Group (V3 m))
line_says numbers key m after None e = cc
line_says numbers key m after (Some bytes) e = by_tree (tree_or_fault (json_of bytes)) e
  where
    by_group : (d : Data) (r : Result GroupMetadataV3 MetadataFault) → group_v3_in numbers d ≡ r → group_v3_line (document_or_fault key r) nothing ≡ node (Group (V3 m))
        → version_3_line (document_or_fault key (zarr_json_in numbers d)) after ≡ node (Group (V3 m))
    by_group d (Ok k) is e = ap (λ r. version_3_line (document_or_fault key r) after) (group_is_node numbers d k is) ∙ e
    by_group d (Err fault) is e = cc

    by_tree : (r : Result Data MetadataFault) → group_v3_line (document_or_fault key (r >>= group_v3_in numbers)) nothing ≡ node (Group (V3 m))
        → version_3_line (document_or_fault key (r >>= zarr_json_in numbers)) after ≡ node (Group (V3 m))
    by_tree (Ok d) e = by_group d (group_v3_in numbers d) refl e
    by_tree (Err fault) e = cc

-- where a path means a version 3 group, it means that node in every store with the same numbers and the same bytes at its key `zarr.json`
pub means_node : (S s : Contents) (p : Path) (m : GroupMetadataV3) → s.numbers ≡ S.numbers → MeansGroup S retrieve.V3 p (V3 m)
    → map.get s.values (p ++ zarr_json ∷ []) ≡ map.get S.values (p ++ zarr_json ∷ []) → (v : MetadataRetrieveVersion) → v ≢ retrieve.V2 → meaning s v p ≡ node (Group (V3 m))
unfolding group_meaning group_line meaning_in zarr_json_line document_at
means_node S s p m alike stored same retrieve.Default not =
    line_says s.numbers (p ++ zarr_json ∷ []) m (zarray_line (in_bytes s.numbers) s.values p (zgroup_line (in_bytes s.numbers) s.values p nothing)) (map.get s.values (p ++ zarr_json ∷ []))
    (ap₂ (λ n o. group_v3_line (document_from (of_bytes (group_v3_in n)) (p ++ zarr_json ∷ []) o) nothing) alike same ∙ stored)
means_node S s p m alike stored same retrieve.V3 not =
    line_says s.numbers (p ++ zarr_json ∷ []) m nothing (map.get s.values (p ++ zarr_json ∷ []))
    (ap₂ (λ n o. group_v3_line (document_from (of_bytes (group_v3_in n)) (p ++ zarr_json ∷ []) o) nothing) alike same ∙ stored)
means_node S s p m alike stored same retrieve.V2 not = absurd (not refl)

-- paths with one text are one
pub one_path : (p q : Path) → IsPath p → IsPath q → path_text p ≡ path_text q → p ≡ q
one_path p q h k e = sym (segments_of-path_text p h) ∙ ap segments_of e ∙ segments_of-path_text q k

-- where a path means a node and nothing refuses what stands below it
module _ (s : Contents) (v : MetadataRetrieveVersion) (policy : UseConsolidatedMetadata) (p : Path) (valid : IsPath p) (k : NodeMetadata) (means : meaning s v p ≡ node k)
    (clean : (e : NodeCreateError) → opened.RefusesBelow s v policy p k e → ⊥) where
  -- a text of a path is not refused
  no_text : (e : NodeCreateError) → RefusesText (path_text p) e → ⊥
  no_text (made.NodePathError (InvalidPath text)) h = h.1 (record { path = p; valid = valid; text = refl })
  no_text (made.NodePathError NoPathMemory) h = h
  no_text (made.StorePrefixError e) h = h
  no_text (made.StorageError e) h = h
  no_text made.MetadataVersionMismatch h = h
  no_text (made.MissingMetadata text) h = h
  no_text made.OutOfMemory h = h

  -- the node itself is not refused
  no_node : (e : NodeCreateError) → RefusesNode s v p e → ⊥
  no_node e (inl (none, missing)) = let both : node k ≡ nothing = sym means ∙ none in cc
  no_node e (inr wrong) = let both : node k ≡ bad e = sym means ∙ wrong in cc

  -- nor is what stands below it
  none_below : (e : NodeCreateError) (m : NodeMetadata) → meaning s v p ≡ node m → opened.RefusesBelow s v policy p m e → ⊥
  none_below e m is h = clean e (subst (λ x. opened.RefusesBelow s v policy p x e) (node_same m k (sym is ∙ means)) h)

  -- so the opening is not refused
  pub opens_clean : (e : NodeCreateError) → RefusesOpening s v policy (path_text p) e → ⊥
  opens_clean e (inl text) = no_text e text
  opens_clean e (inr (b, named', text, why)) = at_path b (one_path b p named' valid text) why
    where
      at_path : (b : Path) → b ≡ p → RefusesNode s v b e ⊎ ((m : NodeMetadata) × (meaning s v b ≡ node m) × opened.RefusesBelow s v policy b m e) → ⊥
      at_path b is why = ⊎_elim (no_node e) (λ w. none_below e w.0 w.1 w.2)
          (subst (λ q. RefusesNode s v q e ⊎ ((m : NodeMetadata) × (meaning s v q ≡ node m) × opened.RefusesBelow s v policy q m e)) is why)

-- a version 3 group that was stored with a block that has a forest in it, in numbers in which the group holds the block
module _ (inside : Numbers) (g : GroupState) (f : Forest) (B : Block) (version_3 : (m : GroupMetadataV3) × (g.metadata ≡ V3 m)) (back : IsInverse inside g.path f B) (named' : IsPath g.path) (S : Contents)
    (stored : MeansStored S g.path (with_block g (Some B)).metadata) (shallow : depth (group_tree (with_block g (Some B)).metadata) ≤ max_depth)
    (s : Contents) (numbers_same : s.numbers ≡ S.numbers) (same : map.get s.values (g.path ++ zarr_json ∷ []) ≡ map.get S.values (g.path ++ zarr_json ∷ []))
    (held : held_by_in s.numbers (with_block g (Some B)) ≡ Some B) where
  -- what is opened is the group
  opens_group : (m k : GroupMetadata) → (x : GroupMetadataV3) × (k ≡ V3 x) → m ≡ metadata_with (Some B) k → MeansStored S g.path m → depth (group_tree m) ≤ max_depth
      → (v : MetadataRetrieveVersion) → v ≢ retrieve.V2 → meaning s v g.path ≡ node (Group m)
  opens_group m k (x, is) with' means shallow v not = go m (with' ∙ ap (metadata_with (Some B)) is) means shallow
    where
      go : (m : GroupMetadata) → m ≡ metadata_with (Some B) (V3 x) → MeansStored S g.path m → depth (group_tree m) ≤ max_depth → meaning s v g.path ≡ node (Group m)
      go (V3 y) e means shallow = means_node S s g.path y numbers_same (means shallow).1 same v not
      go (V2 y) e means shallow = cc

  -- the block that stands for the nodes below a version 3 group is the one that the group holds
  held_there : (s : Contents) (p : Path) (m : GroupMetadata) (old : Option Block) → (k : GroupMetadataV3) × (m ≡ V3 k)
      → block_at s p (Group (metadata_with (Some B) m)) ≡ held_in s.numbers (metadata_with (Some B) m) old
  held_there s p (V3 m) old is = refl
  held_there s p (V2 m) old (k, is) = cc

  -- the path means the group with its block, by all versions but the second
  means_group : (v : MetadataRetrieveVersion) → v ≢ retrieve.V2 → meaning s v g.path ≡ node (Group (with_block g (Some B)).metadata)
  means_group v not = opens_group (with_block g (Some B)).metadata g.metadata version_3 refl stored shallow v not

  -- the forest of what is opened is the group's
  opened_is : (v : MetadataRetrieveVersion) → v ≢ retrieve.V2 → (policy : UseConsolidatedMetadata) → policy ≢ Never → (m : NodeMetadata) (t : Forest)
      → meaning s v g.path ≡ node m → ShowsBelow s v policy g.path m t → t ≡ f
  opened_is v not policy some m t means shows =
      let is : m ≡ Group (with_block g (Some B)).metadata = node_same m (Group (with_block g (Some B)).metadata) (sym means ∙ means_group v not) in
      let shown = subst (λ x. ShowsBelow s v policy g.path x t) is shows in
      chosen_shows (with_block g (Some B)) f B back.valid back.entries back.one_forest s v policy held some t
      (subst (λ h. ShowsChosen s v (block_to_use h policy) true g.path t) (held_there s g.path g.metadata (beside_with (Some B) g.metadata g.block) version_3) shown)

  -- and nothing refuses it
  opened_clean : (v : MetadataRetrieveVersion) (policy : UseConsolidatedMetadata) → policy ≢ Never → (e : NodeCreateError)
      → opened.RefusesBelow s v policy g.path (Group (with_block g (Some B)).metadata) e → ⊥
  opened_clean v policy some e refused =
      chosen_clean (with_block g (Some B)) f B back.valid back.entries back.one_forest s v policy held some e
      (subst (λ x. RefusesChosen s v (block_to_use x policy) true g.path e) (held_there s g.path g.metadata (beside_with (Some B) g.metadata g.block) version_3) refused)

  -- so the stored group gives the forest back
  opens_to : OpensTo s (with_block g (Some B)) f
  opens_to = record {
    means = means_group;
    children = opened_is;
    opened = λ v not policy some. opens_clean s v policy g.path named' (Group (with_block g (Some B)).metadata) (means_group v not) (opened_clean v policy some);
  }

-- a node opened over the stored group gives the forest back
pub stored_gives_back : StoredGivesBack
stored_gives_back of g f B from valid S stored shallow s numbers_same same =
    opens_to Whole g f B from.version_3 (inverse Whole of g f B from) valid S stored shallow s numbers_same same (holds of g f B from s.numbers)

-- so it does in the numbers of the store
pub stored_gives_back_in : StoredGivesBackIn
stored_gives_back_in of g f B S from valid stored shallow s numbers_same same =
    let back = inverse S.numbers of g f B from in
    opens_to S.numbers g f B from.version_3 back valid S stored shallow s numbers_same same
    (held_as_read s.numbers g B (subst (λ n. block_of_in n (block_tree B) ≡ Ok B) (sym numbers_same) back.read_back))
