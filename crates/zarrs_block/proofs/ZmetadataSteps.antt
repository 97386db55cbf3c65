-- The passes of the reader of `.zmetadata`: the names of members, the documents put at the texts of their paths, and the nodes read from them.
use Rattle.std.proofs.Common.{◌≡◌, ◌⊎◌, inl, inr, ℕ, Bool, true, false, true≢false, not, ◌&&◌, cond, if◌then◌else◌, List, [], ◌∷◌, ◌++◌, length, Option, Some, None, IsSome, IfSome, Result, Ok, Err, IfOk, IfErr, String, Global, string_bytes, string_cmp, Less, is_eq, IsTrue, codes, refl, sym, ap, subst, ◌∙◌}
use Rattle.std.specs.Prelude.{◌==◌, is_some, option_and_then}
use Rattle.std.specs.List.{list_all, filter, AllByRecursion}
use Rattle.std.specs.List.Sorted.{IsStrictlySortedBy}
use Rattle.std.specs.Map.{keys_of}
use Rattle.std.specs.Result.{result_ok, IsErrAnd}
use Rattle.std.specs.Str.{bytes_eq}
use Rattle.std.proofs.lemmas.Bool.{and_parts, and_from, and_left}
use Rattle.std.proofs.lemmas.Map.Keys.{sorted_head, sorted_tail}
use Rattle.std.proofs.lemmas.Slice.Eq.{bytes_eq-Decides}
use Rattle.std.proofs.lemmas.List.Splits.{join_with_byte-slice_split}
use Rattle.serde_json.specs.Data.{Data, object, Members, member}
use Rattle.serde_json.specs.Find.{get_member, as_object}
use Rattle.serde_json.specs.View.{view, members_view}
use Rattle.serde_json.proofs.Views.{Entry, member_here, member_later}
use Rattle.zarrs_store.specs.Segments.{Segments, bytes_cmp, key_text, has_no_slash, last_segment}
use Rattle.zarrs_fault.specs.declared.fault.MetadataFault.{MetadataFault}
use Rattle.zarrs_fault.specs.declared.fault.MetadataFault.TheVariants.{NotJson, UnsupportedNumber, NotAnObject, WrongFormat, WrongNodeType, MissingMember, BadMember, OutOfMemory}
use Rattle.zarrs_fault.specs.declared.numbers.Numbers.{Numbers}
use Rattle.zarrs_store.proofs.ChildLemmas.{last_segment-child}
use Rattle.zarrs_store.proofs.Cuts.{parts_one, parts_some, nonempty_is}
use Rattle.zarrs_path.specs.Names.{is_name, is_node_name}
use Rattle.zarrs_path.specs.Paths.{IsPath}
use Rattle.zarrs_form.specs.Documents.{Gives, Refuses, document_in, form_or_fault, required_member}
use Rattle.zarrs_form.specs.Documents as steps
use Rattle.zarrs_form.specs.Forms.{fits_in, is_nil}
use Rattle.zarrs_meta.specs.declared.node.NodeMetadata.{NodeMetadata}
use Rattle.zarrs_block.specs.Block.{Block, IsAscending, node_at_key, put}
use Rattle.zarrs_meaning.specs.Small.{is_document_v2, counted_members}
use Rattle.zarrs_store.specs.Segments.{stretches}
use Rattle.zarrs_block.specs.Zmetadata.{one, before_last, documents_below, small_block_in, zmetadata_members_in, zmetadata_in, HoldsStoreIn, IsCleanIn, IsZmetadataFaultIn}
use Rattle.zarrs_block.specs.StepsOfZmetadata.{file_name, is_file, member_at, first_tree, paths, run_tree, tree_among, RunsAscend, read_files, tree_in, is_below_group, are_named, RefusesNames, AllFit, HoldsNodes, RefusesTrees, zmetadata_taken}
use Rattle.zarrs_block.specs.declared.consolidated.ConsolidatedMetadata.{ConsolidatedMetadata}
use Rattle.zarrs_block.specs.declared.zmetadata.Documents.{Documents}
use Rattle.zarrs_block.specs.declared.zmetadata.Run.{Run}
use Rattle.zarrs_block.specs.declared.zmetadata.File.{File}
use Rattle.zarrs_block.specs.declared.zmetadata.File.TheVariants.{Array as array_file, Group as group_file, Attributes as attributes_file}
use Rattle.zarrs_form.proofs.PlainForms.{member_fits_in}
use Rattle.zarrs_block.proofs.Expansion.{at_itself, same_text}
use Rattle.zarrs_block.proofs.LastSlash.{IsCutText}
use Rattle.zarrs_block.proofs.Runs.{first_none}
use Rattle.zarrs_block.proofs.PutEntries.{found_put, put_ascends, none_ascend}
use Rattle.zarrs_block.proofs.SmallBlocks.{block_is, names_refused, trees_refused, store_law, refused_law, ascending_law}
use Rattle.zarrs_block.proofs.SmallStores.{before_last-child, parts_child}

-- ---- the names of members

-- the name of a file has no slash
pub file_clean : (file : File) → IsTrue (has_no_slash (file_name file))
file_clean array_file = refl
file_clean group_file = refl
file_clean attributes_file = refl

-- and is that of a document of version 2
file_counts : (file : File) → is_document_v2 (file_name file) ≡ true
file_counts array_file = refl
file_counts group_file = refl
file_counts attributes_file = refl

-- a text that is not empty and is the name of a node is a name
pub name_test : (n : List ℕ) → (not (length n == 0) && is_node_name n) ≡ is_name n
name_test [] = refl
name_test (b ∷ s) = ap (λ x. x && is_node_name (b ∷ s)) (nonempty_is (b ∷ s))

-- a text has a part
parts_not_nil : (t : List ℕ) → is_nil (stretches t) ≡ false
parts_not_nil t = by (stretches t) refl
  where
    by : (p : Segments) → stretches t ≡ p → is_nil p ≡ false
    by [] is = absurd (parts_some t is)
    by (n ∷ ns) is = refl

module _ (path name : List ℕ) (clean : IsTrue (has_no_slash name)) where
  -- behind the last slash stands the last part
  last_is : last_segment (stretches (path ++ 47 ∷ name)) ≡ name
  last_is = ap last_segment (parts_child path name clean) ∙ last_segment-child (stretches path) name

  -- and before it the others
  front_is : before_last (stretches (path ++ 47 ∷ name)) ≡ stretches path
  front_is = ap before_last (parts_child path name clean) ∙ before_last-child (stretches path) name

-- a text without a slash does not count below the group
pub whole_not_below : (t : List ℕ) → IsTrue (has_no_slash t) → is_below_group t ≡ false
whole_not_below t clean = ap (λ ps. is_document_v2 (last_segment ps) && not (is_nil (before_last ps))) (parts_one t clean) ∙ by (is_document_v2 t)
  where
    by : (b : Bool) → (b && false) ≡ false
    by true = refl
    by false = refl

-- nor does one whose last part is no file
pub other_not_below : (t path name : List ℕ) → IsCutText t path name → is_document_v2 name ≡ false → is_below_group t ≡ false
other_not_below t path name cut none =
    ap is_below_group cut.cut ∙ and_left (is_document_v2 (last_segment (stretches (path ++ 47 ∷ name)))) (not (is_nil (before_last (stretches (path ++ 47 ∷ name)))))
    (ap is_document_v2 (last_is path name cut.clean) ∙ none)

-- a file behind a slash counts
file_below : (t : List ℕ) (file : File) → is_below_group (t ++ 47 ∷ file_name file) ≡ true
file_below t file =
    and_from (is_document_v2 (last_segment (stretches (t ++ 47 ∷ file_name file)))) (not (is_nil (before_last (stretches (t ++ 47 ∷ file_name file)))))
    (ap is_document_v2 (last_is t (file_name file) (file_clean file)) ∙ file_counts file)
    (ap (λ p. not (is_nil p)) (front_is t (file_name file) (file_clean file)) ∙ ap not (parts_not_nil t))

-- a file below what are no names is refused
pub place_refused : (t path name : List ℕ) (file : File) → IsCutText t path name → name ≡ file_name file → list_all is_name (stretches path) ≡ false
    → (is_below_group t ≡ true) × (list_all is_name (before_last (stretches t)) ≡ false)
place_refused t path name file cut is none = (
  ap is_below_group (cut.cut ∙ ap (λ n. path ++ 47 ∷ n) is) ∙ file_below path file,
  ap (λ u. list_all is_name (before_last (stretches u))) cut.cut ∙ ap (list_all is_name) (front_is path name cut.clean) ∙ none,
)

-- with one more member in front, the names are those of nodes where its own is, if it counts, and the others are
named_cons : (u : List ℕ) (d : Data) (ms : Members) → are_named (member u d ms) ≡ (if is_below_group u then list_all is_name (before_last (stretches u)) && are_named ms else are_named ms)
named_cons u d ms = by (is_document_v2 (last_segment (stretches u))) (is_nil (before_last (stretches u))) refl
  where
    by : (x y : Bool) → is_nil (before_last (stretches u)) ≡ y
        → list_all (λ e. list_all is_name (before_last e.0)) (filter (λ e. not (is_nil (before_last e.0))) (if x then (stretches u, d) ∷ counted_members ms else counted_members ms))
        ≡ (if x && not y then list_all is_name (before_last (stretches u)) && are_named ms else are_named ms)
    by true true is = ap (λ b. list_all (λ (e : Segments × Data). list_all is_name (before_last e.0)) (cond (not b) ((stretches u, d) ∷ documents_below ms) (documents_below ms))) is
    by true false is = ap (λ b. list_all (λ (e : Segments × Data). list_all is_name (before_last e.0)) (cond (not b) ((stretches u, d) ∷ documents_below ms) (documents_below ms))) is
    by false y is = refl

-- ---- the documents at the texts of their paths

-- the documents that were gathered so far, by the texts of their paths
abbrev pub Gathered : Type 0
Gathered = List ℕ → File → Option Data

-- members of a map that are left: what all members have is what these have, or else what was gathered; and the names are those of nodes where those that are left are
pub record IsGathered (ms : Members) (got : Gathered) (left : List Entry) : Type 0 where
  pub up : IsStrictlySortedBy string_cmp (keys_of left)
  pub here : (t : List ℕ) (file : File) → member_at ms t file ≡ first_tree (member_at (members_view left) t file) (got t file)
  pub named : are_named ms ≡ are_named (members_view left)

-- a member whose name is before all others stands at it alone
alone : (k : String Global) (es : List Entry) → AllByRecursion (λ y. string_cmp k y ≡ Less) (keys_of es) → get_member (string_bytes k) (members_view es) ≡ None
alone k [] h = refl
alone k (e ∷ es) h = member_later (string_bytes k) e es apart ∙ alone k es h.1
  where
    apart : string_bytes k ≡ string_bytes e.0 → ⊥
    apart same = let both : true ≡ false = sym (at_itself (string_bytes k)) ∙ ap (λ t. is_eq (bytes_cmp (string_bytes k) t)) same ∙ ap is_eq h.0 in cc

module _ (ms : Members) (got : Gathered) (left : List Entry) (e : Entry) (es : List Entry) (is : left ≡ e ∷ es) (h : IsGathered ms got left) where
  -- what was gathered before this member
  before : IsGathered ms got (e ∷ es)
  before = subst (IsGathered ms got) is h

  -- a member that does not count is passed over
  pub passed_over : is_below_group (string_bytes e.0) ≡ false → IsGathered ms got es
  passed_over none = record {
    up = sorted_tail string_cmp e.0 (keys_of es) before.up;
    here = λ t file.
        before.here t file
        ∙ ap (λ o. first_tree o (got t file)) (member_later (t ++ 47 ∷ file_name file) e es (λ same. true≢false (sym (file_below t file) ∙ ap is_below_group same ∙ none)));
    named =
        before.named ∙ named_cons (string_bytes e.0) (view e.1) (members_view es)
        ∙ ap (λ b. if b then list_all is_name (before_last (stretches (string_bytes e.0))) && are_named (members_view es) else are_named (members_view es)) none;
  }

  -- one that counts below names is gathered at the text of its path
  pub put_there : (new : Gathered) (path : List ℕ) (file : File) → string_bytes e.0 ≡ path ++ 47 ∷ file_name file → IsPath (stretches path)
      → ((t : List ℕ) (other : File) → new t other ≡ (if bytes_eq path t && is_file file other then Some (view e.1) else got t other)) → IsGathered ms new es
  put_there new path file name valid fresh = record {
    up = sorted_tail string_cmp e.0 (keys_of es) before.up;
    here = λ t other. before.here t other ∙ by t other (bytes_eq path t && is_file file other) refl;
    named =
        before.named ∙ named_cons (string_bytes e.0) (view e.1) (members_view es)
        ∙ ap (λ b. if b then list_all is_name (before_last (stretches (string_bytes e.0))) && are_named (members_view es) else are_named (members_view es)) (ap is_below_group name ∙ file_below path file)
        ∙ ap (λ b. b && are_named (members_view es)) (ap (λ u. list_all is_name (before_last (stretches u))) name ∙ ap (list_all is_name) (front_is path (file_name file) (file_clean file)) ∙ valid);
  }
    where
      -- a name that is the same is that of the same path and file
      apart : (t : List ℕ) (other : File) → (bytes_eq path t && is_file file other) ≡ false → t ++ 47 ∷ file_name other ≡ string_bytes e.0 → ⊥
      apart t other differ same =
          let cut : path ++ 47 ∷ file_name file ≡ t ++ 47 ∷ file_name other = sym name ∙ sym same in
          let fronts : stretches path ≡ stretches t = sym (front_is path (file_name file) (file_clean file)) ∙ ap (λ u. before_last (stretches u)) cut ∙ front_is t (file_name other) (file_clean other) in
          let texts : path ≡ t = sym (join_with_byte-slice_split 47 path) ∙ ap key_text fronts ∙ join_with_byte-slice_split 47 t in
          let files : file_name file ≡ file_name other = sym (last_is path (file_name file) (file_clean file)) ∙ ap (λ u. last_segment (stretches u)) cut ∙ last_is t (file_name other) (file_clean other) in
          true≢false (sym (and_from (bytes_eq path t) (is_file file other) ((bytes_eq-Decides path t).1 texts) ((bytes_eq-Decides (file_name file) (file_name other)).1 files)) ∙ differ)

      by : (t : List ℕ) (other : File) (b : Bool) → (bytes_eq path t && is_file file other) ≡ b
          → first_tree (member_at (members_view (e ∷ es)) t other) (got t other) ≡ first_tree (member_at (members_view es) t other) (new t other)
      by t other true at =
          let both = and_parts (bytes_eq path t) (is_file file other) at in
          let same : t ++ 47 ∷ file_name other ≡ string_bytes e.0 = (λ i. sym ((bytes_eq-Decides path t).0 both.0) i ++ 47 ∷ sym ((bytes_eq-Decides (file_name file) (file_name other)).0 both.1) i) ∙ sym name in
          ap (λ o. first_tree o (got t other)) (member_here (t ++ 47 ∷ file_name other) e es same)
          ∙ sym (ap (λ o. first_tree o (new t other)) (ap (λ u. get_member u (members_view es)) same ∙ alone e.0 es (sorted_head string_cmp e.0 (keys_of es) before.up))
          ∙ fresh t other ∙ ap (λ b. if b then Some (view e.1) else got t other) at)
      by t other false at =
          ap (λ o. first_tree o (got t other)) (member_later (t ++ 47 ∷ file_name other) e es (apart t other at))
          ∙ ap (λ o. first_tree (member_at (members_view es) t other) o) (sym (fresh t other ∙ ap (λ b. if b then Some (view e.1) else got t other) at))

-- where none is left, all are gathered
pub all_gathered : (ms : Members) (got : Gathered) (left : List Entry) → left ≡ [] → IsGathered ms got left → ((t : List ℕ) (file : File) → got t file ≡ member_at ms t file) × IsTrue (are_named ms)
all_gathered ms got left is h =
    let done : IsGathered ms got [] = subst (IsGathered ms got) is h in
    (λ t file. sym (done.here t file), done.named)

-- ---- the nodes

-- what the block has at a text, or what the documents there that are left are read as
abbrev pub now_at : Numbers → Option NodeMetadata → Option Documents → Option (Option NodeMetadata)
now_at numbers o None = Some o
now_at numbers o (Some here) = result_ok (read_files numbers (tree_in here))

-- whether a text is the path of a run
abbrev is_of : List ℕ → Run → Bool
is_of t run = is_eq (bytes_cmp t (string_bytes run.path))

-- the documents that are left at a text
abbrev pub left_at : List Run → List ℕ → Option Documents
left_at [] t = None
left_at (run ∷ left) t = cond (is_of t run) (Some run.documents) (left_at left t)

-- the block has what was read, and nothing where documents are left, whose numbers fit
pub record IsRead (numbers : Numbers) (at : List ℕ → File → Option Data) (B : Block) (left : List Run) : Type 0 where
  pub up : RunsAscend left
  pub ascending : IsAscending B
  pub apart : (t : List ℕ) → IsSome (left_at left t) → node_at_key B t ≡ None
  pub here : (t : List ℕ) → result_ok (read_files numbers (at t)) ≡ now_at numbers (node_at_key B t) (left_at left t)
  pub fit : AllByRecursion (λ run. AllFit numbers (tree_in run.documents)) left

-- nothing is left where the first documents were
none_left : (k : List ℕ) (runs : List Run) → AllByRecursion (λ y. bytes_cmp k y ≡ Less) (paths runs) → left_at runs k ≡ None
none_left k [] h = refl
none_left k (run ∷ runs) h = ap (λ o. cond (is_eq o) (Some run.documents) (left_at runs k)) h.0 ∙ none_left k runs h.1

-- what ascending runs have for a text is in the one that is left at it
among_left : (runs : List Run) → RunsAscend runs → (t : List ℕ) (file : File) → tree_among runs t file ≡ option_and_then (λ here. tree_in here file) (left_at runs t)
among_left [] up t file = refl
among_left (run ∷ runs) up t file =
    ap (λ o. first_tree o (run_tree run t file)) (among_left runs (sorted_tail bytes_cmp (string_bytes run.path) (paths runs) up) t file) ∙ by (is_of t run) refl
  where
    by : (b : Bool) → is_of t run ≡ b
        → first_tree (option_and_then (λ here. tree_in here file) (left_at runs t)) (run_tree run t file) ≡ option_and_then (λ here. tree_in here file) (cond b (Some run.documents) (left_at runs t))
    by true at =
        let same = same_text t (string_bytes run.path) at in
        ap (λ o. first_tree (option_and_then (λ (here : Documents). tree_in here file) o) (run_tree run t file)) (ap (left_at runs) same ∙ none_left (string_bytes run.path) runs (sorted_head bytes_cmp (string_bytes run.path) (paths runs) up))
        ∙ ap (λ b. cond b (tree_in run.documents file) None) ((bytes_eq-Decides (string_bytes run.path) t).1 (sym same))
    by false at = ap (first_tree (option_and_then (λ (here : Documents). tree_in here file) (left_at runs t))) (other (bytes_eq (string_bytes run.path) t) refl) ∙ sym (first_none (option_and_then (λ (here : Documents). tree_in here file) (left_at runs t)))
      where
        other : (b : Bool) → bytes_eq (string_bytes run.path) t ≡ b → cond b (tree_in run.documents file) None ≡ None
        other false e = refl
        other true e = absurd (true≢false (sym (ap (λ u. is_eq (bytes_cmp t u)) ((bytes_eq-Decides (string_bytes run.path) t).0 e) ∙ at_itself t) ∙ at))

-- the first of two fits where the first that is there does
first_fits : (numbers : Numbers) (a b : Option Data) → IfSome (first_tree a b) (λ d. IsTrue (fits_in numbers d)) → IfSome a (λ d. IsTrue (fits_in numbers d))
first_fits numbers None b h = tt
first_fits numbers (Some d) b h = h

-- the documents of each of ascending runs fit where what they have for each text does
runs_fit : (numbers : Numbers) (runs : List Run) → RunsAscend runs → ((t : List ℕ) → AllFit numbers (tree_among runs t)) → AllByRecursion (λ run. AllFit numbers (tree_in run.documents)) runs
runs_fit numbers [] up fit = tt
runs_fit numbers (run ∷ runs) up fit = (
  λ file. subst (λ o. IfSome o (λ d. IsTrue (fits_in numbers d))) (own file) (fit (string_bytes run.path) file),
  runs_fit numbers runs later (λ t file. first_fits numbers (tree_among runs t file) (run_tree run t file) (fit t file)),
)
  where
    later : RunsAscend runs
    later = sorted_tail bytes_cmp (string_bytes run.path) (paths runs) up

    own : (file : File) → tree_among (run ∷ runs) (string_bytes run.path) file ≡ tree_in run.documents file
    own file =
        ap (λ o. first_tree o (run_tree run (string_bytes run.path) file))
        (among_left runs later (string_bytes run.path) file ∙ ap (option_and_then (λ (here : Documents). tree_in here file)) (none_left (string_bytes run.path) runs (sorted_head bytes_cmp (string_bytes run.path) (paths runs) up)))
        ∙ ap (λ b. cond b (tree_in run.documents file) None) ((bytes_eq-Decides (string_bytes run.path) (string_bytes run.path)).1 refl)

-- at first all documents are left
pub none_read_yet : (numbers : Numbers) (runs : List Run) (B : Block) (left : List Run) → B ≡ [] → left ≡ runs → RunsAscend runs → ((t : List ℕ) → AllFit numbers (tree_among runs t))
    → IsRead numbers (tree_among runs) B left
none_read_yet numbers runs B left none is up fit = subst (λ C. IsRead numbers (tree_among runs) C left) (sym none) (subst (IsRead numbers (tree_among runs) []) (sym is) (record {
  up = up;
  ascending = none_ascend;
  apart = λ t some. refl;
  here = λ t. ap (λ (f : File → Option Data). result_ok (read_files numbers f)) (λ i file. among_left runs up t file i) ∙ by (left_at runs t);
  fit = runs_fit numbers runs up fit;
}))
  where
    by : (o : Option Documents) → result_ok (read_files numbers (λ file. option_and_then (λ (h : Documents). tree_in h file) o)) ≡ now_at numbers None o
    by None = refl
    by (Some x) = refl

-- behind one more, what is left is still left
some_left : (b : Bool) (x : Documents) (o : Option Documents) → IsSome o → IsSome (cond b (Some x) o)
some_left true x o h = refl
some_left false x o h = h

module _ (numbers : Numbers) (at : List ℕ → File → Option Data) (B : Block) (left : List Run) (run : Run) (runs : List Run) (is : left ≡ run ∷ runs) (h : IsRead numbers at B left) where
  -- what was read before these documents
  then_read : IsRead numbers at B (run ∷ runs)
  then_read = subst (IsRead numbers at B) is h

  -- nothing is left behind them at their text
  none_more : (t : List ℕ) → is_of t run ≡ true → left_at runs t ≡ None
  none_more t here = ap (left_at runs) (same_text t (string_bytes run.path) here) ∙ none_left (string_bytes run.path) runs (sorted_head bytes_cmp (string_bytes run.path) (paths runs) then_read.up)

  module _ (C : Block) (o : Option NodeMetadata) (reads : result_ok (read_files numbers (tree_in run.documents)) ≡ Some o) (fresh : (t : List ℕ) → node_at_key C t ≡ cond (is_of t run) o (node_at_key B t)) where
    -- what is read at each text is in the block, or left
    here_next : (t : List ℕ) (b : Bool) → is_of t run ≡ b → result_ok (read_files numbers (at t)) ≡ now_at numbers (cond b o (node_at_key B t)) (left_at runs t)
    here_next t true at =
        then_read.here t ∙ ap (λ b. now_at numbers (node_at_key B t) (cond b (Some run.documents) (left_at runs t))) at ∙ reads
        ∙ ap (now_at numbers o) (sym (none_more t at))
    here_next t false at = then_read.here t ∙ ap (λ b. now_at numbers (node_at_key B t) (cond b (Some run.documents) (left_at runs t))) at

    -- and the block has nothing where documents are left
    apart_next : (t : List ℕ) → IsSome (left_at runs t) → (b : Bool) → is_of t run ≡ b → cond b o (node_at_key B t) ≡ None
    apart_next t some true at = absurd (true≢false (sym some ∙ ap is_some (none_more t at)))
    apart_next t some false at = then_read.apart t (some_left (is_of t run) run.documents (left_at runs t) some)

    -- so the reading goes on
    read_on : IsAscending C → IsRead numbers at C runs
    read_on up = record {
      up = sorted_tail bytes_cmp (string_bytes run.path) (paths runs) then_read.up;
      ascending = up;
      apart = λ t some. fresh t ∙ apart_next t some (is_of t run) refl;
      here = λ t. here_next t (is_of t run) refl ∙ ap (λ x. now_at numbers x (left_at runs t)) (sym (fresh t));
      fit = then_read.fit.1;
    }

  -- documents that are no node leave the block as it is
  pub read_none : result_ok (read_files numbers (tree_in run.documents)) ≡ Some None → IsRead numbers at B runs
  read_none reads = read_on B None reads (λ t. sym (by t (is_of t run) refl)) then_read.ascending
    where
      by : (t : List ℕ) (b : Bool) → is_of t run ≡ b → cond b None (node_at_key B t) ≡ node_at_key B t
      by t true at = sym (then_read.apart t (ap (λ b. is_some (cond b (Some run.documents) (left_at runs t))) at))
      by t false at = refl

  -- the node that they are is put at their text
  pub read_some : (C : Block) (m : NodeMetadata) → result_ok (read_files numbers (tree_in run.documents)) ≡ Some (Some m) → C ≡ put (string_bytes run.path) m B → IsRead numbers at C runs
  read_some C m reads new =
      read_on C (Some m) reads (λ t. ap (λ D. node_at_key D t) new ∙ found_put t (string_bytes run.path) m B)
      (subst IsAscending (sym new) (put_ascends (string_bytes run.path) m B then_read.ascending))

  -- where they do not read, the documents at some text do not
  not_read : result_ok (read_files numbers (tree_in run.documents)) ≡ None → (t : List ℕ) × (result_ok (read_files numbers (at t)) ≡ None)
  not_read none = (string_bytes run.path, then_read.here (string_bytes run.path) ∙ ap (λ b. now_at numbers (node_at_key B (string_bytes run.path)) (cond b (Some run.documents) (left_at runs (string_bytes run.path)))) (at_itself (string_bytes run.path)) ∙ none)

  -- the refusal of a reading is one of the documents
  pub refused_node : (fault : MetadataFault) → Refuses fault (form_or_fault (codes "metadata") (result_ok (read_files numbers (tree_in run.documents)))) → RefusesTrees numbers at fault
  refused_node fault refused = by (result_ok (read_files numbers (tree_in run.documents))) refl fault refused
    where
      by : (o : Option (Option NodeMetadata)) → result_ok (read_files numbers (tree_in run.documents)) ≡ o → (fault : MetadataFault) → Refuses fault (form_or_fault (codes "metadata") o) → RefusesTrees numbers at fault
      by (Some x) none NotJson refused = cc
      by (Some x) none UnsupportedNumber refused = cc
      by (Some x) none NotAnObject refused = cc
      by (Some x) none WrongFormat refused = cc
      by (Some x) none WrongNodeType refused = cc
      by (Some x) none (MissingMember name) refused = cc
      by (Some x) none (BadMember name) refused = cc
      by (Some x) none OutOfMemory refused = tt
      by None none NotJson refused = cc
      by None none UnsupportedNumber refused = cc
      by None none NotAnObject refused = cc
      by None none WrongFormat refused = cc
      by None none WrongNodeType refused = cc
      by None none (MissingMember name) refused = cc
      by None none (BadMember name) refused = let same : name ≡ codes "metadata" = cc in (same, not_read none)
      by None none OutOfMemory refused = tt

-- where none is left, all are read
pub all_nodes : (numbers : Numbers) (at : List ℕ → File → Option Data) (B : Block) (left : List Run) → left ≡ [] → IsRead numbers at B left → HoldsNodes numbers at (node_at_key B)
all_nodes numbers at B left is h = let done : IsRead numbers at B [] = subst (IsRead numbers at B) is h in λ t. done.here t

-- ---- refusals

-- a refusal that is handed on is one
pub handed_on : {A : Type 0} (r : Result A MetadataFault) (fault : MetadataFault) (P : MetadataFault → Type 0) → IsErrAnd r (λ made. made ≡ fault) → P fault → IfErr r P
handed_on (Ok x) fault P is h = absurd is
handed_on (Err made) fault P is h = subst P (sym is) h

-- the same of a refusal of a reading
pub gives_refused : {A B : Type 0} (see : A → B) (r : Result A MetadataFault) (fault : MetadataFault) (reading : Result B MetadataFault) → IsErrAnd r (λ made. made ≡ fault) → Refuses fault reading → Gives see r reading
gives_refused see (Ok x) fault reading is h = absurd is
gives_refused see (Err made) fault reading is h = subst (λ f. Refuses f reading) (sym is) h

-- what refuses a reading refuses one that has its faults
refuses_too : {A B : Type 0} (fault : MetadataFault) (r : Result A MetadataFault) (q : Result B MetadataFault) → ((f : MetadataFault) → r ≡ Err f → q ≡ Err f) → Refuses fault r → Refuses fault q
refuses_too NotJson r q step h = step NotJson h
refuses_too UnsupportedNumber r q step h = step UnsupportedNumber h
refuses_too NotAnObject r q step h = step NotAnObject h
refuses_too WrongFormat r q step h = step WrongFormat h
refuses_too WrongNodeType r q step h = step WrongNodeType h
refuses_too (MissingMember name) r q step h = step (MissingMember name) h
refuses_too (BadMember name) r q step h = step (BadMember name) h
refuses_too OutOfMemory r q step h = tt

-- ---- both passes

module _ (numbers : Numbers) (ms : Members) where
  -- a refusal of the names is that of the members
  pub gives_names : (fault : MetadataFault) → RefusesNames ms fault → Refuses fault (small_block_in numbers ms)
  gives_names NotJson refused = absurd refused
  gives_names UnsupportedNumber refused = absurd refused
  gives_names NotAnObject refused = absurd refused
  gives_names WrongFormat refused = absurd refused
  gives_names WrongNodeType refused = absurd refused
  gives_names (MissingMember name) refused = absurd refused
  gives_names (BadMember name) refused = names_refused numbers ms refused.1 ∙ ap (λ n. Err (BadMember n)) (sym refused.0)
  gives_names OutOfMemory refused = tt

  module _ (at : List ℕ → File → Option Data) (whole : (t : List ℕ) (file : File) → at t file ≡ member_at ms t file) (named : are_named ms ≡ true) where
    -- what stands at a text reads as what the members have for it
    same_files : (t : List ℕ) → result_ok (read_files numbers (member_at ms t)) ≡ result_ok (read_files numbers (at t))
    same_files t = ap (λ (f : File → Option Data). result_ok (read_files numbers f)) (λ i file. sym (whole t file) i)

    -- the block that was read is that of the members, and a refusal is theirs
    pub gives_nodes : (r : Result Block MetadataFault) → IfOk r (λ B. HoldsNodes numbers at (node_at_key B)) → IfOk r IsAscending → IfErr r (RefusesTrees numbers at)
        → Gives (λ B. B) r (small_block_in numbers ms)
    gives_nodes (Ok B) nodes up refused = block_is numbers ms B named up (λ t. same_files t ∙ nodes t)
    gives_nodes (Err NotJson) nodes up refused = absurd refused
    gives_nodes (Err UnsupportedNumber) nodes up refused = absurd refused
    gives_nodes (Err NotAnObject) nodes up refused = absurd refused
    gives_nodes (Err WrongFormat) nodes up refused = absurd refused
    gives_nodes (Err WrongNodeType) nodes up refused = absurd refused
    gives_nodes (Err (MissingMember name)) nodes up refused = absurd refused
    gives_nodes (Err (BadMember name)) nodes up refused = trees_refused numbers ms refused.1.0 (same_files refused.1.0 ∙ refused.1.1) ∙ ap (λ n. Err (BadMember n)) (sym refused.0)
    gives_nodes (Err OutOfMemory) nodes up refused = tt

-- ---- the document

-- once its members are told, the rest of a document is read of them
taken_by : (numbers : Numbers) (d : Data) (r : Result Members MetadataFault) (ms : Members) → r ≡ Ok ms
    → steps.◌>>=◌ (steps.◌>>=◌ r λ _. steps.◌>>=◌ (required_member (codes "zarr_consolidated_format") one d) λ _. required_member (codes "metadata") as_object d) (small_block_in numbers)
    ≡ zmetadata_taken numbers d
taken_by numbers d (Ok ns) ms is = by (required_member (codes "zarr_consolidated_format") one d)
  where
    by : (q : Result (Unit {0}) MetadataFault) → steps.◌>>=◌ (steps.◌>>=◌ q λ _. required_member (codes "metadata") as_object d) (small_block_in numbers)
        ≡ (steps.◌>>=◌ q λ _. steps.◌>>=◌ (required_member (codes "metadata") as_object d) (small_block_in numbers))
    by (Ok x) = refl
    by (Err e) = refl
taken_by numbers d (Err e) ms is = cc

-- what members whose numbers are among these have for a text fits
pub members_fit : (numbers : Numbers) (ms : Members) → IsTrue (fits_in numbers (object ms)) → (document : List ℕ → File → Option Data) → ((t : List ℕ) (file : File) → document t file ≡ member_at ms t file) → (t : List ℕ) → AllFit numbers (document t)
members_fit numbers ms fits document is t file = subst (λ o. IfSome o (λ d. IsTrue (fits_in numbers d))) (sym (is t file)) (member_fits_in numbers (t ++ 47 ∷ file_name file) ms fits)

-- what a document means is what its members mean
taken_is : (numbers : Numbers) (d : Data) (ms : Members) → document_in numbers d ≡ Ok ms → zmetadata_in numbers d ≡ zmetadata_taken numbers d
unfolding zmetadata_in
taken_is numbers d ms is = taken_by numbers d (document_in numbers d) ms is

-- a fault of the members is the first of the document
document_faults : (numbers : Numbers) (d : Data) (f : MetadataFault) → document_in numbers d ≡ Err f → zmetadata_in numbers d ≡ Err f
unfolding zmetadata_in
document_faults numbers d f e =
    ap (λ (r : Result Members MetadataFault). steps.◌>>=◌ (steps.◌>>=◌ r λ _. steps.◌>>=◌ (required_member (codes "zarr_consolidated_format") one d) λ _. required_member (codes "metadata") as_object d) (small_block_in numbers)) e

module _ (numbers : Numbers) (d : Data) where
  -- what refuses the members refuses the document
  pub refused_document : (fault : MetadataFault) → Refuses fault (document_in numbers d) → Refuses fault (zmetadata_in numbers d)
  refused_document fault refused = refuses_too fault (document_in numbers d) (zmetadata_in numbers d) (document_faults numbers d) refused

  -- what was read of the members was read of the document
  pub gives_document : (ms : Members) (r : Result ConsolidatedMetadata MetadataFault) → document_in numbers d ≡ Ok ms → d ≡ object ms
      → Gives (λ block. block.metadata) r (zmetadata_taken numbers (object ms)) → Gives (λ block. block.metadata) r (zmetadata_in numbers d)
  gives_document ms r reads whole gives = subst (λ q. Gives (λ block. block.metadata) r q) (ap (zmetadata_taken numbers) (sym whole) ∙ sym (taken_is numbers d ms reads)) gives

  -- the block that was read holds the store that the members are
  pub gives_store : (r : Result ConsolidatedMetadata MetadataFault) → Gives (λ block. block.metadata) r (zmetadata_in numbers d)
      → IfOk r (λ block. (ms : Members) × (zmetadata_members_in numbers d ≡ Ok ms) × HoldsStoreIn numbers ms block.metadata × IsCleanIn numbers ms)
  gives_store (Ok block) gives = store_law numbers d block.metadata gives
  gives_store (Err fault) gives = tt

  -- a fault is that of the document
  fault_shown : (fault : MetadataFault) → Refuses fault (zmetadata_in numbers d) → (fault ≡ OutOfMemory) ⊎ IsZmetadataFaultIn numbers d fault
  fault_shown OutOfMemory h = inl refl
  fault_shown NotJson h = inr (refused_law numbers d NotJson h)
  fault_shown UnsupportedNumber h = inr (refused_law numbers d UnsupportedNumber h)
  fault_shown NotAnObject h = inr (refused_law numbers d NotAnObject h)
  fault_shown WrongFormat h = inr (refused_law numbers d WrongFormat h)
  fault_shown WrongNodeType h = inr (refused_law numbers d WrongNodeType h)
  fault_shown (MissingMember name) h = inr (refused_law numbers d (MissingMember name) h)
  fault_shown (BadMember name) h = inr (refused_law numbers d (BadMember name) h)

  -- so is what refused the reading
  pub gives_fault : (r : Result ConsolidatedMetadata MetadataFault) → Gives (λ block. block.metadata) r (zmetadata_in numbers d)
      → IfErr r (λ fault. (fault ≡ OutOfMemory) ⊎ IsZmetadataFaultIn numbers d fault)
  gives_fault (Ok block) gives = tt
  gives_fault (Err fault) gives = fault_shown fault gives

  -- and its keys ascend
  pub gives_ascending : (r : Result ConsolidatedMetadata MetadataFault) → Gives (λ block. block.metadata) r (zmetadata_in numbers d) → IfOk r (λ block. IsAscending block.metadata)
  gives_ascending (Ok block) gives = ascending_law numbers d block.metadata gives
  gives_ascending (Err fault) gives = tt
