-- What the members that are written of nodes have at a name.
use Rattle.std.proofs.Common.{◌≡◌, ◌<◌, ℕ, zero, suc, Bool, true, false, true≢false, cond, List, [], ◌∷◌, ◌++◌, length, IsTrue, IsSome, Ordering, Less, Equal, Greater, Option, Some, None, option_and_then, refl, sym, ap, subst, ◌∙◌, arith, bytes_eq}
use Rattle.std.specs.Prelude.{Contains}
use Rattle.std.specs.FinMap.{find}
use Rattle.std.specs.List.{AllByRecursion}
use Rattle.std.specs.Map.{lookup}
use Rattle.std.specs.Ordering.{eq_by_cmp, match_ordering, nat_cmp}
use Rattle.std.specs.Cmp.Lexicographic.{slice_cmp}
use Rattle.std.proofs.lemmas.Slice.Eq.{bytes_eq-Decides}
use Rattle.std.proofs.lemmas.List.Elements.{All-contains, All-weaker, recursion_from_All}
use Rattle.serde_json.specs.Data.{Data, Members, no_members, member, put as put_member}
use Rattle.serde_json.specs.Find.{get_member}
use Rattle.serde_json.proofs.Views.{get_member-put, get_member-put_other}
use Rattle.zarrs_store.specs.Segments.{key_text, last_segment}
use Rattle.zarrs_store.proofs.ChildLemmas.{last_segment-child}
use Rattle.zarrs_path.specs.Paths.{Path, IsPath, path_cmp}
use Rattle.zarrs_form.proofs.RowLaws.{or_rest}
use Rattle.zarrs_meta.specs.declared.group_v2.GroupMetadataV2.{GroupMetadataV2}
use Rattle.zarrs_meta.specs.declared.node.ArrayMetadata.TheVariants.{V2 as array_v2, V3 as array_v3}
use Rattle.zarrs_meta.specs.declared.node.GroupMetadata.TheVariants.{V2 as group_v2, V3 as group_v3}
use Rattle.zarrs_meta.specs.declared.node.NodeMetadata.{NodeMetadata}
use Rattle.zarrs_meta.specs.declared.node.NodeMetadata.TheVariants.{Group, Array}
use Rattle.zarrs_block.specs.Block.{Block, IsAscending, HasValidKeys, Entries, entry}
use Rattle.zarrs_block.specs.BlockExpansion.{HaveOwnPaths, pairs_at, paths_at}
use Rattle.zarrs_meaning.specs.Small.{is_document_v2}
use Rattle.zarrs_store.specs.Segments.{stretches}
use Rattle.zarrs_block.specs.Zmetadata.{before_last, attributes_written, node_written, nodes_written, put_documents, documents_written, zmetadata_tree, zmetadata_with, node_at, document_written, HoldsDocuments, IsWrittenOf, WrittenHoldsDocuments}
use Rattle.zarrs_block.proofs.Expansion.{entries_listed, own_paths}
use Rattle.zarrs_block.proofs.SmallStores.{before_last-child, same_key, own_key}
use Rattle.zarrs_block.proofs.SmallLaws.{stretches_of, got_member}

-- ---- documents behind the names of one path

-- names and documents with one text are one
same_names : (p q : Path) (f h : List ℕ) → IsPath p → IsPath q → is_document_v2 f ≡ true → is_document_v2 h ≡ true → key_text (p ++ f ∷ []) ≡ key_text (q ++ h ∷ []) → p ++ f ∷ [] ≡ q ++ h ∷ []
same_names p q f h pp pq df dh e = sym (stretches_of p f pp df) ∙ ap stretches e ∙ stretches_of q h pq dh

-- each of these is the name of a document
abbrev pub AreFiles : List (List ℕ × Data) → Type 0
AreFiles ds = AllByRecursion (λ d. is_document_v2 d.0 ≡ true) ds

module _ (p : Path) (h : IsPath p) (f : List ℕ) (doc : is_document_v2 f ≡ true) (ms : Members) where
  -- a name of documents that were put has its document
  pub put_here : (ds : List (List ℕ × Data)) → AreFiles ds → get_member (key_text (p ++ f ∷ [])) (put_documents p ds ms) ≡ or_rest (lookup (bytes_eq f) ds) (get_member (key_text (p ++ f ∷ [])) ms)
  put_here [] files = refl
  put_here (d ∷ ds) files = by (bytes_eq f d.0) refl (put_here ds files.1)
    where
      by : (b : Bool) → bytes_eq f d.0 ≡ b → get_member (key_text (p ++ f ∷ [])) (put_documents p ds ms) ≡ or_rest (lookup (bytes_eq f) ds) (get_member (key_text (p ++ f ∷ [])) ms)
          → get_member (key_text (p ++ f ∷ [])) (put_member (key_text (p ++ d.0 ∷ [])) d.1 (put_documents p ds ms)) ≡ or_rest (cond b (Some d.1) (lookup (bytes_eq f) ds)) (get_member (key_text (p ++ f ∷ [])) ms)
      by true is rest =
          let same : f ≡ d.0 = (bytes_eq-Decides f d.0).0 is in
          ap (λ s. get_member (key_text (p ++ s ∷ [])) (put_member (key_text (p ++ d.0 ∷ [])) d.1 (put_documents p ds ms))) same ∙ get_member-put (key_text (p ++ d.0 ∷ [])) d.1 (put_documents p ds ms)
      by false is rest =
          get_member-put_other (key_text (p ++ f ∷ [])) (key_text (p ++ d.0 ∷ [])) d.1 (put_documents p ds ms)
          (λ e.
          let same : f ≡ d.0 = sym (last_segment-child p f) ∙ ap last_segment (same_names p p f d.0 h h doc files.0 e) ∙ last_segment-child p d.0 in
          true≢false (sym ((bytes_eq-Decides f d.0).1 same) ∙ is))
          ∙ rest

  -- other names have what they had
  pub put_there : (q : Path) → IsPath q → (p ≡ q → ⊥) → (ds : List (List ℕ × Data)) → AreFiles ds → get_member (key_text (p ++ f ∷ [])) (put_documents q ds ms) ≡ get_member (key_text (p ++ f ∷ [])) ms
  put_there q hq other [] files = refl
  put_there q hq other (d ∷ ds) files =
      get_member-put_other (key_text (p ++ f ∷ [])) (key_text (q ++ d.0 ∷ [])) d.1 (put_documents q ds ms)
      (λ e. other (sym (before_last-child p f) ∙ ap before_last (same_names p q f d.0 h hq doc files.0 e) ∙ before_last-child q d.0))
      ∙ put_there q hq other ds files.1

-- attributes are written as a document
attributes_files : (a : Members) → AreFiles (attributes_written a)
attributes_files no_members = tt
attributes_files (member k d ms) = (refl, tt)

-- what is written of a node are documents
pub node_files : (m : NodeMetadata) → AreFiles (node_written m)
node_files (Group (group_v2 m)) = (refl, attributes_files m.attributes)
node_files (Group (group_v3 m)) = tt
node_files (Array (array_v2 m)) = (refl, attributes_files m.attributes)
node_files (Array (array_v3 m)) = tt

-- ---- documents of nodes at paths that differ

-- the path of a pair is a path
abbrev pub HasPath : Path × NodeMetadata → Type 0
HasPath e = IsPath e.0

-- no later pair has the path of an earlier one
abbrev pub Apart : List (Path × NodeMetadata) → Type 0
Apart [] = Unit {0}
Apart (e ∷ es) = (find path_cmp e.0 es ≡ None) × Apart es

-- nothing behind a document
or_none : (o : Option Data) → or_rest o None ≡ o
or_none None = refl
or_none (Some d) = refl

module _ (p : Path) (h : IsPath p) (f : List ℕ) (doc : is_document_v2 f ≡ true) where
  -- a name of a document has what is written of the node at its path
  pub node_documents : (es : List (Path × NodeMetadata)) → AllByRecursion HasPath es → Apart es → get_member (key_text (p ++ f ∷ [])) (nodes_written es) ≡ option_and_then (document_written f) (find path_cmp p es)
  node_documents [] paths apart = refl
  node_documents (e ∷ es) paths apart = by (eq_by_cmp path_cmp p e.0) refl (node_documents es paths.1 apart.1)
    where
      by : (b : Bool) → eq_by_cmp path_cmp p e.0 ≡ b → get_member (key_text (p ++ f ∷ [])) (nodes_written es) ≡ option_and_then (document_written f) (find path_cmp p es)
          → get_member (key_text (p ++ f ∷ [])) (put_documents e.0 (node_written e.1) (nodes_written es)) ≡ option_and_then (document_written f) (cond b (Some e.1) (find path_cmp p es))
      by true is rest =
          let same : p ≡ e.0 = same_key p e.0 is in
          let none : get_member (key_text (p ++ f ∷ [])) (nodes_written es) ≡ None = rest ∙ ap (option_and_then (document_written f)) (ap (λ q. find path_cmp q es) same ∙ apart.0) in
          ap (λ q. get_member (key_text (p ++ f ∷ [])) (put_documents q (node_written e.1) (nodes_written es))) (sym same)
          ∙ put_here p h f doc (nodes_written es) (node_written e.1) (node_files e.1) ∙ ap (or_rest (document_written f e.1)) none ∙ or_none (document_written f e.1)
      by false is rest =
          put_there p h f doc (nodes_written es) e.0 paths.0 (λ e'. true≢false (sym (ap (eq_by_cmp path_cmp p) (sym e') ∙ own_key p) ∙ is)) (node_written e.1) (node_files e.1)
          ∙ rest

-- ---- the pairs of a block

-- a node that is found at a path is listed
found_listed : (p : Path) (m : NodeMetadata) (es : List (Path × NodeMetadata)) → find path_cmp p es ≡ Some m → Contains es (p, m)
found_listed p m [] is = cc
found_listed p m (e ∷ es) is = by (eq_by_cmp path_cmp p e.0) refl is (found_listed p m es)
  where
    by : (b : Bool) → eq_by_cmp path_cmp p e.0 ≡ b → cond b (Some e.1) (find path_cmp p es) ≡ Some m → (find path_cmp p es ≡ Some m → Contains es (p, m)) → Contains (e ∷ es) (p, m)
    by true at is rest =
        let value : e.1 ≡ m = cc in
        (zero, omega arith, λ i. (sym (same_key p e.0 at) i, value i))
    by false at is rest =
        let w = rest is in
        let less : w.0 < length es = w.1 in
        (suc w.0, omega (arith, less), w.2)

-- what is no node is none
none_of : (o : Option NodeMetadata) → ((m : NodeMetadata) → o ≡ Some m → ⊥) → o ≡ None
none_of None h = refl
none_of (Some m) h = absurd (h m refl)

-- none is no node
some_none : (m : NodeMetadata) → None ≡ Some m → ⊥
some_none m e = cc

-- pairs whose paths differ are apart
apart_of : (es : List (Path × NodeMetadata)) → HaveOwnPaths es → Apart es
apart_of [] own = tt
apart_of (e ∷ es) own = (
  none_of (find path_cmp e.0 es)
      (λ m is.
      let w = found_listed e.0 m es is in
      let less : w.0 < length es = w.1 in
      own zero (suc w.0) (e.0, m) (omega arith) (omega (arith, less)) (ap (λ d. d.0) (sym w.2))),
  apart_of es (λ i j d l m. own (suc i) (suc j) d (omega (arith, l)) (omega (arith, m))),
)

-- a node that is listed is found, where the paths differ
listed_found : (p : Path) (m : NodeMetadata) (es : List (Path × NodeMetadata)) → Apart es → Contains es (p, m) → find path_cmp p es ≡ Some m
listed_found p m [] apart (k, l, is) = absurd (omega (arith, l))
listed_found p m (e ∷ es) apart (zero, l, is) =
    let at : eq_by_cmp path_cmp p e.0 ≡ true = ap (eq_by_cmp path_cmp p) (ap (λ d. d.0) is) ∙ own_key p in
    ap (λ b. cond b (Some e.1) (find path_cmp p es)) at ∙ ap (λ d. Some d.1) is
listed_found p m (e ∷ es) apart (suc k, l, is) = by (eq_by_cmp path_cmp p e.0) refl (listed_found p m es apart.1 (k, omega (arith, l), is))
  where
    by : (b : Bool) → eq_by_cmp path_cmp p e.0 ≡ b → find path_cmp p es ≡ Some m → cond b (Some e.1) (find path_cmp p es) ≡ Some m
    by true at found = absurd (some_none m (sym apart.0 ∙ ap (λ q. find path_cmp q es) (sym (same_key p e.0 at)) ∙ found))
    by false at found = found

-- the pairs of a block below the root
abbrev pub pairs : Block → List (Path × NodeMetadata)
pairs B = pairs_at (paths_at [] B B) B

module _ (B : Block) (up : IsAscending B) (valid : HasValidKeys B) where
  -- what is listed is an entry
  listed_entry : (p : Path) (m : NodeMetadata) → Contains (pairs B) (p, m) → Entries B [] (p, m)
  listed_entry p m h = All-contains (Entries B []) (pairs B) (p, m) (entries_listed [] B up valid).sound h

  -- at names there is found what the block has there
  entry_by : (n : List ℕ) (ns : Path) → IsPath (n ∷ ns) → (o : Option NodeMetadata) → entry B (n ∷ ns) ≡ o → find path_cmp (n ∷ ns) (pairs B) ≡ o
  entry_by n ns h (Some m) is = listed_found (n ∷ ns) m (pairs B) (apart_of (pairs B) (own_paths [] B up valid)) ((entries_listed [] B up valid).complete (n ∷ ns, m) (n, ns, h, refl, is))
  entry_by n ns h None is =
      none_of (find path_cmp (n ∷ ns) (pairs B)) (λ m found.
      let w = listed_entry (n ∷ ns) m (found_listed (n ∷ ns) m (pairs B) found) in
      some_none m (sym is ∙ ap (entry B) w.3 ∙ w.4))

  -- the paths of the pairs are paths
  pub pairs_have_paths : AllByRecursion HasPath (pairs B)
  pairs_have_paths = recursion_from_All HasPath (pairs B) (All-weaker (Entries B []) HasPath (λ e w. subst IsPath (sym w.3) w.2) (pairs B) (entries_listed [] B up valid).sound)

  -- none of them is the root
  root_apart : find path_cmp [] (pairs B) ≡ None
  root_apart =
      none_of (find path_cmp [] (pairs B)) (λ m found.
      let w = listed_entry [] m (found_listed [] m (pairs B) found) in
      let empty : [] ≡ w.0 ∷ w.1 = w.3 in
      cc)

  module _ (g : GroupMetadataV2) where
    -- the group itself, and then the pairs
    abbrev whole : List (Path × NodeMetadata)
    whole = ([], Group (group_v2 g)) ∷ pairs B

    -- the node at a path is found
    pub found_node : (ns : Path) → IsPath ns → find path_cmp ns whole ≡ node_at g B ns
    found_node [] h = refl
    found_node (n ∷ ns) h = entry_by n ns h (entry B (n ∷ ns)) refl

    -- the documents of the node at a path are found
    pub found_documents : (ns : Path) (file : List ℕ) → IsPath ns → IsTrue (is_document_v2 file) → get_member (key_text (ns ++ file ∷ [])) (documents_written g B) ≡ option_and_then (document_written file) (node_at g B ns)
    found_documents ns file h doc =
        node_documents ns h file doc whole (refl, pairs_have_paths) (root_apart, apart_of (pairs B) (own_paths [] B up valid)) ∙ ap (option_and_then (document_written file)) (found_node ns h)

-- ---- the names of the members

-- a text is names and the name of a document, joined by slashes
abbrev pub IsNamed : List ℕ → Type 0
IsNamed t = (ns : Path) × (file : List ℕ) × IsPath ns × IsTrue (is_document_v2 file) × (t ≡ key_text (ns ++ file ∷ []))

-- each name of a member is such a text
abbrev pub AreNamed : Members → Type 0
AreNamed no_members = Unit {0}
AreNamed (member t d ms) = IsNamed t × AreNamed ms

-- one more member is put
put_named : (t : List ℕ) (d : Data) (ms : Members) → IsNamed t → AreNamed ms → AreNamed (put_member t d ms)
put_named t d no_members n h = (n, tt)
put_named t d (member l e ms) n h = by (slice_cmp nat_cmp t l) (put_named t d ms n h.1)
  where
    by : (o : Ordering) → AreNamed (put_member t d ms) → AreNamed (match_ordering o (member t d (member l e ms)) (member l d ms) (member l e (put_member t d ms)))
    by Less rest = (n, h)
    by Equal rest = h
    by Greater rest = (h.0, rest)

-- the documents of a path are put
documents_named : (p : Path) → IsPath p → (ds : List (List ℕ × Data)) → AreFiles ds → (ms : Members) → AreNamed ms → AreNamed (put_documents p ds ms)
documents_named p h [] files ms named = named
documents_named p h (d ∷ ds) files ms named = put_named (key_text (p ++ d.0 ∷ [])) d.1 (put_documents p ds ms) (p, d.0, h, files.0, refl) (documents_named p h ds files.1 ms named)

-- so are the names of what is written of nodes at paths
pub nodes_named : (es : List (Path × NodeMetadata)) → AllByRecursion HasPath es → AreNamed (nodes_written es)
nodes_named [] paths = tt
nodes_named (e ∷ es) paths = documents_named e.0 paths.0 (node_written e.1) (node_files e.1) (nodes_written es) (nodes_named es paths.1)

-- a name that is found is such a text
pub named_of : (t : List ℕ) (ms : Members) → AreNamed ms → IsSome (get_member t ms) → IsNamed t
named_of t no_members h s = absurd (true≢false (sym s))
named_of t (member l d ms) h s = by (bytes_eq t l) refl (subst IsSome (got_member t l d ms) s) (named_of t ms h.1)
  where
    by : (b : Bool) → bytes_eq t l ≡ b → IsSome (cond b (Some d) (get_member t ms)) → (IsSome (get_member t ms) → IsNamed t) → IsNamed t
    by true is found rest = subst IsNamed (sym ((bytes_eq-Decides t l).0 is)) h.0
    by false is found rest = rest found

-- what is written of a group and its block holds their documents
pub written_holds_documents : WrittenHoldsDocuments
written_holds_documents g B up valid = record {
  documents = found_documents B up valid g;
  no_others = λ t s. named_of t (documents_written g B) (nodes_named (([], Group (group_v2 g)) ∷ pairs B) (refl, pairs_have_paths B up valid)) s;
}

module _ (g h : GroupMetadataV2) (B C : Block) (b : Path) (es : List (Path × NodeMetadata)) (low ms : Members) (d : Data) (copied : C ≡ B) (root : b ≡ []) (same : h ≡ g)
    (up : IsAscending C) (valid : HasValidKeys C) (listed : es ≡ pairs_at (paths_at b C C) C) (lower : low ≡ nodes_written es)
    (put : ms ≡ put_documents b (node_written (Group (group_v2 h))) low) (is : d ≡ zmetadata_with ms) where
  -- the documents that were put of copies are those of the group and the block
  are_written : ms ≡ documents_written g C
  are_written =
      put ∙ ap (λ p. put_documents p (node_written (Group (group_v2 h))) low) root ∙ ap (λ m. put_documents [] (node_written (Group (group_v2 m))) low) same
      ∙ ap (λ x. put_documents [] (node_written (Group (group_v2 g))) x) (lower ∙ ap nodes_written (listed ∙ ap (λ p. pairs_at (paths_at p C C) C) root))

  -- so the document is that of the group and the block
  pub tree_written : d ≡ zmetadata_tree g B
  tree_written = is ∙ ap zmetadata_with (are_written ∙ ap (documents_written g) copied)

  -- and holds their documents
  pub holds_written : IsWrittenOf g B d
  holds_written = record {
    members = ms;
    is = is;
    holds = subst (λ X. HoldsDocuments g X ms) copied (subst (HoldsDocuments g C) (sym are_written) (written_holds_documents g C up valid));
  }
