-- The block of what paths mean, and the documents that count for it.
use Rattle.std.proofs.Common.{◌≡◌, ℕ, Bool, true, false, true≢false, not, cond, ◌||◌, List, [], ◌∷◌, ◌++◌, Option, Some, None, refl, sym, ap, subst, ◌∙◌, bytes_eq, is_eq}
use Rattle.std.specs.List.{AllByRecursion, list_all, list_any, filter}
use Rattle.std.proofs.lemmas.Bool.{and_from}
use Rattle.std.proofs.lemmas.List.Elements.{All-filter, All-from_recursion, recursion_from_All}
use Rattle.std.proofs.lemmas.Slice.Eq.{bytes_eq-Decides}
use Rattle.serde_json.specs.Data.{Data, Members, no_members, member}
use Rattle.serde_json.specs.Find.{get_member}
use Rattle.zarrs_store.specs.Segments.{Segments, bytes_cmp, key_text, last_segment}
use Rattle.zarrs_store.proofs.ChildLemmas.{last_segment-child}
use Rattle.zarrs_path.specs.Names.{is_name}
use Rattle.zarrs_path.specs.Paths.{Path, IsPath, path_eq}
use Rattle.zarrs_path.specs.PathOrder.{path_decides}
use Rattle.zarrs_form.specs.Forms.{is_nil}
use Rattle.zarrs_meta.specs.declared.node.NodeMetadata.{NodeMetadata}
use Rattle.zarrs_block.specs.Block.{Block, node_at_key}
use Rattle.zarrs_meaning.specs.Meaning.{Meaning, node, nothing, bad}
use Rattle.zarrs_meaning.specs.Small.{is_document_v2, counted_members}
use Rattle.zarrs_store.specs.Segments.{stretches}
use Rattle.zarrs_meaning.specs.Meaning.{is_bad}
use Rattle.zarrs_block.specs.Zmetadata.{before_last, documents_below, is_good, with_node, block_from}
use Rattle.zarrs_block.proofs.Expansion.{same_text, at_itself}
use Rattle.zarrs_block.proofs.KeyLaws.{one_text, slash_apart}
use Rattle.zarrs_block.proofs.PutEntries.{found_put}
use Rattle.zarrs_block.proofs.SmallStores.{before_last-child}
use Rattle.zarrs_block.proofs.SmallLaws.{stretches_of, got_member}
use Rattle.zarrs_block.proofs.ZmetadataDocuments.{IsNamed, AreNamed}

-- ---- the block of what paths mean

-- the node that a path means, if it means one
abbrev pub node_of : Meaning → Option NodeMetadata
node_of (node m) = Some m
node_of nothing = None
node_of (bad e) = None

-- a document that counts stands behind names
abbrev pub IsBelowNames : Segments × Data → Type 0
IsBelowNames e = IsPath (before_last e.0)

-- at another text there is what there was
found_apart : (q t : List ℕ) (p : Path) (m : Meaning) (B : Block) → q ≡ key_text p → is_eq (bytes_cmp t q) ≡ false → node_at_key (with_node p m B) t ≡ node_at_key B t
found_apart q t p (node m) B is apart = found_put t (key_text p) m B ∙ ap (λ b. cond b (Some m) (node_at_key B t)) (ap (λ s. is_eq (bytes_cmp t s)) (sym is) ∙ apart)
found_apart q t p nothing B is apart = refl
found_apart q t p (bad e) B is apart = refl

-- texts that differ are not level
text_apart : (t q : List ℕ) → (t ≡ q → ⊥) → is_eq (bytes_cmp t q) ≡ false
text_apart t q other = by (is_eq (bytes_cmp t q)) refl
  where
    by : (b : Bool) → is_eq (bytes_cmp t q) ≡ b → b ≡ false
    by true is = absurd (other (same_text t q is))
    by false is = refl

-- no node is none, with a test or without
pub none_either : (b : Bool) (o : Option NodeMetadata) → o ≡ None → cond b o None ≡ o
none_either true o none = refl
none_either false o none = sym none

module _ (of : Path → Meaning) where
  -- at names the block has the node that they mean, where a document stands behind them
  pub found_block : (es : List (Segments × Data)) → AllByRecursion IsBelowNames es → (p : Path) → IsPath p
      → node_at_key (block_from of es) (key_text p) ≡ cond (list_any (λ e. path_eq p (before_last e.0)) es) (node_of (of p)) None
  found_block [] paths p h = refl
  found_block (e ∷ es) paths p h = by (path_eq p (before_last e.0)) refl (of (before_last e.0)) refl (found_block es paths.1 p h)
    where
      by : (b : Bool) → path_eq p (before_last e.0) ≡ b → (m : Meaning) → of (before_last e.0) ≡ m
          → node_at_key (block_from of es) (key_text p) ≡ cond (list_any (λ e. path_eq p (before_last e.0)) es) (node_of (of p)) None
          → node_at_key (with_node (before_last e.0) m (block_from of es)) (key_text p) ≡ cond (b || list_any (λ e. path_eq p (before_last e.0)) es) (node_of (of p)) None
      by true here (node m) is rest =
          let same : p ≡ before_last e.0 = (path_decides p (before_last e.0)).0 here in
          found_put (key_text p) (key_text (before_last e.0)) m (block_from of es)
          ∙ ap (λ b. cond b (Some m) (node_at_key (block_from of es) (key_text p))) (ap (λ r. is_eq (bytes_cmp (key_text p) (key_text r))) (sym same) ∙ at_itself (key_text p))
          ∙ ap node_of (sym (ap of same ∙ is))
      by true here nothing is rest = rest ∙ none_either (list_any (λ e. path_eq p (before_last e.0)) es) (node_of (of p)) (ap node_of (ap of ((path_decides p (before_last e.0)).0 here) ∙ is))
      by true here (bad x) is rest = rest ∙ none_either (list_any (λ e. path_eq p (before_last e.0)) es) (node_of (of p)) (ap node_of (ap of ((path_decides p (before_last e.0)).0 here) ∙ is))
      by false apart m is rest =
          found_apart (key_text (before_last e.0)) (key_text p) (before_last e.0) m (block_from of es) refl
          (text_apart (key_text p) (key_text (before_last e.0)) (λ t. true≢false (sym ((path_decides p (before_last e.0)).1 (one_text p (before_last e.0) h paths.0 t)) ∙ apart)))
          ∙ rest

  -- behind a slash it has nothing
  pub found_slashed : (es : List (Segments × Data)) → AllByRecursion IsBelowNames es → (p : Path) → node_at_key (block_from of es) (47 ∷ key_text p) ≡ None
  found_slashed [] paths p = refl
  found_slashed (e ∷ es) paths p =
      found_apart (key_text (before_last e.0)) (47 ∷ key_text p) (before_last e.0) (of (before_last e.0)) (block_from of es) refl
      (text_apart (47 ∷ key_text p) (key_text (before_last e.0)) (slash_apart p (before_last e.0) paths.0))
      ∙ found_slashed es paths.1 p

  -- where no path is bad, all are good
  pub all_good : (es : List (Segments × Data)) → AllByRecursion IsBelowNames es → ((p : Path) → IsPath p → is_bad (of p) ≡ false) → list_all (λ e. is_good of e.0) es ≡ true
  all_good [] paths none = refl
  all_good (e ∷ es) paths none =
      and_from (is_good of e.0) (list_all (λ e. is_good of e.0) es)
      (and_from (list_all is_name (before_last e.0)) (not (is_bad (of (before_last e.0)))) paths.0 (ap not (none (before_last e.0) paths.0)))
      (all_good es paths.1 none)

-- ---- the documents that count

-- names stand before the document's
names_before : (t : List ℕ) → IsNamed t → IsPath (before_last (stretches t))
names_before t (ns, file, h, doc, is) = subst IsPath (sym (ap before_last (ap stretches is ∙ stretches_of ns file h doc) ∙ before_last-child ns file)) h

-- each document that counts stands behind names
counted_named : (ms : Members) → AreNamed ms → AllByRecursion IsBelowNames (counted_members ms)
counted_named no_members named = tt
counted_named (member t d ms) named = by (is_document_v2 (last_segment (stretches t))) (counted_named ms named.1)
  where
    by : (b : Bool) → AllByRecursion IsBelowNames (counted_members ms) → AllByRecursion IsBelowNames (cond b ((stretches t, d) ∷ counted_members ms) (counted_members ms))
    by true rest = (names_before t named.0, rest)
    by false rest = rest

-- so does each below the group
pub below_named : (ms : Members) → AreNamed ms → AllByRecursion IsBelowNames (documents_below ms)
below_named ms named =
    recursion_from_All IsBelowNames (documents_below ms) (All-filter (λ e. not (is_nil (before_last e.0))) IsBelowNames (counted_members ms) (All-from_recursion IsBelowNames (counted_members ms) (counted_named ms named)))

-- `||` is true where its second test is
or_true : (b : Bool) → (b || true) ≡ true
or_true true = refl
or_true false = refl

module _ (n : List ℕ) (ns : Path) (h : IsPath (n ∷ ns)) (file : List ℕ) (doc : is_document_v2 file ≡ true) where
  -- the document stands behind just these names
  abbrev pub here : Segments × Data → Bool
  here e = path_eq (n ∷ ns) (before_last e.0)

  -- the document stands behind some names
  abbrev pub keep : Segments × Data → Bool
  keep e = not (is_nil (before_last e.0))

  -- these names, and the file's
  abbrev pub name : Segments
  name = (n ∷ ns) ++ file ∷ []

  -- a document counts below the group where it is the first member
  listed_first : (s : Segments) → s ≡ name → (d : Data) (es : List (Segments × Data)) → list_any here (filter keep (cond (is_document_v2 (last_segment s)) ((s, d) ∷ es) es)) ≡ true
  listed_first s is d es =
      let before : before_last s ≡ n ∷ ns = ap before_last is ∙ before_last-child (n ∷ ns) file in
      ap (λ b. list_any here (filter keep (cond b ((s, d) ∷ es) es))) (ap (λ k. is_document_v2 (last_segment k)) is ∙ ap is_document_v2 (last_segment-child (n ∷ ns) file) ∙ doc)
      ∙ ap (λ k. list_any here (cond (not (is_nil k)) ((s, d) ∷ filter keep es) (filter keep es))) before
      ∙ ap (λ b. b || list_any here (filter keep es)) (ap (path_eq (n ∷ ns)) before ∙ (path_decides (n ∷ ns) (n ∷ ns)).1 refl)

  -- and where it is a later one
  listed_later : (b : Bool) (e : Segments × Data) (es : List (Segments × Data)) → list_any here (filter keep es) ≡ true → list_any here (filter keep (cond b (e ∷ es) es)) ≡ true
  listed_later false e es later = later
  listed_later true e es later = by (keep e)
    where
      by : (c : Bool) → list_any here (cond c (e ∷ filter keep es) (filter keep es)) ≡ true
      by true = ap (λ x. here e || x) later ∙ or_true (here e)
      by false = later

  -- a document that the members have is listed below the group
  pub listed_below : (ms : Members) (d : Data) → get_member (key_text name) ms ≡ Some d → list_any here (documents_below ms) ≡ true
  listed_below no_members d is = cc
  listed_below (member t e ms) d is = by (bytes_eq (key_text name) t) refl (sym (got_member (key_text name) t e ms) ∙ is) (listed_below ms d)
    where
      by : (b : Bool) → bytes_eq (key_text name) t ≡ b → cond b (Some e) (get_member (key_text name) ms) ≡ Some d → (get_member (key_text name) ms ≡ Some d → list_any here (documents_below ms) ≡ true)
          → list_any here (documents_below (member t e ms)) ≡ true
      by true at node_at_key rest = listed_first (stretches t) (ap stretches (sym ((bytes_eq-Decides (key_text name) t).0 at)) ∙ stretches_of (n ∷ ns) file h doc) e (counted_members ms)
      by false at node_at_key rest = listed_later (is_document_v2 (last_segment (stretches t))) (stretches t, e) (counted_members ms) (rest node_at_key)
