-- The block that a small store is: what it has at its keys, and that no path below the group is bad.
use Rattle.std.proofs.Common.{All, ◌≡◌, ◌≢◌, ◌⊎◌, inl, inr, ⊎_elim, ℕ, Bool, true, false, true≢false, not, cond, if◌then◌else◌, List, [], ◌∷◌, ◌++◌, Option, Some, None, unwrap_or, Result, Ok, Err, is_eq, codes, refl, sym, ap, subst, ◌∙◌}
use Rattle.std.specs.List.{list_all, filter, AllByRecursion}
use Rattle.std.specs.FinMap.{find}
use Rattle.std.specs.Result.{result_ok}
use Rattle.std.proofs.lemmas.Bool.{and_parts, and_from, not-true, false_from_ne_true}
use Rattle.std.proofs.lemmas.List.Elements.{All-head, All-tail, All-from_recursion}
use Rattle.std.proofs.lemmas.List.Splits.{join_with_byte-slice_split}
use Rattle.serde_json.specs.Data.{Data, Members}
use Rattle.zarrs_store.specs.Segments.{Segments, bytes_cmp, key_cmp, key_text}
use Rattle.zarrs_fault.specs.declared.fault.MetadataFault.{MetadataFault}
use Rattle.zarrs_fault.specs.declared.fault.MetadataFault.TheVariants.{BadMember}
use Rattle.zarrs_fault.specs.declared.numbers.Numbers.{Numbers}
use Rattle.zarrs_store.proofs.Cuts.{parts-join, parts_some, segments_clean}
use Rattle.zarrs_path.specs.Names.{is_name}
use Rattle.zarrs_path.specs.Paths.{Path, IsPath}
use Rattle.zarrs_path.specs.Keys.{zarray, zgroup, zattrs}
use Rattle.zarrs_path.proofs.PathTexts.{segments_from_names}
use Rattle.zarrs_form.specs.Documents as steps
use Rattle.zarrs_form.specs.Forms.{is_nil}
use Rattle.zarrs_meta.specs.declared.node.NodeMetadata.{NodeMetadata}
use Rattle.zarrs_block.specs.Block.{Block, IsAscending, node_at_key}
use Rattle.zarrs_meaning.specs.declared.node_create_error.NodeCreateError.{NodeCreateError}
use Rattle.zarrs_meaning.specs.Meaning.{Meaning, node, nothing, bad}
use Rattle.zarrs_meaning.specs.Small.{small_meaning_in, counted_members, small}
use Rattle.zarrs_store.specs.Segments.{stretches}
use Rattle.zarrs_meaning.specs.Meaning.{is_bad}
use Rattle.zarrs_block.specs.Zmetadata.{before_last, documents_below, is_good, with_node, block_from, small_block_in, zmetadata_members_in, zmetadata_in, HoldsStoreIn, IsCleanIn, IsZmetadataFaultIn}
use Rattle.zarrs_block.specs.StepsOfZmetadata.{read_documents, read_files, member_at, are_named}
use Rattle.zarrs_block.proofs.Expansion.{at_itself, same_text}
use Rattle.zarrs_block.proofs.PutEntries.{found_put, put_ascends, none_ascend}
use Rattle.zarrs_block.proofs.SameBlocks.{one_block}
use Rattle.zarrs_block.proofs.SmallStores.{before_last-child, same_key, as_read, looked_up, based_read, text_read}

-- the documents with segments before the last
abbrev pub below_of : List (Segments × Data) → List (Segments × Data)
below_of es = filter (λ e. not (is_nil (before_last e.0))) es

-- a path is cut out of its text
pub parts_text : (n : List ℕ) (ns : Path) → IsPath (n ∷ ns) → stretches (key_text (n ∷ ns)) ≡ n ∷ ns
parts_text n ns h = parts-join (n ∷ ns) (λ e. cc) (segments_clean (n ∷ ns) (segments_from_names (n ∷ ns) h))

-- ---- what a meaning shows

-- what shows metadata is a node
node_from : (x : Meaning) (m : NodeMetadata) → as_read x ≡ Some (Some m) → x ≡ node m
node_from (node n) m e = let same : n ≡ m = cc in ap node same
node_from nothing m e = cc
node_from (bad f) m e = cc

-- what shows nothing is bad
bad_from : (x : Meaning) → as_read x ≡ None → is_bad x ≡ true
bad_from (node n) e = cc
bad_from nothing e = cc
bad_from (bad f) e = refl

-- what shows a node or nothing is not bad
not_bad : (x : Meaning) (o : Option NodeMetadata) → as_read x ≡ Some o → is_bad x ≡ false
not_bad (node n) o e = refl
not_bad nothing o e = refl
not_bad (bad f) o e = cc

-- ---- the block of some documents, by what their paths mean

module _ (of : Path → Meaning) where
  -- each document below the group is good
  abbrev pub all_good : List (Segments × Data) → Bool
  all_good es = list_all (λ e. is_good of e.0) (below_of es)

  -- a document that is found below the group is good
  good_found : (es : List (Segments × Data)) (k : Segments) (d : Data) → is_nil (before_last k) ≡ false → all_good es ≡ true → find key_cmp k es ≡ Some d → is_good of k ≡ true
  good_found [] k d some all e = cc
  good_found (x ∷ es) k d some all e = by (is_nil (before_last x.0)) refl (is_eq (key_cmp k x.0)) refl (good_found es k d some) all e
    where
      by : (n : Bool) → is_nil (before_last x.0) ≡ n → (c : Bool) → is_eq (key_cmp k x.0) ≡ c → (all_good es ≡ true → find key_cmp k es ≡ Some d → is_good of k ≡ true)
          → list_all (λ e. is_good of e.0) (cond (not n) (x ∷ below_of es) (below_of es)) ≡ true → cond c (Some x.1) (find key_cmp k es) ≡ Some d → is_good of k ≡ true
      by true nil true at again every is = absurd (true≢false (sym nil ∙ ap (λ j. is_nil (before_last j)) (sym (same_key k x.0 at)) ∙ some))
      by false nil true at again every is = ap (is_good of) (same_key k x.0 at) ∙ (and_parts (is_good of x.0) (all_good es) every).0
      by true nil false at again every is = again every is
      by false nil false at again every is = again (and_parts (is_good of x.0) (all_good es) every).1 is

  -- the parts of a good document's name before the last are names
  names_of_good : (k : Segments) → is_good of k ≡ true → IsPath (before_last k)
  names_of_good k h = (and_parts (list_all is_name (before_last k)) (not (is_bad (of (before_last k)))) h).0

  -- and their path is not bad
  sound_of_good : (k : Segments) → is_good of k ≡ true → is_bad (of (before_last k)) ≡ false
  sound_of_good k h = not-true (is_bad (of (before_last k))) (and_parts (list_all is_name (before_last k)) (not (is_bad (of (before_last k)))) h).1

  -- below names stands each document that counts
  pub all_paths : (es : List (Segments × Data)) → all_good es ≡ true → AllByRecursion (λ e. IsPath (before_last e.0)) es
  all_paths [] all = tt
  all_paths (x ∷ es) all = by (before_last x.0) refl (all_paths es) all
    where
      by : (p : Path) → before_last x.0 ≡ p → (all_good es ≡ true → AllByRecursion (λ e. IsPath (before_last e.0)) es)
          → list_all (λ e. is_good of e.0) (cond (not (is_nil p)) (x ∷ below_of es) (below_of es)) ≡ true → IsPath (before_last x.0) × AllByRecursion (λ e. IsPath (before_last e.0)) es
      by [] is again every = (subst IsPath (sym is) refl, again every)
      by (n ∷ ns) is again every = let both = and_parts (is_good of x.0) (all_good es) every in (names_of_good x.0 both.0, again both.1)

  -- the keys of the block ascend
  pub from_ascends : (es : List (Segments × Data)) → IsAscending (block_from of es)
  from_ascends [] = none_ascend
  from_ascends (x ∷ es) = by (of (before_last x.0)) (from_ascends es)
    where
      by : (y : Meaning) → IsAscending (block_from of es) → IsAscending (with_node (before_last x.0) y (block_from of es))
      by (node m) up = put_ascends (key_text (before_last x.0)) m (block_from of es) up
      by nothing up = up
      by (bad e) up = up

  module _ (t : List ℕ) (m : NodeMetadata) where
    -- some path has this text and means these metadata
    abbrev pub IsMeant : Type 0
    IsMeant = (n : List ℕ) × (ns : Path) × (t ≡ key_text (n ∷ ns)) × (of (n ∷ ns) ≡ node m)

    -- the same of a block with one more, or as before
    meant_with : (n : List ℕ) (ns : Path) (x : Meaning) (B : Block) → of (n ∷ ns) ≡ x → (node_at_key B t ≡ Some m → IsMeant) → node_at_key (with_node (n ∷ ns) x B) t ≡ Some m → IsMeant
    meant_with n ns (node y) B is again h = by (is_eq (bytes_cmp t (key_text (n ∷ ns)))) refl (sym (found_put t (key_text (n ∷ ns)) y B) ∙ h)
      where
        by : (b : Bool) → is_eq (bytes_cmp t (key_text (n ∷ ns))) ≡ b → cond b (Some y) (node_at_key B t) ≡ Some m → IsMeant
        by true at e = let same : y ≡ m = cc in (n, ns, same_text t (key_text (n ∷ ns)) at, is ∙ ap node same)
        by false at e = again e
    meant_with n ns nothing B is again h = again h
    meant_with n ns (bad e) B is again h = again h

    -- what the block has at a text, a path of that text means
    pub meant_from : (es : List (Segments × Data)) → node_at_key (block_from of (below_of es)) t ≡ Some m → IsMeant
    meant_from [] h = cc
    meant_from (x ∷ es) h = by (before_last x.0) refl (meant_from es) h
      where
        by : (p : Path) → before_last x.0 ≡ p → (node_at_key (block_from of (below_of es)) t ≡ Some m → IsMeant)
            → node_at_key (block_from of (cond (not (is_nil p)) (x ∷ below_of es) (below_of es))) t ≡ Some m → IsMeant
        by [] is again g = again g
        by (n ∷ ns) is again g =
            meant_with n ns (of (n ∷ ns)) (block_from of (below_of es)) refl again (subst (λ q. node_at_key (with_node q (of q) (block_from of (below_of es))) t ≡ Some m) is g)

  module _ (n : List ℕ) (ns : Path) (m : NodeMetadata) (valid : IsPath (n ∷ ns)) (means : of (n ∷ ns) ≡ node m) where
    -- the text of the path
    abbrev own : List ℕ
    own = key_text (n ∷ ns)

    -- where the path comes first, its metadata are put at its text
    here_with : (B : Block) → node_at_key (with_node (n ∷ ns) (of (n ∷ ns)) B) own ≡ Some m
    here_with B = subst (λ x. node_at_key (with_node (n ∷ ns) x B) own ≡ Some m) (sym means) (found_put own own m B ∙ ap (λ b. cond b (Some m) (node_at_key B own)) (at_itself own))

    -- where another comes first, they stay there
    later_with : (l : List ℕ) (ls : Path) (x : Meaning) (B : Block) → of (l ∷ ls) ≡ x → IsPath (l ∷ ls) → node_at_key B own ≡ Some m → node_at_key (with_node (l ∷ ls) x B) own ≡ Some m
    later_with l ls (node y) B is other h = found_put own (key_text (l ∷ ls)) y B ∙ by (is_eq (bytes_cmp own (key_text (l ∷ ls)))) refl
      where
        by : (b : Bool) → is_eq (bytes_cmp own (key_text (l ∷ ls))) ≡ b → cond b (Some y) (node_at_key B own) ≡ Some m
        by true at =
            let path : n ∷ ns ≡ l ∷ ls = sym (parts_text n ns valid) ∙ ap stretches (same_text own (key_text (l ∷ ls)) at) ∙ parts_text l ls other in
            let same : node y ≡ node m = sym is ∙ ap of (sym path) ∙ means in
            let alike : y ≡ m = cc in
            ap Some alike
        by false at = h
    later_with l ls nothing B is other h = h
    later_with l ls (bad e) B is other h = h

    -- where a path of names has a document and means metadata, the block has them at its text
    pub held_at : (f : List ℕ) (d : Data) (es : List (Segments × Data)) → all_good es ≡ true → find key_cmp ((n ∷ ns) ++ f ∷ []) es ≡ Some d → node_at_key (block_from of (below_of es)) own ≡ Some m
    held_at f d [] all e = cc
    held_at f d (x ∷ es) all e = by (before_last x.0) refl (is_eq (key_cmp ((n ∷ ns) ++ f ∷ []) x.0)) refl (held_at f d es) all e
      where
        -- the document that is found is that of the path
        same : is_eq (key_cmp ((n ∷ ns) ++ f ∷ []) x.0) ≡ true → n ∷ ns ≡ before_last x.0
        same at = sym (before_last-child (n ∷ ns) f) ∙ ap before_last (same_key ((n ∷ ns) ++ f ∷ []) x.0 at)

        by : (p : Path) → before_last x.0 ≡ p → (c : Bool) → is_eq (key_cmp ((n ∷ ns) ++ f ∷ []) x.0) ≡ c
            → (all_good es ≡ true → find key_cmp ((n ∷ ns) ++ f ∷ []) es ≡ Some d → node_at_key (block_from of (below_of es)) own ≡ Some m)
            → list_all (λ e. is_good of e.0) (cond (not (is_nil p)) (x ∷ below_of es) (below_of es)) ≡ true → cond c (Some x.1) (find key_cmp ((n ∷ ns) ++ f ∷ []) es) ≡ Some d
            → node_at_key (block_from of (cond (not (is_nil p)) (x ∷ below_of es) (below_of es))) own ≡ Some m
        by [] is true at again every g = let none : n ∷ ns ≡ [] = same at ∙ is in cc
        by [] is false at again every g = again every g
        by (l ∷ ls) is true at again every g = subst (λ q. node_at_key (with_node q (of q) (block_from of (below_of es))) own ≡ Some m) (same at) (here_with (block_from of (below_of es)))
        by (l ∷ ls) is false at again every g =
            let both = and_parts (is_good of x.0) (all_good es) every in
            subst (λ q. node_at_key (with_node q (of q) (block_from of (below_of es))) own ≡ Some m) (sym is)
            (later_with l ls (of (l ∷ ls)) (block_from of (below_of es)) refl (subst IsPath is (names_of_good x.0 both.0)) (again both.1 g))

-- ---- the documents of a path

module _ (numbers : Numbers) (ms : Members) where
  -- what a path means behind no base
  abbrev pub meant : Path → Meaning
  meant = small_meaning_in numbers (small [] ms)

  -- a document of the path counts
  abbrev pub HasDocument : Path → Type 0
  HasDocument q = (f : List ℕ) × (d : Data) × (find key_cmp (q ++ f ∷ []) (counted_members ms) ≡ Some d)

  -- a document of a path counts, or it means nothing
  pub document_or_none : (q : Path) → HasDocument q ⊎ (result_ok (looked_up numbers ms q) ≡ Some None)
  document_or_none q = by (find key_cmp (q ++ zarray ∷ []) (counted_members ms)) refl (find key_cmp (q ++ zgroup ∷ []) (counted_members ms)) refl
    where
      by : (a : Option Data) → find key_cmp (q ++ zarray ∷ []) (counted_members ms) ≡ a → (g : Option Data) → find key_cmp (q ++ zgroup ∷ []) (counted_members ms) ≡ g
          → HasDocument q ⊎ (result_ok (read_documents numbers a g (find key_cmp (q ++ zattrs ∷ []) (counted_members ms))) ≡ Some None)
      by (Some d) is g _ = inl (zarray, d, is)
      by None _ (Some d) is = inl (zgroup, d, is)
      by None _ None _ = inr refl

  -- behind any base a path means what it means behind none
  pub same_read : (b q : Path) → as_read (small_meaning_in numbers (small b ms) (b ++ q)) ≡ as_read (meant q)
  same_read b q = based_read numbers b q ms ∙ sym (based_read numbers [] q ms)

  module _ (good : all_good meant (counted_members ms) ≡ true) where
    -- a path with a document is of names
    pub path_good : (n : List ℕ) (ns : Path) → HasDocument (n ∷ ns) → IsPath (n ∷ ns)
    path_good n ns (f, d, is) =
        subst IsPath (before_last-child (n ∷ ns) f)
        (names_of_good meant ((n ∷ ns) ++ f ∷ []) (good_found meant (counted_members ms) ((n ∷ ns) ++ f ∷ []) d (ap is_nil (before_last-child (n ∷ ns) f)) good is))

    -- and is not bad
    pub sound_good : (n : List ℕ) (ns : Path) → HasDocument (n ∷ ns) → is_bad (meant (n ∷ ns)) ≡ false
    sound_good n ns (f, d, is) =
        subst (λ p. is_bad (meant p) ≡ false) (before_last-child (n ∷ ns) f)
        (sound_of_good meant ((n ∷ ns) ++ f ∷ []) (good_found meant (counted_members ms) ((n ∷ ns) ++ f ∷ []) d (ap is_nil (before_last-child (n ∷ ns) f)) good is))

    -- no path below the group is bad
    pub some_read : (n : List ℕ) (ns : Path) → result_ok (looked_up numbers ms (n ∷ ns)) ≢ None
    some_read n ns none =
        ⊎_elim (λ has. true≢false (sym (bad_from (meant (n ∷ ns)) (based_read numbers [] (n ∷ ns) ms ∙ none)) ∙ sound_good n ns has))
        (λ empty. let both : Some None ≡ None = sym empty ∙ none in cc) (document_or_none (n ∷ ns))

    -- a path below the group that means metadata has a document
    pub has_document : (n : List ℕ) (ns : Path) (m : NodeMetadata) → meant (n ∷ ns) ≡ node m → HasDocument (n ∷ ns)
    has_document n ns m is =
        ⊎_elim (λ has. has) (λ empty. let both : Some (Some m) ≡ Some None = sym (ap as_read is) ∙ based_read numbers [] (n ∷ ns) ms ∙ empty in cc) (document_or_none (n ∷ ns))

    -- the block has what the paths below the group mean
    pub meant_held : (n : List ℕ) (ns : Path) (m : NodeMetadata) → meant (n ∷ ns) ≡ node m → node_at_key (block_from meant (documents_below ms)) (key_text (n ∷ ns)) ≡ Some m
    meant_held n ns m is =
        let has = has_document n ns m is in
        held_at meant n ns m (path_good n ns has) is has.0 has.1 (counted_members ms) good has.2

    -- the block holds the store
    pub holds_small : HoldsStoreIn numbers ms (block_from meant (documents_below ms))
    holds_small b t m = (
      λ h. let w = meant_from meant t m (counted_members ms) h in (w.0, w.1, w.2, node_from (small_meaning_in numbers (small b ms) (b ++ w.0 ∷ w.1)) m (same_read b (w.0 ∷ w.1) ∙ ap as_read w.3)),
      λ w. ap (node_at_key (block_from meant (documents_below ms))) w.2 ∙ meant_held w.0 w.1 m (node_from (meant (w.0 ∷ w.1)) m (sym (same_read b (w.0 ∷ w.1)) ∙ ap as_read w.3)),
    )

    -- and it is clean
    pub clean_small : IsCleanIn numbers ms
    clean_small = record {
      means = λ b n ns e is. some_read n ns (sym (based_read numbers b (n ∷ ns) ms) ∙ ap as_read is);
      named = All-from_recursion (λ e. IsPath (before_last e.0)) (counted_members ms) (all_paths meant (counted_members ms) good);
    }

-- ---- what a document that reads is

-- the block of the members, where it is one, holds the store, which is clean, and its keys ascend
small_law : (numbers : Numbers) (ms : Members) (B : Block) → small_block_in numbers ms ≡ Ok B → (HoldsStoreIn numbers ms B × IsCleanIn numbers ms) × IsAscending B
small_law numbers ms B h = by (all_good (meant numbers ms) (counted_members ms)) refl h
  where
    by : (x : Bool) → all_good (meant numbers ms) (counted_members ms) ≡ x → (if x then Ok (block_from (meant numbers ms) (documents_below ms)) else Err (BadMember (codes "metadata"))) ≡ Ok B → (HoldsStoreIn numbers ms B × IsCleanIn numbers ms) × IsAscending B
    by true good e =
        let is : block_from (meant numbers ms) (documents_below ms) ≡ B = ap (λ r. unwrap_or (result_ok r) B) e in
        ((subst (HoldsStoreIn numbers ms) is (holds_small numbers ms good), clean_small numbers ms good), subst IsAscending is (from_ascends (meant numbers ms) (documents_below ms)))
    by false good e = cc

-- a document that reads is one whose members are a clean store that the block holds
pub store_law : (numbers : Numbers) (d : Data) (B : Block) → zmetadata_in numbers d ≡ Ok B → (ms : Members) × (zmetadata_members_in numbers d ≡ Ok ms) × HoldsStoreIn numbers ms B × IsCleanIn numbers ms
unfolding zmetadata_in
store_law numbers d B h = by (zmetadata_members_in numbers d) refl h
  where
    by : (r : Result Members MetadataFault) → zmetadata_members_in numbers d ≡ r → steps.◌>>=◌ r (small_block_in numbers) ≡ Ok B → (ms : Members) × (zmetadata_members_in numbers d ≡ Ok ms) × HoldsStoreIn numbers ms B × IsCleanIn numbers ms
    by (Ok ms) is e = let law = small_law numbers ms B e in (ms, is, law.0.0, law.0.1)
    by (Err f) is e = cc

-- and the keys of the block ascend
pub ascending_law : (numbers : Numbers) (d : Data) (B : Block) → zmetadata_in numbers d ≡ Ok B → IsAscending B
unfolding zmetadata_in
ascending_law numbers d B h = by (zmetadata_members_in numbers d) h
  where
    by : (r : Result Members MetadataFault) → steps.◌>>=◌ r (small_block_in numbers) ≡ Ok B → IsAscending B
    by (Ok ms) e = (small_law numbers ms B e).1
    by (Err f) e = cc

-- ---- what a reader finds, by the texts of paths

module _ (numbers : Numbers) (ms : Members) where
  -- what a path means behind no base
  abbrev here : Path → Meaning
  here = meant numbers ms

  -- documents below names whose paths are not bad are good
  good_by : (es : List (Segments × Data)) → list_all (λ e. list_all is_name (before_last e.0)) (below_of es) ≡ true
      → ((n : List ℕ) (ns : Path) → IsPath (n ∷ ns) → is_bad (here (n ∷ ns)) ≡ false) → all_good here es ≡ true
  good_by [] named sound = refl
  good_by (x ∷ es) named sound = by (before_last x.0) refl (λ h. good_by es h sound) named
    where
      by : (p : Path) → before_last x.0 ≡ p → (list_all (λ e. list_all is_name (before_last e.0)) (below_of es) ≡ true → all_good here es ≡ true)
          → list_all (λ e. list_all is_name (before_last e.0)) (cond (not (is_nil p)) (x ∷ below_of es) (below_of es)) ≡ true
          → list_all (λ e. is_good here e.0) (cond (not (is_nil p)) (x ∷ below_of es) (below_of es)) ≡ true
      by [] is again every = again every
      by (n ∷ ns) is again every =
          let both = and_parts (list_all is_name (before_last x.0)) (list_all (λ e. list_all is_name (before_last e.0)) (below_of es)) every in
          and_from (is_good here x.0) (all_good here es)
          (and_from (list_all is_name (before_last x.0)) (not (is_bad (here (before_last x.0)))) both.0
          (ap not (ap (λ p. is_bad (here p)) is ∙ sound n ns (subst IsPath is both.0))))
          (again both.1)

  -- good documents stand below names
  named_by : (es : List (Segments × Data)) → all_good here es ≡ true → list_all (λ e. list_all is_name (before_last e.0)) (below_of es) ≡ true
  named_by [] all = refl
  named_by (x ∷ es) all = by (is_nil (before_last x.0)) (named_by es) all
    where
      by : (b : Bool) → (all_good here es ≡ true → list_all (λ e. list_all is_name (before_last e.0)) (below_of es) ≡ true)
          → list_all (λ e. is_good here e.0) (cond (not b) (x ∷ below_of es) (below_of es)) ≡ true
          → list_all (λ e. list_all is_name (before_last e.0)) (cond (not b) (x ∷ below_of es) (below_of es)) ≡ true
      by true again every = again every
      by false again every =
          let both = and_parts (is_good here x.0) (all_good here es) every in
          and_from (list_all is_name (before_last x.0)) (list_all (λ e. list_all is_name (before_last e.0)) (below_of es)) (names_of_good here x.0 both.0) (again both.1)

  -- where some document is not good, the members are refused
  refused_by : all_good here (counted_members ms) ≡ false → small_block_in numbers ms ≡ Err (BadMember (codes "metadata"))
  refused_by e = ap (λ b. if b then Ok (block_from here (documents_below ms)) else Err (BadMember (codes "metadata"))) e

  -- where a name is that of no node, the members are refused
  pub names_refused : are_named ms ≡ false → small_block_in numbers ms ≡ Err (BadMember (codes "metadata"))
  names_refused e = refused_by (false_from_ne_true (all_good here (counted_members ms)) (λ good. true≢false (sym (named_by (counted_members ms) good) ∙ e)))

  -- where the documents at a text do not read, the members are refused
  pub trees_refused : (t : List ℕ) → result_ok (read_files numbers (member_at ms t)) ≡ None → small_block_in numbers ms ≡ Err (BadMember (codes "metadata"))
  trees_refused t e = refused_by (false_from_ne_true (all_good here (counted_members ms)) (λ good. by (stretches t) refl (parts_some t) good))
    where
      by : (p : Path) → stretches t ≡ p → stretches t ≢ [] → all_good here (counted_members ms) ≡ true → ⊥
      by [] is some good = some is
      by (n ∷ ns) is some good = some_read numbers ms good n ns (sym (based_read numbers [] (n ∷ ns) ms) ∙ ap (λ p. as_read (here p)) (sym is) ∙ text_read numbers t ms ∙ e)

  -- where no document stands at no names, those below the group stand below names
  all_named : (es : List (Segments × Data)) → All (λ e. IsPath (before_last e.0)) es → list_all (λ e. list_all is_name (before_last e.0)) (below_of es) ≡ true
  all_named [] h = refl
  all_named (x ∷ es) h = by (is_nil (before_last x.0)) (All-head (λ e. IsPath (before_last e.0)) x es h) (all_named es (All-tail (λ e. IsPath (before_last e.0)) x es h))
    where
      by : (b : Bool) → IsPath (before_last x.0) → list_all (λ e. list_all is_name (before_last e.0)) (below_of es) ≡ true
          → list_all (λ e. list_all is_name (before_last e.0)) (cond (not b) (x ∷ below_of es) (below_of es)) ≡ true
      by true own rest = rest
      by false own rest = and_from (list_all is_name (before_last x.0)) (list_all (λ e. list_all is_name (before_last e.0)) (below_of es)) own rest

  -- the documents of a clean store are good
  clean_good : IsCleanIn numbers ms → all_good here (counted_members ms) ≡ true
  clean_good h = good_by (counted_members ms) (all_named (counted_members ms) h.named) (λ n ns valid. fine (here (n ∷ ns)) (h.means [] n ns))
    where
      fine : (x : Meaning) → ((e : NodeCreateError) → x ≢ bad e) → is_bad x ≡ false
      fine (node m) never = refl
      fine nothing never = refl
      fine (bad e) never = absurd (never e refl)

  -- members that are refused are no clean store
  pub small_refused : (f : MetadataFault) → small_block_in numbers ms ≡ Err f → (IsCleanIn numbers ms → ⊥) × (f ≡ BadMember (codes "metadata"))
  small_refused f h = by (all_good here (counted_members ms)) refl h
    where
      by : (x : Bool) → all_good here (counted_members ms) ≡ x → (if x then Ok (block_from here (documents_below ms)) else Err (BadMember (codes "metadata"))) ≡ Err f
          → (IsCleanIn numbers ms → ⊥) × (f ≡ BadMember (codes "metadata"))
      by true good e = cc
      by false some e = let same : BadMember (codes "metadata") ≡ f = cc in (λ clean. true≢false (sym (clean_good clean) ∙ some), sym same)

  module _ (B : Block) (named : are_named ms ≡ true) (up : IsAscending B) (nodes : (t : List ℕ) → result_ok (read_files numbers (member_at ms t)) ≡ Some (node_at_key B t)) where
    -- each path of names is read
    read_at : (n : List ℕ) (ns : Path) → IsPath (n ∷ ns) → as_read (here (n ∷ ns)) ≡ Some (node_at_key B (key_text (n ∷ ns)))
    read_at n ns h = ap (λ p. as_read (here p)) (sym (parts_text n ns h)) ∙ text_read numbers (key_text (n ∷ ns)) ms ∙ nodes (key_text (n ∷ ns))

    -- each document is good
    every_good : all_good here (counted_members ms) ≡ true
    every_good = good_by (counted_members ms) named (λ n ns h. not_bad (here (n ∷ ns)) (node_at_key B (key_text (n ∷ ns))) (read_at n ns h))

    -- what is read at a text is what a path of that text means
    to_from : (t : List ℕ) (m : NodeMetadata) → node_at_key B t ≡ Some m → node_at_key (block_from here (documents_below ms)) t ≡ Some m
    to_from t m h = by (stretches t) refl (parts_some t)
      where
        by : (p : Path) → stretches t ≡ p → stretches t ≢ [] → node_at_key (block_from here (documents_below ms)) t ≡ Some m
        by [] is some = absurd (some is)
        by (n ∷ ns) is some =
            let means : here (n ∷ ns) ≡ node m = node_from (here (n ∷ ns)) m (ap (λ p. as_read (here p)) (sym is) ∙ text_read numbers t ms ∙ nodes t ∙ ap Some h) in
            ap (node_at_key (block_from here (documents_below ms))) (sym (join_with_byte-slice_split 47 t) ∙ ap key_text is) ∙ meant_held numbers ms every_good n ns m means

    -- and the other way round
    of_from : (t : List ℕ) (m : NodeMetadata) → node_at_key (block_from here (documents_below ms)) t ≡ Some m → node_at_key B t ≡ Some m
    of_from t m h =
        let w = meant_from here t m (counted_members ms) h in
        let valid : IsPath (w.0 ∷ w.1) = path_good numbers ms every_good w.0 w.1 (has_document numbers ms every_good w.0 w.1 m w.3) in
        let same : Some (node_at_key B (key_text (w.0 ∷ w.1))) ≡ Some (Some m) = sym (read_at w.0 w.1 valid) ∙ ap as_read w.3 in
        ap (node_at_key B) w.2 ∙ ap (λ o. unwrap_or o (Some m)) same

    -- where the names are those of nodes, and the documents at each text read as what a block has there, it is the block of the members
    pub block_is : small_block_in numbers ms ≡ Ok B
    block_is =
        ap (λ b. if b then Ok (block_from here (documents_below ms)) else Err (BadMember (codes "metadata"))) every_good
        ∙ ap Ok (one_block (block_from here (documents_below ms)) B (from_ascends here (documents_below ms)) up (λ t m. (of_from t m, to_from t m)))

-- a document that does not read is refused by its fault
pub refused_law : (numbers : Numbers) (d : Data) (f : MetadataFault) → zmetadata_in numbers d ≡ Err f → IsZmetadataFaultIn numbers d f
unfolding zmetadata_in
refused_law numbers d f h = by (zmetadata_members_in numbers d) refl h
  where
    by : (r : Result Members MetadataFault) → zmetadata_members_in numbers d ≡ r → steps.◌>>=◌ r (small_block_in numbers) ≡ Err f → IsZmetadataFaultIn numbers d f
    by (Ok ms) is e = let refused = small_refused numbers ms f e in inr (ms, is, refused.0, refused.1)
    by (Err g) is e = let same : g ≡ f = cc in inl (is ∙ ap Err same)

-- what is a clean store reads as the one block that holds it and whose keys ascend
pub only_law : (numbers : Numbers) (d : Data) (ms : Members) (B : Block) → zmetadata_members_in numbers d ≡ Ok ms → IsCleanIn numbers ms → HoldsStoreIn numbers ms B → IsAscending B → zmetadata_in numbers d ≡ Ok B
only_law numbers d ms B are clean holds up = by (zmetadata_in numbers d) refl
  where
    by : (r : Result Block MetadataFault) → zmetadata_in numbers d ≡ r → zmetadata_in numbers d ≡ Ok B
    by (Ok C) is =
        let read = store_law numbers d C is in
        let same : read.0 ≡ ms = cc in
        let held : HoldsStoreIn numbers ms C = subst (λ ns. HoldsStoreIn numbers ns C) same read.2 in
        is ∙ ap Ok (one_block C B (ascending_law numbers d C is) up (λ t m. (λ h. (holds [] t m).1 ((held [] t m).0 h), λ h. (held [] t m).1 ((holds [] t m).0 h))))
    by (Err f) is = absurd (⊎_elim
        (λ w. let both : Ok ms ≡ Err f = sym are ∙ w in cc)
        (λ w. let same : w.0 ≡ ms = cc in w.2 (subst (IsCleanIn numbers) (sym same) clean))
        (refused_law numbers d f is))
