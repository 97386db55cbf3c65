-- The steps of loading: what is not loaded yet lies ahead.
use Rattle.std.proofs.Common.{◌≡◌, ◌⊎◌, inl, inr, ⊎_elim, ℕ, Bool, true, false, cond, List, [], ◌∷◌, ◌++◌, Option, Some, None, is_some, IsTrue, Contains, true≢false, refl, sym, ap, subst, ◌∙◌, append_assoc, append-nil, length, length-append, arith}
use Rattle.std.specs.Prelude.{◌<◌, IfSome, IsSome, OnOk, Result, Ok, Err, option_map}
use Rattle.std.specs.FinMap as map
use Rattle.std.specs.Ordering.{eq_by_cmp}
use Rattle.std.proofs.lemmas.List.{same_from_push}
use Rattle.std.proofs.lemmas.List.Elements.{Contains-append_left, Contains-append_right, Contains-push_cases}
use Rattle.zarrs_store.specs.Segments.{Segments, key_cmp}
use Rattle.zarrs_store.specs.Contents.{Values, HasKey, HasBelow, IsChildPrefix, IsKeyBelow, Lists}
use Rattle.zarrs_store.proofs.ChildLemmas.{key_cmp_total, key_cmp-IsAntisymmetric}
use Rattle.zarrs_store.proofs.EntryLemmas.{equal_of}
use Rattle.zarrs_store.proofs.ContentsLemmas.{get_inserted}
use Rattle.zarrs_path.specs.Keys.{zarr_json, zarray, zgroup, zattrs, zmetadata}
use Rattle.zarrs_path.specs.Paths.{Path, IsPath, IsBelow}
use Rattle.zarrs_path.proofs.PathTexts.{IsPath-append, IsPath-parts}
use Rattle.zarrs_meta.specs.Node.{is_group}
use Rattle.zarrs_meta.specs.declared.node.NodeMetadata.{NodeMetadata}
use Rattle.zarrs_config.specs.declared.version.MetadataRetrieveVersion.TheVariants.{Default}
use Rattle.zarrs_meaning.specs.Meaning.{Meaning, meaning, node}
use Rattle.zarrs_node.specs.Reach.{HasGroup}
use Rattle.zarrs_node.specs.Nodes.{MeansNode, IsListed}
use Rattle.zarrs_node.specs.Nodes.{StandsFrom}
use Rattle.zarrs_meaning.proofs.Meanings.{same_node}
use Rattle.zarrs_folder.specs.Folders.{in_any, values_of, NoneIsBelow}
use Rattle.zarrs_folder.specs.PrunedStores.{Grows, HasBaseOf, HasLoaded, HasNoOtherKeys, HasSameFile, HasSameFiles, IsLoadedFrom, IsPruned, files_in, node_files}
use Rattle.zarrs_folder.specs.StepsOfLoadingNodes.{IsAhead, IsLoadedButAhead}
use Rattle.zarrs_folder.specs.declared.documents.Documents.{Documents}
use Rattle.zarrs_folder.proofs.DecidingDocuments.{loaded_means_same, of_more, of_none}
use Rattle.zarrs_folder.proofs.PrunedListings.{last_of, means_same}

-- ---- one key more

-- what is loaded grows into itself
pub grows_itself : (V L : Values) → Grows V L L
grows_itself V L = record { keys = λ h. h; keeps = λ key h. h; same = λ key h. h }

-- and on, one step after another
pub grows_further : (V L M N : Values) → Grows V L M → Grows V M N → Grows V L N
grows_further V L M N one two = record {
  keys = λ h. two.keys (one.keys h);
  keeps = λ key h. two.keeps key (one.keeps key h);
  same = λ key h. two.same key (one.same key h);
}

-- once bytes are set at a key, each key is that one with these bytes, or has what it had
pub at_inserted : (L M : Values) (k : Segments) (v : List ℕ) → M ≡ map.insert L k v → (other : Segments)
    → ((other ≡ k) × (map.get M other ≡ Some v)) ⊎ (map.get M other ≡ map.get L other)
at_inserted L M k v is other = by (eq_by_cmp key_cmp other k) refl (ap (λ m. map.get m other) is ∙ map.get-insert key_cmp_total L k v other)
  where
    by : (t : Bool) → eq_by_cmp key_cmp other k ≡ t → map.get M other ≡ cond t (Some v) (map.get L other)
        → ((other ≡ k) × (map.get M other ≡ Some v)) ⊎ (map.get M other ≡ map.get L other)
    by true same h = inl (key_cmp-IsAntisymmetric other k (equal_of _ same), h)
    by false apart h = inr h

-- what is found is there
pub there : (V : Values) (k : Segments) (v : List ℕ) → map.get V k ≡ Some v → HasKey V k
there V k v is = subst (λ o. IsTrue (is_some o)) (sym is) refl

-- a key at which nothing stands is not there
pub not_there : (V : Values) (k : Segments) → map.get V k ≡ None → HasKey V k → ⊥
not_there V k none has = true≢false (sym (subst (λ o. IsTrue (is_some o)) none has))

-- where a key has the same in both, it is in both
pub same_there : (V W : Values) (k : Segments) → map.get W k ≡ map.get V k → HasKey V k → HasKey W k
same_there V W k same has = subst (λ o. IsTrue (is_some o)) (sym same) has

-- where the whole has nothing, a part without other keys has nothing
pub absent_same : (V L : Values) (k : Segments) → HasNoOtherKeys V L → map.get V k ≡ None → map.get L k ≡ map.get V k
absent_same V L k none absent = by (map.get L k) refl
  where
    by : (o : Option (List ℕ)) → map.get L k ≡ o → map.get L k ≡ map.get V k
    by None is = is ∙ sym absent
    by (Some v) is = absurd (not_there V k absent (none k (there L k v is)))

-- what is loaded grows by a key of the whole, where what was as in the whole at that key stays so
pub grown : (V L M : Values) (k : Segments) (v : List ℕ) → M ≡ map.insert L k v → HasKey V k → (map.get L k ≡ map.get V k → Some v ≡ map.get V k) → Grows V L M
grown V L M k v is has right = record {
  keys = λ none other h. ⊎_elim (λ w. subst (HasKey V) (sym w.0) has) (λ w. none other (same_there M L other (sym w) h)) (at_inserted L M k v is other);
  keeps = λ other h. ⊎_elim (λ w. there M other v w.1) (λ w. same_there L M other w h) (at_inserted L M k v is other);
  same = λ other h. ⊎_elim (λ w. w.1 ∙ right (sym (ap (map.get L) w.0) ∙ h ∙ ap (map.get V) w.0) ∙ sym (ap (map.get V) w.0)) (λ w. w ∙ h) (at_inserted L M k v is other);
}

-- by a document of it
pub document_grown : (V L M : Values) (k : Segments) (v : List ℕ) → M ≡ map.insert L k v → map.get V k ≡ Some v → Grows V L M
document_grown V L M k v is at = grown V L M k v is (there V k v at) (λ _. sym at)

-- by a key of it that was not there, whatever bytes it gets
pub marker_grown : (V L M : Values) (k : Segments) (v : List ℕ) → M ≡ map.insert L k v → map.get L k ≡ None → HasKey V k → Grows V L M
marker_grown V L M k v is none has = grown V L M k v is has (λ same. absurd (not_there V k (sym same ∙ none) has))

-- what was set is there
pub inserted_has : (L M : Values) (k : Segments) (v : List ℕ) → M ≡ map.insert L k v → HasKey M k
inserted_has L M k v is = there M k v (ap (λ m. map.get m k) is ∙ get_inserted L k v)

-- what a key has is what was found, by how it is seen
pub some_found : {A : Type 0} (f : A → List ℕ) (found : Option A) (x : A) (o : Option (List ℕ)) → option_map f found ≡ o → found ≡ Some x → o ≡ Some (f x)
some_found f found x o is e = sym is ∙ ap (option_map f) e

-- and nothing where nothing was
pub none_found : {A : Type 0} (f : A → List ℕ) (found : Option A) (o : Option (List ℕ)) → option_map f found ≡ o → found ≡ None → o ≡ None
none_found f found o is e = sym is ∙ ap (option_map f) e

-- the document that was set is that of the whole
pub document_got : (V L M : Values) (p k : Segments) (file v : List ℕ) → k ≡ p ++ file ∷ [] → M ≡ map.insert L k v → map.get V k ≡ Some v → HasSameFile V M p file
document_got V L M p k file v key is at = subst (λ x. map.get M x ≡ map.get V x) key (ap (λ m. map.get m k) is ∙ get_inserted L k v ∙ sym at)

-- a key of a document stands below its path
pub document_below : (M : Values) (p k : Segments) (file : List ℕ) → k ≡ p ++ file ∷ [] → HasKey M k → HasBelow M p
document_below M p k file is has = (file, [], subst (HasKey M) is has)

-- what stands below a path stays there
pub below_kept : (V L M : Values) → Grows V L M → (x : Segments) → HasBelow L x → HasBelow M x
below_kept V L M grows x (n, ns, has) = (n, ns, grows.keeps (x ++ n ∷ ns) has)

-- what holds of the name of each document holds of the files of a node
pub of_each_file : (P : List ℕ → Type 0) → P zarr_json → P zarray → P zgroup → P zattrs → P zmetadata → (file : List ℕ) → Contains node_files file → P file
of_each_file P a b c d e =
    of_more P zarr_json (zarray ∷ zgroup ∷ zattrs ∷ zmetadata ∷ []) a
    (of_more P zarray (zgroup ∷ zattrs ∷ zmetadata ∷ []) b (of_more P zgroup (zattrs ∷ zmetadata ∷ []) c (of_more P zattrs (zmetadata ∷ []) d (of_more P zmetadata [] e (of_none P)))))

-- five documents, one after another
pub five_grown : (V L0 L1 L2 L3 L4 L5 : Values) → Grows V L0 L1 → Grows V L1 L2 → Grows V L2 L3 → Grows V L3 L4 → Grows V L4 L5 → Grows V L0 L5
five_grown V L0 L1 L2 L3 L4 L5 a b c d e = grows_further V L0 L1 L5 a (grows_further V L1 L2 L5 b (grows_further V L2 L3 L5 c (grows_further V L3 L4 L5 d e)))

-- are as in the whole in the end
pub five_got : (V L0 L1 L2 L3 L4 L5 : Values) (p : Path) → Grows V L0 L1 → Grows V L1 L2 → Grows V L2 L3 → Grows V L3 L4 → Grows V L4 L5
    → (HasNoOtherKeys V L0 → HasSameFile V L1 p zarr_json) → (HasNoOtherKeys V L1 → HasSameFile V L2 p zarray) → (HasNoOtherKeys V L2 → HasSameFile V L3 p zgroup)
    → (HasNoOtherKeys V L3 → HasSameFile V L4 p zattrs) → (HasNoOtherKeys V L4 → HasSameFile V L5 p zmetadata) → HasNoOtherKeys V L0 → HasSameFiles V L5 p
five_got V L0 L1 L2 L3 L4 L5 p a b c d e f g h i j none0 =
    let none1 = a.keys none0 in
    let none2 = b.keys none1 in
    let none3 = c.keys none2 in
    let none4 = d.keys none3 in
    of_each_file (HasSameFile V L5 p)
    (e.same _ (d.same _ (c.same _ (b.same _ (f none0))))) (e.same _ (d.same _ (c.same _ (g none1)))) (e.same _ (d.same _ (h none2))) (e.same _ (i none3)) (j none4)

-- ---- what lies ahead

-- a path that stands from a path is one
stands_path : (V : Values) (b p : Path) → IsPath b → StandsFrom (in_any V) Default b p → IsPath p
stands_path V b p valid h = ⊎_elim (λ same. subst IsPath (sym same) valid)
    (λ r. subst IsPath (sym r.below.2) (IsPath-append b (r.below.0 ∷ r.below.1) valid r.below.3)) h

-- a listed path stands from the base
listed_stands : (V : Values) (b g : Path) → IsListed (meaning (in_any V) Default) true b g → StandsFrom (in_any V) Default b g
listed_stands V b g h = ⊎_elim inl (λ w. inr w.0) h

-- what lies ahead does so by the last prefix, or by one before it
ahead_cases : (b : Path) (qs : List Segments) (q x : Segments) → IsAhead b (qs ++ q ∷ []) x → IsAhead b qs x ⊎ (IsBelow b q × ((rest : Segments) × (x ≡ q ++ rest)))
ahead_cases b qs q x (r, in', low, (rest, is)) =
    ⊎_elim (λ before. inl (r, before, low, (rest, is)))
    (λ last. inr (subst (IsBelow b) (sym last) low, (rest, is ∙ ap (λ z. z ++ rest) (sym last))))
    (Contains-push_cases qs q r in')

-- what lies ahead does so with more prefixes behind
ahead_left : (b : Path) (qs rs : List Segments) (x : Segments) → IsAhead b qs x → IsAhead b (qs ++ rs) x
ahead_left b qs rs x (q, in', low, more) = (q, Contains-append_left qs rs q in', low, more)

-- and with more before
ahead_right : (b : Path) (qs rs : List Segments) (x : Segments) → IsAhead b rs x → IsAhead b (qs ++ rs) x
ahead_right b qs rs x (q, in', low, more) = (q, Contains-append_right qs rs q in', low, more)

-- nothing lies ahead of no prefix
ahead_none : {A : Type 0} (b x : Segments) → IsAhead b [] x → A
ahead_none b x (q, in', low, more) = absurd (omega (arith, in'.1))

-- what is below a path without its last name is at it or below it
front_of : (q g : Segments) (n m : List ℕ) (ms : Segments) → g ++ n ∷ [] ≡ q ++ m ∷ ms → (rest : Segments) × (g ≡ q ++ rest)
front_of q g n m ms is =
    let w = last_of m ms in
    (w.0, (same_from_push g (q ++ w.0) n w.1 (is ∙ ap (λ l. q ++ l) w.2 ∙ sym (append_assoc q w.0 (w.1 ∷ [])))).0)

-- one name more is below what a path is below
below_more : (b q : Path) (m : List ℕ) → IsBelow b q → IsBelow b (q ++ m ∷ [])
below_more b q m (n, ns, is) = (n, ns ++ m ∷ [], ap (λ x. x ++ m ∷ []) is ∙ append_assoc b (n ∷ ns) (m ∷ []))

-- nothing is below itself
pub not_below : (b : Path) → IsBelow b b → ⊥
not_below b low =
    let long = ap length low.2 in
    let more = length-append b (low.0 ∷ low.1) in
    omega (arith, long, more)

-- and no two are below one another
pub no_loop : (b q : Path) → IsBelow b q → IsBelow q b → ⊥
no_loop b q low up =
    let long = ap length low.2 in
    let more = length-append b (low.0 ∷ low.1) in
    let long' = ap length up.2 in
    let more' = length-append q (up.0 ∷ up.1) in
    omega (arith, long, more, long', more')

-- what has something below it, behind a prefix, makes a child of that prefix
pub child_of : (V : Values) (q : Segments) (m : List ℕ) (ms x : Segments) → x ≡ q ++ m ∷ ms → HasBelow V x → IsChildPrefix V q (q ++ m ∷ [])
child_of V q m [] x is (n, ns, has) = record {
  name = m;
  is = refl;
  has = record { next = n; rest = ns; held = subst (HasKey V) (ap (λ z. z ++ n ∷ ns) is ∙ append_assoc q (m ∷ []) (n ∷ ns)) has };
}
child_of V q m (k ∷ ks) x is (n, ns, has) = record {
  name = m;
  is = refl;
  has = record { next = k; rest = ks ++ n ∷ ns; held = subst (HasKey V) (ap (λ z. z ++ n ∷ ns) is ∙ append_assoc q (m ∷ k ∷ ks) (n ∷ ns)) has };
}

-- once the children of a prefix lie ahead, so does what has something below it there
child_ahead : (V : Values) (b q : Path) (cs : List Segments) → ((m : List ℕ) → IsBelow b (q ++ m ∷ [])) → ((child : Segments) → IsChildPrefix V q child → Contains cs child)
    → (m : List ℕ) (ms x : Segments) → x ≡ q ++ m ∷ ms → HasBelow V x → IsAhead b cs x
child_ahead V b q cs low complete m ms x is has =
    (q ++ m ∷ [], complete (q ++ m ∷ []) (child_of V q m ms x is has), low m, (ms, is ∙ sym (append_assoc q (m ∷ []) ms)))

-- a document is as in the whole, or the whole has it
pub file_cases : {X : Type 0} (V M : Values) (p : Path) (file : List ℕ) → HasNoOtherKeys V M → (HasBelow V p → X) → HasSameFile V M p file ⊎ X
file_cases {X = X} V M p file none then = by (map.get V (p ++ file ∷ [])) refl
  where
    by : (o : Option (List ℕ)) → map.get V (p ++ file ∷ []) ≡ o → HasSameFile V M p file ⊎ X
    by None is = inl (absent_same V M (p ++ file ∷ []) none is)
    by (Some v) is = inr (then (file, [], there V (p ++ file ∷ []) v is))

-- ---- a turn

module _ (ds : Documents) (V : Values) (b : Path) (L M : Values) (qs : List Segments) (q : Segments) (grows : Grows V L M) (way : IsLoadedButAhead ds V b L (qs ++ q ∷ [])) where
  -- by what becomes of the paths at and below the prefix
  turned : (rs : List Segments)
      → (IsBelow b q → (p : Path) → StandsFrom (in_any V) Default b p → (rest : Segments) → p ≡ q ++ rest → (file : List ℕ) → Contains (files_in ds V p) file → HasSameFile V M p file ⊎ IsAhead b rs p)
      → (IsBelow b q → (g : Path) (n : List ℕ) → IsListed (meaning (in_any V) Default) true b g → (rest : Segments) → g ++ n ∷ [] ≡ q ++ rest → HasBelow V (g ++ n ∷ []) → HasBelow M (g ++ n ∷ []) ⊎ IsAhead b rs (g ++ n ∷ []))
      → ((x : Segments) → IsAhead b qs x → IsAhead b rs x) → IsLoadedButAhead ds V b M rs
  turned rs at under before = record {
    keys = grows.keys way.keys;
    base = λ file in'. grows.same (b ++ file ∷ []) (way.base file in');
    documents = λ p stands file in'. ⊎_elim (λ same. inl (grows.same (p ++ file ∷ []) same))
        (λ ahead. ⊎_elim (λ old. inr (before p old)) (λ new. at new.0 p stands new.1.0 new.1.1 file in') (ahead_cases b qs q p ahead))
        (way.documents p stands file in');
    children = λ g n listed has. ⊎_elim (λ old. inl (below_kept V L M grows (g ++ n ∷ []) old))
        (λ ahead. ⊎_elim (λ old. inr (before (g ++ n ∷ []) old)) (λ new. under new.0 g n listed new.1.0 new.1.1 has) (ahead_cases b qs q (g ++ n ∷ []) ahead))
        (way.children g n listed has);
  }

  -- a prefix that is not below the base has nothing of the walk
  pub passed_over : (IsBelow b q → ⊥) → IsLoadedButAhead ds V b M qs
  passed_over none = turned qs (λ low. absurd (none low)) (λ low. absurd (none low)) (λ x old. old)

  module _ (holds : HasBelow V q → HasBelow M q) where
    -- what is below a listed path is the prefix, or further below it
    under_cases : (rs : List Segments)
        → ((g : Path) (n : List ℕ) → IsListed (meaning (in_any V) Default) true b g → (m : List ℕ) (ms : Segments) → g ++ n ∷ [] ≡ q ++ m ∷ ms → HasBelow V (g ++ n ∷ []) → IsAhead b rs (g ++ n ∷ []))
        → (g : Path) (n : List ℕ) → IsListed (meaning (in_any V) Default) true b g → (rest : Segments) → g ++ n ∷ [] ≡ q ++ rest → HasBelow V (g ++ n ∷ []) → HasBelow M (g ++ n ∷ []) ⊎ IsAhead b rs (g ++ n ∷ [])
    under_cases rs further g n listed [] is has = let same : g ++ n ∷ [] ≡ q = is ∙ append-nil q in inl (subst (HasBelow M) (sym same) (holds (subst (HasBelow V) same has)))
    under_cases rs further g n listed (m ∷ ms) is has = inr (further g n listed m ms is has)

    -- a prefix of no path has nothing of the walk but itself
    pub no_path_done : IsPath b → (IsPath q → ⊥) → IsLoadedButAhead ds V b M qs
    no_path_done valid none = turned qs
        (λ low p stands rest is file in'. absurd (none (IsPath-parts q rest (subst IsPath is (stands_path V b p valid stands))).0))
        (λ low. under_cases qs (λ g n listed m ms is has.
        let front = front_of q g n m ms is in
        absurd (none (IsPath-parts q front.0 (subst IsPath front.1 (stands_path V b g valid (listed_stands V b g listed)))).0)))
        (λ x old. old)

    module _ (got : HasLoaded ds V M q) where
      -- the documents of the prefix itself are those of the whole
      own : (p : Path) → p ≡ q ++ [] → (file : List ℕ) → Contains (files_in ds V p) file → HasSameFile V M p file
      own p is = subst (HasLoaded ds V M) (sym (is ∙ append-nil q)) got

      -- what stands below the prefix makes it a group
      group_between : IsBelow b q → (p : Path) → StandsFrom (in_any V) Default b p → IsBelow q p → HasGroup (MeansNode (in_any V) Default) q
      group_between low p h up = ⊎_elim (λ same. absurd (no_loop b q low (subst (IsBelow q) same up))) (λ r. (r.between q low up).1) h

      -- so does a listed path at or below it
      listed_between : IsBelow b q → (g : Path) → IsListed (meaning (in_any V) Default) true b g → (rest : Segments) → g ≡ q ++ rest → HasGroup (MeansNode (in_any V) Default) q
      listed_between low g listed (m ∷ ms) is = group_between low g (listed_stands V b g listed) (m, ms, is)
      listed_between low g listed [] is = let same : g ≡ q = is ∙ append-nil q in
          ⊎_elim (λ base. absurd (not_below b (subst (IsBelow b) (sym same ∙ base) low))) (λ w. subst (HasGroup (MeansNode (in_any V) Default)) same w.1.1) listed

      -- where it is no group, nothing is reached or listed below it
      pub alone_done : (HasGroup (MeansNode (in_any V) Default) q → ⊥) → IsLoadedButAhead ds V b M qs
      alone_done none = turned qs at
          (λ low. under_cases qs (λ g n listed m ms is has. let front = front_of q g n m ms is in absurd (none (listed_between low g listed front.0 front.1))))
          (λ x old. old)
        where
          at : IsBelow b q → (p : Path) → StandsFrom (in_any V) Default b p → (rest : Segments) → p ≡ q ++ rest → (file : List ℕ) → Contains (files_in ds V p) file → HasSameFile V M p file ⊎ IsAhead b qs p
          at low p stands [] is file in' = inl (own p is file in')
          at low p stands (m ∷ ms) is file in' = absurd (none (group_between low p stands (m, ms, is)))

      -- where all children that hold something come to lie ahead, what is below it does
      pub group_done : (cs : List Segments) → ((child : Segments) → IsChildPrefix V q child → Contains cs child) → IsLoadedButAhead ds V b M (qs ++ cs)
      group_done cs complete = turned (qs ++ cs) at
          (λ low. under_cases (qs ++ cs) (λ g n listed m ms is has. ahead_right b qs cs (g ++ n ∷ []) (further low m ms (g ++ n ∷ []) is has)))
          (ahead_left b qs cs)
        where
          further : IsBelow b q → (m : List ℕ) (ms x : Segments) → x ≡ q ++ m ∷ ms → HasBelow V x → IsAhead b cs x
          further low = child_ahead V b q cs (λ m. below_more b q m low) complete

          at : IsBelow b q → (p : Path) → StandsFrom (in_any V) Default b p → (rest : Segments) → p ≡ q ++ rest → (file : List ℕ) → Contains (files_in ds V p) file → HasSameFile V M p file ⊎ IsAhead b (qs ++ cs) p
          at low p stands [] is file in' = inl (own p is file in')
          at low p stands (m ∷ ms) is file in' = file_cases V M p file (grows.keys way.keys) (λ has. ahead_right b qs cs p (further low m ms p is has))

-- ---- the beginning and the end

-- once what is loaded of the base is there, and its children lie ahead
pub begun : (ds : Documents) (V : Values) (b : Path) (L M : Values) (cs : List Segments) → HasBaseOf (in_any V) (in_any L) b → Grows V L M → HasLoaded ds V M b
    → ((child : Segments) → IsChildPrefix V b child → Contains cs child) → IsLoadedButAhead ds V b M cs
begun ds V b L M cs base grows got complete = record {
  keys = grows.keys base.keys;
  base = λ file in'. grows.same (b ++ file ∷ []) (base.documents file in');
  documents = λ p stands file in'. ⊎_elim
      (λ same. inl (subst (HasLoaded ds V M) (sym same) got file in'))
      (λ r. file_cases V M p file (grows.keys base.keys) (λ has. further r.below.0 r.below.1 p r.below.2 has))
      stands;
  children = λ g n listed has. inr (⊎_elim
      (λ same. further n [] (g ++ n ∷ []) (ap (λ x. x ++ n ∷ []) same) has)
      (λ w. further w.0.below.0 (w.0.below.1 ++ n ∷ []) (g ++ n ∷ []) (ap (λ x. x ++ n ∷ []) w.0.below.2 ∙ append_assoc b (w.0.below.0 ∷ w.0.below.1) (n ∷ [])) has)
      listed);
}
  where
    further : (m : List ℕ) (ms x : Segments) → x ≡ b ++ m ∷ ms → HasBelow V x → IsAhead b cs x
    further = child_ahead V b b cs (λ m. (m, [], refl)) complete

-- where nothing lies ahead, all is loaded
pub ended : (ds : Documents) (V : Values) (b : Path) (L : Values) → IsLoadedButAhead ds V b L [] → IsPruned ds (in_any V) (in_any L) b
ended ds V b L way = record {
  numbers = refl;
  keys = way.keys;
  documents = λ p stands file in'. ⊎_elim (λ same. same) (λ ahead. ahead_none b p ahead) (way.documents p stands file in');
  children = λ g n listed has. ⊎_elim (λ old. old) (λ ahead. ahead_none b (g ++ n ∷ []) ahead) (way.children g n listed has);
}

-- ---- what was found

-- what was found is no group
pub not_group_found : (found : Option NodeMetadata) (mean : Meaning) → IfSome found (λ m. mean ≡ node m) → (found ≡ None → (m : NodeMetadata) → mean ≡ node m → ⊥) → IfSome found (λ m. is_group m ≡ false)
    → (m : NodeMetadata) → mean ≡ node m → is_group m ≡ false
not_group_found None mean some none kind m is = absurd (none refl m is)
not_group_found (Some x) mean some none kind m is = subst (λ y. is_group y ≡ false) (same_node x m (sym some ∙ is)) kind

-- a prefix of a path that is no group
pub alone_turn : (ds : Documents) (V : Values) (b : Path) (L M : Values) (qs : List Segments) (q : Segments) → Grows V L M → (HasBelow V q → HasBelow M q) → (HasNoOtherKeys V L → HasLoaded ds V M q)
    → ((m : NodeMetadata) → meaning (in_any M) Default q ≡ node m → is_group m ≡ false) → IsLoadedButAhead ds V b L (qs ++ q ∷ []) → IsLoadedButAhead ds V b M qs
alone_turn ds V b L M qs q grows holds got kind way =
    let files = got way.keys in
    alone_done ds V b L M qs q grows way holds files (λ h. true≢false (sym h.2 ∙ kind h.0 (loaded_means_same ds (in_any V) (in_any M) q refl files ∙ h.1)))

-- a prefix of a path whose children come to lie ahead
pub group_turn : (ds : Documents) (V : Values) (b : Path) (L M : Values) (qs rs : List Segments) (q : Segments) → Grows V L M → (HasBelow V q → HasBelow M q) → (HasNoOtherKeys V L → HasLoaded ds V M q)
    → (cs : List Segments) → ((child : Segments) → IsChildPrefix V q child → Contains cs child) → rs ≡ qs ++ cs → IsLoadedButAhead ds V b L (qs ++ q ∷ []) → IsLoadedButAhead ds V b M rs
group_turn ds V b L M qs rs q grows holds got cs complete is way = subst (IsLoadedButAhead ds V b M) (sym is) (group_done ds V b L M qs q grows way holds (got way.keys) cs complete)

-- nothing is a part of everything
pub none_other : (V L : Values) → L ≡ map.empty → HasNoOtherKeys V L
none_other V L is key has = absurd (not_there L key (ap (λ l. map.get l key) is ∙ map.get-empty key_cmp key) has)

-- the empty store has no other keys
pub none_in_empty : (V : Values) → HasNoOtherKeys V (values_of [])
none_in_empty V = none_other V (values_of []) refl

-- where nothing was taken out of the list of all keys below a prefix, there is none
pub none_below : (V : Values) (p : Segments) (xs : List Segments) (found : Option Segments) → Lists (IsKeyBelow V p) xs → (0 < length xs → IsSome found) → NoneIsBelow V p found
none_below V p xs None lists more = λ below.
    let in' = lists.complete (p ++ below.0 ∷ below.1) (record { first = below.0; rest = below.1; is = refl; held = below.2 }) in
    true≢false (sym (more (omega (arith, in'.1))))
none_below V p xs (Some key) lists more = tt

-- what follows from two facts follows where there is no error
pub ok_both : {T E : Type 0} (r : Result T E) {P Q X : Type 0} → (P → Q → X) → OnOk r P → OnOk r Q → OnOk r X
ok_both (Ok x) f p q = f p q
ok_both (Err e) f p q = tt

-- an array is loaded by its documents
pub array_loaded : (ds : Documents) (V L : Values) (b : Path) → HasBaseOf (in_any V) (in_any L) b → (found : Option NodeMetadata) → IfSome found (λ m. meaning (in_any L) Default b ≡ node m) → IfSome found (λ m. is_group m ≡ false) → IsSome found
    → IsLoadedFrom ds (in_any V) (in_any L) b
array_loaded ds V L b base None some kind is = let no : false ≡ true = is in cc
array_loaded ds V L b base (Some m) some kind is = record {
  base = base;
  below = λ none. absurd (none (m, sym (means_same (in_any V) (in_any L) refl b base.documents Default) ∙ some, kind));
}

-- all is loaded where nothing lies ahead
pub all_loaded : (ds : Documents) (V : Values) (b : Path) (M : Values) → IsLoadedButAhead ds V b M [] → IsLoadedFrom ds (in_any V) (in_any M) b
all_loaded ds V b M way = record { base = record { numbers = refl; keys = way.keys; documents = way.base }; below = λ _. ended ds V b M way }
