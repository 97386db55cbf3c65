-- Counting the paths that have a document of a node below a path.
use Rattle.std.proofs.Common.{◌≡◌, ◌≢◌, ◌↔◌, inl, inr, ⊎_elim, ℕ, ◌<◌, ◌≤◌, ◌+◌, List, [], ◌∷◌, ◌++◌, length, get_or, take, refl, sym, ap, subst, ◌∙◌, append_assoc, length-append, arith, IsTrue, Contains, AllPairs, Less, true, Option, Some, None, Result, Ok, Err, IfOk}
use Rattle.std.specs.Bool.{Decides}
use Rattle.std.specs.Ordering.{eq_by_cmp}
use Rattle.std.specs.List.{dedup, slice_split}
use Rattle.std.specs.List.Retain.{DiffersFromLast, IsFiltered}
use Rattle.std.specs.List.Sorted.{IsPermutation, IsSorted, IsStrictlySortedBy}
use Rattle.std.proofs.Math.ListN.{get_or-append}
use Rattle.std.proofs.Math.Seq.{get_or-append_seam}
use Rattle.std.proofs.lemmas.List.{append_cancel_right, take_more, take_all}
use Rattle.std.proofs.lemmas.List.Elements.{Contains-append_left, Contains-push, Contains-push_cases}
use Rattle.std.proofs.lemmas.List.Filters.{dedup_is}
use Rattle.std.proofs.lemmas.List.Kept.{Contains-dedup, Contains-from_dedup, IsStrictlySortedBy-dedup}
use Rattle.std.proofs.lemmas.List.Sorted.{Contains-permutation, IsPermutation-sym}
use Rattle.std.specs.Set.{is_member}
use Rattle.std.proofs.lemmas.Bool.{cases_lt}
use Rattle.std.proofs.lemmas.Bool.Decides.{same_from_decides}
use Rattle.std.proofs.lemmas.Map.Keys.{IsDistinct-from_sorted}
use Rattle.std.proofs.lemmas.Map.Made.{AllPairs-from_IsDistinct, IsDistinct-from_AllPairs, is_member-Decides, length-from_same_keys}
use Rattle.zarrs_store.specs.Contents.{Contents, HasKey, IsKeyBelow, Lists}
use Rattle.zarrs_store.specs.Segments.{Segments, key_text, has_no_slash, is_segment, is_slash, segments_of, last_segment, IsKey, IsKeyText}
use Rattle.zarrs_store.proofs.ChildLemmas.{last_segment-child}
use Rattle.zarrs_store.proofs.Cuts.{key_text-child, prefix_text-key, last_segment-after, parts_one, parts-key_text, segments_of_test, segments_of-append, segments_of_one, segments_of-nil, segments_of-key_text}
use Rattle.zarrs_path.specs.Keys.{zarr_json, zarray, zgroup}
use Rattle.zarrs_path.specs.Paths.{Path, IsPath, IsBelow, IsPathText, path_text, path_cmp, path_eq}
use Rattle.zarrs_path.specs.PathOrder.{path_decides, path_equiv, path_ties, path_total}
use Rattle.zarrs_path.proofs.PathTexts.{path_text_some, segments_from_names}
use Rattle.zarrs_path.proofs.LawProofs.{same_fronts}
use Rattle.zarrs_meaning.specs.declared.node_create_error.NodeCreateError.{NodeCreateError}
use Rattle.zarrs_block.proofs.LastSlash.{IsCutText}
use Rattle.zarrs_config.specs.declared.version.MetadataRetrieveVersion.{MetadataRetrieveVersion}
use Rattle.zarrs_meaning.specs.Exists.{HasNodeKey}
use Rattle.zarrs_node.specs.Faults.{PathsAscend}
use Rattle.zarrs_node.specs.Nodes.{Ignored}
use Rattle.zarrs_node.proofs.Unique.{names_irrefl}
use Rattle.zarrs_node.proofs.walk.SubtreesApart.{all_pairs_last, all_pairs_front}
use Rattle.zarrs_node.proofs.Order.{contains_cases}
use Rattle.zarrs_node.proofs.ListedItems.{lists_from, listed_each, all_pairs_append}
use Rattle.zarrs_check.specs.Orphans.{IsNodeBelow, IsCountBelow, IsOrphan, AreHidden}
use Rattle.zarrs_check.specs.StepsOfOrphans.{IsNodeFile, IsNodeKey, IsNodePathOf, IsPathJoined, IsKeyedPath, IsKeyedBelow, AreKeyedBelow, AreOrphansAmong}

-- a path with its bad document
abbrev Bad : Type 0
Bad = Path × NodeCreateError

-- what holds of an answer has what follows of it
pub ok_over : {A E : Type 0} {P Q : A → Type 0} (r : Result A E) → ((x : A) → P x → Q x) → IfOk r P → IfOk r Q
ok_over (Ok x) f h = f x h
ok_over (Err e) f h = h

-- ---- the text of a key

-- the text of a path is a slash and its names joined
path_text_key : (p : Path) → path_text p ≡ 47 ∷ key_text p
path_text_key [] = refl
path_text_key (n ∷ p) = path_text_some (n ∷ p) (λ e. cc)

-- a path whose text is a slash and some names has these names joined
pub joined_is : (p : Path) (names text : List ℕ) → path_text p ≡ text → text ≡ 47 ∷ names → names ≡ key_text p
joined_is p names text is text_is =
    let e : 47 ∷ key_text p ≡ 47 ∷ names = sym (path_text_key p) ∙ is ∙ text_is in
    cc

-- names joined behind a slash are the text of a path
pub joined_text_of : (p : Path) (names text : List ℕ) → IsPath p → names ≡ key_text p → text ≡ 47 ∷ names → IsPathText text
joined_text_of p names text valid is text_is = record { path = p; valid = valid; text = path_text_key p ∙ ap (λ t. 47 ∷ t) (sym is) ∙ sym text_is }

-- the name of a document is a segment
file_segment : (file : List ℕ) → IsNodeFile file → IsTrue (is_segment file)
file_segment file h = ⊎_elim (λ e. subst (λ f. IsTrue (is_segment f)) (sym e) refl) (⊎_elim (λ e. subst (λ f. IsTrue (is_segment f)) (sym e) refl) (λ e. subst (λ f. IsTrue (is_segment f)) (sym e) refl)) h

-- the names joined are cut into them
joined_segments : (p : Path) → IsPath p → segments_of (key_text p) ≡ p
joined_segments [] valid = segments_of-nil
joined_segments (n ∷ p) valid = segments_of-key_text (n ∷ p) (record { some = λ e. cc; each = segments_of_test (n ∷ p) (segments_from_names (n ∷ p) valid) })

-- the key of a document of a path with names has its text in two parts
node_key_text : (p : Path) (file : List ℕ) → p ≢ [] → key_text (p ++ file ∷ []) ≡ key_text p ++ 47 ∷ file
node_key_text [] file some = absurd (some refl)
node_key_text (n ∷ p) file some = key_text-child (n ∷ p) file ∙ ap (λ t. t ++ file) (prefix_text-key n p) ∙ append_assoc (key_text (n ∷ p)) (47 ∷ []) file

-- a list of one item is no list and one more, unless that is empty
not_one : {A : Type 0} (x y : A) (p : List A) → p ≢ [] → x ∷ [] ≡ p ++ y ∷ [] → ⊥
not_one x y [] some e = some refl
not_one x y (z ∷ p) some e =
    let long = ap length e in
    let more = length-append (z ∷ p) (y ∷ []) in
    omega (arith, long, more)

module _ (key : Segments) (text : List ℕ) (is : text ≡ key_text key) (valid : IsKey key) where
  -- a key whose text has no slash has no document of a path with names
  pub uncut_key : IsTrue (has_no_slash text) → IsNodePathOf key None
  uncut_key clean p some h =
      let one : key ≡ text ∷ [] = sym (ap (slice_split is_slash) is ∙ parts-key_text key valid) ∙ parts_one text clean in
      not_one text h.1.0 p some (sym one ∙ h.1.2)

  module _ (front last : List ℕ) (cut : IsCutText text front last) where
    -- the last part of a key's text is its last segment
    last_is : (p : Path) (file : List ℕ) → key ≡ p ++ file ∷ [] → last ≡ file
    last_is p file at =
        let cut_text : IsKeyText (front ++ 47 ∷ last) = record { key = key; valid = valid; is = sym cut.cut ∙ is } in
        let segments : segments_of (front ++ 47 ∷ last) ≡ key = ap segments_of (sym cut.cut ∙ is) ∙ segments_of-key_text key valid in
        sym (last_segment-after front last cut_text cut.clean) ∙ ap last_segment (segments ∙ at) ∙ last_segment-child p file

    -- where the last part is no name of a document, the key is that of none
    pub other_key : (IsNodeFile last → ⊥) → IsNodePathOf key None
    other_key other p some h = other (subst IsNodeFile (sym (last_is p h.1.0 h.1.2)) h.1.1)

    -- where it is one, the key is that of a document of the path whose names stand before
    pub node_key : IsNodeFile last → (r : Option Path) → IsPathJoined front r → IsNodePathOf key r
    node_key file (Some p) h = (
      h.0,
      (
        last,
        file,
        sym (ap segments_of (sym cut.cut ∙ is) ∙ segments_of-key_text key valid)
            ∙ segments_of-append front last
            ∙ ap (λ q. q ++ segments_of last) (ap segments_of h.1 ∙ joined_segments p h.0)
            ∙ ap (λ q. p ++ q) (segments_of_one last (file_segment last file)),
      ),
    )
    node_key file None h = λ p some k. h p k.0
        (append_cancel_right front (key_text p) (47 ∷ last)
        (sym cut.cut ∙ is ∙ ap key_text k.1.2 ∙ node_key_text p k.1.0 some ∙ ap (λ f. key_text p ++ 47 ∷ f) (sym (last_is p k.1.0 k.1.2))))

-- ---- one key after another

-- a key of no path adds none
pub keyed_same : (keys : List Segments) (key : Segments) (p : Path) (qs : List Path) → IsKeyedPath p key None → AreKeyedBelow keys p qs → AreKeyedBelow (keys ++ key ∷ []) p qs
keyed_same keys key p qs none h q = (
  λ in'. let w = (h q).0 in' in (w.0, (w.1.0, Contains-append_left keys (key ∷ []) w.1.0 w.1.1, w.1.2)),
  λ w. (h q).1 (w.0, ⊎_elim (λ old. (w.1.0, old, w.1.2)) (λ new. absurd (none q w.0 (subst (λ k. IsNodeKey k q) (sym new) w.1.2))) (Contains-push_cases keys key w.1.0 w.1.1)),
)

-- a key of a path adds it
pub keyed_more : (keys : List Segments) (key : Segments) (p : Path) (qs more : List Path) (r : Path) → IsKeyedPath p key (Some r) → more ≡ qs ++ r ∷ [] → AreKeyedBelow keys p qs → AreKeyedBelow (keys ++ key ∷ []) p more
keyed_more keys key p qs more r at is h = subst (AreKeyedBelow (keys ++ key ∷ []) p) (sym is) (λ q. (
  λ in'. ⊎_elim
      (λ old. let w = (h q).0 old in (w.0, (w.1.0, Contains-append_left keys (key ∷ []) w.1.0 w.1.1, w.1.2)))
      (λ new. (subst (IsBelow p) new at.0, (key, Contains-push keys key, subst (IsNodeKey key) new at.1)))
      (Contains-push_cases qs r q in'),
  λ w. ⊎_elim
      (λ old. Contains-append_left qs (r ∷ []) q ((h q).1 (w.0, (w.1.0, old, w.1.2))))
      (λ new. subst (Contains (qs ++ r ∷ [])) (same_fronts r q at.1.1.0 w.1.2.1.0 (sym at.1.1.2 ∙ new ∙ w.1.2.1.2)).0 (Contains-push qs r))
      (Contains-push_cases keys key w.1.0 w.1.1),
))

-- ---- each path once

-- the document of a name
pub document_key : (s : Contents) (q : Path) (file : List ℕ) → IsNodeFile file → HasKey s.values (q ++ file ∷ []) → HasNodeKey s q
document_key s q file h has = ⊎_elim
    (λ e. inl (subst (λ f. HasKey s.values (q ++ f ∷ [])) e has))
    (λ r. inr (⊎_elim (λ e. inl (subst (λ f. HasKey s.values (q ++ f ∷ [])) e has)) (λ e. inr (subst (λ f. HasKey s.values (q ++ f ∷ [])) e has)) r))
    h

-- a path with a document of a node has the key of one
pub some_document : (s : Contents) (q : Path) → HasNodeKey s q → (file : List ℕ) × IsNodeFile file × HasKey s.values (q ++ file ∷ [])
some_document s q h = ⊎_elim (λ k. (zarr_json, inl refl, k)) (⊎_elim (λ k. (zarray, inr (inl refl), k)) (λ k. (zgroup, inr (inr refl), k))) h

-- the paths below a path at which a document is among all keys below it are those that have a document of a node
keyed_nodes : (s : Contents) (p q : Path) (keys : List Segments) → Lists (IsKeyBelow s.values p) keys → IsKeyedBelow keys p q ↔ IsNodeBelow s p q
keyed_nodes s p q keys all = (
  λ w.
      let k = w.1.2 in
      let held = ((listed_each all w.1.0).0 w.1.1).held in
      (k.0, w.0, document_key s q k.1.0 k.1.1 (subst (HasKey s.values) k.1.2 held)),
  λ w.
      let d = some_document s q w.2 in
      let low = w.1 in
      let key = q ++ d.0 ∷ [] in
      let below : IsKeyBelow s.values p key = record { first = low.0; rest = low.1 ++ d.0 ∷ []; is = ap (λ x. x ++ d.0 ∷ []) low.2 ∙ append_assoc p (low.0 ∷ low.1) (d.0 ∷ []); held = d.2 } in
      (low, (key, (listed_each all key).1 below, (w.0, (d.0, d.1, refl)))),
)

-- the order has two paths level just where they are one
pub level_same : (p q : Path) → Decides (eq_by_cmp path_cmp p q) (p ≡ q)
level_same p q = subst (λ t. Decides t (p ≡ q)) (path_ties p q) (path_decides p q)

-- sorted, with those that are level left out, the paths are counted
pub counted : (s : Contents) (p prefix : Path) (keys : List Segments) (paths sorted few : List Path) (n : ℕ) → prefix ≡ p → Lists (IsKeyBelow s.values prefix) keys → AreKeyedBelow keys p paths
    → IsPermutation paths sorted → IsSorted path_cmp sorted → IsFiltered (DiffersFromLast path_eq) [] sorted few → n ≡ length few → IsCountBelow s p n
counted s p prefix keys paths sorted few n at listed are moved up once size =
    let all : Lists (IsKeyBelow s.values p) keys = subst (λ x. Lists (IsKeyBelow s.values x) keys) at listed in
    let is : few ≡ dedup path_eq sorted = dedup_is path_eq sorted few once in
    let rising : IsStrictlySortedBy path_cmp few = subst (IsStrictlySortedBy path_cmp) (sym is) (IsStrictlySortedBy-dedup path_total path_ties sorted up) in (
      few,
      lists_from few
          (λ q. (
            λ in'. (keyed_nodes s p q keys all).0 ((are q).0 (Contains-permutation sorted paths q (IsPermutation-sym paths sorted moved) (Contains-from_dedup path_eq sorted q (subst (λ xs. Contains xs q) is in')))),
            λ w. subst (λ xs. Contains xs q) (sym is) (Contains-dedup path_equiv (λ x y. (path_decides x y).0) sorted q (Contains-permutation paths sorted q moved ((are q).1 ((keyed_nodes s p q keys all).1 w)))),
          ))
          (AllPairs-from_IsDistinct level_same few (IsDistinct-from_sorted path_cmp few rising)),
      size,
    )

-- two counts below a path are one
pub count_same : (s : Contents) (p : Path) (m n : ℕ) → IsCountBelow s p m → IsCountBelow s p n → m ≡ n
count_same s p m n a b = a.2 ∙ length-from_same_keys path_equiv a.0 b.0
    (IsDistinct-from_AllPairs path_decides a.0 a.1.each_once) (IsDistinct-from_AllPairs path_decides b.0 b.1.each_once)
    (λ q. let d = is_member-Decides path_decides a.0 q in
    same_from_decides (is_member path_eq a.0 q) (is_member path_eq b.0 q) (λ t. (listed_each b.1 q).1 ((listed_each a.1 q).0 (d.0 t)), λ in'. d.1 ((listed_each a.1 q).1 ((listed_each b.1 q).0 in'))) (is_member-Decides path_decides b.0 q))
    ∙ sym b.2

-- those among all ignored paths are the orphans, in their order
pub orphans_listed : (s : Contents) (v : MetadataRetrieveVersion) (b : Path) (ps : List Path) (os : List (Path × ℕ)) → Lists (Ignored s v true b) ps → PathsAscend ps → AreOrphansAmong s ps os
    → Lists (IsOrphan s v b) os × AllPairs (λ o u. path_cmp o.0 u.0 ≡ Less) os
orphans_listed s v b ps os listed up h =
    let rising = h.ascend up in (
      lists_from os
          (λ o. (
            λ in'. let w = (h.exact o).0 in' in ((listed_each listed o.0).0 w.0, w.1, w.2),
            λ is. (h.exact o).1 ((listed_each listed o.0).1 is.0, is.1, is.2),
          ))
          (λ i j d l m same. names_irrefl (get_or os j d).0 (subst (λ (o : Path × ℕ). path_cmp o.0 (get_or os j d).0 ≡ Less) same (rising i j d l m))),
      rising,
    )

-- ---- one bad document after another

-- below one more some are
pub hidden_more : (s : Contents) (ds : List Bad) (d : Bad) (n : ℕ) (ns more : List ℕ) → IsCountBelow s d.0 n → more ≡ ns ++ n ∷ [] → AreHidden s ds ns → AreHidden s (ds ++ d ∷ []) more
hidden_more s ds d n ns more count is h = subst (AreHidden s (ds ++ d ∷ [])) (sym is) (record {
  size = length-append ns (n ∷ []) ∙ ap (λ k. k + 1) h.size ∙ sym (length-append ds (d ∷ []));
  each = λ i e m lt. ⊎_elim
      (λ before.
      let within : i < length ns = omega (arith, before, h.size) in
      at (get_or ds i e) (get_or (ds ++ d ∷ []) i e) (get_or ns i m) (get_or (ns ++ n ∷ []) i m)
      (get_or-append ds (d ∷ []) e i before) (get_or-append ns (n ∷ []) m i within) (h.each i e m before))
      (λ past.
      let long = length-append ds (d ∷ []) in
      let last : i ≡ length ds = omega (arith, lt, past, long) in
      at d (get_or (ds ++ d ∷ []) i e) n (get_or (ns ++ n ∷ []) i m)
      (ap (λ k. get_or (ds ++ d ∷ []) k e) last ∙ get_or-append_seam ds d [] e) (ap (λ k. get_or (ns ++ n ∷ []) k m) (last ∙ sym h.size) ∙ get_or-append_seam ns n [] m) count)
      (cases_lt i (length ds));
})
  where
    at : (x y : Bad) (a b : ℕ) → y ≡ x → b ≡ a → IsCountBelow s x.0 a → IsCountBelow s y.0 b
    at x y a b is size h = subst (λ z. IsCountBelow s z.0 b) (sym is) (subst (IsCountBelow s x.0) (sym size) h)

-- the turn at a place of a list is that of what stands there
pub hidden_turn : (s : Contents) (ds : List Bad) (i : ℕ) (d : Bad) (ns : List ℕ) → i < length ds → d ≡ get_or ds i d → AreHidden s (take i ds ++ d ∷ []) ns → AreHidden s (take (i + 1) ds) ns
hidden_turn s ds i d ns lt is h = subst (λ xs. AreHidden s xs ns) (ap (λ x. take i ds ++ x ∷ []) is ∙ sym (take_more ds i d lt)) h

-- at the end all were taken
pub hidden_all : (s : Contents) (ds : List Bad) (i : ℕ) (ns : List ℕ) → length ds ≤ i → AreHidden s (take i ds) ns → AreHidden s ds ns
hidden_all s ds i ns past h = subst (λ xs. AreHidden s xs ns) (take_all i ds past) h

-- ---- one path after another

-- a path with none below adds nothing
pub orphans_same : (s : Contents) (ps : List Path) (p : Path) (n : ℕ) (os : List (Path × ℕ)) → IsCountBelow s p n → n ≡ 0 → AreOrphansAmong s ps os → AreOrphansAmong s (ps ++ p ∷ []) os
orphans_same s ps p n os count none h = record {
  exact = λ o. (
    λ in'. let w = (h.exact o).0 in' in (Contains-append_left ps (p ∷ []) o.0 w.0, w.1, w.2),
    λ w. ⊎_elim
        (λ old. (h.exact o).1 (old, w.1, w.2))
        (λ new. absurd (w.2 (count_same s o.0 o.1 n w.1 (subst (λ q. IsCountBelow s q n) new count) ∙ none)))
        (Contains-push_cases ps p o.0 w.0),
  );
  ascend = λ up. h.ascend (all_pairs_front (λ p q. path_cmp p q ≡ Less) ps p up);
}

-- a path with some below is added with their number
pub orphans_more : (s : Contents) (ps : List Path) (p copy : Path) (n : ℕ) (os more : List (Path × ℕ)) → IsCountBelow s p n → n ≢ 0 → copy ≡ p → more ≡ os ++ (copy, n) ∷ [] → AreOrphansAmong s ps os → AreOrphansAmong s (ps ++ p ∷ []) more
orphans_more s ps p copy n os more count some same is h = subst (AreOrphansAmong s (ps ++ p ∷ [])) (sym (is ∙ ap (λ q. os ++ (q, n) ∷ []) same)) (record {
  exact = λ o. (
    λ in'. ⊎_elim
        (λ old. let w = (h.exact o).0 old in (Contains-append_left ps (p ∷ []) o.0 w.0, w.1, w.2))
        (λ new. subst (λ (x : Path × ℕ). Contains (ps ++ p ∷ []) x.0 × IsCountBelow s x.0 x.1 × (x.1 ≢ 0)) new (Contains-push ps p, count, some))
        (Contains-push_cases os (p, n) o in'),
    λ w. ⊎_elim
        (λ old. Contains-append_left os ((p, n) ∷ []) o ((h.exact o).1 (old, w.1, w.2)))
        (λ new. subst (Contains (os ++ (p, n) ∷ [])) (same_pair o new w.1) (Contains-push os (p, n)))
        (Contains-push_cases ps p o.0 w.0),
  );
  ascend = λ up. all_pairs_append (λ (o u : Path × ℕ). path_cmp o.0 u.0 ≡ Less) os ((p, n) ∷ []) (h.ascend (all_pairs_front (λ p q. path_cmp p q ≡ Less) ps p up)) (λ i j d l m. absurd (omega (arith, l, m)))
      (λ o u old new. subst (λ (x : Path × ℕ). path_cmp o.0 x.0 ≡ Less) (only u new) (all_pairs_last (λ p q. path_cmp p q ≡ Less) ps p up o.0 ((h.exact o).0 old).0));
})
  where
    same_pair : (o : Path × ℕ) → p ≡ o.0 → IsCountBelow s o.0 o.1 → (p, n) ≡ o
    same_pair o at other = let size = count_same s o.0 n o.1 (subst (λ q. IsCountBelow s q n) at count) other in λ i. (at i, size i)

    only : (u : Path × ℕ) → Contains ((p, n) ∷ []) u → (p, n) ≡ u
    only u in' = ⊎_elim (λ e. e) (λ none. absurd (omega (arith, none.1))) (contains_cases (p, n) [] u in')

-- the turn at a place of a list is that of what stands there
pub orphans_turn : (s : Contents) (ps : List Path) (i : ℕ) (p : Path) (os : List (Path × ℕ)) → i < length ps → p ≡ get_or ps i p → AreOrphansAmong s (take i ps ++ p ∷ []) os → AreOrphansAmong s (take (i + 1) ps) os
orphans_turn s ps i p os lt is h = subst (λ xs. AreOrphansAmong s xs os) (ap (λ x. take i ps ++ x ∷ []) is ∙ sym (take_more ps i p lt)) h
