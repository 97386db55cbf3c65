-- That there is a number of paths with documents below a path: the keys of a store are finitely many.
use Rattle.std.proofs.Common.{◌≡◌, ◌≢◌, ◌⊎◌, inl, inr, ⊎_elim, Bool, true, false, true≢false, List, [], ◌∷◌, ◌++◌, length, refl, sym, ap, subst, ◌∙◌, arith, length-append, IsTrue, Contains, Some, None, bytes_eq, ℕ, ◌↔◌}
use Rattle.std.specs.FinMap.{keys, contains_key-keys}
use Rattle.std.specs.List.{list_all}
use Rattle.std.specs.Set.{is_member}
use Rattle.std.proofs.lemmas.List.Kept.{AllPairs-cons}
use Rattle.std.proofs.lemmas.List.Elements.{Contains-get_or}
use Rattle.std.proofs.lemmas.Map.Made.{is_member-Decides}
use Rattle.std.proofs.lemmas.Slice.Eq.{bytes_eq-Decides}
use Rattle.zarrs_store.specs.Segments.{Segments}
use Rattle.zarrs_store.specs.Contents.{Contents, Values, HasKey, Lists}
use Rattle.zarrs_path.specs.Keys.{zarr_json, zarray, zgroup}
use Rattle.zarrs_path.specs.Names.{is_name}
use Rattle.zarrs_path.specs.Paths.{Path, IsPath, IsBelow, path_eq}
use Rattle.zarrs_path.specs.PathOrder.{path_decides}
use Rattle.zarrs_path.proofs.PathTexts.{last_name}
use Rattle.zarrs_path.proofs.LawProofs.{same_fronts}
use Rattle.zarrs_node.proofs.ListedItems.{lists_from, listed_each}
use Rattle.zarrs_node.proofs.ForestsBeside.{Contains-first, Contains-cons}
use Rattle.zarrs_node.proofs.Order.{contains_cases}
use Rattle.zarrs_check.specs.Orphans.{IsNodeBelow, IsCountBelow}
use Rattle.zarrs_check.specs.StepsOfOrphans.{IsNodeFile, IsNodeKey, IsKeyedPath, IsKeyedBelow}
use Rattle.zarrs_check.proofs.Above.{below_or_not}
use Rattle.zarrs_check.proofs.DocumentCounts.{level_same, document_key, some_document}

-- a test passes or fails
pub passes_or_not : (t : Bool) → IsTrue t ⊎ (IsTrue t → ⊥)
passes_or_not true = inl refl
passes_or_not false = inr (λ h. true≢false (sym h))

-- a text is another, or is not
text_or_not : (n m : List ℕ) → (n ≡ m) ⊎ (n ≡ m → ⊥)
text_or_not n m = let d = bytes_eq-Decides n m in ⊎_elim (λ t. inl (d.0 t)) (λ no. inr (λ e. no (d.1 e))) (passes_or_not (bytes_eq n m))

-- a name is that of a document of a node, or is not
file_or_not : (file : List ℕ) → IsNodeFile file ⊎ (IsNodeFile file → ⊥)
file_or_not file = ⊎_elim (λ e. inl (inl e))
    (λ no. ⊎_elim (λ e. inl (inr (inl e)))
    (λ none. ⊎_elim (λ e. inl (inr (inr e))) (λ last. inr (⊎_elim no (⊎_elim none last))) (text_or_not file zgroup))
    (text_or_not file zarray))
    (text_or_not file zarr_json)

-- a key is that of a document of a node at a path below p, or of none
key_or_not : (p : Path) (key : Segments) → ((q : Path) × IsKeyedPath p key (Some q)) ⊎ IsKeyedPath p key None
key_or_not p [] = inr (λ q low k. nothing q k.1.0 k.1.2)
  where
    nothing : (q : Path) (file : List ℕ) → [] ≡ q ++ file ∷ [] → ⊥
    nothing q file e =
        let long = ap length e in
        let more = length-append q (file ∷ []) in
        omega (arith, long, more)
key_or_not p (n ∷ ns) = let w = last_name (n ∷ ns) (λ e. cc) in by w.0 w.1 w.2
  where
    by : (q : Path) (file : List ℕ) → n ∷ ns ≡ q ++ file ∷ [] → ((q : Path) × IsKeyedPath p (n ∷ ns) (Some q)) ⊎ IsKeyedPath p (n ∷ ns) None
    by q file is =
        let fronts : (r : Path) → (k : IsNodeKey (n ∷ ns) r) → (q ≡ r) × (file ≡ k.1.0) = λ r k. same_fronts q r file k.1.0 (sym is ∙ k.1.2) in
        ⊎_elim
        (λ low. ⊎_elim
        (λ valid. ⊎_elim (λ document. inl (q, (low, (valid, (file, document, is))))) (λ no. inr (λ r below k. no (subst IsNodeFile (sym (fronts r k).1) k.1.1))) (file_or_not file))
        (λ no. inr (λ r below k. no (subst IsPath (sym (fronts r k).0) k.0)))
        (passes_or_not (list_all is_name q)))
        (λ no. inr (λ r below k. no (subst (IsBelow p) (sym (fronts r k).0) below)))
        (below_or_not p q)

-- of some keys there is a list of the paths below p that have a document of a node among them, each once
keyed_list : (p : Path) (ks : List Segments) → (qs : List Path) × Lists (IsKeyedBelow ks p) qs
keyed_list p [] = ([], lists_from [] (λ q. (λ in'. absurd (omega (arith, in'.1)), λ h. absurd (omega (arith, h.1.1.1)))) (λ i j d l m. absurd (omega (arith, m))))
keyed_list p (key ∷ ks) = let w = keyed_list p ks in ⊎_elim (λ one. with_path w.0 w.1 one.0 one.1) (λ none. (w.0, same w.0 w.1 none)) (key_or_not p key)
  where
    later : (q : Path) → IsKeyedBelow ks p q → IsKeyedBelow (key ∷ ks) p q
    later q h = (h.0, (h.1.0, Contains-cons key ks h.1.0 h.1.1, h.1.2))

    same : (qs : List Path) → Lists (IsKeyedBelow ks p) qs → IsKeyedPath p key None → Lists (IsKeyedBelow (key ∷ ks) p) qs
    same qs listed none = lists_from qs
        (λ q. (
          λ in'. later q ((listed_each listed q).0 in'),
          λ h. ⊎_elim (λ e. absurd (none q h.0 (subst (λ k. IsNodeKey k q) (sym e) h.1.2))) (λ old. (listed_each listed q).1 (h.0, (h.1.0, old, h.1.2))) (contains_cases key ks h.1.0 h.1.1),
        ))
        listed.each_once

    with_path : (qs : List Path) → Lists (IsKeyedBelow ks p) qs → (r : Path) → IsKeyedPath p key (Some r) → (qs : List Path) × Lists (IsKeyedBelow (key ∷ ks) p) qs
    with_path qs listed r at = ⊎_elim
        (λ old. (qs, lists_from qs (λ q. (λ in'. later q ((listed_each listed q).0 in'), λ h. ⊎_elim (λ e. subst (Contains qs) (path_of q e h.1.2) old) (λ l. (listed_each listed q).1 (h.0, (h.1.0, l, h.1.2))) (contains_cases key ks h.1.0 h.1.1))) listed.each_once))
        (λ new. (
          r ∷ qs,
          lists_from (r ∷ qs)
              (λ q. (
                λ in'. ⊎_elim (λ e. subst (IsKeyedBelow (key ∷ ks) p) e (at.0, (key, Contains-first key ks, at.1))) (λ l. later q ((listed_each listed q).0 l)) (contains_cases r qs q in'),
                λ h. ⊎_elim (λ e. subst (Contains (r ∷ qs)) (path_of q e h.1.2) (Contains-first r qs)) (λ l. Contains-cons r qs q ((listed_each listed q).1 (h.0, (h.1.0, l, h.1.2)))) (contains_cases key ks h.1.0 h.1.1),
              ))
              (AllPairs-cons (λ x y. x ≢ y) r qs (λ i d lt e. new (subst (Contains qs) (sym e) (Contains-get_or qs i d lt))) listed.each_once),
        ))
        (member_or_not qs r)
      where
        path_of : (q : Path) → {k : Segments} → key ≡ k → IsNodeKey k q → r ≡ q
        path_of q e k = (same_fronts r q at.1.1.0 k.1.0 (sym at.1.1.2 ∙ e ∙ k.1.2)).0

        member_or_not : (qs : List Path) (q : Path) → Contains qs q ⊎ (Contains qs q → ⊥)
        member_or_not qs q = let d = is_member-Decides path_decides qs q in ⊎_elim (λ t. inl (d.0 t)) (λ no. inr (λ in'. no (d.1 in'))) (passes_or_not (is_member path_eq qs q))

-- the store has a key just where it is among its keys
held_keys : (V : Values) (key : Segments) → HasKey V key ↔ Contains (keys V) key
held_keys V key =
    let is = contains_key-keys V key in
    let d = is_member-Decides level_same (keys V) key in
    (λ has. d.0 (sym is ∙ has), λ in'. is ∙ d.1 in')

-- below each path there is a number of paths that have a document of a node
pub some_count : (s : Contents) (p : Path) → (n : ℕ) × IsCountBelow s p n
some_count s p = let w = keyed_list p (keys s.values) in (length w.0, (w.0, lists_from w.0 (λ q. (λ in'. nodes q ((listed_each w.1 q).0 in'), λ h. (listed_each w.1 q).1 (keyed q h))) w.1.each_once, refl))
  where
    nodes : (q : Path) → IsKeyedBelow (keys s.values) p q → IsNodeBelow s p q
    nodes q h = let k = h.1.2 in (k.0, h.0, document_key s q k.1.0 k.1.1 (subst (HasKey s.values) k.1.2 ((held_keys s.values h.1.0).1 h.1.1)))

    keyed : (q : Path) → IsNodeBelow s p q → IsKeyedBelow (keys s.values) p q
    keyed q h = let d = some_document s q h.2 in (h.1, (q ++ d.0 ∷ [], (held_keys s.values (q ++ d.0 ∷ [])).0 d.2, (h.0, (d.0, d.1, refl))))
