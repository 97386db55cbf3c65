-- Zarr core specification 3.1, "Hierarchy": all that a listing finds in a small store, and its text.
use Rattle.std.proofs.Common.{◌≡◌, ◌≢◌, ℕ, Bool, true, false, cond, List, [], ◌∷◌, ◌++◌, Contains, Some, IsTrue, codes, refl, sym, ap, subst, ◌∙◌, arith, is_some, is_eq, ⊎_elim}
use Rattle.std.specs.FinMap.{find}
use Rattle.std.proofs.lemmas.List.Elements.{All-from_recursion}
use Rattle.std.proofs.lemmas.List.Kept.{AllPairs-cons}
use Rattle.zarrs_store.specs.Segments.{Segments, key_cmp}
use Rattle.zarrs_store.specs.Contents.{of_entries}
use Rattle.zarrs_path.specs.Paths.{Path}
use Rattle.zarrs_meta.specs.declared.node.NodeMetadata.{NodeMetadata}
use Rattle.zarrs_config.specs.declared.version.MetadataRetrieveVersion.{MetadataRetrieveVersion}
use Rattle.zarrs_config.specs.declared.version.MetadataRetrieveVersion.TheVariants.{Default}
use Rattle.zarrs_meaning.specs.Meaning.{node, nothing, meaning}
use Rattle.zarrs_block.proofs.SmallStores.{same_key}
use Rattle.zarrs_node.specs.Nodes.{Nodes}
use Rattle.zarrs_node.specs.Forest.{Forest, none, tree, pairs, Shows, IsPlaced}
use Rattle.zarrs_node.specs.Lines.{IsLines}
use Rattle.zarrs_node.proofs.walk.Keys.{means_or_nothing}
use Rattle.zarrs_node.proofs.LawProofs.{listing_is_lines}
use Rattle.tests_definitions.proofs.Stores.{Entries, key_is_had}
use Rattle.tests_definitions.proofs.Meanings.{a, plain_group}
use Rattle.tests_definitions.proofs.ReachedNodes.{Beginnings, beginning, reached, x, u, y, store, held, a_means, x_means, u_means, x_is_listed}

-- P holds of each proper beginning of each key
abbrev pub Each : (Path → Type 0) → Entries (List ℕ) → Type 0
Each P [] = Unit {0}
Each P (e ∷ es) = Beginnings P e.0 × Each P es

-- so of those of a key that is found
of_key : (P : Path → Type 0) (es : Entries (List ℕ)) (k : Segments) → Each P es → IsTrue (is_some (find key_cmp k es)) → Beginnings P k
of_key P [] k h some = let never : false ≡ true = some in cc
of_key P (e ∷ es) k h some = by (is_eq (key_cmp k e.0)) refl (of_key P es k h.1) some
  where
    by : (c : Bool) → is_eq (key_cmp k e.0) ≡ c → (IsTrue (is_some (find key_cmp k es)) → Beginnings P k) → IsTrue (is_some (cond c (Some e.1) (find key_cmp k es))) → Beginnings P k
    by true at again _ = subst (Beginnings P) (sym (same_key k e.0 at)) h.0
    by false at again s = again s

-- so of each path that means a node
pub meant : (P : Path → Type 0) (es : Entries (List ℕ)) (v : MetadataRetrieveVersion) (p : Path) (m : NodeMetadata) → Each P es → meaning (of_entries es) v p ≡ node m → P p
meant P es v p m h is =
    ⊎_elim
    (λ low. beginning P (p ++ low.0 ∷ low.1) p (of_key P es (p ++ low.0 ∷ low.1) h (key_is_had es (p ++ low.0 ∷ low.1) low.2)) (low.0, low.1, refl))
    (λ none. let never : node m ≡ nothing = sym is ∙ none in cc)
    (means_or_nothing (of_entries es) v p)

-- ---- the store of `/`, `/a`, `/a/x` and `/u/y`

-- the group `/a` with the group `/a/x` below it
abbrev found : Forest
found = tree a plain_group (tree x plain_group none none) none

-- the pair of `/a` and its group
abbrev at_a : Path × NodeMetadata
at_a = (a, plain_group)

-- the pair of `/a/x` and its group
abbrev at_x : Path × NodeMetadata
at_x = (x, plain_group)

-- a path that is a node is among those found
abbrev IsFound : Path → Type 0
IsFound p = (m : NodeMetadata) → Nodes held Default true [] (p, m) → Contains (pairs found) (p, m)

-- the root is among those found where it is a node
found_root : IsFound []
found_root m h = let low : [] ≡ h.0.below.0 ∷ h.0.below.1 = h.0.below.2 in cc

-- `/a` is among those found where it is a node
found_a : IsFound a
found_a m h =
    let is : node plain_group ≡ node m = sym a_means ∙ h.1 in
    let same : plain_group ≡ m = cc in
    (0, omega arith, ap (λ k. (a, k)) same)

-- `/a/x` is among those found where it is a node
found_x : IsFound x
found_x m h =
    let is : node plain_group ≡ node m = sym x_means ∙ h.1 in
    let same : plain_group ≡ m = cc in
    (1, omega arith, ap (λ k. (x, k)) same)

-- `/u` is among those found where it is a node
found_u : IsFound u
found_u m h = let never : nothing ≡ node m = sym u_means ∙ h.1 in cc

-- `/u/y` is among those found where it is a node
found_y : IsFound y
found_y m h =
    let way = h.0.between u (codes "u", [], refl) (codes "y", [], refl) in
    let never : nothing ≡ node way.1.0 = sym u_means ∙ way.1.1 in cc

-- each proper beginning of a key of the store is among those found where it is a node
each_found : Each IsFound store
each_found = ((found_root, tt), ((found_root, (found_a, tt)), ((found_root, (found_a, (found_x, tt))), ((found_root, (found_u, (found_y, tt))), tt))))

-- the listing finds `/a` and `/a/x`, and no others
shows_found : Shows found [] (Nodes held Default true [])
shows_found = record {
  shown = record {
    each_once = AllPairs-cons (λ d e. d ≢ e) at_a (at_x ∷ []) (All-from_recursion (λ e. at_a ≢ e) (at_x ∷ []) (apart, tt)) (λ i j d lt within. absurd (omega arith));
    sound = All-from_recursion (Nodes held Default true []) (pairs found) ((reached _ true (codes "a") [] refl tt, a_means), (x_is_listed, tt));
    complete = λ e h. meant IsFound store Default e.0 e.1 each_found h.1 e.1 h;
  };
  placed = ((codes "a", refl), tt, ((codes "x", refl), tt, tt, tt, tt), tt, tt);
}
  where
    apart : at_a ≢ at_x
    apart e = let paths : a ≡ x = ap (λ k. k.0) e in cc

-- and this is their text
text_found : IsLines [] (Nodes held Default true []) (codes "  a\n    x\n")
text_found = listing_is_lines (meaning held Default) true [] found shows_found

-- ---- siblings

-- siblings that ascend are placed
ascending_is_placed : IsPlaced [] (tree a plain_group none (tree (codes "b" ∷ []) plain_group none none))
ascending_is_placed = ((codes "a", refl), tt, tt, refl, ((codes "b", refl), tt, tt, tt, tt))

-- siblings that descend are not
descending_is_not : IsPlaced [] (tree (codes "b" ∷ []) plain_group none (tree a plain_group none none)) → ⊥
descending_is_not h = cc
