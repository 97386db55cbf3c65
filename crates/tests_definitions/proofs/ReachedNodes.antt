-- Zarr core specification 3.1, "Hierarchy": which nodes a listing reaches in a small store, what it passes over, and what it refuses.
use Rattle.std.proofs.Common.{◌≡◌, ℕ, Bool, true, false, List, [], ◌∷◌, ◌++◌, IsTrue, codes, refl, sym, subst, ◌∙◌, inl, inr}
use Rattle.zarrs_store.specs.Contents.{Contents, of_entries}
use Rattle.zarrs_path.specs.Paths.{Path, IsPath, IsBelow}
use Rattle.zarrs_path.specs.Keys.{zarr_json, zarray}
use Rattle.zarrs_meta.specs.Node.{is_group}
use Rattle.zarrs_meta.specs.declared.node.NodeMetadata.{NodeMetadata}
use Rattle.zarrs_config.specs.declared.version.MetadataRetrieveVersion.TheVariants.{Default}
use Rattle.zarrs_meaning.specs.Meaning.{node, nothing, bad, meaning}
use Rattle.zarrs_fault.specs.declared.fault.MetadataFault.TheVariants.{NotJson}
use Rattle.zarrs_store.specs.declared.storage_error.StorageError.TheVariants.{InvalidMetadata}
use Rattle.zarrs_meaning.specs.declared.node_create_error.NodeCreateError.TheVariants.{StorageError as InStore}
use Rattle.zarrs_node.specs.Reach.{Reached, Opens}
use Rattle.zarrs_node.specs.Nodes.{Nodes, Ignored, Bad}
use Rattle.tests_definitions.proofs.Stores.{Entries, documents_compute, listed, has_key}
use Rattle.tests_definitions.proofs.Meanings.{a, group_text, plain_group, array_text, small_array}

-- P holds of each proper beginning of p
abbrev pub Beginnings : (Path → Type 0) → Path → Type 0
Beginnings P [] = Unit {0}
Beginnings P (n ∷ p) = P [] × Beginnings (λ q. P (n ∷ q)) p

-- so of each path that p is below
pub beginning : (P : Path → Type 0) (p q : Path) → Beginnings P p → IsBelow q p → P q
beginning P [] [] h low = cc
beginning P [] (m ∷ q) h low = cc
beginning P (n ∷ p) [] h low = h.0
beginning P (n ∷ p) (m ∷ q) h low =
    let is : n ∷ p ≡ m ∷ (q ++ low.0 ∷ low.1) = low.2 in
    let same : n ≡ m = cc in
    let rest : p ≡ q ++ low.0 ∷ low.1 = cc in
    subst (λ k. P (k ∷ q)) same (beginning (λ r. P (n ∷ r)) p q h.1 (low.0, low.1, rest))

-- a path is reached from the root where the way goes on below each of its proper beginnings
pub reached : (N : Path × NodeMetadata → Type 0) (r : Bool) (n : List ℕ) (p : Path) → IsPath (n ∷ p) → Beginnings (λ q. Opens N r (n ∷ q)) p → Reached N r [] (n ∷ p)
reached N r n p valid opens = record {
  below = (n, p, refl, valid);
  between = λ q over low. by q over low;
}
  where
    by : (q : Path) → IsBelow [] q → IsBelow q (n ∷ p) → Opens N r q
    by [] over low = let is : [] ≡ over.0 ∷ over.1 = over.2 in cc
    by (m ∷ q) over low =
        let is : n ∷ p ≡ m ∷ (q ++ low.0 ∷ low.1) = low.2 in
        let same : n ≡ m = cc in
        let rest : p ≡ q ++ low.0 ∷ low.1 = cc in
        subst (λ k. Opens N r (k ∷ q)) same (beginning (λ t. Opens N r (n ∷ t)) p q opens (low.0, low.1, rest))

-- ---- `/`, `/a` and `/a/x` are groups, and so is `/u/y` below `/u`, which has no document

-- the path `/a/x`
abbrev pub x : Path
x = codes "a" ∷ codes "x" ∷ []

-- the path `/u`
abbrev pub u : Path
u = codes "u" ∷ []

-- the path `/u/y`
abbrev pub y : Path
y = codes "u" ∷ codes "y" ∷ []

-- the entries of a store with these groups
abbrev pub store : Entries (List ℕ)
store = (zarr_json ∷ [], group_text) ∷ (a ++ zarr_json ∷ [], group_text) ∷ (x ++ zarr_json ∷ [], group_text) ∷ (y ++ zarr_json ∷ [], group_text) ∷ []

-- the contents of this store
abbrev pub held : Contents
held = of_entries store

-- `/a` means a group
pub a_means : meaning held Default a ≡ node plain_group
unfolding documents_compute
a_means = listed store Default a

-- `/a/x` means a group
pub x_means : meaning held Default x ≡ node plain_group
unfolding documents_compute
x_means = listed store Default x

-- `/u` means nothing
pub u_means : meaning held Default u ≡ nothing
unfolding documents_compute
u_means = listed store Default u

-- `/u/y` means a group
pub y_means : meaning held Default y ≡ node plain_group
unfolding documents_compute
y_means = listed store Default y

-- `/a/x` is a node
pub x_is_listed : Nodes held Default true [] (x, plain_group)
x_is_listed = (reached _ true (codes "a") (codes "x" ∷ []) refl ((refl, (plain_group, a_means, refl)), tt), x_means)

-- `/u/y` is none
pub y_is_not : Nodes held Default true [] (y, plain_group) → ⊥
y_is_not h =
    let way = h.0.between u (codes "u", [], refl) (codes "y", [], refl) in
    let is : nothing ≡ node way.1.0 = sym u_means ∙ way.1.1 in cc

-- nor is `/a/x` where the listing is not recursive
x_is_deep : Nodes held Default false [] (x, plain_group) → ⊥
x_is_deep h =
    let way = h.0.between a (codes "a", [], refl) (codes "x", [], refl) in
    let is : false ≡ true = way.0 in cc

-- `/u` is reached, and ignored, since a key goes on below it
u_is_ignored : Ignored held Default true [] u
u_is_ignored = (reached _ true (codes "u") [] refl tt, u_means, (codes "y", zarr_json ∷ [], has_key store (y ++ zarr_json ∷ []) refl))

-- ---- `/a` is an array, and `/a/x` a group below it

-- the entries of a store in which `/` and `/a/x` are groups, and `/a` is an array
abbrev below_array : Entries (List ℕ)
below_array = (zarr_json ∷ [], group_text) ∷ (a ++ zarray ∷ [], array_text) ∷ (x ++ zarr_json ∷ [], group_text) ∷ []

-- in this store `/a` means the array
array_means : meaning (of_entries below_array) Default a ≡ node small_array
unfolding documents_compute
array_means = listed below_array Default a

-- nothing is a node below an array, whatever it means
below_a_none : (n : List ℕ) (ns : Path) (m : NodeMetadata) → Nodes (of_entries below_array) Default true [] (codes "a" ∷ n ∷ ns, m) → ⊥
below_a_none n ns m h =
    let way = h.0.between a (codes "a", [], refl) (n, ns, refl) in
    let is : node small_array ≡ node way.1.0 = sym array_means ∙ way.1.1 in
    let same : small_array ≡ way.1.0 = cc in
    let group : IsTrue (is_group small_array) = subst (λ k. IsTrue (is_group k)) (sym same) way.1.2 in
    let never : false ≡ true = group in cc

-- ---- names that are none

-- a group in `/__a`, and one in `/..`
abbrev odd_names : Entries (List ℕ)
odd_names = (codes "__a" ∷ zarr_json ∷ [], group_text) ∷ (codes ".." ∷ zarr_json ∷ [], group_text) ∷ []

-- `/__a` means a group
reserved_means : meaning (of_entries odd_names) Default (codes "__a" ∷ []) ≡ node plain_group
unfolding documents_compute
reserved_means = listed odd_names Default (codes "__a" ∷ [])

-- `/__a` has a document, and yet no listing finds it
reserved_is_none : (m : NodeMetadata) → Nodes (of_entries odd_names) Default true [] (codes "__a" ∷ [], m) → ⊥
reserved_is_none m h =
    let is : codes "__a" ∷ [] ≡ h.0.below.0 ∷ h.0.below.1 = h.0.below.2 in
    let valid : IsPath (codes "__a" ∷ []) = subst IsPath (sym is) h.0.below.3 in
    let never : false ≡ true = valid in cc

-- `/..` makes the listing refuse
periods_are_bad : Bad (of_entries odd_names) Default true []
periods_are_bad =
    inr (codes ".." ∷ [], ([], codes "..", inl refl, refl, (zarr_json, [], has_key odd_names (codes ".." ∷ zarr_json ∷ []) refl), refl, some))
  where
    some : codes ".." ≡ [] → ⊥
    some e = cc

-- so does a document that is no JSON, at a reached path
abbrev cut_off : Entries (List ℕ)
cut_off = (zarr_json ∷ [], group_text) ∷ (a ++ zarr_json ∷ [], codes "{") ∷ []

-- in this store `/a` is bad, since its `zarr.json` is no JSON
cut_off_means : meaning (of_entries cut_off) Default a ≡ bad (InStore (InvalidMetadata (a ++ zarr_json ∷ []) NotJson))
unfolding documents_compute
cut_off_means = listed cut_off Default a

-- a listing of this store meets something bad
cut_off_is_bad : Bad (of_entries cut_off) Default true []
cut_off_is_bad = inl (_, (a, reached _ true (codes "a") [] refl tt, cut_off_means))
