-- Zarr core specification 3.1, "Group metadata", the field `consolidated_metadata`: which key of a block counts, what a block holds, and what is kept of it, by examples.
use Rattle.std.proofs.Common.{◌≡◌, ℕ, Bool, true, false, cond, List, [], ◌∷◌, ◌++◌, IsTrue, codes, refl, sym, ap, subst, ◌∙◌, Some, None, inr, is_eq}
use Rattle.zarrs_store.specs.Segments.{bytes_cmp, key_text}
use Rattle.zarrs_path.specs.Paths.{Path}
use Rattle.zarrs_block.proofs.Expansion.{same_text}
use Rattle.zarrs_meta.specs.Node.{is_group}
use Rattle.zarrs_meta.specs.declared.node.NodeMetadata.{NodeMetadata}
use Rattle.zarrs_block.specs.Block.{Block, node_at_key, entry, Entries, IsBlockOf, IsValidKey}
use Rattle.zarrs_block.specs.BlockExpansion.{path_at}
use Rattle.zarrs_node.specs.Reach.{Kept}
use Rattle.tests_definitions.proofs.Meanings.{plain_group, small_array}
use Rattle.tests_definitions.proofs.ReachedNodes.{reached}

-- keys `foo` and `/foo`
abbrev two : Block
two = (codes "/foo", plain_group) ∷ (codes "foo", small_array) ∷ []

-- the key without a slash counts
foo_counts : entry two (codes "foo" ∷ []) ≡ Some small_array
foo_counts = refl

-- the other does where it stands alone
slash_alone : entry ((codes "/foo", plain_group) ∷ []) (codes "foo" ∷ []) ≡ Some plain_group
slash_alone = refl

-- two slashes in front are no key of a path, and the entry is not found
two_slashes : entry ((codes "//foo", plain_group) ∷ []) (codes "foo" ∷ []) ≡ None
two_slashes = refl

-- the entries below `/b` have `/b/foo`, with the metadata of the key that counts
foo_is_entry : Entries two (codes "b" ∷ []) (codes "b" ∷ codes "foo" ∷ [], small_array)
foo_is_entry = (codes "foo", [], refl, refl, refl)

-- and no others at that path
foo_is_no_group : Entries two (codes "b" ∷ []) (codes "b" ∷ codes "foo" ∷ [], plain_group) → ⊥
foo_is_no_group h =
    let names : codes "b" ∷ codes "foo" ∷ [] ≡ codes "b" ∷ h.0 ∷ h.1 = h.3 in
    let same : codes "foo" ∷ [] ≡ h.0 ∷ h.1 = cc in
    let is : Some small_array ≡ Some plain_group = ap (entry two) same ∙ h.4 in cc

-- the covered key adds no path
covered : path_at [] two (codes "/foo") ≡ None
covered = refl

-- valid keys
valid_key : IsValidKey (codes "/a/b")
valid_key = (codes "a" ∷ codes "b" ∷ [], refl, inr refl)

-- ---- what is kept

-- an array `a`, and a group below it
abbrev below_array : Block
below_array = (codes "a", small_array) ∷ (codes "a/x", plain_group) ∷ []

-- the group is an entry
is_entry : Entries below_array [] (codes "a" ∷ codes "x" ∷ [], plain_group)
is_entry = (codes "a", codes "x" ∷ [], refl, refl, refl)

-- which is dropped
is_dropped : Kept (Entries below_array []) true [] (codes "a" ∷ codes "x" ∷ [], plain_group) → ⊥
is_dropped h =
    let way = (h.0.between (codes "a" ∷ []) (codes "a", [], refl) (codes "x", [], refl)).1 in
    let at = way.1 in
    let is : Some small_array ≡ Some way.0 = ap (entry below_array) at.3 ∙ at.4 in
    let same : small_array ≡ way.0 = cc in
    let group : IsTrue (is_group small_array) = subst (λ k. IsTrue (is_group k)) (sym same) way.2 in
    let never : false ≡ true = group in cc

-- below a group it is kept
abbrev below_group : Block
below_group = (codes "a", plain_group) ∷ (codes "a/x", small_array) ∷ []

-- the array `/a/x` is kept, below the group `/a`
is_kept : Kept (Entries below_group []) true [] (codes "a" ∷ codes "x" ∷ [], small_array)
is_kept = (
  reached _ true (codes "a") (codes "x" ∷ []) refl ((refl, (plain_group, (codes "a", [], refl, refl, refl), refl)), tt),
  (codes "a", codes "x" ∷ [], refl, refl, refl),
)

-- ---- the block of some pairs

-- the path `/b`
abbrev b : Path
b = codes "b" ∷ []

-- one pair, below `/b`
abbrev One : Path × NodeMetadata → Type 0
One e = e ≡ (b ++ codes "a" ∷ [], plain_group)

-- its block has the one key
one_block : IsBlockOf One b ((codes "a", plain_group) ∷ [])
one_block t m = (λ h. from (is_eq (bytes_cmp t (codes "a"))) refl h, λ w. back w)
  where
    from : (c : Bool) → is_eq (bytes_cmp t (codes "a")) ≡ c → cond c (Some plain_group) None ≡ Some m → (n : List ℕ) × (ns : Path) × (t ≡ key_text (n ∷ ns)) × One (b ++ n ∷ ns, m)
    from true at h = let same : plain_group ≡ m = cc in (codes "a", [], same_text t (codes "a") at, ap (λ k. (b ++ codes "a" ∷ [], k)) (sym same))
    from false at h = cc

    back : ((n : List ℕ) × (ns : Path) × (t ≡ key_text (n ∷ ns)) × One (b ++ n ∷ ns, m)) → node_at_key ((codes "a", plain_group) ∷ []) t ≡ Some m
    back w =
        let names : codes "b" ∷ w.0 ∷ w.1 ≡ codes "b" ∷ codes "a" ∷ [] = ap (λ e. e.0) w.3 in
        let same : w.0 ∷ w.1 ≡ codes "a" ∷ [] = cc in
        let text : t ≡ codes "a" = w.2 ∙ ap key_text same in
        let is : m ≡ plain_group = ap (λ e. e.1) w.3 in
        ap (node_at_key ((codes "a", plain_group) ∷ [])) text ∙ ap Some (sym is)

-- with a slash in front it is none
slash_is_none : IsBlockOf One b ((codes "/a", plain_group) ∷ []) → ⊥
slash_is_none h =
    let w = (h (codes "/a") plain_group).0 refl in
    let names : codes "b" ∷ w.0 ∷ w.1 ≡ codes "b" ∷ codes "a" ∷ [] = ap (λ e. e.0) w.3 in
    let same : w.0 ∷ w.1 ≡ codes "a" ∷ [] = cc in
    let text : codes "/a" ≡ codes "a" = w.2 ∙ ap key_text same in cc
