-- Pairs in the order of paths: the sets that they list, and the map that they make.
use Rattle.std.proofs.Common.{◌≡◌, ◌↔◌, [], ◌∷◌, ◌++◌, append_assoc, refl, sym, ap, subst, ◌∙◌, Contains, Less, Greater}
use Rattle.std.specs.List.{AllByRecursion}
use Rattle.std.specs.List.Sorted.{IsStrictlySortedBy}
use Rattle.std.specs.Map.{keys_of}
use Rattle.std.specs.Ordering.{ordering_reverse}
use Rattle.std.specs.BTreeMap.{insert_entry}
use Rattle.zarrs_store.specs.Contents.{Lists}
use Rattle.zarrs_path.specs.Paths.{Path, path_cmp}
use Rattle.zarrs_path.specs.PathOrder.{path_total}
use Rattle.zarrs_meta.specs.declared.node.NodeMetadata.{NodeMetadata}
use Rattle.zarrs_node.specs.Order.{Ascend}
use Rattle.zarrs_node.proofs.ListedItems.{all_pairs_tail, all_pairs_first, lists_from, listed_each}
use Rattle.zarrs_node.proofs.ForestsBeside.{Contains-first, Contains-cons}
use Rattle.zarrs_hierarchy.specs.PairsOfHierarchies.{Pairs}

-- a path before those of all pairs is before each of their keys
all_above : (p : Path) (es : Pairs) → ((e : Path × NodeMetadata) → Contains es e → path_cmp p e.0 ≡ Less) → AllByRecursion (λ q. path_cmp p q ≡ Less) (keys_of es)
all_above p [] h = tt
all_above p (e ∷ es) h = (h e (Contains-first e es), all_above p es (λ d in'. h d (Contains-cons e es d in')))

-- the keys of pairs that ascend do so
pub sorted : (es : Pairs) → Ascend es → IsStrictlySortedBy path_cmp (keys_of es)
unfolding IsStrictlySortedBy
sorted [] up = tt
sorted (e ∷ es) up = (
  all_above e.0 es (all_pairs_first (λ c d. path_cmp c.0 d.0 ≡ Less) e es up),
  sorted es (all_pairs_tail (λ c d. path_cmp c.0 d.0 ≡ Less) e es up),
)

-- what lists some pairs lists whatever set has the same
pub lists_same : {N M : Path × NodeMetadata → Type 0} {xs : Pairs} → Lists N xs → ((e : Path × NodeMetadata) → N e ↔ M e) → Lists M xs
lists_same {xs = xs} h same = lists_from xs (λ e. (λ in'. (same e).0 ((listed_each h e).0 in'), λ is. (listed_each h e).1 ((same e).1 is))) h.each_once

-- ---- a map that grows at its end

-- a path stands before one that comes later
stands_before : (p : Path) (done : Pairs) (e : Path × NodeMetadata) (es : Pairs) → AllByRecursion (λ q. path_cmp p q ≡ Less) (keys_of (done ++ e ∷ es)) → path_cmp p e.0 ≡ Less
stands_before p [] e es h = h.0
stands_before p (d ∷ done) e es h = stands_before p done e es h.1

-- a path that comes later stands behind one that is before all of them
stands_after : (p : Path) (done : Pairs) (e : Path × NodeMetadata) (es : Pairs) → AllByRecursion (λ q. path_cmp p q ≡ Less) (keys_of (done ++ e ∷ es)) → path_cmp e.0 p ≡ Greater
stands_after p done e es h = path_total.antisymm e.0 p ∙ ap ordering_reverse (stands_before p done e es h)

-- a path behind all others goes last
pub inserted_last : (done : Pairs) (e : Path × NodeMetadata) (es : Pairs) → IsStrictlySortedBy path_cmp (keys_of (done ++ e ∷ es)) → insert_entry path_cmp done e.0 e.1 ≡ done ++ e ∷ []
unfolding IsStrictlySortedBy
inserted_last [] e es h = refl
inserted_last (d ∷ done) e es h = rw (stands_after d.0 done e es h.0) (ap (λ x. d ∷ x) (inserted_last done e es h.1))

-- one more is put
pub put_next : (done next whole left : Pairs) (e : Path × NodeMetadata) (es : Pairs) (p : Path) (m : NodeMetadata)
    → left ≡ e ∷ es → p ≡ e.0 → m ≡ e.1 → next ≡ insert_entry path_cmp done p m
    → IsStrictlySortedBy path_cmp (keys_of (done ++ left)) × (done ++ left ≡ whole) → IsStrictlySortedBy path_cmp (keys_of (next ++ es)) × (next ++ es ≡ whole)
put_next done next whole left e es p m is path same new h =
    let ascend : IsStrictlySortedBy path_cmp (keys_of (done ++ e ∷ es)) = subst (λ xs. IsStrictlySortedBy path_cmp (keys_of (done ++ xs))) is h.0 in
    let last : next ≡ done ++ e ∷ [] = new ∙ ap (λ q. insert_entry path_cmp done q m) path ∙ ap (insert_entry path_cmp done e.0) same ∙ inserted_last done e es ascend in
    let all : next ++ es ≡ done ++ left = ap (λ xs. xs ++ es) last ∙ append_assoc done (e ∷ []) es ∙ ap (λ xs. done ++ xs) (sym is) in
    (subst (λ xs. IsStrictlySortedBy path_cmp (keys_of xs)) (sym all) h.0, all ∙ h.1)
