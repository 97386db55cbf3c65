-- Pairs in the order of paths: what a search by halving finds, and what stands behind a path.
use Rattle.std.proofs.Common.{◌≡◌, ℕ, zero, suc, ◌+◌, [], ◌∷◌, drop, length, get_or, refl, ap, subst, ◌∙◌, arith, Contains, Less, Equal, Greater, Ordering, Some, None, Result, Ok, Err, IfOk, IfErr, is_eq}
use Rattle.std.proofs.lemmas.Cmp.{tied_itself}
use Rattle.std.proofs.lemmas.List.Sorted.{searchable_from_sorted}
use Rattle.std.proofs.Math.Seq.{drop-nil}
use Rattle.std.specs.BTreeMap.{is_at}
use Rattle.std.specs.List.Sorted.{IsBinarySearchResult, IsNonDecreasingBy, IsSearchInRange}
use Rattle.std.specs.Map.{lookup}
use Rattle.std.specs.Ordering.{is_lt, ordering_index, ordering_reverse}
use Rattle.zarrs_path.specs.Paths.{Path, path_cmp}
use Rattle.zarrs_path.specs.PathOrder.{path_decides, path_ties, path_total}
use Rattle.zarrs_meta.specs.declared.node.NodeMetadata.{NodeMetadata}
use Rattle.zarrs_node.specs.Order.{Ascend}
use Rattle.zarrs_node.proofs.ListedItems.{all_pairs_tail, all_pairs_first}
use Rattle.zarrs_node.proofs.ForestsBeside.{Contains-first, Contains-cons}
use Rattle.zarrs_hierarchy.specs.PairsOfHierarchies.{Pairs}
use Rattle.zarrs_hierarchy.specs.StepsOfHierarchies.{IsPathAt, IsPathGap, pairs_behind}

-- paths that the order does not tell apart are the same
same_path : (p q : Path) → path_cmp p q ≡ Equal → p ≡ q
same_path p q e = (path_decides p q).0 (path_ties p q ∙ ap is_eq e)

-- two paths compared the other way round
turned : (p q : Path) (o : Ordering) → path_cmp p q ≡ o → path_cmp q p ≡ ordering_reverse o
turned p q o e = path_total.antisymm q p ∙ ap ordering_reverse e

-- compared with one path, the paths rise, as halving asks
rises : (es : Pairs) → Ascend es → (p : Path) → IsNonDecreasingBy (λ e. ordering_index (path_cmp e.0 p)) es
rises es up p = searchable_from_sorted path_total (λ (e : Path × NodeMetadata). e.0) es p
    (λ k d a b. ap is_lt (turned (get_or es k d).0 (get_or es (k + 1) d).0 Less (up k (k + 1) d (omega arith) b)))

-- a search by halving ends at the path
pub search_found : (es : Pairs) (p : Path) (r : Result ℕ ℕ) → IsSearchInRange r (length es) → IsBinarySearchResult (λ e. path_cmp e.0 p) es r → IfOk r (IsPathAt es p)
search_found es p (Ok i) inside at = record { inside = inside; is = λ d. same_path (get_or es i d).0 p (at d) }
search_found es p (Err i) inside parted = tt

-- or at the gap for it
pub search_missed : (es : Pairs) → Ascend es → (p : Path) (r : Result ℕ ℕ) → IsSearchInRange r (length es) → IsBinarySearchResult (λ e. path_cmp e.0 p) es r → IfErr r (IsPathGap es p)
search_missed es up p (Ok i) inside at = tt
search_missed es up p (Err i) inside parted = let h = parted (rises es up p) in record { inside = inside; smaller = h.0; greater = h.1 }

-- ---- where the path stands

-- the pairs behind the first ascend too
tail_ascends : (e : Path × NodeMetadata) (es : Pairs) → Ascend (e ∷ es) → Ascend es
tail_ascends e es up = all_pairs_tail (λ c d. path_cmp c.0 d.0 ≡ Less) e es up

-- the first stands before each that is behind it
first_before : (e : Path × NodeMetadata) (es : Pairs) → Ascend (e ∷ es) → (d : Path × NodeMetadata) → Contains es d → path_cmp e.0 d.0 ≡ Less
first_before e es up d in' = all_pairs_first (λ c d. path_cmp c.0 d.0 ≡ Less) e es up d in'

-- one place further
at_tail : (e : Path × NodeMetadata) (es : Pairs) (p : Path) (i : ℕ) → IsPathAt (e ∷ es) p (suc i) → IsPathAt es p i
at_tail e es p i at = record { inside = omega (arith, at.inside); is = at.is }

-- the first path is the path, where it stands first
tied_first : (e : Path × NodeMetadata) (es : Pairs) (p : Path) → IsPathAt (e ∷ es) p zero → path_cmp p e.0 ≡ Equal
tied_first e es p at = ap (path_cmp p) (at.is e) ∙ tied_itself path_total p

-- and before it, where it stands later
above_head : (e : Path × NodeMetadata) (es : Pairs) (p : Path) (i : ℕ) → Ascend (e ∷ es) → IsPathAt (e ∷ es) p (suc i) → path_cmp p e.0 ≡ Greater
above_head e es p i up at = turned e.0 p Less (subst (λ q. path_cmp e.0 q ≡ Less) (at.is e) (up 0 (suc i) e (omega arith) at.inside))

-- the metadata there are the path's
pub lookup_there : (es : Pairs) (p : Path) (i : ℕ) (d : Path × NodeMetadata) → Ascend es → IsPathAt es p i → lookup (is_at (path_cmp p)) es ≡ Some (get_or es i d).1
lookup_there [] p i d up at = absurd (omega (arith, at.inside))
lookup_there (e ∷ es) p zero d up at = rw (tied_first e es p at) refl
lookup_there (e ∷ es) p (suc i) d up at = rw (above_head e es p i up at) (lookup_there es p i d (tail_ascends e es up) (at_tail e es p i at))

-- ---- where it would stand

-- one place further
gap_tail : (e : Path × NodeMetadata) (es : Pairs) (p : Path) (i : ℕ) → IsPathGap (e ∷ es) p (suc i) → IsPathGap es p i
gap_tail e es p i gap = record {
  inside = omega (arith, gap.inside);
  smaller = λ k d a b. gap.smaller (suc k) d (omega arith) (omega (arith, b));
  greater = λ k d a b. gap.greater (suc k) d (omega (arith, a)) (omega (arith, b));
}

-- before the first path it would stand before the second too
gap_first : (e : Path × NodeMetadata) (es : Pairs) (p : Path) → IsPathGap (e ∷ es) p zero → IsPathGap es p zero
gap_first e es p gap = record {
  inside = omega arith;
  smaller = λ k d a b. absurd (omega (arith, b));
  greater = λ k d a b. gap.greater (suc k) d (omega arith) (omega (arith, b));
}

-- it is before the first path
below_head : (e : Path × NodeMetadata) (es : Pairs) (p : Path) → IsPathGap (e ∷ es) p zero → path_cmp p e.0 ≡ Less
below_head e es p gap = turned e.0 p Greater (gap.greater 0 e (omega arith) (omega arith))

-- or behind it
behind_head : (e : Path × NodeMetadata) (es : Pairs) (p : Path) (i : ℕ) → IsPathGap (e ∷ es) p (suc i) → path_cmp p e.0 ≡ Greater
behind_head e es p i gap = turned e.0 p Less (gap.smaller 0 e (omega arith) (omega arith))

-- nothing is found at the path
pub lookup_missing : (es : Pairs) (p : Path) (i : ℕ) → IsPathGap es p i → lookup (is_at (path_cmp p)) es ≡ None
lookup_missing [] p i gap = refl
lookup_missing (e ∷ es) p zero gap = rw (below_head e es p gap) (lookup_missing es p zero (gap_first e es p gap))
lookup_missing (e ∷ es) p (suc i) gap = rw (behind_head e es p i gap) (lookup_missing es p i (gap_tail e es p i gap))

-- ---- what stands behind the path

-- pairs that all stand behind it are those behind it
all_behind : (p : Path) (es : Pairs) → ((e : Path × NodeMetadata) → Contains es e → path_cmp p e.0 ≡ Less) → es ≡ pairs_behind p es
all_behind p [] h = refl
all_behind p (e ∷ es) h = rw (h e (Contains-first e es)) (ap (λ x. e ∷ x) (all_behind p es (λ d in'. h d (Contains-cons e es d in'))))

-- behind its place stand those behind it
pub behind_place : (es : Pairs) (p : Path) (i n : ℕ) → n ≡ suc i → Ascend es → IsPathAt es p i → drop n es ≡ pairs_behind p es
behind_place es p i n e up at = ap (λ k. drop k es) e ∙ behind_at es p i up at
  where
    behind_at : (es : Pairs) (p : Path) (i : ℕ) → Ascend es → IsPathAt es p i → drop (suc i) es ≡ pairs_behind p es
    behind_at [] p i up at = absurd (omega (arith, at.inside))
    behind_at (e ∷ es) p zero up at =
        rw (tied_first e es p at) (all_behind p es (λ d in'. subst (λ q. path_cmp q d.0 ≡ Less) (at.is e) (first_before e es up d in')))
    behind_at (e ∷ es) p (suc i) up at = rw (above_head e es p i up at) (behind_at es p i (tail_ascends e es up) (at_tail e es p i at))

-- and so do they behind the gap for it
pub behind_gap : (es : Pairs) (p : Path) (i : ℕ) → IsPathGap es p i → drop i es ≡ pairs_behind p es
behind_gap [] p i gap = drop-nil i
behind_gap (e ∷ es) p zero gap = rw (below_head e es p gap) (ap (λ x. e ∷ x) (behind_gap es p zero (gap_first e es p gap)))
behind_gap (e ∷ es) p (suc i) gap = rw (behind_head e es p i gap) (behind_gap es p i (gap_tail e es p i gap))
