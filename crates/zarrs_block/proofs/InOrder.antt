-- Pairs put in the order of their paths.
use Rattle.std.proofs.Common.{◌≡◌, ◌≢◌, zero, suc, Bool, true, false, true≢false, List, [], ◌∷◌, get_or, Ordering, Less, Equal, Greater, is_eq, refl, sym, ap, ◌∙◌, arith, AllPairs}
use Rattle.std.specs.List.{IsDistinct}
use Rattle.std.specs.Ordering.{is_lt, ordering_reverse}
use Rattle.std.specs.List.Sorted.{IsPermutation, IsSortedBy, IsStableBy, IsSortedByClosure, IsStableByClosure}
use Rattle.std.specs.Fn.{Called, ComparesAs}
use denote.Param.Members.{Mut}
use denote.Ref.{Bor}
use Rattle.std.proofs.lemmas.List.Sorted.{ranks_by, sorted_far, answers_always, All-permutation, Contains-permutation}
use Rattle.std.proofs.lemmas.List.Elements.{recursion_from_All}
use Rattle.std.proofs.lemmas.Map.Keys.{IsDistinct-IsPermutation, apart_from_distinct}
use Rattle.zarrs_store.specs.Contents.{Lists}
use Rattle.zarrs_path.specs.Paths.{Path, path_cmp, path_eq}
use Rattle.zarrs_path.specs.PathOrder.{path_decides, path_ties, path_total, path_equiv}
use Rattle.zarrs_meta.specs.declared.node.NodeMetadata.{NodeMetadata}
use Rattle.zarrs_block.specs.BlockExpansion.{HaveOwnPaths}
use Rattle.zarrs_block.specs.Order.{Ascend}

-- whether a pair's path stands before that of another
abbrev pub before : Path × NodeMetadata → Path × NodeMetadata → Bool
before x y = is_lt (path_cmp x.0 y.0)

-- ---- what a sort by paths gives, from what its closure answers

module _ {F : Type 0} {g : Mut F (Bor (Path × NodeMetadata) × (Bor (Path × NodeMetadata) × Unit {0})) Ordering} {f : F} (calls : (f : F) (a : Bor (Path × NodeMetadata) × (Bor (Path × NodeMetadata) × Unit {0})) (r : Ordering) (f' : F) → Called g f a r f' → r ≡ path_cmp a.0.now.0 a.1.0.now.0) where
  -- the closure compares by paths
  compares : ComparesAs g before f
  compares = answers_always g (λ a r. is_lt r ≡ before a.0.now a.1.0.now) f (λ f a r f' k. ap is_lt (calls f a r f' k))

  -- what `sort_by` sorted is in the order of paths
  pub sorted_by_path : (xs : List (Path × NodeMetadata)) → IsSortedByClosure g f xs → IsSortedBy before xs
  sorted_by_path xs clause = clause before (ranks_by path_total (λ e. e.0)) compares

  -- and those of one path stand as they stood
  pub stable_by_path : (xs ys : List (Path × NodeMetadata)) → IsStableByClosure g f xs ys → IsStableBy before xs ys
  stable_by_path xs ys clause = clause before (ranks_by path_total (λ e. e.0)) compares

-- in a sorted list no pair stands after a later one
pub sorted_pairs : (xs : List (Path × NodeMetadata)) → IsSortedBy (λ x y. is_lt (path_cmp x.0 y.0)) xs → AllPairs (λ d e. is_lt (path_cmp e.0 d.0) ≡ false) xs
sorted_pairs xs up i j d l m = sorted_far (λ x y. is_lt (path_cmp x.0 y.0)) (ranks_by path_total (λ e. e.0)) xs up i j d (omega (arith, l)) m

-- ---- pairs whose paths differ

-- whether two pairs have one path
abbrev alike : Path × NodeMetadata → Path × NodeMetadata → Bool
alike d e = path_eq d.0 e.0

-- paths that differ are not equal
unlike : (p q : Path) → p ≢ q → path_eq p q ≡ false
unlike p q other =
    elim (path_eq p q) as (λ b. path_eq p q ≡ b → b ≡ false) [
      | true ↦ λ same. absurd (other ((path_decides p q).0 same))
      | false ↦ λ _. refl
    ] refl

-- that the paths differ, as a test answers it
distinct_of : (es : List (Path × NodeMetadata)) → HaveOwnPaths es → IsDistinct alike es
unfolding IsDistinct
distinct_of [] own = tt
distinct_of (x ∷ xs) own = (
  recursion_from_All (λ y. alike x y ≡ false) xs (λ k d l. unlike x.0 (get_or xs k d).0 (own zero (suc k) d (omega arith) (omega (arith, l)))),
  distinct_of xs (λ i j d l m. own (suc i) (suc j) d (omega (arith, l)) (omega (arith, m))),
)

-- and back
of_distinct : (es : List (Path × NodeMetadata)) → IsDistinct alike es → HaveOwnPaths es
of_distinct es apart i j d l m same = true≢false (sym ((path_decides (get_or es i d).0 (get_or es j d).0).1 same) ∙ apart_from_distinct alike es i j d apart l m)

-- they differ in any order of the pairs
pub own_moved : (xs ys : List (Path × NodeMetadata)) → IsPermutation xs ys → HaveOwnPaths xs → HaveOwnPaths ys
own_moved xs ys moved own = of_distinct ys (IsDistinct-IsPermutation alike (λ d e. path_equiv.symm d.0 e.0) xs ys moved (distinct_of xs own))

-- what lists pairs of different paths lists them in any order
pub lists_moved : (P : Path × NodeMetadata → Type 0) (xs ys : List (Path × NodeMetadata)) → IsPermutation xs ys → HaveOwnPaths xs → Lists P xs → Lists P ys
lists_moved P xs ys moved own h = record {
  each_once = λ i j d l m same. own_moved xs ys moved own i j d l m (ap (λ e. e.0) same);
  sound = All-permutation P xs ys moved h.sound;
  complete = λ e p. Contains-permutation xs ys e moved (h.complete e p);
}

-- ---- sorted pairs ascend where their paths differ

-- a path that is not after another, and is another, is before it
ahead : (p q : Path) → is_lt (path_cmp q p) ≡ false → p ≢ q → path_cmp p q ≡ Less
ahead p q late other =
    path_total.antisymm p q
    ∙ elim (path_cmp q p) as (λ o. path_cmp q p ≡ o → is_lt o ≡ false → ordering_reverse o ≡ Less) [
      | Less ↦ λ _ no. absurd (true≢false no)
      | Equal ↦ λ level _. absurd (other (sym ((path_decides q p).0 (path_ties q p ∙ ap is_eq level))))
      | Greater ↦ λ _ _. refl
    ] refl late

-- sorted pairs of different paths ascend
pub sorted_ascend : (xs : List (Path × NodeMetadata)) → IsSortedBy before xs → HaveOwnPaths xs → Ascend xs
sorted_ascend xs up own i j d l m = ahead (get_or xs i d).0 (get_or xs j d).0 (sorted_pairs xs up i j d l m) (own i j d l m)
