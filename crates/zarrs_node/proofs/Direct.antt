-- The pairs directly below a base, in the order of paths, as nodes side by side.
use Rattle.std.proofs.Common.{◌≡◌, ◌≢◌, ◌≤◌, ⊎_elim, Bool, true, false, cond, List, [], ◌∷◌, ◌++◌, length, refl, sym, ap, subst, ◌∙◌, append-nil, append_assoc, arith, get_or, Contains, AllPairs, Less, Equal, Greater, true≢false, Result, Ok, Err, IfOk}
use Rattle.std.specs.List.{filter}
use Rattle.std.specs.Ordering.{is_lt, ordering_reverse}
use Rattle.std.specs.List.Sorted.{IsSortedBy, IsStableBy, ties}
use Rattle.std.proofs.lemmas.List.Elements.{Contains-push_cases, filter-append, filter_agree}
use Rattle.zarrs_path.specs.Paths.{Path, IsPath, path_cmp, path_eq}
use Rattle.zarrs_path.specs.PathOrder.{path_decides, path_total}
use Rattle.zarrs_path.proofs.PathTexts.{IsPath-parts}
use Rattle.zarrs_meta.specs.declared.node.NodeMetadata.{NodeMetadata}
use Rattle.zarrs_block.specs.BlockExpansion.{HaveOwnPaths}
use Rattle.zarrs_node.specs.declared.node.Node.{Node}
use Rattle.zarrs_node.specs.Forest.{Forest, none, tree, forest, pairs, IsBefore, IsPlaced, IsChildOf, Shows}
use Rattle.zarrs_node.specs.StepsOfTrees.{graft}
use Rattle.zarrs_node.specs.Reach.{Reached, Kept}
use Rattle.zarrs_node.specs.Order.{Ascend}
use Rattle.zarrs_node.specs.LastOfEqualPaths.{row, StandBelow, AreChildrenOf}
use Rattle.zarrs_node.proofs.Unique.{Pair}
use Rattle.zarrs_node.proofs.ForestsBeside.{Contains-first, Contains-cons}
use Rattle.zarrs_node.proofs.ListedItems.{all_pairs_append, all_pairs_tail, all_pairs_first, lists_from}
use Rattle.zarrs_node.proofs.walk.Child.{contains_one}
use Rattle.zarrs_node.proofs.Order.{one_ascends, pairs_ascend}
use Rattle.zarrs_node.proofs.LawProofs.{apart}
use Rattle.zarrs_node.proofs.Reach.{no_room}
use Rattle.zarrs_node.proofs.OpenForests.{holds_none}
use Rattle.zarrs_block.proofs.InOrder.{before, sorted_pairs}
use Rattle.zarrs_node.proofs.Lasts.{ties_same, contains_filtered, names_antisymmetric}
use Rattle.zarrs_node.proofs.FlatForests.{filter_holds, filter_keeps}

-- ---- the children as they stand

-- a filtered list with one pair more
filter_more : (xs : List Pair) (e : Pair) (p : Path) → filter (λ d. path_eq d.0 p) (xs ++ e ∷ []) ≡ filter (λ d. path_eq d.0 p) xs ++ cond (path_eq e.0 p) (e ∷ []) []
filter_more xs e p = filter-append (λ d. path_eq d.0 p) xs (e ∷ [])

-- a child more
pub stand_child : (b : Path) (xs es : List Pair) (e : Pair) → StandBelow b xs es → IsPath e.0 → IsChildOf b e.0 → StandBelow b (xs ++ e ∷ []) (es ++ e ∷ [])
stand_child b xs es e h valid child = record {
  children = λ d in'. ⊎_elim (h.children d) (λ same. (subst (λ x. IsPath x.0) same valid, subst (λ x. IsChildOf b x.0) same child)) (Contains-push_cases es e d in');
  as_often = λ p c. filter_more es e p ∙ ap (λ l. l ++ cond (path_eq e.0 p) (e ∷ []) []) (h.as_often p c) ∙ sym (filter_more xs e p);
}

-- a pair more that is no child
pub stand_other : (b : Path) (xs es : List Pair) (e : Pair) → StandBelow b xs es → (IsChildOf b e.0 → ⊥) → StandBelow b (xs ++ e ∷ []) es
stand_other b xs es e h other = record {
  children = h.children;
  as_often = λ p c. h.as_often p c ∙ sym (filter_more xs e p ∙ ap (λ t. filter (λ d. path_eq d.0 p) xs ++ cond t (e ∷ []) []) (unlike p c) ∙ append-nil (filter (λ d. path_eq d.0 p) xs));
}
  where
    unlike : (p : Path) → IsChildOf b p → path_eq e.0 p ≡ false
    unlike p c = elim (path_eq e.0 p) as (λ t. path_eq e.0 p ≡ t → t ≡ false) [
      | true ↦ λ is. absurd (other (subst (IsChildOf b) (sym ((path_decides e.0 p).0 is)) c))
      | false ↦ λ is. refl
    ] refl

-- ---- and sorted

-- a stable sort keeps the pairs of each path as they stand
stable_at : (xs ys : List Pair) → IsStableBy before xs ys → (p : Path) (m : NodeMetadata) → filter (λ d. path_eq d.0 p) ys ≡ filter (λ d. path_eq d.0 p) xs
stable_at xs ys stable p m =
    sym (filter_agree (ties before (p, m)) (λ d. path_eq d.0 p) (ties_same (p, m)) ys) ∙ stable (p, m) ∙ filter_agree (ties before (p, m)) (λ d. path_eq d.0 p) (ties_same (p, m)) xs

-- also where there are none
pub stable_same : (xs ys : List Pair) → IsStableBy before xs ys → (p : Path) → filter (λ d. path_eq d.0 p) ys ≡ filter (λ d. path_eq d.0 p) xs
stable_same (x ∷ xs) ys stable p = stable_at (x ∷ xs) ys stable p x.1
stable_same [] (y ∷ ys) stable p = stable_at [] (y ∷ ys) stable p y.1
stable_same [] [] stable p = refl

-- what a list has with its path another has that has the same with that path
moved : (xs ys : List Pair) (e : Pair) → filter (λ d. path_eq d.0 e.0) xs ≡ filter (λ d. path_eq d.0 e.0) ys → Contains xs e → Contains ys e
moved xs ys e same h = contains_filtered (λ d. path_eq d.0 e.0) ys e (subst (λ l. Contains l e) same (filter_keeps (λ d. path_eq d.0 e.0) xs e ((path_decides e.0 e.0).1 refl) h))

-- the children, sorted by path
pub children_sorted : (b : Path) (xs es ys : List Pair) → StandBelow b xs es → IsSortedBy before ys → IsStableBy before es ys → AreChildrenOf b xs ys
children_sorted b xs es ys h up stable = record {
  stand = record {
    children = λ e in'. h.children e (moved ys es e (stable_same es ys stable e.0) in');
    as_often = λ p c. stable_same es ys stable p ∙ h.as_often p c;
  };
  ascending = λ i j d l m greater. true≢false (sym (ap is_lt (path_total.antisymm (get_or ys j d).0 (get_or ys i d).0 ∙ ap ordering_reverse greater)) ∙ sorted_pairs ys up i j d l m);
}

-- ---- as nodes

-- a row with one node more
pub row_push : (xs : List Pair) (e : Pair) → row (xs ++ e ∷ []) ≡ graft (row xs) (tree e.0 e.1 none none)
row_push [] e = refl
row_push (x ∷ xs) e = ap (tree x.0 x.1 none) (row_push xs e)

-- the pairs of a row are those that it was made of
pairs_row : (es : List Pair) → pairs (row es) ≡ es
pairs_row [] = refl
pairs_row (e ∷ es) = ap (λ l. e ∷ l) (pairs_row es)

-- pairs that ascend directly below a base are a placed row
placed_row : (b : Path) (es : List Pair) → ((e : Pair) → Contains es e → IsChildOf b e.0) → Ascend es → IsPlaced b (row es)
placed_row b [] children up = tt
placed_row b (e ∷ es) children up = (
  children e (Contains-first e es),
  holds_none e.1,
  tt,
  first es up,
  placed_row b es (λ d in'. children d (Contains-cons e es d in')) (all_pairs_tail (λ d f. path_cmp d.0 f.0 ≡ Less) e es up),
)
  where
    first : (es : List Pair) → Ascend (e ∷ es) → IsBefore e.0 (row es)
    first [] up = tt
    first (f ∷ fs) up = all_pairs_first (λ d f. path_cmp d.0 f.0 ≡ Less) e (f ∷ fs) up f (Contains-first f fs)

-- where no path stands twice, at most one pair has a path
short : (xs : List Pair) → HaveOwnPaths xs → (p : Path) → length (filter (λ d. path_eq d.0 p) xs) ≤ 1
short [] own p = omega arith
short (x ∷ xs) own p = elim (path_eq x.0 p) as (λ t. path_eq x.0 p ≡ t → length (cond t (x ∷ filter (λ d. path_eq d.0 p) xs) (filter (λ d. path_eq d.0 p) xs)) ≤ 1) [
  | true ↦ λ is. no_more is (filter (λ d. path_eq d.0 p) xs) refl
  | false ↦ λ is. short xs (all_pairs_tail (λ d e. d.0 ≢ e.0) x xs own) p
] refl
  where
    no_more : path_eq x.0 p ≡ true → (ys : List Pair) → filter (λ d. path_eq d.0 p) xs ≡ ys → length (x ∷ ys) ≤ 1
    no_more is [] e = omega arith
    no_more is (y ∷ ys) e =
        let in' = subst (λ l. Contains l y) (sym e) (Contains-first y ys) in
        absurd (all_pairs_first (λ d f. d.0 ≢ f.0) x xs own y (contains_filtered (λ d. path_eq d.0 p) xs y in')
        ((path_decides x.0 p).0 is ∙ sym ((path_decides y.0 p).0 (filter_holds (λ d. path_eq d.0 p) xs y in'))))

-- pairs in the order of paths of which each path stands once ascend
ascend_short : (es : List Pair) → AllPairs (λ d e. path_cmp d.0 e.0 ≢ Greater) es → ((d : Pair) → Contains es d → length (filter (λ x. path_eq x.0 d.0) es) ≤ 1) → Ascend es
ascend_short [] up few = λ i j d l m. absurd (omega (arith, m))
ascend_short (e ∷ es) up few =
    all_pairs_append (λ d f. path_cmp d.0 f.0 ≡ Less) (e ∷ []) es (one_ascends e) (ascend_short es (all_pairs_tail (λ d f. path_cmp d.0 f.0 ≢ Greater) e es up) fewer)
    (λ x y hx hy. subst (λ z. path_cmp z.0 y.0 ≡ Less) (contains_one e x hx) (less y hy))
  where
    fewer : (d : Pair) → Contains es d → length (filter (λ x. path_eq x.0 d.0) es) ≤ 1
    fewer d in' = drops (path_eq e.0 d.0) (few d (Contains-cons e es d in'))
      where
        drops : (t : Bool) → length (cond t (e ∷ filter (λ x. path_eq x.0 d.0) es) (filter (λ x. path_eq x.0 d.0) es)) ≤ 1 → length (filter (λ x. path_eq x.0 d.0) es) ≤ 1
        drops true h = omega (arith, h)
        drops false h = h

    twice : (y : Pair) → Contains es y → e.0 ≡ y.0 → ⊥
    twice y in' same =
        let is : path_eq e.0 e.0 ≡ true = (path_decides e.0 e.0).1 refl in
        let kept = filter_keeps (λ x. path_eq x.0 e.0) es y ((path_decides y.0 e.0).1 (sym same)) in' in
        let most : length (e ∷ filter (λ x. path_eq x.0 e.0) es) ≤ 1 = subst (λ t. length (cond t (e ∷ filter (λ x. path_eq x.0 e.0) es) (filter (λ x. path_eq x.0 e.0) es)) ≤ 1) is (few e (Contains-first e es)) in
        let some = kept.1 in
        omega (arith, most, some)

    less : (y : Pair) → Contains es y → path_cmp e.0 y.0 ≡ Less
    less y in' = elim (path_cmp e.0 y.0) as (λ o. path_cmp e.0 y.0 ≡ o → o ≡ Less) [
      | Less ↦ λ is. refl
      | Equal ↦ λ is. absurd (twice y in' (names_antisymmetric e.0 y.0 is))
      | Greater ↦ λ is. absurd (all_pairs_first (λ d f. path_cmp d.0 f.0 ≢ Greater) e es up y in' is)
    ] refl

-- what is reached by one name is a child
child_reached : (N : Pair → Type 0) (b p : Path) → Reached N false b p → IsChildOf b p
child_reached N b p h = by_rest h.below.1 h.below.2
  where
    by_rest : (ns : Path) → p ≡ b ++ h.below.0 ∷ ns → IsChildOf b p
    by_rest [] is = (h.below.0, is)
    by_rest (m ∷ ms) is =
        let between = h.between (b ++ h.below.0 ∷ []) (h.below.0, [], refl) (m, ms, is ∙ sym (append_assoc b (h.below.0 ∷ []) (m ∷ ms))) in
        absurd (true≢false (sym between.0))

-- a child is reached by one name
reached_child : (N : Pair → Type 0) (b p : Path) → IsPath p → IsChildOf b p → Reached N false b p
reached_child N b p valid child = record {
  below = (child.0, [], child.1, (IsPath-parts b (child.0 ∷ []) (subst IsPath child.1 valid)).1);
  between = λ q low up. absurd (no_room b low.1 up.1 child.0 low.0 up.0 (sym child.1 ∙ up.2 ∙ ap (λ x. x ++ up.0 ∷ up.1) low.2));
}

-- the children of pairs of which no path stands twice show what is kept of them one name below the base
pub row_shows : (b : Path) (xs es : List Pair) (f : Forest) → f ≡ row es → AreChildrenOf b xs es → HaveOwnPaths xs → Shows f b (Kept (Contains xs) false b)
row_shows b xs es f is h own =
    let up = ascend_short es h.ascending (λ d in'. subst (λ l. length l ≤ 1) (sym (h.stand.as_often d.0 (h.stand.children d in').1)) (short xs own d.0)) in
    let placed = placed_row b es (λ e in'. (h.stand.children e in').1) up in
    subst (λ g. Shows g b (Kept (Contains xs) false b)) (sym is) (record {
      shown = lists_from (pairs (row es))
          (λ e. (
            λ in'.
                let here = subst (λ l. Contains l e) (pairs_row es) in' in
                let c = h.stand.children e here in
                (reached_child (Contains xs) b e.0 c.0 c.1, moved es xs e (h.stand.as_often e.0 c.1) here),
            λ k.
                let c = child_reached (Contains xs) b e.0 k.0 in
                subst (λ l. Contains l e) (sym (pairs_row es)) (moved xs es e (sym (h.stand.as_often e.0 c)) k.1),
          ))
          (apart (pairs (row es)) (pairs_ascend b (row es) placed));
      placed = placed;
    })

-- what was gone over is all
pub done_all : (all done items : List Pair) → done ++ items ≡ all → items ≡ [] → done ≡ all
done_all all done items is none_more = sym (append-nil done) ∙ ap (λ x. done ++ x) (sym none_more) ∙ is

-- a row of nodes with one node more, which has no children
pub row_step : (f g : Forest) (kids : List Node) (xs : List Pair) (e : Pair) → f ≡ row xs → kids ≡ [] → g ≡ graft f (tree e.0 e.1 (forest kids) none) → g ≡ row (xs ++ e ∷ [])
row_step f g kids xs e is none_below grown =
    grown ∙ ap (λ k. graft f (tree e.0 e.1 (forest k) none)) none_below ∙ ap (λ r. graft r (tree e.0 e.1 none none)) is ∙ sym (row_push xs e)

module _ {R E : Type 0} (forest_of : R → Forest) (b : Path) (xs es : List Pair) (c : AreChildrenOf b xs es) where
  -- nodes made of the children are their row
  pub children_row : (r : Result R E) → IfOk r (λ v. forest_of v ≡ row es) → IfOk r (λ v. (ys : List Pair) × AreChildrenOf b xs ys × (forest_of v ≡ row ys))
  children_row (Ok v) h = (es, c, h)
  children_row (Err e) h = h

  -- and show what is kept where no path stands twice
  pub children_show : (r : Result R E) → IfOk r (λ v. forest_of v ≡ row es) → IfOk r (λ v. HaveOwnPaths xs → Shows (forest_of v) b (Kept (Contains xs) false b))
  children_show (Ok v) h = λ own. row_shows b xs es (forest_of v) h c own
  children_show (Err e) h = h
