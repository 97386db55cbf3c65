-- The tree of a node.
use Rattle.std.proofs.lemmas.List.{take-append-drop, drop_more}
use Rattle.std.proofs.Common.{◌≡◌, ◌↔◌, ℕ, suc, ◌+◌, ◌<◌, ◌≤◌, List, [], ◌∷◌, ◌++◌, length, get_or, take, drop, ap, sym, subst, ◌∙◌, add-one, drop-cons, refl, arith}
use Rattle.zarrs_path.specs.Paths.{Path}
use Rattle.zarrs_node.specs.declared.node.Node.{Node}
use Rattle.zarrs_node.specs.Forest.{Forest, plant, tree, none, forest, IsChildOf, ArePlacedBelow, HasPlacedChildren, path_of, metadata_of, below_of}
use Rattle.zarrs_node.specs.StepsOfTrees.{graft}
use Rattle.zarrs_node.specs.StepsOfCounting.{children_of, weight, weights}
use Rattle.zarrs_node.proofs.ForestsBeside.{plant_out, forest_push}
use Rattle.zarrs_node.proofs.Sizes.{weight_out, weights-append}

-- the tree of a node is its path, its metadata and what is below it
pub tree_of : (n : Node) → forest (n ∷ []) ≡ tree (path_of n) (metadata_of n) (below_of n) none
tree_of n = plant_out n none

-- a loop over nodes, at the node x at place i
module _ (b : Path) (ns : List Node) (i : ℕ) (x : Node) (lt : i < length ns) (is : x ≡ get_or ns i x) (inv : ArePlacedBelow b (forest ns) ↔ ArePlacedBelow b (forest (drop i ns))) where
  -- what is left is x and what is left after it
  cut : drop i ns ≡ x ∷ drop (i + 1) ns
  cut = rw (add-one) (drop-cons ns i x lt ∙ ap (λ y. y ∷ drop (suc i) ns) (sym is))

  -- the forest of what is left is the tree of x and what is left after it
  planted : forest (drop i ns) ≡ tree (path_of x) (metadata_of x) (below_of x) (forest (drop (i + 1) ns))
  planted = ap forest cut ∙ plant_out x (forest (drop (i + 1) ns))

  -- a node that is not placed leaves none placed
  pub not_placed : (IsChildOf b (path_of x) → ArePlacedBelow (path_of x) (below_of x) → ⊥) → ArePlacedBelow b (forest ns) → ⊥
  not_placed misplaced h = let w : ArePlacedBelow b (tree (path_of x) (metadata_of x) (below_of x) (forest (drop (i + 1) ns))) = subst (ArePlacedBelow b) planted (inv.0 h) in misplaced w.0 w.1

  -- a node that is placed leaves the question to those after it
  pub placed_step : IsChildOf b (path_of x) → ArePlacedBelow (path_of x) (below_of x) → ArePlacedBelow b (forest ns) ↔ ArePlacedBelow b (forest (drop (i + 1) ns))
  placed_step child below = (
    λ h. let w : ArePlacedBelow b (tree (path_of x) (metadata_of x) (below_of x) (forest (drop (i + 1) ns))) = subst (ArePlacedBelow b) planted (inv.0 h) in w.2,
    λ h. let w : ArePlacedBelow b (tree (path_of x) (metadata_of x) (below_of x) (forest (drop (i + 1) ns))) = (child, below, h) in inv.1 (subst (ArePlacedBelow b) (sym planted) w),
  )

-- the forest of two lists of nodes in a row
pub forest-append : (xs ys : List Node) → forest (xs ++ ys) ≡ graft (forest xs) (forest ys)
forest-append [] ys = refl
forest-append (x ∷ xs) ys =
    ap (plant x) (forest-append xs ys) ∙ plant_out x (graft (forest xs) (forest ys)) ∙ ap (λ f. graft f (forest ys)) (sym (plant_out x (forest xs)))

-- two forests in a row are placed where both are
placed_both : (b : Path) (f g : Forest) → ArePlacedBelow b (graft f g) ↔ (ArePlacedBelow b f × ArePlacedBelow b g)
placed_both b none g = (λ h. (tt, h), λ h. h.1)
placed_both b (tree p m below after) g =
    let more = placed_both b after g in
    (λ h. ((h.0, h.1, (more.0 h.2).0), (more.0 h.2).1), λ h. (h.0.0, h.0.1, more.1 (h.0.2, h.1)))

-- a loop down from a root, at a node whose children are those before one, the one, and those after it
module _ (root n next : Node) (before after : List Node) (same : HasPlacedChildren root ↔ HasPlacedChildren n) (cut : children_of n ≡ before ++ next ∷ after) where
  -- the forest below the node
  around : below_of n ≡ graft (forest before) (tree (path_of next) (metadata_of next) (below_of next) (forest after))
  around = ap forest cut ∙ forest-append before (next ∷ after) ∙ ap (graft (forest before)) (plant_out next (forest after))

  -- what is asked of the children
  parts : HasPlacedChildren n ↔ (ArePlacedBelow (path_of n) (forest before) × IsChildOf (path_of n) (path_of next) × HasPlacedChildren next × ArePlacedBelow (path_of n) (forest after))
  parts =
      let both = placed_both (path_of n) (forest before) (tree (path_of next) (metadata_of next) (below_of next) (forest after)) in (
        λ h. let w = both.0 (subst (ArePlacedBelow (path_of n)) around h) in (w.0, w.1.0, w.1.1, w.1.2),
        λ h. let w : ArePlacedBelow (path_of n) (tree (path_of next) (metadata_of next) (below_of next) (forest after)) = (h.1, h.2, h.3) in subst (ArePlacedBelow (path_of n)) (sym around) (both.1 (h.0, w)),
      )

  -- where those before it, it and those after it are placed, the question is left to what is below it
  pub placed_on : ArePlacedBelow (path_of n) (forest before) → IsChildOf (path_of n) (path_of next) → ArePlacedBelow (path_of n) (forest after) → HasPlacedChildren root ↔ HasPlacedChildren next
  placed_on some child others = (λ h. (parts.0 (same.0 h)).2, λ h. same.1 (parts.1 (some, child, h, others)))

  -- else the root's are not
  pub placed_off : (ArePlacedBelow (path_of n) (forest before) → IsChildOf (path_of n) (path_of next) → ArePlacedBelow (path_of n) (forest after) → ⊥) → HasPlacedChildren root → ⊥
  placed_off misplaced h = let w = parts.0 (same.0 h) in misplaced w.0 w.1 w.3

  -- the nodes before it, those after it, and its own are fewer
  pub fewer_around : (weights before < weight n) × (weights after < weight n) × (weight next < weight n)
  fewer_around =
      let a = weight_out n in
      let b = ap weights cut ∙ weights-append before (next ∷ after) in
      let c = weights-append (next ∷ []) after in
      (omega (arith, a, b, c), omega (arith, a, b, c), omega (arith, a, b, c))

-- one of some nodes has no more than all
pub weight_at : (ns : List Node) (i : ℕ) (x : Node) → i < length ns → x ≡ get_or ns i x → weight x ≤ weights ns
weight_at ns i x lt is =
    let cut : ns ≡ take i ns ++ x ∷ drop (i + 1) ns = sym (take-append-drop i ns) ∙ ap (λ l. take i ns ++ l) (drop_more ns i x lt ∙ ap (λ y. y ∷ drop (i + 1) ns) (sym is)) in
    let a = ap weights cut ∙ weights-append (take i ns) (x ∷ drop (i + 1) ns) in
    let b = weights-append (x ∷ []) (drop (i + 1) ns) in
    omega (arith, a, b)

-- the forest of nodes and of one more
pub pushed : (ns after : List Node) (x : Node) (f : Forest) → after ≡ ns ++ x ∷ [] → forest (x ∷ []) ≡ f → forest after ≡ graft (forest ns) f
pushed ns after x f e one = ap forest e ∙ forest_push ns x ∙ ap (graft (forest ns)) one
