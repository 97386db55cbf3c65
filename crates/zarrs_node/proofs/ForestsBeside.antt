-- Forests side by side, and the forest of a list of nodes.
use Rattle.std.proofs.Common.{◌≡◌, ℕ, List, [], ◌∷◌, ◌++◌, get_or, refl, sym, ap, ◌∙◌, append_assoc, arith, Less, Contains}
use Rattle.std.proofs.lemmas.List.Elements.{Contains-append_right}
use Rattle.std.specs.Ordering.{ordering_then}
use Rattle.std.proofs.lemmas.List.{append_cancel_left}
use Rattle.std.specs.Cmp.{tied_itself}
use Rattle.std.specs.Cmp.Lexicographic.{nat_list_cmp_total}
use Rattle.zarrs_path.specs.Paths.{Path, path_cmp}
use Rattle.zarrs_meta.specs.declared.node.NodeMetadata.{NodeMetadata}
use Rattle.zarrs_node.specs.declared.node.Node.{Node}
use Rattle.zarrs_node.specs.declared.node.Node.TheOpen.{Node-F}
use Rattle.zarrs_node.specs.declared.node.Node.TheViews.{out-Node, roll-Node}
use Rattle.zarrs_node.specs.declared.node.Node.TheFolds.{fold-roll-Node, fold_out-Node}
use Rattle.zarrs_node.specs.Forest.{Forest, none, tree, pairs, IsBefore, IsPlaced, plant_step, plant, forest}
use Rattle.zarrs_node.specs.StepsOfTrees.{graft}

-- the pairs of two forests in a row are those of the first and then those of the second
pub pairs-graft : (f g : Forest) → pairs (graft f g) ≡ pairs f ++ pairs g
pairs-graft none g = refl
pairs-graft (tree p m below after) g =
    ap (λ x. (p, m) ∷ (pairs below ++ x)) (pairs-graft after g) ∙ ap (λ x. (p, m) ∷ x) (sym (append_assoc (pairs below) (pairs after) (pairs g)))

-- paths below one base are ordered as what they have beyond it
pub path_cmp-append : (b xs ys : Path) → path_cmp (b ++ xs) (b ++ ys) ≡ path_cmp xs ys
path_cmp-append [] xs ys = refl
path_cmp-append (n ∷ b) xs ys = ap (λ o. ordering_then o (path_cmp (b ++ xs) (b ++ ys))) (tied_itself nat_list_cmp_total n) ∙ path_cmp-append b xs ys

-- a list with one item more in front has its items
pub Contains-cons : {A : Type 0} (x : A) (xs : List A) (y : A) → Contains xs y → Contains (x ∷ xs) y
Contains-cons x xs y h = Contains-append_right (x ∷ []) xs y h

-- a list has its first item
pub Contains-first : {A : Type 0} (x : A) (xs : List A) → Contains (x ∷ xs) x
Contains-first x xs = (0, omega arith, refl)

module _ (b c : Path) (m : NodeMetadata) (below : Forest) where
  -- a path that stands before a forest and before c stands before both, the tree of c behind the forest
  before_graft : (p : Path) (f : Forest) → IsBefore p f → path_cmp p c ≡ Less → IsBefore p (graft f (tree c m below none))
  before_graft p none h less = less
  before_graft p (tree q k deeper after) h less = h

  -- one tree more, whose root stands after each root of f
  pub placed_graft : (f : Forest) → IsPlaced b f → ((e : Path × NodeMetadata) → Contains (pairs f) e → (n : List ℕ) → e.0 ≡ b ++ n ∷ [] → path_cmp e.0 c ≡ Less)
      → IsPlaced b (tree c m below none) → IsPlaced b (graft f (tree c m below none))
  placed_graft none h before new = new
  placed_graft (tree p k deeper after) h before new = (
    h.0,
    h.1,
    h.2,
    before_graft p after h.3 (before (p, k) (Contains-first (p, k) _) h.0.0 h.0.1),
    placed_graft after h.4 (λ e in' n is. before e (Contains-cons (p, k) _ e (Contains-append_right (pairs deeper) (pairs after) e in')) n is) new,
  )

-- the tree of a node in front of the trees after it
pub plant_out : (n : Node) (after : Forest) → plant n after ≡ tree (out-Node n).path (out-Node n).metadata (forest (out-Node n).children.items) after
plant_out n after = ap (λ f. f after) (fold_out-Node (Forest → Forest) plant_step n)

-- the forest of nodes and one node more
pub forest_push : (ns : List Node) (x : Node) → forest (ns ++ x ∷ []) ≡ graft (forest ns) (plant x none)
forest_push [] x = refl
forest_push (n ∷ ns) x =
    ap (plant n) (forest_push ns x) ∙ plant_out n (graft (forest ns) (plant x none)) ∙ ap (λ f. graft f (plant x none)) (sym (plant_out n (forest ns)))

-- two paths below one base have the same first name beyond it where they are the same
pub head_name : (b : Path) (m n : List ℕ) (ms ns : Path) → b ++ m ∷ ms ≡ b ++ n ∷ ns → m ≡ n
head_name b m n ms ns e = ap (λ l. get_or l 0 m) (append_cancel_left b (m ∷ ms) (n ∷ ns) e)

-- the tree of a node by its fields, in front of the trees after it
pub plant_roll : (x : Node-F Node) (after : Forest) → plant (roll-Node x) after ≡ tree x.path x.metadata (forest x.children.items) after
plant_roll x after = ap (λ f. f after) (fold-roll-Node (Forest → Forest) plant_step x)
