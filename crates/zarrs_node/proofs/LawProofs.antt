-- The laws over forests and their texts.
use Rattle.std.proofs.Common.{◌≡◌, ◌≢◌, ◌↔◌, Contains, ℕ, ◌+◌, ◌-◌, ◌++◌, List, [], ◌∷◌, length, refl, sym, ap, subst, ◌∙◌, append_assoc, length-append, arith, AllPairs, get_or, Less}
use Rattle.zarrs_path.specs.Paths.{Path, IsBelow, path_cmp}
use Rattle.zarrs_meta.specs.declared.node.NodeMetadata.{NodeMetadata}
use Rattle.zarrs_node.specs.Forest.{Forest, none, tree, pairs, IsPlaced, Shows}
use Rattle.zarrs_node.specs.Order.{Ascend}
use Rattle.zarrs_node.specs.Lines.{line, lines, preorder, IsLines}
use Rattle.zarrs_node.specs.Laws.{OneListing, PlacedChildren, PreorderIsLines, ListingIsLines, OneText, ClosedPairs, ClosedNodes}
use Rattle.zarrs_node.proofs.ListedItems.{listed_each, lists_from}
use Rattle.zarrs_node.specs.Nodes.{Means}
use Rattle.zarrs_node.specs.Reach.{Kept}
use Rattle.zarrs_node.proofs.KeptPairs.{kept_closed, shown_closed}
use Rattle.zarrs_node.proofs.Order.{all_below, pairs_ascend}
use Rattle.zarrs_node.proofs.Unique.{one_forest, sorted_unique, lt_irrefl}

-- pairs that ascend are apart
pub apart : (es : List (Path × NodeMetadata)) → Ascend es → AllPairs (λ x y. x ≢ y) es
apart es up i j d l m same =
    let less = up i j d l m in
    lt_irrefl (get_or es j d) (subst (λ x. path_cmp x.0 (get_or es j d).0 ≡ Less) same less)

-- the lines of two lists, one behind the other, are those of each
lines_append : (b : Path) (xs ys : List (Path × NodeMetadata)) → lines b (xs ++ ys) ≡ lines b xs ++ lines b ys
lines_append b [] ys = refl
lines_append b (e ∷ xs) ys =
    ap (λ x. line (length e.0 - length b) e.0 e.1 ++ x) (lines_append b xs ys) ∙ sym (append_assoc (line (length e.0 - length b) e.0 e.1) (lines b xs) (lines b ys))

-- where a level is a name beyond c, the preorder of a placed forest is the lines of its pairs below c
pub preorder_lines : (c b : Path) (level : ℕ) (f : Forest) → IsPlaced b f → length b + 1 ≡ length c + level → preorder level f ≡ lines c (pairs f)
preorder_lines c b level none h at = refl
preorder_lines c b level (tree p m below after) h at =
    let long : length p ≡ length b + 1 = ap length h.0.1 ∙ length-append b (h.0.0 ∷ []) in
    let here : level ≡ length p - length c = omega (arith, long, at) in
    let next : length p + 1 ≡ length c + (level + 1) = omega (arith, long, at) in
    ap (λ x. line x p m ++ (preorder (level + 1) below ++ preorder level after)) here
    ∙ ap (λ x. line (length p - length c) p m ++ (x ++ preorder level after)) (preorder_lines c p (level + 1) below h.2 next)
    ∙ ap (λ x. line (length p - length c) p m ++ (lines c (pairs below) ++ x)) (preorder_lines c b level after h.4 at)
    ∙ ap (λ x. line (length p - length c) p m ++ x) (sym (lines_append c (pairs below) (pairs after)))

-- each pair of a placed forest is below its base
pub placed_is_below : (b : Path) (f : Forest) → IsPlaced b f → (e : Path × NodeMetadata) → Contains (pairs f) e → IsBelow b e.0
placed_is_below b f h e in' = let w = all_below b f h e in' in (w.name, w.rest, w.is)

-- the preorder of a placed forest is the lines of every set that has its pairs and no others below the base
pub placed_lines : (N : Path × NodeMetadata → Type 0) (b : Path) (f : Forest) → IsPlaced b f → ((e : Path × NodeMetadata) → IsBelow b e.0 → Contains (pairs f) e ↔ N e) → IsLines b N (preorder 1 f)
placed_lines N b f h same = (
  pairs f,
  lists_from (pairs f)
      (λ e. (λ in'. let low = placed_is_below b f h e in' in ((same e low).0 in', low), λ both. (same e both.1).1 both.0))
      (apart (pairs f) (pairs_ascend b f h)),
  pairs_ascend b f h,
  preorder_lines b b 1 f h refl,
)

-- the preorder of a placed forest is the lines of its pairs
pub preorder_is_lines : PreorderIsLines
preorder_is_lines b f h = placed_lines (Contains (pairs f)) b f h (λ e _. (λ x. x, λ x. x))

-- the preorder of a forest is the lines of the pairs that it shows
pub shown_is_lines : (N : Path × NodeMetadata → Type 0) (b : Path) (f : Forest) → Shows f b N → IsLines b N (preorder 1 f)
shown_is_lines N b f h = placed_lines N b f h.placed (λ e _. listed_each h.shown e)

-- sets with the same pairs below b have one text there, since one list of them ascends
pub lines_unique : (N M : Path × NodeMetadata → Type 0) (b : Path) (t u : List ℕ) → ((e : Path × NodeMetadata) → IsBelow b e.0 → N e ↔ M e) → IsLines b N t → IsLines b M u → t ≡ u
lines_unique N M b t u is h k =
    let same = sorted_unique h.0 k.0 h.2 k.2 (λ e. (
      λ in'. let w = (listed_each h.1 e).0 in' in (listed_each k.1 e).1 ((is e w.1).0 w.0, w.1),
      λ in'. let w = (listed_each k.1 e).0 in' in (listed_each h.1 e).1 ((is e w.1).1 w.0, w.1),
    )) in
    h.3 ∙ ap (lines b) same ∙ sym k.3

-- two lists with the same pairs below a base have one text there
pub one_text : OneText
one_text b es ds t u is h k = lines_unique (Contains es) (Contains ds) b t u is h k

-- two forests that show the same pairs below one base are one
pub one_shown : (N : Path × NodeMetadata → Type 0) (b : Path) (f g : Forest) → Shows f b N → Shows g b N → f ≡ g
one_shown N b f g h k = one_forest b f g h.placed k.placed (λ e.
    (λ in'. (listed_each k.shown e).1 ((listed_each h.shown e).0 in'), λ in'. (listed_each h.shown e).1 ((listed_each k.shown e).0 in')))

-- children of a placed forest are placed below their parents
pub placed_children : PlacedChildren
placed_children b none h = tt
placed_children b (tree p m below after) h = (h.0, placed_children p below h.2, placed_children b after h.4)

-- the preorder of a listing is the lines of the nodes
pub listing_is_lines : ListingIsLines
listing_is_lines of r b = shown_is_lines (Kept (Means of) r b) b

-- two listings of one meaning below one base are one
pub one_listing : OneListing
one_listing of r b = one_shown (Kept (Means of) r b) b

-- the pairs of a placed forest of paths are closed
pub closed_pairs : ClosedPairs
closed_pairs b f h valid = shown_closed (Contains (pairs f)) b f valid (record { shown = lists_from (pairs f) (λ e. (λ x. x, λ x. x)) (apart (pairs f) (pairs_ascend b f h)); placed = h })

-- the nodes of a meaning are closed
pub closed_nodes : ClosedNodes
closed_nodes of b = kept_closed (Means of) b
