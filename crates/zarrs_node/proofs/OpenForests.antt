-- Forests that grow at the open end.
use Rattle.std.proofs.Common.{◌≡◌, ⊎_elim, List, [], ◌∷◌, ◌++◌, map, refl, sym, ap, subst, ◌∙◌, append_assoc, append-nil, arith, Contains, Less, IsTrue, true≢false}
use Rattle.std.proofs.lemmas.List.Elements.{Contains-append_right}
use Rattle.zarrs_path.specs.Paths.{Path, path_cmp}
use Rattle.zarrs_meta.specs.declared.node.NodeMetadata.{NodeMetadata}
use Rattle.zarrs_meta.specs.declared.node.NodeMetadata.TheVariants.{Group, Array}
use Rattle.zarrs_meta.specs.Node.{is_group}
use Rattle.zarrs_node.specs.Forest.{Forest, none, tree, pairs, IsBefore, IsPlaced, MayHold, IsChildOf}
use Rattle.zarrs_node.specs.StepsOfTrees.{graft, Stem, grow, top}
use Rattle.zarrs_node.proofs.Unique.{Pair}
use Rattle.zarrs_node.proofs.ForestsBeside.{pairs-graft, placed_graft, Contains-first, Contains-cons}
use Rattle.zarrs_node.proofs.Order.{contains_cases}

-- no tree behind a forest leaves it as it is
pub graft_none : (f : Forest) → graft f none ≡ f
graft_none none = refl
graft_none (tree p m below after) = ap (tree p m below) (graft_none after)

-- grafting goes from left or from right
pub graft_assoc : (f g h : Forest) → graft (graft f g) h ≡ graft f (graft g h)
graft_assoc none g h = refl
graft_assoc (tree p m below after) g h = ap (tree p m below) (graft_assoc after g h)

-- one tree more below the last stem, and a stem closed
pub grow_last : (roots : Forest) (ss : List Stem) (p : Path) (m : NodeMetadata) (below t : Forest) → grow roots (ss ++ record { path = p; metadata = m; below = graft below t } ∷ []) none ≡ grow roots (ss ++ record { path = p; metadata = m; below = below } ∷ []) t
grow_last roots [] p m below t = ap (λ x. graft roots (tree p m x none)) (graft_none (graft below t))
grow_last roots (s ∷ ss) p m below t = ap (λ x. graft roots (tree s.path s.metadata x none)) (grow_last s.below ss p m below t)

-- closing the last open group is growing by its tree
pub grow_close : (roots : Forest) (ss : List Stem) (s : Stem) → grow roots (ss ++ s ∷ []) none ≡ grow roots ss (tree s.path s.metadata s.below none)
grow_close roots [] s = ap (λ x. graft roots (tree s.path s.metadata x none)) (graft_none s.below)
grow_close roots (r ∷ ss) s = ap (λ x. graft roots (tree r.path r.metadata x none)) (grow_close r.below ss s)

-- without open groups a tree grows behind the roots
pub grow_roots : (roots t : Forest) → grow (graft roots t) [] none ≡ grow roots [] t
grow_roots roots t = graft_none (graft roots t)

-- the pairs of roots and one tree behind them
pairs-tree : (roots : Forest) (p : Path) (m : NodeMetadata) (f : Forest) → pairs (graft roots (tree p m f none)) ≡ pairs roots ++ (p, m) ∷ pairs f
pairs-tree roots p m f = pairs-graft roots (tree p m f none) ∙ ap (λ x. pairs roots ++ (p, m) ∷ x) (append-nil (pairs f))

-- what grows comes last
pub pairs-grow : (roots : Forest) (ss : List Stem) (t : Forest) → pairs (grow roots ss t) ≡ pairs (grow roots ss none) ++ pairs t
pairs-grow roots [] t = pairs-graft roots t ∙ ap (λ x. pairs x ++ pairs t) (sym (graft_none roots))
pairs-grow roots (s ∷ ss) t =
    pairs-tree roots s.path s.metadata (grow s.below ss t)
    ∙ ap (λ x. pairs roots ++ (s.path, s.metadata) ∷ x) (pairs-grow s.below ss t)
    ∙ sym (append_assoc (pairs roots) ((s.path, s.metadata) ∷ pairs (grow s.below ss none)) (pairs t))
    ∙ ap (λ x. x ++ pairs t) (sym (pairs-tree roots s.path s.metadata (grow s.below ss none)))

-- the last tree of a placed forest
pub last_placed : (b p : Path) (m : NodeMetadata) (d f : Forest) → IsPlaced b (graft f (tree p m d none)) → IsPlaced b (tree p m d none)
last_placed b p m d none h = h
last_placed b p m d (tree q k e after) h = last_placed b p m d after h.4

-- what stands before a forest does whatever is below its last tree
before_same : (q p : Path) (m : NodeMetadata) (d e f : Forest) → IsBefore q (graft f (tree p m d none)) → IsBefore q (graft f (tree p m e none))
before_same q p m d e none h = h
before_same q p m d e (tree r k x after) h = h

-- the last tree with another forest below it
change_last : (b p : Path) (m : NodeMetadata) (d e f : Forest) → MayHold m e → IsPlaced p e → IsPlaced b (graft f (tree p m d none)) → IsPlaced b (graft f (tree p m e none))
change_last b p m d e none holds inner h = (h.0, holds, inner, h.3, h.4)
change_last b p m d e (tree q k x after) holds inner h = (h.0, h.1, h.2, before_same q p m d e after h.3, change_last b p m d e after holds inner h.4)

-- every node may have no children
pub holds_none : (m : NodeMetadata) → MayHold m none
holds_none (Group n) = tt
holds_none (Array n) = refl

-- a group may have any children
pub holds_group : (m : NodeMetadata) (f : Forest) → IsTrue (is_group m) → MayHold m f
holds_group (Group n) f h = tt
holds_group (Array n) f h = absurd (true≢false (sym h))

-- open groups by path and metadata
abbrev pub heads_of : List Stem → List Pair
heads_of ss = map (λ s. (s.path, s.metadata)) ss

-- all are groups
abbrev pub AreGroups : List Pair → Type 0
AreGroups [] = Unit {0}
AreGroups (h ∷ hs) = IsTrue (is_group h.1) × AreGroups hs

-- a child of the last stem, after all that stands
pub placed_grow : (b : Path) (roots : Forest) (ss : List Stem) (p : Path) (m : NodeMetadata) → IsPlaced b (grow roots ss none) → AreGroups (heads_of ss) → IsChildOf (top b (heads_of ss)) p
    → ((e : Pair) → Contains (pairs (grow roots ss none)) e → path_cmp e.0 p ≡ Less) → IsPlaced b (grow roots ss (tree p m none none))
placed_grow b roots [] p m placed groups child later =
    placed_graft b p m none roots (subst (IsPlaced b) (graft_none roots) placed) (λ e in' n is. later e (subst (λ x. Contains (pairs x) e) (sym (graft_none roots)) in')) (child, holds_none m, tt, tt, tt)
placed_grow b roots (s ∷ ss) p m placed groups child later =
    let inner = (last_placed b s.path s.metadata (grow s.below ss none) roots placed).2 in
    change_last b s.path s.metadata (grow s.below ss none) (grow s.below ss (tree p m none none)) roots (holds_group s.metadata _ groups.0)
    (placed_grow s.path s.below ss p m inner groups.1 child
    (λ e in'. later e (subst (λ x. Contains x e) (sym (pairs-tree roots s.path s.metadata (grow s.below ss none)))
    (Contains-append_right (pairs roots) ((s.path, s.metadata) ∷ pairs (grow s.below ss none)) e (Contains-cons (s.path, s.metadata) (pairs (grow s.below ss none)) e in')))))
    placed

-- each stem is a child of the one before it
abbrev pub IsChain : Path → List Pair → Type 0
IsChain b [] = Unit {0}
IsChain b (h ∷ hs) = IsChildOf b h.0 × IsChain h.0 hs

-- in a placed forest the open groups are a chain
pub placed_chain : (b : Path) (roots : Forest) (ss : List Stem) → IsPlaced b (grow roots ss none) → IsChain b (heads_of ss)
placed_chain b roots [] h = tt
placed_chain b roots (s ∷ ss) h =
    let l = last_placed b s.path s.metadata (grow s.below ss none) roots h in
    (l.0, placed_chain s.path s.below ss l.2)

-- each stem is among the pairs
pub heads_in : (roots : Forest) (ss : List Stem) (h : Pair) → Contains (heads_of ss) h → Contains (pairs (grow roots ss none)) h
heads_in roots [] h in' = absurd (omega (arith, in'.1))
heads_in roots (s ∷ ss) h in' = subst (λ x. Contains x h) (sym (pairs-tree roots s.path s.metadata (grow s.below ss none)))
    (Contains-append_right (pairs roots) ((s.path, s.metadata) ∷ pairs (grow s.below ss none)) h
    (⊎_elim
    (λ e. subst (Contains ((s.path, s.metadata) ∷ pairs (grow s.below ss none))) e (Contains-first (s.path, s.metadata) (pairs (grow s.below ss none))))
    (λ l. Contains-cons (s.path, s.metadata) (pairs (grow s.below ss none)) h (heads_in s.below ss h l))
    (contains_cases (s.path, s.metadata) (heads_of ss) h in')))
