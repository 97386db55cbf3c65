-- A forest in the middle of others, as nodes are copied.
use Rattle.std.proofs.Common.{◌≡◌, ℕ, ◌+◌, ◌*◌, ◌<◌, List, [], ◌∷◌, ◌++◌, refl, sym, ap, ◌∙◌, arith}
use Rattle.zarrs_path.specs.Paths.{Path}
use Rattle.zarrs_meta.specs.declared.node.NodeMetadata.{NodeMetadata}
use Rattle.zarrs_node.specs.declared.node.Node.{Node}
use Rattle.zarrs_node.specs.declared.copies.Frame.{Frame}
use Rattle.zarrs_node.specs.Forest.{Forest, none, tree, forest, path_of, metadata_of, below_of}
use Rattle.zarrs_node.specs.StepsOfTrees.{graft}
use Rattle.zarrs_node.specs.StepsOfCounting.{children_of, weights}
use Rattle.zarrs_node.specs.StepsOfGrafts.{plug}
use Rattle.zarrs_node.proofs.ForestsBeside.{plant_out}
use Rattle.zarrs_node.proofs.OpenForests.{graft_none, graft_assoc}
use Rattle.zarrs_node.proofs.Sizes.{weight_out, weights-append}

-- what is still to be done at the open nodes
abbrev pub waiting : List Frame → ℕ
waiting [] = 0
waiting (o ∷ os) = (2 * weights o.after.now + 1) + waiting os

-- with one more open node what is still to be done there is added
waiting_push : (os : List Frame) (o : Frame) → waiting (os ++ o ∷ []) ≡ waiting os + (2 * weights o.after.now + 1)
waiting_push [] o = omega arith
waiting_push (x ∷ os) o = let h = waiting_push os o in omega arith

-- the last of the open nodes is next to the middle
plug_push : (os : List Frame) (o : Frame) (f : Forest) → plug (os ++ o ∷ []) f ≡ plug os (graft (forest o.before.items) (tree (path_of o.node.now) (metadata_of o.node.now) f (forest o.after.now)))
plug_push [] o f = refl
plug_push (x ∷ os) o f = ap (λ g. graft (forest x.before.items) (tree (path_of x.node.now) (metadata_of x.node.now) g (forest x.after.now))) (plug_push os o f)

-- the forest of a node and nodes after it
forest_cons : (n : Node) (ns : List Node) → forest (n ∷ ns) ≡ tree (path_of n) (metadata_of n) (below_of n) (forest ns)
forest_cons n ns = plant_out n (forest ns)

-- a node is opened
pub plug_opened : (os later : List Frame) (o : Frame) (left fresh kids : List Node) → later ≡ os ++ o ∷ [] → left ≡ o.node.now ∷ o.after.now → fresh ≡ [] → kids ≡ children_of o.node.now
    → plug later (graft (forest fresh) (forest kids)) ≡ plug os (graft (forest o.before.items) (forest left))
plug_opened os later o left fresh kids e cut new below =
    ap (λ l. plug l (graft (forest fresh) (forest kids))) e
    ∙ plug_push os o (graft (forest fresh) (forest kids))
    ∙ ap (λ f. plug os (graft (forest o.before.items) f)) (
    ap (λ l. tree (path_of o.node.now) (metadata_of o.node.now) (graft (forest l) (forest kids)) (forest o.after.now)) new
    ∙ ap (λ l. tree (path_of o.node.now) (metadata_of o.node.now) (forest l) (forest o.after.now)) below
    ∙ sym (forest_cons o.node.now o.after.now)
    ∙ ap forest (sym cut)
    )

-- a node is closed
pub plug_closed : (was os : List Frame) (o : Frame) (p : Path) (m : NodeMetadata) (done later left : List Node) → was ≡ os ++ o ∷ [] → left ≡ [] → forest later ≡ graft (forest o.before.items) (tree p m (forest done) none)
    → p ≡ path_of o.node.now → m ≡ metadata_of o.node.now → plug os (graft (forest later) (forest o.after.now)) ≡ plug was (graft (forest done) (forest left))
plug_closed was os o p m done later left e last more path metadata =
    sym (
    ap (λ l. plug was (graft (forest done) (forest l))) last
    ∙ ap (plug was) (graft_none (forest done))
    ∙ ap (λ l. plug l (forest done)) e
    ∙ plug_push os o (forest done)
    ∙ ap (λ q. plug os (graft (forest o.before.items) (tree q (metadata_of o.node.now) (forest done) (forest o.after.now)))) (sym path)
    ∙ ap (λ k. plug os (graft (forest o.before.items) (tree p k (forest done) (forest o.after.now)))) (sym metadata)
    ∙ ap (plug os) (sym (ap (λ f. graft f (forest o.after.now)) more ∙ graft_assoc (forest o.before.items) (tree p m (forest done) none) (forest o.after.now)))
    )

-- the weights of a node and nodes after it
weights_cons : (n : Node) (ns : List Node) → weights (n ∷ ns) ≡ (weights (children_of n) + 1) + weights ns
weights_cons n ns = let e = weights-append (n ∷ []) ns in let w = weight_out n in omega (arith, e, w)

-- opening a node leaves less to do
pub opened_less : (os later : List Frame) (o : Frame) (left kids : List Node) → later ≡ os ++ o ∷ [] → left ≡ o.node.now ∷ o.after.now → kids ≡ children_of o.node.now → waiting later + 2 * weights kids < waiting os + 2 * weights left
opened_less os later o left kids e cut below =
    let a = ap waiting e ∙ waiting_push os o in
    let b = ap weights cut ∙ weights_cons o.node.now o.after.now in
    let c = ap weights below in
    omega (arith, a, b, c)

-- and so does closing one
pub closed_less : (was os : List Frame) (o : Frame) (left : List Node) → was ≡ os ++ o ∷ [] → waiting os + 2 * weights o.after.now < waiting was + 2 * weights left
closed_less was os o left e = let a = ap waiting e ∙ waiting_push os o in omega (arith, a)
