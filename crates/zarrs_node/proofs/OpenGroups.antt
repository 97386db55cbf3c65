-- The open groups of a pass, as nodes.
use Rattle.std.proofs.Common.{true, false, cond, inl, append-nil, ◌≡◌, ℕ, ◌+◌, ◌-◌, ◌<◌, suc, zero, List, [], ◌∷◌, ◌++◌, map, length, take, get_or, set, refl, sym, ap, subst, ◌∙◌, arith, take_all}
use Rattle.std.proofs.lemmas.List.{take_more, take_more_set, length-set, length-append}
use Rattle.std.proofs.Math.Seq.{take-append_seam}
use Rattle.zarrs_path.specs.Paths.{Path, IsPath}
use Rattle.zarrs_meta.specs.Node.{is_group}
use Rattle.zarrs_meta.specs.declared.node.NodeMetadata.{NodeMetadata}
use Rattle.zarrs_node.specs.declared.node.Node.{Node}
use Rattle.zarrs_node.specs.declared.node.Node.TheOpen.{Node-F}
use Rattle.zarrs_node.specs.declared.node.Node.TheViews.{out-Node, roll-Node, out-roll-Node}
use Rattle.zarrs_node.specs.Forest.{none, tree, plant, forest, IsChildOf}
use Rattle.zarrs_node.specs.StepsOfTrees.{graft, Stem, grow, stem_of, whole, with_tree, heads, top, IsTaken}
use Rattle.zarrs_node.proofs.Unique.{Pair}
use Rattle.zarrs_node.proofs.ForestsBeside.{plant_out, plant_roll, forest_push}
use Rattle.zarrs_node.proofs.OpenForests.{grow_last, grow_close, grow_roots, heads_of}

-- a node by its fields as an open group
open_stem : Node-F Node → Stem
open_stem x = record { path = x.path; metadata = x.metadata; below = forest x.children.items }

-- the open group of a node made of fields
pub rolled : (x : Node-F Node) → stem_of (roll-Node x) ≡ record { path = x.path; metadata = x.metadata; below = forest x.children.items }
unfolding open_stem
rolled x = ap open_stem (out-roll-Node x)

-- mapping a list with one item more
map_push : {A B : Type 0} (f : A → B) (xs : List A) (x : A) → map f (xs ++ x ∷ []) ≡ map f xs ++ f x ∷ []
map_push f [] x = refl
map_push f (y ∷ xs) x = ap (λ l. f y ∷ l) (map_push f xs x)

-- a list is all but its last item, and that
pub last_part : {A : Type 0} (xs : List A) (d : A) → 0 < length xs → xs ≡ take (length xs - 1) xs ++ get_or xs (length xs - 1) d ∷ []
last_part xs d h =
    let n : length xs - 1 + 1 ≡ length xs = omega (arith, h) in
    let lt : length xs - 1 < length xs = omega (arith, h) in
    sym (take_all (length xs - 1 + 1) xs (omega (arith, n))) ∙ take_more xs (length xs - 1) d lt

-- a list with its last item replaced
pub last_set : {A : Type 0} (xs : List A) (v : A) → 0 < length xs → set xs (length xs - 1) v ≡ take (length xs - 1) xs ++ v ∷ []
last_set xs v h =
    let lt : length xs - 1 < length xs = omega (arith, h) in
    let long = length-set xs (length xs - 1) v in
    sym (take_all (length xs - 1 + 1) (set xs (length xs - 1) v) (omega (arith, long, h))) ∙ take_more_set xs (length xs - 1) v lt

-- the open groups by path and metadata, taken from either form
pub heads_stems : (ns : List Node) → heads_of (map stem_of ns) ≡ heads ns
heads_stems [] = refl
heads_stems (n ∷ ns) = ap (λ l. ((out-Node n).path, (out-Node n).metadata) ∷ l) (heads_stems ns)

-- a node more below the last of ns
module _ (roots ns : List Node) (parent x : Node) (v : Node-F Node) (some : 0 < length ns) (is : parent ≡ get_or ns (length ns - 1) parent)
    (p : v.path ≡ (out-Node parent).path) (m : v.metadata ≡ (out-Node parent).metadata) (kids : v.children.items ≡ (out-Node parent).children.items ++ x ∷ []) where
  -- the nodes before the last
  front : List Node
  front = take (length ns - 1) ns

  -- the nodes are those and the parent
  before : ns ≡ front ++ parent ∷ []
  unfolding front
  before = last_part ns parent some ∙ ap (λ y. take (length ns - 1) ns ++ y ∷ []) (sym is)

  -- after the last is replaced they are those and the new one
  after : set ns (length ns - 1) (roll-Node v) ≡ front ++ roll-Node v ∷ []
  unfolding front
  after = last_set ns (roll-Node v) some

  -- the new last has one tree more below it
  stem_after : stem_of (roll-Node v) ≡ record { path = (out-Node parent).path; metadata = (out-Node parent).metadata; below = graft (forest (out-Node parent).children.items) (plant x none) }
  stem_after = rolled v ∙ (λ i. record { path = p i; metadata = m i; below = (ap forest kids ∙ forest_push (out-Node parent).children.items x) i })

  -- with the new last the forest is the old one with the node more below its last
  pub added_last : whole roots (set ns (length ns - 1) (roll-Node v)) ≡ with_tree roots ns (plant x none)
  added_last =
      ap (whole roots) after
      ∙ ap (λ s. grow (forest roots) s none) (map_push stem_of front (roll-Node v))
      ∙ ap (λ s. grow (forest roots) (map stem_of front ++ s ∷ []) none) stem_after
      ∙ grow_last (forest roots) (map stem_of front) (out-Node parent).path (out-Node parent).metadata (forest (out-Node parent).children.items) (plant x none)
      ∙ ap (λ s. grow (forest roots) s (plant x none)) (sym (map_push stem_of front parent))
      ∙ ap (λ l. with_tree roots l (plant x none)) (sym before)

  -- a node by path and metadata
  head_of : Node → Pair
  head_of n = ((out-Node n).path, (out-Node n).metadata)

  -- an open group by path and metadata
  stem_head : Stem → Pair
  stem_head s = (s.path, s.metadata)

  -- the new last has the path and metadata of the parent
  head_after : head_of (roll-Node v) ≡ head_of parent
  unfolding head_of stem_head
  head_after = ap stem_head stem_after

  -- with the new last the nodes have the paths and metadata that they had
  pub heads_last : heads (set ns (length ns - 1) (roll-Node v)) ≡ heads ns
  unfolding head_of
  heads_last =
      ap heads after
      ∙ map_push (λ n. ((out-Node n).path, (out-Node n).metadata)) front (roll-Node v)
      ∙ ap (λ h. heads front ++ h ∷ []) head_after
      ∙ sym (map_push (λ n. ((out-Node n).path, (out-Node n).metadata)) front parent)
      ∙ ap heads (sym before)

-- the same by the number of nodes that a vector has
pub added_last_by : (roots ns : List Node) (n : ℕ) (parent x : Node) (v : Node-F Node) → n ≡ length ns → 0 < n → parent ≡ get_or ns (n - 1) parent
    → v.path ≡ (out-Node parent).path → v.metadata ≡ (out-Node parent).metadata → v.children.items ≡ (out-Node parent).children.items ++ x ∷ []
    → (whole roots (set ns (n - 1) (roll-Node v)) ≡ with_tree roots ns (plant x none)) × (heads (set ns (n - 1) (roll-Node v)) ≡ heads ns)
added_last_by roots ns n parent x v e some is p m kids =
    let some' = subst (λ k. 0 < k) e some in
    let is' = subst (λ k. parent ≡ get_or ns (k - 1) parent) e is in (
      subst (λ k. whole roots (set ns (k - 1) (roll-Node v)) ≡ with_tree roots ns (plant x none)) (sym e) (added_last roots ns parent x v some' is' p m kids),
      subst (λ k. heads (set ns (k - 1) (roll-Node v)) ≡ heads ns) (sym e) (heads_last roots ns parent x v some' is' p m kids),
    )

-- a number that is not above 0 is 0
pub none_if : (n : ℕ) → (0 < n → ⊥) → n ≡ 0
none_if zero h = refl
none_if (suc n) h = absurd (h (omega arith))

-- a root more, where no group is open
pub added_root : (roots after ns : List Node) (x : Node) → after ≡ roots ++ x ∷ [] → length ns ≡ 0 → whole after ns ≡ with_tree roots ns (plant x none)
added_root roots after [] x e l = ap (λ r. grow r [] none) (ap forest e ∙ forest_push roots x) ∙ grow_roots (forest roots) (plant x none)
added_root roots after (n ∷ ns) x e l = absurd (omega (arith, l))

-- a node made of the parts of another has its tree
pub remade : (n made : Node) (p : Path) (m : NodeMetadata) (kids : List Node) → p ≡ (out-Node n).path → m ≡ (out-Node n).metadata → kids ≡ (out-Node n).children.items → forest (made ∷ []) ≡ tree p m (forest kids) none
    → plant made none ≡ plant n none
remade n made p m kids path metadata children e = e ∙ (λ i. tree (path i) (metadata i) (forest (children i)) none) ∙ sym (plant_out n none)

-- the last open group, closed
pub closed_last : (roots ns : List Node) (n : Node) → whole roots (ns ++ n ∷ []) ≡ with_tree roots ns (plant n none)
closed_last roots ns n =
    ap (λ s. grow (forest roots) s none) (map_push stem_of ns n)
    ∙ grow_close (forest roots) (map stem_of ns) (stem_of n)
    ∙ ap (with_tree roots ns) (sym (plant_out n none))

-- the heads of one open group more
pub heads_push : (ns : List Node) (n : Node) → heads (ns ++ n ∷ []) ≡ heads ns ++ ((out-Node n).path, (out-Node n).metadata) ∷ []
heads_push ns n = map_push (λ n. ((out-Node n).path, (out-Node n).metadata)) ns n

-- the path of the last open group is that of one pushed
top_push : (b : Path) (hs : List Pair) (h : Pair) → top b (hs ++ h ∷ []) ≡ h.0
top_push b [] h = refl
top_push b (g ∷ hs) h = top_push g.0 hs h

-- the last of some nodes
pub top_last : (b : Path) (ns : List Node) (n : Node) → 0 < length ns → n ≡ get_or ns (length ns - 1) n → top b (heads ns) ≡ (out-Node n).path
top_last b ns n some is =
    ap (λ l. top b (heads l)) (last_part ns n some ∙ ap (λ y. take (length ns - 1) ns ++ y ∷ []) (sym is))
    ∙ ap (top b) (heads_push (take (length ns - 1) ns) n)
    ∙ top_push b (heads (take (length ns - 1) ns)) ((out-Node n).path, (out-Node n).metadata)

-- the heads are those before the last, and its own
pub heads_of_last : (ns : List Node) (n : Node) → 0 < length ns → n ≡ get_or ns (length ns - 1) n → heads ns ≡ heads (take (length ns - 1) ns) ++ ((out-Node n).path, (out-Node n).metadata) ∷ []
heads_of_last ns n some is = ap heads (last_part ns n some ∙ ap (λ y. take (length ns - 1) ns ++ y ∷ []) (sym is)) ∙ heads_push (take (length ns - 1) ns) n

-- all but the last of a list with one item more
but_last : {A : Type 0} (xs : List A) (x : A) → take (length (xs ++ x ∷ []) - 1) (xs ++ x ∷ []) ≡ xs
but_last xs x =
    let long = length-append xs (x ∷ []) in
    let n : length (xs ++ x ∷ []) - 1 ≡ length xs = omega (arith, long) in
    ap (λ k. take k (xs ++ x ∷ [])) n ∙ take-append_seam xs (x ∷ [])

-- what closing the last leaves
pub heads_left : (ns : List Node) (n : Node) (hs : List Pair) → 0 < length ns → n ≡ get_or ns (length ns - 1) n → hs ≡ take (length (heads ns) - 1) (heads ns) → heads ns ≡ hs ++ ((out-Node n).path, (out-Node n).metadata) ∷ []
heads_left ns n hs some is e =
    let h = heads_of_last ns n some is in
    let front : hs ≡ heads (take (length ns - 1) ns) = e ∙ ap (λ l. take (length l - 1) l) h ∙ but_last (heads (take (length ns - 1) ns)) ((out-Node n).path, (out-Node n).metadata) in
    h ∙ ap (λ l. l ++ ((out-Node n).path, (out-Node n).metadata) ∷ []) (sym front)

-- an open group by path and metadata, as a pair
stem_head_of : Stem → Pair
stem_head_of s = (s.path, s.metadata)

-- a node made of fields has their path and metadata
head_rolled : (x : Node-F Node) → ◌≡◌ {A = Pair} ((out-Node (roll-Node x)).path, (out-Node (roll-Node x)).metadata) (x.path, x.metadata)
unfolding stem_head_of
head_rolled x = ap stem_head_of (rolled x)

module _ (b : Path) (roots opened : List Node) (x : Node-F Node) (child : IsChildOf (top b (heads opened)) x.path) (valid : IsPath x.path) (kids : x.children.items ≡ []) where
  -- the tree of a node without children
  planted : plant (roll-Node x) none ≡ tree x.path x.metadata none none
  planted = plant_roll x none ∙ ap (λ l. tree x.path x.metadata (forest l) none) kids

  -- a group is opened
  pub taken_open : (later : List Node) → later ≡ opened ++ roll-Node x ∷ [] → is_group x.metadata ≡ true → IsTaken b (x.path, x.metadata) roots opened roots later
  taken_open later e group = inl (
    (child, valid),
    ap (whole roots) e ∙ closed_last roots opened (roll-Node x) ∙ ap (with_tree roots opened) planted,
    ap heads e ∙ heads_push opened (roll-Node x) ∙ ap (λ h. heads opened ++ h ∷ []) (head_rolled x) ∙ ap (λ t. heads opened ++ cond t ((x.path, x.metadata) ∷ []) []) (sym group),
  )

  -- anything else is put below the last open group
  pub taken_added : (new_roots later : List Node) → whole new_roots later ≡ with_tree roots opened (plant (roll-Node x) none) → heads later ≡ heads opened → is_group x.metadata ≡ false → IsTaken b (x.path, x.metadata) roots opened new_roots later
  taken_added new_roots later e same group = inl (
    (child, valid),
    e ∙ ap (with_tree roots opened) planted,
    same ∙ sym (append-nil (heads opened)) ∙ ap (λ t. heads opened ++ cond t ((x.path, x.metadata) ∷ []) []) (sym group),
  )
