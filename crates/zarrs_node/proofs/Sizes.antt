-- How many nodes are left to be dropped.
use Rattle.std.proofs.Common.{◌≡◌, ℕ, ◌+◌, ◌*◌, ◌<◌, ◌≤◌, List, [], ◌∷◌, ◌++◌, length, map, sum, ap, sym, ◌∙◌, arith}
use Rattle.std.specs.List.{swap}
use Rattle.std.proofs.Math.Nat.{mul-le-mul}
use Rattle.std.proofs.lemmas.List.{map-append}
use Rattle.std.proofs.lemmas.List.Sums.{sum_by-append, sum-map}
use Rattle.std.proofs.lemmas.List.Sorted.{IsPermutation-swap, sum_by-IsPermutation}
use Rattle.zarrs_node.specs.declared.node.Node.{Node}
use denote.Param.Weighed.{most}
use Rattle.zarrs_node.specs.declared.node.Node.TheViews.{size-Node, size_is-Node}
use Rattle.zarrs_node.specs.declared.node.Node.TheFolds.{fold_out-Node}
use Rattle.zarrs_node.specs.StepsOfCounting.{weight, weights, weigh_step, children_of}

-- a node more than its children have
pub weight_out : (n : Node) → weight n ≡ weights (children_of n) + 1
weight_out n = fold_out-Node ℕ weigh_step n

-- the weights of some nodes and of others
pub weights-append : (ns ms : List Node) → weights (ns ++ ms) ≡ weights ns + weights ms
weights-append ns ms = ap sum (map-append weight ns ms) ∙ sum_by-append (λ x. x) (map weight ns) (map weight ms)

-- the weights of some nodes and one more
pub weights-push : (ns : List Node) (n : Node) → weights (ns ++ n ∷ []) ≡ weights ns + (weights (children_of n) + 1)
weights-push ns n =
    let e = ap sum (map-append weight ns (n ∷ [])) ∙ sum_by-append (λ x. x) (map weight ns) (map weight (n ∷ [])) in
    let w = weight_out n in
    omega (arith, e, w)

-- in another order they weigh the same
pub weights_swap : (ns ms : List Node) (i j : ℕ) → i < length ns → j < length ns → ms ≡ swap ns i j → weights ms ≡ weights ns
weights_swap ns ms i j p q e = sum-map weight ms ∙ sum_by-IsPermutation weight ns ms (IsPermutation-swap ns ms i j p q e) ∙ sym (sum-map weight ns)

-- after a push and a swap
pub weights_first : (ns later ms : List Node) (n : Node) (i j : ℕ) → later ≡ ns ++ n ∷ [] → i < length later → j < length later → ms ≡ swap later i j → weights ms ≡ weights ns + (weights (children_of n) + 1)
weights_first ns later ms n i j e p q s = weights_swap later ms i j p q s ∙ ap weights e ∙ weights-push ns n

-- no nodes are less deep than any node
pub none_less : (n : Node) (ns : List Node) → length ns ≡ 0 → most size-Node ns < size-Node n
none_less n [] e = let d = size_is-Node n in omega arith
none_less n (x ∷ ns) e = absurd (omega (arith, e))

-- a number for a node at hand and the others, which falls by the nodes, and otherwise by the node at hand
abbrev pub left_over : Node → List Node → ℕ
left_over n ns = (weight n + weights ns) * (weight n + weights ns) + weight n

-- fewer nodes
fewer : (a b v w : ℕ) → a < b → v ≤ a → a * a + v < b * b + w
fewer a b v w less small = let h : (a + 1) * (a + 1) ≤ b * b = mul-le-mul {n₁ = a + 1} {m₁ = a + 1} {n₂ = b} {m₂ = b} (omega arith) (omega arith) in omega arith

-- as many, and a smaller one at hand
smaller : (a b v w : ℕ) → a ≡ b → v < w → a * a + v < b * b + w
smaller a b v w e less = let h = ap (λ x. x * x) e in omega arith

-- going down to a child
pub left_down : (n next waits : Node) (others kids rest later : List Node) → kids ≡ children_of n → kids ≡ rest ++ next ∷ [] → children_of waits ≡ others → weights later ≡ weights rest + (weights (children_of waits) + 1) → left_over next later < left_over n others
left_down n next waits others kids rest later k e c l =
    let a = weight_out n in
    let b = ap weights (sym k ∙ e) ∙ weights-push rest next in
    let d = weight_out next in
    let f = ap weights c in
    smaller (weight next + weights later) (weight n + weights others) (weight next) (weight n) (omega arith) (omega arith)

-- going on to another
pub left_on : (n next : Node) (others rest : List Node) → others ≡ rest ++ next ∷ [] → left_over next rest < left_over n others
left_on n next others rest e =
    let a = weight_out n in
    let b = ap weights e ∙ weights-push rest next in
    let d = weight_out next in
    fewer (weight next + weights rest) (weight n + weights others) (weight next) (weight n) (omega arith) (omega arith)

-- going down to a child where no other node is left
pub left_alone : (n next : Node) (others kids rest : List Node) → kids ≡ children_of n → kids ≡ rest ++ next ∷ [] → left_over next rest < left_over n others
left_alone n next others kids rest k e =
    let a = weight_out n in
    let b = ap weights (sym k ∙ e) ∙ weights-push rest next in
    let d = weight_out next in
    fewer (weight next + weights rest) (weight n + weights others) (weight next) (weight n) (omega arith) (omega arith)
