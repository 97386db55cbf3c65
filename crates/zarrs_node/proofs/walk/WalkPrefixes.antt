-- What is ahead of a walk over a forest.
use Rattle.std.proofs.Common.{◌≡◌, ℕ, ◌+◌, List, [], ◌∷◌, ◌++◌, length, map, refl, sym, ap, ◌∙◌, append_assoc, append-nil, arith, length-append, subst, Option, Some, None, MatchOption}
use Rattle.std.proofs.lemmas.List.{map-append, length-map}
use Rattle.std.specs.Borrow.{Bor}
use Rattle.zarrs_path.specs.Paths.{Path}
use Rattle.zarrs_meta.specs.declared.node.NodeMetadata.{NodeMetadata}
use Rattle.zarrs_node.specs.declared.node.Node.{Node}
use Rattle.zarrs_node.specs.Forest.{Forest, none, tree, forest, pairs, below_of}
use Rattle.zarrs_node.specs.StepsOfCounting.{children_of}
use Rattle.zarrs_node.specs.StepsOfPreorder.{Stop, stops, stop_of, ahead, ahead_at}
use Rattle.zarrs_node.proofs.ForestsBeside.{plant_out}

-- a walk over nodes begins with the first, goes on below it, and then to those after it
pub stops_cons : (l : ℕ) (n : Node) (ns : List Node) → stops l (forest (n ∷ ns)) ≡ stop_of l n ∷ (stops (l + 1) (below_of n) ++ stops l (forest ns))
stops_cons l n ns = ap (stops l) (plant_out n (forest ns))

-- the deepest come first
ahead_at_push : (l : ℕ) (hs : List (List Node)) (ns : List Node) → ahead_at l (hs ++ ns ∷ []) ≡ stops (l + length hs) (forest ns) ++ ahead_at l hs
ahead_at_push l [] ns =
    let e : l ≡ l + 0 = omega arith in
    ap (λ k. stops k (forest ns)) e ∙ sym (append-nil (stops (l + 0) (forest ns)))
ahead_at_push l (h ∷ hs) ns =
    let e : l + 1 + length hs ≡ l + length (h ∷ hs) = omega arith in
    ap (λ x. x ++ stops l (forest h)) (ahead_at_push (l + 1) hs ns ∙ ap (λ k. stops k (forest ns) ++ ahead_at (l + 1) hs) e)
    ∙ append_assoc (stops (l + length (h ∷ hs)) (forest ns)) (ahead_at (l + 1) hs) (stops l (forest h))

-- and so of a walk that holds them by reference
ahead_push : (held : List (Bor (List Node))) (s : Bor (List Node)) → ahead (held ++ s ∷ []) ≡ stops (1 + length held) (forest s.now) ++ ahead held
ahead_push held s =
    ap (ahead_at 1) (map-append (λ (x : Bor (List Node)). x.now) held (s ∷ []))
    ∙ ahead_at_push 1 (map (λ x. x.now) held) s.now
    ∙ ap (λ k. stops (1 + k) (forest s.now) ++ ahead held) (length-map held (λ x. x.now))

-- a list without items
pub length_zero : {A : Type 0} (xs : List A) → length xs ≡ 0 → xs ≡ []
length_zero [] e = refl
length_zero (x ∷ xs) e = absurd (omega (arith, e))

-- a turn at a list with a first node, whose level is the number of lists that are held once what is after it is held again
pub ahead_turn : (was rest one two : List (Bor (List Node))) (nodes after kids : Bor (List Node)) (n : Node) (level : ℕ) → was ≡ rest ++ nodes ∷ [] → nodes.now ≡ n ∷ after.now → one ≡ rest ++ after ∷ []
    → level ≡ length one → kids.now ≡ children_of n → two ≡ one ++ kids ∷ [] → ahead was ≡ stop_of level n ∷ ahead two
ahead_turn was rest one two nodes after kids n level e cut first at below second =
    ap ahead e
    ∙ ahead_push rest nodes
    ∙ ap (λ ns. stops (1 + length rest) (forest ns) ++ ahead rest) cut
    ∙ ap (λ x. x ++ ahead rest) (stops_cons (1 + length rest) n after.now)
    ∙ ap (λ x. stop_of (1 + length rest) n ∷ x) (append_assoc (stops (1 + length rest + 1) (below_of n)) (stops (1 + length rest) (forest after.now)) (ahead rest) ∙ sym later)
    ∙ ap (λ k. stop_of k n ∷ ahead two) (sym deep)
  where
    -- one list more
    longer : length one ≡ length rest + 1
    longer = ap length first ∙ length-append rest (after ∷ [])

    -- which is the level
    deep : level ≡ 1 + length rest
    deep = omega (arith, at, longer)

    -- and the children are one level deeper
    deeper : 1 + length one ≡ 1 + length rest + 1
    deeper = omega (arith, longer)

    -- what is ahead then
    later : ahead two ≡ stops (1 + length rest + 1) (below_of n) ++ (stops (1 + length rest) (forest after.now) ++ ahead rest)
    later =
        ap ahead second
        ∙ ahead_push one kids
        ∙ ap (λ k. stops k (forest kids.now) ++ ahead one) deeper
        ∙ ap (λ ns. stops (1 + length rest + 1) (forest ns) ++ ahead one) below
        ∙ ap (λ x. stops (1 + length rest + 1) (below_of n) ++ x) (ap ahead first ∙ ahead_push rest after)

-- a turn at a list that has none
pub ahead_past : (was rest : List (Bor (List Node))) (nodes : Bor (List Node)) → was ≡ rest ++ nodes ∷ [] → length nodes.now ≡ 0 → ahead rest ≡ ahead was
ahead_past was rest nodes e done = sym (ap ahead e ∙ ahead_push rest nodes ∙ ap (λ ns. stops (1 + length rest) (forest ns) ++ ahead rest) (length_zero nodes.now done))

-- a walk that answers a node had it first ahead
pub took_node : (o : Option (ℕ × Bor Node)) (level : ℕ) (n : Bor Node) (was later : List Stop) → MatchOption o (was ≡ []) (λ x. was ≡ stop_of x.0 x.1.now ∷ later) → o ≡ Some (level, n) → was ≡ stop_of level n.now ∷ later
took_node o level n was later h is = subst (λ (x : Option (ℕ × Bor Node)). MatchOption x (was ≡ []) (λ y. was ≡ stop_of y.0 y.1.now ∷ later)) is h

-- and one that answers none had none ahead
pub took_none : (o : Option (ℕ × Bor Node)) (was later : List Stop) → MatchOption o (was ≡ []) (λ x. was ≡ stop_of x.0 x.1.now ∷ later) → o ≡ None → was ≡ []
took_none o was later h is = subst (λ (x : Option (ℕ × Bor Node)). MatchOption x (was ≡ []) (λ y. was ≡ stop_of y.0 y.1.now ∷ later)) is h

-- the nodes that a walk comes to, by path and metadata
abbrev pub pairs_at : List Stop → List (Path × NodeMetadata)
pairs_at ss = map (λ s. (s.path, s.metadata)) ss

-- are the pairs of the forest
pub pairs_stops : (l : ℕ) (f : Forest) → pairs_at (stops l f) ≡ pairs f
pairs_stops l none = refl
pairs_stops l (tree p m below after) =
    ap (λ x. (p, m) ∷ x) (map-append (λ (s : Stop). (s.path, s.metadata)) (stops (l + 1) below) (stops l after))
    ∙ ap (λ x. (p, m) ∷ (x ++ pairs_at (stops l after))) (pairs_stops (l + 1) below)
    ∙ ap (λ x. (p, m) ∷ (pairs below ++ x)) (pairs_stops l after)
