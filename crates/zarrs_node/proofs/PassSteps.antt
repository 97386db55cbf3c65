-- What a pass over ascending pairs keeps true.
use Rattle.std.proofs.Common.{◌≤◌, ◌<◌, ◌^◌, length-append, ◌≡◌, ℕ, ◌+◌, ◌⊎◌, inl, inr, ⊎_elim, ◌↔◌, true, false, cond, List, [], ◌∷◌, ◌++◌, map, length, refl, sym, ap, subst, ◌∙◌, append-nil, append_assoc, arith, Contains, Less, IsTrue}
use Rattle.std.proofs.lemmas.List.Elements.{Contains-append_left, Contains-append_right, Contains-append_cases, Contains-push, Contains-push_cases}
use Rattle.std.specs.List.{count_by}
use Rattle.std.proofs.lemmas.List.Sums.{sum_by-append}
use Rattle.zarrs_path.specs.Paths.{Path, IsPath, IsBelow, path_cmp}
use Rattle.zarrs_meta.specs.declared.node.NodeMetadata.{NodeMetadata}
use Rattle.zarrs_node.specs.declared.node.Node.{Node}
use Rattle.zarrs_meta.specs.Node.{is_group}
use Rattle.zarrs_node.specs.Forest.{none, tree, pairs, forest, IsPlaced, IsChildOf, Shows}
use Rattle.zarrs_node.specs.Order.{Ascend}
use Rattle.zarrs_node.specs.Reach.{Kept}
use Rattle.zarrs_node.proofs.Unique.{Pair}
use Rattle.zarrs_node.specs.StepsOfTrees.{stem_of, top, whole, with_tree, heads, opened_by, IsClosedTo, IsTaken}
use Rattle.zarrs_node.specs.LastOfEqualPaths.{groups}
use Rattle.zarrs_node.proofs.ForestsBeside.{Contains-first, Contains-cons}
use Rattle.zarrs_node.proofs.ListedItems.{all_pairs_tail, all_pairs_first, lists_from}
use Rattle.zarrs_node.proofs.Order.{contains_cases, pairs_ascend}
use Rattle.zarrs_node.proofs.LawProofs.{apart}
use Rattle.zarrs_node.proofs.OpenForests.{graft_none, pairs-grow, placed_grow, placed_chain, heads_in, AreGroups, IsChain}
use Rattle.zarrs_node.proofs.OpenGroups.{heads_stems}
use Rattle.zarrs_node.proofs.KeptOfLists.{Hangs, hangs_kept, kept_hangs, all_pairs_across, between_below, hangs_more, hangs_earlier, child_hangs, hangs_child}

-- the pairs of done were looked at, and those of left come
pub record Holds (b : Path) (done left : List Pair) (roots opened : List Node) : Type 0 where
  pub placed : IsPlaced b (whole roots opened)
  pub kept : (e : Pair) → Contains (pairs (whole roots opened)) e ↔ Hangs (Contains done) b e
  pub valid : (e : Pair) → Contains (pairs (whole roots opened)) e → IsPath e.0
  pub groups : AreGroups (heads opened)
  pub waits : (h : Pair) → Hangs (Contains done) b h → IsTrue (is_group h.1) → (d : Pair) → Contains left d → IsBelow h.0 d.0 → Contains (heads opened) h

-- the first of some groups are groups
groups_front : (hs ks : List Pair) → AreGroups (hs ++ ks) → AreGroups hs
groups_front [] ks h = tt
groups_front (x ∷ hs) ks h = (h.0, groups_front hs ks h.1)

-- groups and groups are groups
groups_more : (hs ks : List Pair) → AreGroups hs → AreGroups ks → AreGroups (hs ++ ks)
groups_more [] ks h k = k
groups_more (x ∷ hs) ks h k = (h.0, groups_more hs ks h.1 k)

-- the second part of an ascending list ascends
second : (xs ys : List Pair) → Ascend (xs ++ ys) → Ascend ys
second [] ys q = q
second (x ∷ xs) ys q = second xs ys (all_pairs_tail (λ d f. path_cmp d.0 f.0 ≡ Less) x (xs ++ ys) q)

module _ (b : Path) (done left : List Pair) (e : Pair) (up : Ascend (done ++ e ∷ left)) where
  -- e stands after the pairs before it
  later : (d : Pair) → Contains done d → path_cmp d.0 e.0 ≡ Less
  later d in' = all_pairs_across (λ d f. path_cmp d.0 f.0 ≡ Less) done (e ∷ left) up d e in' (Contains-first e left)

  -- and before those after it
  after_e : (d : Pair) → Contains left d → path_cmp e.0 d.0 ≡ Less
  after_e d in' = all_pairs_first (λ d f. path_cmp d.0 f.0 ≡ Less) e left (second done (e ∷ left) up) d in'

  -- closing groups keeps it
  pub holds_closed : (roots opened roots' opened' : List Node) → Holds b done (e ∷ left) roots opened → whole roots' opened' ≡ whole roots opened → IsClosedTo e.0 (heads opened) (heads opened') → Holds b done (e ∷ left) roots' opened'
  holds_closed roots opened roots' opened' h same c = record {
    placed = subst (IsPlaced b) (sym same) h.placed;
    kept = subst (λ f. (e : Pair) → Contains (pairs f) e ↔ Hangs (Contains done) b e) (sym same) h.kept;
    valid = subst (λ f. (e : Pair) → Contains (pairs f) e → IsPath e.0) (sym same) h.valid;
    groups = groups_front (heads opened') c.dropped (subst AreGroups c.parts h.groups);
    waits = λ g k is_g d in' low.
        let open' = subst (λ x. Contains x g) c.parts (h.waits g k is_g d in' low) in
        ⊎_elim
        (λ stays. stays)
        (λ gone. absurd (c.passed g gone (⊎_elim
        (λ is_e. subst (λ x. IsBelow g.0 x.0) (sym is_e) low)
        (λ rest. between_below g.0 e.0 d.0 (later g k.member) (after_e d rest) low)
        (contains_cases e left d in'))))
        (Contains-append_cases (heads opened') c.dropped g open');
  }

  -- each open group hangs together
  members : (roots opened : List Node) → Holds b done (e ∷ left) roots opened → (h : Pair) → Contains (heads opened) h → Hangs (Contains done) b h
  members roots opened h g in' = (h.kept g).0 (heads_in (forest roots) (map stem_of opened) g (subst (λ x. Contains x g) (sym (heads_stems opened)) in'))

  -- the open groups are a chain
  chain : (roots opened : List Node) → Holds b done (e ∷ left) roots opened → IsChain b (heads opened)
  chain roots opened h = subst (IsChain b) (heads_stems opened) (placed_chain b (forest roots) (map stem_of opened) h.placed)

  -- what hangs together with e in the list is earlier or e
  split : (d : Pair) → Hangs (Contains (done ++ e ∷ [])) b d → Hangs (Contains done) b d ⊎ (e ≡ d)
  split d k = ⊎_elim (λ in'. inl (hangs_earlier b done e later d in' k)) inr (Contains-push_cases done e d k.member)

  -- what hangs together still does with e in the list
  more : (d : Pair) → Hangs (Contains done) b d → Hangs (Contains (done ++ e ∷ [])) b d
  more d k = hangs_more (Contains done) (Contains (done ++ e ∷ [])) b (λ x in'. Contains-append_left done (e ∷ []) x in') d k

  -- what is opened is a group
  opened_group : (m : NodeMetadata) (h : Pair) → AreGroups (cond (is_group m) ((h.0, m) ∷ []) [])
  opened_group m h = elim (is_group m) as (λ t. is_group m ≡ t → AreGroups (cond t ((h.0, m) ∷ []) [])) [
    | true ↦ λ is. (is, tt)
    | false ↦ λ is. tt
  ] refl

  -- a group is opened
  opened_has : (h : Pair) → IsTrue (is_group h.1) → Contains (opened_by h) h
  opened_has h is = subst (λ t. Contains (cond t (h ∷ []) []) h) (sym is) (Contains-first h [])

  module _ (roots opened roots' opened' : List Node) (h : Holds b done (e ∷ left) roots opened) (covers : IsBelow b e.0 → IsBelow (top b (heads opened)) e.0) where
    -- taking a child keeps it
    holds_child : IsChildOf (top b (heads opened)) e.0 → IsPath e.0 → (whole roots' opened' ≡ with_tree roots opened (tree e.0 e.1 none none)) × (heads opened' ≡ heads opened ++ opened_by e) → Holds b (done ++ e ∷ []) left roots' opened'
    holds_child child valid w =
        let grown : pairs (whole roots' opened') ≡ pairs (whole roots opened) ++ e ∷ [] = ap pairs w.0 ∙ pairs-grow (forest roots) (map stem_of opened) (tree e.0 e.1 none none) in
        let is_kept = child_hangs b done e later (heads opened) (chain roots opened h) h.groups (members roots opened h) child in
        record {
          placed = subst (IsPlaced b) (sym w.0)
              (placed_grow b (forest roots) (map stem_of opened) e.0 e.1 h.placed (subst AreGroups (sym (heads_stems opened)) h.groups)
              (subst (λ x. IsChildOf (top b x) e.0) (sym (heads_stems opened)) child)
              (λ d in'. later d ((h.kept d).0 in').member));
          kept = λ d. (
            λ in'. ⊎_elim
                (λ old. more d ((h.kept d).0 old))
                (λ new. subst (Hangs (Contains (done ++ e ∷ [])) b) new is_kept)
                (Contains-push_cases (pairs (whole roots opened)) e d (subst (λ x. Contains x d) grown in')),
            λ k. subst (λ x. Contains x d) (sym grown) (⊎_elim
                (λ old. Contains-append_left (pairs (whole roots opened)) (e ∷ []) d ((h.kept d).1 old))
                (λ new. subst (Contains (pairs (whole roots opened) ++ e ∷ [])) new (Contains-push (pairs (whole roots opened)) e))
                (split d k)),
          );
          valid = λ d in'. ⊎_elim (h.valid d) (λ new. subst (λ x. IsPath x.0) new valid) (Contains-push_cases (pairs (whole roots opened)) e d (subst (λ x. Contains x d) grown in'));
          groups = subst AreGroups (sym w.1) (groups_more (heads opened) (opened_by e) h.groups (opened_group e.1 e));
          waits = λ g k is_g d in' low. subst (λ x. Contains x g) (sym w.1) (⊎_elim
              (λ old. Contains-append_left (heads opened) (opened_by e) g (h.waits g old is_g d (Contains-cons e left d in') low))
              (λ new. subst (Contains (heads opened ++ opened_by e)) new (Contains-append_right (heads opened) (opened_by e) e (opened_has e (subst (λ x. IsTrue (is_group x.1)) (sym new) is_g))))
              (split g k));
        }

    -- passing over a pair keeps it
    holds_other : (IsChildOf (top b (heads opened)) e.0 → ⊥) → (whole roots' opened' ≡ whole roots opened) × (heads opened' ≡ heads opened) → Holds b (done ++ e ∷ []) left roots' opened'
    holds_other other w =
        let not_kept : Hangs (Contains (done ++ e ∷ [])) b e → ⊥ = λ k. other (hangs_child b done e later (heads opened) (chain roots opened h) h.groups (members roots opened h)
        (λ g k' is_g low. h.waits g k' is_g e (Contains-first e left) low) covers k) in
        let old_only : (d : Pair) → Hangs (Contains (done ++ e ∷ [])) b d → Hangs (Contains done) b d = λ d k. ⊎_elim (λ old. old) (λ new. absurd (not_kept (subst (Hangs (Contains (done ++ e ∷ [])) b) (sym new) k))) (split d k) in
        record {
          placed = subst (IsPlaced b) (sym w.0) h.placed;
          kept = λ d. (λ in'. more d ((h.kept d).0 (subst (λ f. Contains (pairs f) d) w.0 in')), λ k. subst (λ f. Contains (pairs f) d) (sym w.0) ((h.kept d).1 (old_only d k)));
          valid = λ d in'. h.valid d (subst (λ f. Contains (pairs f) d) w.0 in');
          groups = subst AreGroups (sym w.1) h.groups;
          waits = λ g k is_g d in' low. subst (λ x. Contains x g) (sym w.1) (h.waits g (old_only g k) is_g d (Contains-cons e left d in') low);
        }

    -- a turn keeps it
    pub holds_taken : IsTaken b e roots opened roots' opened' → Holds b (done ++ e ∷ []) left roots' opened'
    holds_taken t = ⊎_elim (λ w. holds_child w.0.0 w.0.1 (w.1, w.2)) (λ w. holds_other w.0 (w.1, w.2)) t

-- the groups of the forest that are closed, and those that are open
count_one : (e : Pair) → (count_by (λ e. is_group e.1) (e ∷ []) ≡ length (opened_by e)) × (length (opened_by e) ≤ 1)
count_one e = elim (is_group e.1) as (λ t. (is_group e.1 ≡ t) → (count_by (λ e. is_group e.1) (e ∷ []) ≡ length (cond t (e ∷ []) [])) × (length (cond t (e ∷ []) []) ≤ 1)) [
  | true ↦ λ is. let c : ◌≡◌ {A = ℕ} (cond (is_group e.1) 1 0) 1 = ap (λ t. cond t 1 0) is in (omega (arith, c), omega arith)
  | false ↦ λ is. let c : ◌≡◌ {A = ℕ} (cond (is_group e.1) 1 0) 0 = ap (λ t. cond t 1 0) is in (omega (arith, c), omega arith)
] refl

-- the steps so far, but for the groups that are still open
pub record Counts (done : List Pair) (roots opened : List Node) (steps : ℕ) : Type 0 where
  pub steps_are : steps + length (heads opened) ≡ length done + groups (whole roots opened)
  pub few : groups (whole roots opened) ≤ length done

-- closing groups counts them
pub counts_closed : (done : List Pair) (roots opened roots' opened' : List Node) (steps n : ℕ) → Counts done roots opened steps → whole roots' opened' ≡ whole roots opened → n + length (heads opened') ≡ length (heads opened) → Counts done roots' opened' (steps + n)
counts_closed done roots opened roots' opened' steps n c same count =
    let g = ap groups same in
    let s = c.steps_are in
    let f = c.few in
    record { steps_are = omega (arith, g, s, count); few = omega (arith, g, f) }

-- taking a pair counts it
pub counts_taken : (b : Path) (done : List Pair) (e : Pair) (roots opened roots' opened' : List Node) (steps : ℕ) → Counts done roots opened steps → IsTaken b e roots opened roots' opened' → Counts (done ++ e ∷ []) roots' opened' (steps + 1)
counts_taken b done e roots opened roots' opened' steps c t =
    let s = c.steps_are in
    let f = c.few in
    let long = length-append done (e ∷ []) in
    let one = count_one e in
    ⊎_elim
    (λ w.
    let g : groups (whole roots' opened') ≡ groups (whole roots opened) + count_by (λ e. is_group e.1) (e ∷ []) = ap groups w.1 ∙ ap (count_by (λ e. is_group e.1)) (pairs-grow (forest roots) (map stem_of opened) (tree e.0 e.1 none none)) ∙ sum_by-append (λ e. cond (is_group e.1) 1 0) (pairs (whole roots opened)) (e ∷ []) in
    let h = ap (λ l. length l) w.2 ∙ length-append (heads opened) (opened_by e) in
    let same = one.0 in
    let less = one.1 in
    record { steps_are = omega (arith, s, g, h, long, same); few = omega (arith, f, g, long, same, less) })
    (λ w.
    let g = ap groups w.1 in
    let h = ap (λ l. length l) w.2 in
    record { steps_are = omega (arith, s, g, h, long); few = omega (arith, f, g, long) })
    t

-- when all were looked at and all groups are closed
pub holds_all : (b : Path) (all : List Pair) (roots : List Node) → Holds b all [] roots [] → Shows (forest roots) b (Kept (Contains all) true b)
holds_all b all roots h =
    let same = graft_none (forest roots) in
    let placed = subst (IsPlaced b) same h.placed in
    record {
      shown = lists_from (pairs (forest roots))
          (λ e. (
            λ in'. let before = subst (λ f. Contains (pairs f) e) (sym same) in' in hangs_kept (Contains all) b e (h.valid e before) ((h.kept e).0 before),
            λ k. subst (λ f. Contains (pairs f) e) same ((h.kept e).1 (kept_hangs (Contains all) b e k)),
          ))
          (apart (pairs (forest roots)) (pairs_ascend b (forest roots) placed));
      placed = placed;
    }

-- while groups are closed that p is not below
pub record Closing (p : Path) (hs after : List Pair) : Type 0 where
  pub dropped : List Pair
  pub parts : hs ≡ after ++ dropped
  pub passed : (h : Pair) → Contains dropped h → IsBelow h.0 p → ⊥

-- one group more is closed
pub closing_more : (p : Path) (hs now after : List Pair) (h : Pair) → Closing p hs now → now ≡ after ++ h ∷ [] → (IsBelow h.0 p → ⊥) → Closing p hs after
closing_more p hs now after h c e not_below = record {
  dropped = h ∷ c.dropped;
  parts = c.parts ∙ ap (λ x. x ++ c.dropped) e ∙ append_assoc after (h ∷ []) c.dropped;
  passed = λ g in' low. ⊎_elim (λ same. not_below (subst (λ x. IsBelow x.0 p) (sym same) low)) (λ l. c.passed g l low) (contains_cases h c.dropped g in');
}

-- as far as the path is below the last that is left
pub closing_done : (p : Path) (hs now : List Pair) → Closing p hs now → ((b : Path) → IsBelow b p → IsBelow (top b now) p) → IsClosedTo p hs now
closing_done p hs now c covers = record { dropped = c.dropped; parts = c.parts; passed = c.passed; covers = covers }

-- one turn of the pass
module _ (b : Path) (all done items left : List Pair) (e : Pair) (roots opened roots1 opened1 roots2 opened2 : List Node) (up : Ascend all) (is : done ++ items ≡ all) (next : items ≡ e ∷ left)
    (h : Holds b done items roots opened) (same : whole roots1 opened1 ≡ whole roots opened) (closed : IsClosedTo e.0 (heads opened) (heads opened1)) (taken : IsTaken b e roots1 opened1 roots2 opened2) where
  -- the pairs before, the pair and those after it ascend
  ascends : Ascend (done ++ e ∷ left)
  ascends = subst Ascend (sym is ∙ ap (λ x. done ++ x) next) up

  -- what the pass keeps true holds with one pair more
  pub turn : Holds b (done ++ e ∷ []) left roots2 opened2
  turn = holds_taken b done left e ascends roots1 opened1 roots2 opened2
      (holds_closed b done left e ascends roots opened roots1 opened1 (subst (λ x. Holds b done x roots opened) next h) same closed)
      (λ low. closed.covers b low) taken

-- one item more was gone over
pub all_more : (all done items left : List Pair) (e : Pair) → done ++ items ≡ all → items ≡ e ∷ left → (done ++ e ∷ []) ++ left ≡ all
all_more all done items left e is next = append_assoc done (e ∷ []) left ∙ ap (λ x. done ++ x) (sym next) ∙ is

-- the number of steps is small
pub few_steps : (all done items left : List Pair) (e : Pair) (roots opened : List Node) (hs : List Pair) (steps n : ℕ) → done ++ items ≡ all → items ≡ e ∷ left → Counts done roots opened steps → n + length hs ≡ length (heads opened) → length all < 2 ^ 63 → steps + (1 + n) < 2 ^ 64
few_steps all done items left e roots opened hs steps n is next c count small =
    let l = ap (λ x. length x) (sym is) ∙ length-append done items in
    let m = ap (λ x. length x) next in
    let s = c.steps_are in
    let f = c.few in
    omega (arith, l, m, s, f, count, small)

-- nor do the last ones overflow
pub few_last : (all done items : List Pair) (roots opened : List Node) (steps n : ℕ) → done ++ items ≡ all → Counts done roots opened steps → n ≡ length (heads opened) → length all < 2 ^ 63 → steps + n < 2 ^ 64
few_last all done items roots opened steps n is c count small =
    let l = ap (λ x. length x) (sym is) ∙ length-append done items in
    let s = c.steps_are in
    let f = c.few in
    omega (arith, l, s, f, count, small)

-- a list without items is empty
pub none_left : (xs : List Pair) (n : ℕ) → n ≡ length xs → n ≡ 0 → xs ≡ []
none_left [] n e z = refl
none_left (x ∷ xs) n e z = absurd (omega (arith, e, z))

-- the end of the pass
module _ (b : Path) (all done items : List Pair) (roots opened roots' opened' : List Node) (is : done ++ items ≡ all) (none_more : items ≡ []) (same : whole roots' opened' ≡ whole roots opened) (closed : opened' ≡ []) where
  -- what was gone over is all
  done_all : done ≡ all
  done_all = sym (append-nil done) ∙ ap (λ x. done ++ x) (sym none_more) ∙ is

  -- at the end the roots are the whole forest
  end_whole : whole roots' [] ≡ whole roots opened
  end_whole = ap (whole roots') (sym closed) ∙ same

  -- they show what is kept of all pairs
  pub end_shows : Holds b done items roots opened → Shows (forest roots') b (Kept (Contains all) true b)
  end_shows h =
      let h' = subst (λ x. Holds b x items roots opened) done_all h in
      holds_all b all roots' (record {
        placed = subst (IsPlaced b) (sym end_whole) h'.placed;
        kept = subst (λ f. (e : Pair) → Contains (pairs f) e ↔ Hangs (Contains all) b e) (sym end_whole) h'.kept;
        valid = subst (λ f. (e : Pair) → Contains (pairs f) e → IsPath e.0) (sym end_whole) h'.valid;
        groups = tt;
        waits = λ g k is_g d in' low. absurd (omega (arith, in'.1));
      })

  -- and the steps are one for each pair and one for each group
  pub end_count : (steps n : ℕ) → Counts done roots opened steps → n ≡ length (heads opened) → steps + n ≡ length all + groups (forest roots')
  end_count steps n c count =
      let s = c.steps_are in
      let l = ap (λ x. length x) done_all in
      let g : groups (forest roots') ≡ groups (whole roots opened) = ap groups (sym (graft_none (forest roots')) ∙ end_whole) in
      omega (arith, s, l, g, count)
