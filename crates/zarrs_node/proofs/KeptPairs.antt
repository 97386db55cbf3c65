-- What is kept of pairs of path and metadata, whatever the pairs.
use Rattle.std.proofs.Common.{◌≡◌, ◌↔◌, ℕ, ◌⊎◌, inl, inr, ⊎_elim, Bool, true, List, [], ◌∷◌, ◌++◌, refl, sym, ap, subst, ◌∙◌, append_assoc, arith, Contains, IsTrue}
use Rattle.std.proofs.lemmas.List.{append_cancel_left}
use Rattle.std.proofs.lemmas.List.Elements.{Contains-append_left, Contains-append_right, Contains-append_cases}
use Rattle.zarrs_path.specs.Paths.{Path, IsPath, IsBelow}
use Rattle.zarrs_path.proofs.PathTexts.{IsPath-parts}
use Rattle.zarrs_meta.specs.Node.{is_group}
use Rattle.zarrs_meta.specs.declared.node.NodeMetadata.{NodeMetadata}
use Rattle.zarrs_meta.specs.declared.node.NodeMetadata.TheVariants.{Group, Array}
use Rattle.zarrs_meaning.specs.Meaning.{Meaning}
use Rattle.zarrs_node.specs.Reach.{HasGroup, Reached, Kept, Closed}
use Rattle.zarrs_node.specs.Nodes.{Means}
use Rattle.zarrs_node.specs.Forest.{Forest, none, tree, pairs, Shows, IsPlaced, MayHold}
use Rattle.zarrs_node.proofs.Reach.{head_same, no_room}
use Rattle.zarrs_node.proofs.ForestsBeside.{Contains-first, Contains-cons}
use Rattle.zarrs_node.proofs.ListedItems.{listed_each}
use Rattle.zarrs_node.proofs.Order.{contains_cases, Begins, all_below}

-- what is below what is below is below
pub below_below : (b q p : Path) → IsBelow b q → IsBelow q p → IsBelow b p
below_below b q p (n, ns, e) (m, ms, f) = (n, ns ++ m ∷ ms, f ∙ ap (λ x. x ++ m ∷ ms) e ∙ append_assoc b (n ∷ ns) (m ∷ ms))

module _ (N M : Path × NodeMetadata → Type 0) (r : Bool) (b : Path) (more : (e : Path × NodeMetadata) → IsBelow b e.0 → N e → M e) where
  -- what is reached through the groups of N is reached through those of M, which has the pairs of N below b
  pub reached_more : (p : Path) → Reached N r b p → Reached M r b p
  reached_more p h = record {
    below = h.below;
    between = λ q low up. let o = h.between q low up in (o.0, (o.1.0, more (q, o.1.0) low o.1.1, o.1.2));
  }

  -- what is kept of N is kept of M
  pub kept_more : (e : Path × NodeMetadata) → Kept N r b e → Kept M r b e
  kept_more e h = (reached_more e.0 h.0, more e (h.0.below.0, h.0.below.1, h.0.below.2) h.1)

-- pairs that are the same below b keep the same
pub kept_same : (N M : Path × NodeMetadata → Type 0) (r : Bool) (b : Path) → ((e : Path × NodeMetadata) → IsBelow b e.0 → N e ↔ M e) → (e : Path × NodeMetadata) → Kept N r b e ↔ Kept M r b e
kept_same N M r b same e = (kept_more N M r b (λ d low. (same d low).0) e, kept_more M N r b (λ d low. (same d low).1) e)

-- meanings that are the same below b have the same nodes
pub nodes_same : (of as' : Path → Meaning) (r : Bool) (b : Path) → ((p : Path) → IsBelow b p → of p ≡ as' p) → (e : Path × NodeMetadata) → Kept (Means of) r b e ↔ Kept (Means as') r b e
nodes_same of as' r b same = kept_same (Means of) (Means as') r b (λ e low. (λ h. sym (same e.0 low) ∙ h, λ h. same e.0 low ∙ h))

module _ (N : Path × NodeMetadata → Type 0) (r : Bool) (b : Path) where
  -- a path between the base and what is reached is reached
  pub reached_between : (p : Path) → Reached N r b p → (q : Path) → IsBelow b q → IsBelow q p → Reached N r b q
  reached_between p h q low up = record {
    below = (low.0, low.1, low.2, (IsPath-parts (low.0 ∷ low.1) (up.0 ∷ up.1) (subst IsPath cut h.below.3)).0);
    between = λ k in' out. h.between k in' (below_below k q p out up);
  }
    where
      cut : h.below.0 ∷ h.below.1 ≡ (low.0 ∷ low.1) ++ up.0 ∷ up.1
      cut = append_cancel_left b (h.below.0 ∷ h.below.1) ((low.0 ∷ low.1) ++ up.0 ∷ up.1)
          (sym h.below.2 ∙ up.2 ∙ ap (λ x. x ++ up.0 ∷ up.1) low.2 ∙ append_assoc b (low.0 ∷ low.1) (up.0 ∷ up.1))

-- what is kept is closed: the nodes of a store, of a small store, and of a block
pub kept_closed : (N : Path × NodeMetadata → Type 0) (b : Path) → Closed (Kept N true b) b
kept_closed N b e h = (
  record {
    below = h.0.below;
    between = λ q low up. let o = h.0.between q low up in (refl, (o.1.0, (reached_between N true b e.0 h.0 q low up, o.1.1), o.1.2));
  },
  h,
)

-- closed pairs are all kept, and no other is
pub closed_is_kept : (N : Path × NodeMetadata → Type 0) (b : Path) → Closed N b → (e : Path × NodeMetadata) → Kept N true b e ↔ N e
closed_is_kept N b closed e = (λ h. h.1, closed e)

-- a group of some pairs is one of more
group_more : (N M : Path × NodeMetadata → Type 0) (q : Path) → ((e : Path × NodeMetadata) → N e → M e) → HasGroup N q → HasGroup M q
group_more N M q more h = (h.0, more (q, h.0) h.1, h.2)

-- a node with children is a group
holds_is_group : (m : NodeMetadata) (f : Forest) (e : Path × NodeMetadata) → MayHold m f → Contains (pairs f) e → IsTrue (is_group m)
holds_is_group (Group g) f e h in' = refl
holds_is_group (Array a) f e h in' = absurd (omega (arith, (subst (λ x. Contains (pairs x) e) h in').1))

-- a path between b and a path below its child is that child or below it
between_child : (b p q d : Path) (n : List ℕ) → p ≡ b ++ n ∷ [] → Begins p d → IsBelow b q → IsBelow q d → (q ≡ p) ⊎ IsBelow p q
between_child b p q d n root h (k, ks, is) (j, js, up) =
    let joined = sym (append_assoc b (n ∷ []) (h.name ∷ h.rest)) ∙ ap (λ x. x ++ h.name ∷ h.rest) (sym root) ∙ sym h.is ∙ up ∙ ap (λ x. x ++ j ∷ js) is ∙ append_assoc b (k ∷ ks) (j ∷ js) in
    let cut = append_cancel_left b (n ∷ h.name ∷ h.rest) ((k ∷ ks) ++ j ∷ js) joined in
    split ks is (head_same _ _ _ _ cut)
  where
    split : (ks : Path) → q ≡ b ++ k ∷ ks → n ≡ k → (q ≡ p) ⊎ IsBelow p q
    split [] is same = inl (is ∙ ap (λ x. b ++ x ∷ []) (sym same) ∙ sym root)
    split (l ∷ ls) is same = inr (l, ls, is ∙ ap (λ x. b ++ x ∷ l ∷ ls) (sym same) ∙ sym (append_assoc b (n ∷ []) (l ∷ ls)) ∙ ap (λ x. x ++ l ∷ ls) (sym root))

-- in a placed forest every path strictly between the base and a node's path is that of a group
pub placed_between : (b : Path) (f : Forest) → IsPlaced b f → (e : Path × NodeMetadata) → Contains (pairs f) e → (q : Path) → IsBelow b q → IsBelow q e.0 → HasGroup (Contains (pairs f)) q
placed_between b none h e in' q low up = absurd (omega (arith, in'.1))
placed_between b (tree p m below after) h e in' q low up = ⊎_elim
    (λ same. absurd (no_room b low.1 up.1 h.0.0 low.0 up.0 (sym h.0.1 ∙ ap (λ x. x.0) same ∙ up.2 ∙ ap (λ x. x ++ up.0 ∷ up.1) low.2)))
    (λ rest. ⊎_elim
    (λ l. ⊎_elim
    (λ is. (m, subst (λ x. Contains ((p, m) ∷ (pairs below ++ pairs after)) (x, m)) (sym is) (Contains-first (p, m) (pairs below ++ pairs after)), holds_is_group m below e h.1 l))
    (λ deep. group_more (Contains (pairs below)) (Contains ((p, m) ∷ (pairs below ++ pairs after))) q
    (λ d w. Contains-cons (p, m) (pairs below ++ pairs after) d (Contains-append_left (pairs below) (pairs after) d w))
    (placed_between p below h.2 e l q deep up))
    (between_child b p q e.0 h.0.0 h.0.1 (all_below p below h.2 e l) low up))
    (λ l. group_more (Contains (pairs after)) (Contains ((p, m) ∷ (pairs below ++ pairs after))) q
    (λ d w. Contains-cons (p, m) (pairs below ++ pairs after) d (Contains-append_right (pairs below) (pairs after) d w))
    (placed_between b after h.4 e l q low up))
    (Contains-append_cases (pairs below) (pairs after) e rest))
    (contains_cases (p, m) (pairs below ++ pairs after) e in')

-- whatever pairs of paths a forest shows, they are closed
pub shown_closed : (N : Path × NodeMetadata → Type 0) (b : Path) (f : Forest) → ((e : Path × NodeMetadata) → N e → IsPath e.0) → Shows f b N → Closed N b
shown_closed N b f valid h e is =
    let in' = (listed_each h.shown e).1 is in
    let w = all_below b f h.placed e in' in (
      record {
        below = (w.name, w.rest, w.is, (IsPath-parts b (w.name ∷ w.rest) (subst IsPath w.is (valid e is))).1);
        between = λ q low up. (refl, group_more (Contains (pairs f)) N q (λ d. (listed_each h.shown d).0) (placed_between b f h.placed e in' q low up));
      },
      is,
    )
