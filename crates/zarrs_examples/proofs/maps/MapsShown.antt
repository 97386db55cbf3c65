-- Of two stores one shows the nodes of the other under a map, where what the reached paths mean goes over by it.
use Rattle.std.proofs.Common.{◌≡◌, ◌≤◌, ◌↔◌, inl, inr, ⊎_elim, ℕ, zero, suc, true, ◌∷◌, length, Option, Some, IsTrue, refl, sym, ap, subst, ◌∙◌, arith, length-append}
use Rattle.zarrs_store.specs.Contents.{Contents, HasBelow}
use Rattle.zarrs_path.specs.Paths.{Path, IsBelow}
use Rattle.zarrs_meta.specs.Node.{is_group}
use Rattle.zarrs_meta.specs.declared.node.NodeMetadata.{NodeMetadata}
use Rattle.zarrs_config.specs.declared.version.MetadataRetrieveVersion.{MetadataRetrieveVersion}
use Rattle.zarrs_meaning.specs.declared.node_create_error.NodeCreateError.{NodeCreateError}
use Rattle.zarrs_meaning.specs.Meaning.{Meaning, meaning, node, nothing, bad}
use Rattle.zarrs_node.specs.Reach.{HasGroup, Reached, Kept}
use Rattle.zarrs_node.specs.Nodes.{Means, MeansNode, HasBadDocument, IsListed}
use Rattle.zarrs_node.specs.Nodes.{StandsFrom}
use Rattle.zarrs_examples.specs.MapsOfNodes.{IsMapped, KeepsKinds, GoesOver, MappedIsShown}
use Rattle.zarrs_meaning.proofs.Meanings.{same_node}
use Rattle.zarrs_node.proofs.KeptPairs.{reached_between}

-- what is found is one
pub same_some : (m n : NodeMetadata) → Some m ≡ Some n → m ≡ n
same_some m n e = cc

-- what is below something is longer
shorter : (q p : Path) (k : ℕ) → IsBelow q p → length p ≤ suc k → length q ≤ k
shorter q p k up short =
    let long = ap length up.2 in
    let more = length-append q (up.0 ∷ up.1) in
    omega (arith, long, more, short)

-- and has a name
some_name : {A : Type 0} (b p : Path) → IsBelow b p → length p ≤ 0 → A
some_name b p low short =
    let long = ap length low.2 in
    let more = length-append b (low.0 ∷ low.1) in
    absurd (omega (arith, long, more, short))

-- what is bad goes over into no node
bad_is_no_node : {A : Type 0} (f : NodeMetadata → Option NodeMetadata) (e : NodeCreateError) (y : Meaning) (m : NodeMetadata) → GoesOver f (bad e) y → y ≡ node m → A
bad_is_no_node f e y m w is = ⊎_elim
    (λ same. let no : node m ≡ bad e = sym is ∙ same in cc)
    (λ none. let no : node m ≡ nothing = sym is ∙ none in cc)
    w

-- what a path means goes over by the map that changes nothing, where it stays
pub unchanged : (x y : Meaning) → y ≡ x → GoesOver Some x y
unchanged (node m) y e = (m, refl, e)
unchanged nothing y e = e
unchanged (bad x) y e = inl e

-- the map that changes nothing keeps kinds
pub some_keeps : KeepsKinds Some
some_keeps m c e = ap is_group (sym (same_some m c e))

module _ (f : NodeMetadata → Option NodeMetadata) (kinds : KeepsKinds f) (of to : Path → Meaning) (b : Path)
    (over : (p : Path) → Reached (Means of) true b p → GoesOver f (of p) (to p)) where
  -- a group goes over into a group
  group_over : (q : Path) → Reached (Means of) true b q → HasGroup (Means of) q → HasGroup (Means to) q
  group_over q h (m, is, group) =
      let w = subst (λ x. GoesOver f x (to q)) is (over q h) in
      (w.0, w.2, subst IsTrue (sym (kinds m w.0 w.1)) group)

  -- what is a group then comes of a group
  group_back : (q : Path) → Reached (Means of) true b q → HasGroup (Means to) q → HasGroup (Means of) q
  group_back q h (c, is, group) = by (of q) refl (over q h)
    where
      by : (x : Meaning) → of q ≡ x → GoesOver f x (to q) → HasGroup (Means of) q
      by (node m) e w = (m, e, subst IsTrue (kinds m w.0 w.1) (subst (λ d. IsTrue (is_group d)) (same_node c w.0 (sym is ∙ w.2)) group))
      by nothing e w = let none : node c ≡ nothing = sym is ∙ w in cc
      by (bad x) e w = bad_is_no_node f x (to q) c w is

  -- what is reached is reached then
  reached_over : (p : Path) → Reached (Means of) true b p → Reached (Means to) true b p
  reached_over p h = record {
    below = h.below;
    between = λ q low up. let o = h.between q low up in (o.0, group_over q (reached_between (Means of) true b p h q low up) o.1);
  }

  -- what is reached then was reached, by the number of names
  reached_within : (k : ℕ) (p : Path) → length p ≤ k → Reached (Means to) true b p → Reached (Means of) true b p
  reached_within zero p short h = some_name b p (h.below.0, h.below.1, h.below.2) short
  reached_within (suc k) p short h = record {
    below = h.below;
    between = λ q low up.
        let o = h.between q low up in
        (o.0, group_back q (reached_within k q (shorter q p k up short) (reached_between (Means to) true b p h q low up)) o.1);
  }

  -- so it was
  reached_back : (p : Path) → Reached (Means to) true b p → Reached (Means of) true b p
  reached_back p h = let same : length p ≤ length p = omega arith in reached_within (length p) p same h

  -- the nodes are those under the map
  pub nodes_over : (e : Path × NodeMetadata) → Kept (Means to) true b e ↔ IsMapped f (Kept (Means of) true b) e
  nodes_over e = (
    λ h. let r = reached_back e.0 h.0 in back (of e.0) refl r h.1 (over e.0 r),
    λ w. let v = subst (λ x. GoesOver f x (to e.0)) w.1.1 (over e.0 w.1.0) in
        (reached_over e.0 w.1.0, v.2 ∙ ap node (same_some v.0 e.1 (sym v.1 ∙ w.2))),
  )
    where
      back : (x : Meaning) → of e.0 ≡ x → Reached (Means of) true b e.0 → to e.0 ≡ node e.1 → GoesOver f x (to e.0) → IsMapped f (Kept (Means of) true b) e
      back (node m) is r there w = (m, (r, is), w.1 ∙ ap Some (same_node w.0 e.1 (sym w.2 ∙ there)))
      back nothing is r there w = let none : node e.1 ≡ nothing = sym there ∙ w in cc
      back (bad x) is r there w = bad_is_no_node f x (to e.0) e.1 w there

  -- no document is bad where none was
  pub document_over : ((p : Path) (e : NodeCreateError) → Reached (Means of) true b p → of p ≡ bad e → ⊥) → (e : NodeCreateError) → HasBadDocument to true b e → ⊥
  document_over clean e (p, h, is) = let r = reached_back p h in by (of p) refl r (over p r)
    where
      by : (x : Meaning) → of p ≡ x → Reached (Means of) true b p → GoesOver f x (to p) → ⊥
      by (node m) at r w = let none : node w.0 ≡ bad e = sym w.2 ∙ is in cc
      by nothing at r w = let none : nothing ≡ bad e = sym w ∙ is in cc
      by (bad x) at r w = clean p x r at

  -- what is listed was listed
  pub listed_back : (g : Path) → IsListed to true b g → IsListed of true b g
  listed_back g h = ⊎_elim inl (λ w. let r = reached_back g w.0 in inr (r, (w.1.0, group_back g r w.1.1))) h

-- a listed path stands from the base on
pub stands : (S : Contents) (v : MetadataRetrieveVersion) (b g : Path) → IsListed (meaning S v) true b g → StandsFrom S v b g
stands S v b g h = ⊎_elim inl (λ w. inr w.0) h

-- a store shows what the other shows, under a map by which what b and the reached paths mean goes over
pub mapped_is_shown : MappedIsShown
mapped_is_shown f kinds S T v w b good over names = record {
  base = over b (inl refl);
  nodes = nodes_over f kinds (meaning S v) (meaning T w) b (λ p h. over p (inr h));
  clean = λ h. ⊎_elim
      (λ d. document_over f kinds (meaning S v) (meaning T w) b (λ p r. over p (inr r)) clean d.0 d.1)
      (λ d.
      let listed = listed_back f kinds (meaning S v) (meaning T w) b (λ p r. over p (inr r)) d.1.0 d.1.2 in
      let below = names d.0 (d.1.0, d.1.1, listed, d.1.3, d.1.4, d.1.5, d.1.6) in
      good (inr (d.0, (d.1.0, d.1.1, listed, d.1.3, subst (HasBelow S.values) d.1.5 below, d.1.5, d.1.6))))
      h;
}
  where
    clean : (p : Path) (e : NodeCreateError) → Reached (MeansNode S v) true b p → meaning S v p ≡ bad e → ⊥
    clean p e r is = good (inl (e, (p, r, is)))
