-- One turn of the walk, by what the calls of that turn answered.
use Rattle.std.proofs.Common.{◌≡◌, ℕ, ◌-◌, take, ◌⊎◌, inl, inr, ⊎_elim, Bool, Option, Some, None, Ok, true, true≢false, Less, ◌<◌, List, [], ◌∷◌, ◌++◌, reverse, sym, refl, ap, subst, ◌∙◌, append-nil, Contains}
use Rattle.std.proofs.lemmas.List.Elements.{Contains-push, Contains-append_cases}
use Rattle.zarrs_path.specs.Paths.{Path, IsPath, path_cmp}
use Rattle.zarrs_path.specs.Names.{IsName}
use Rattle.zarrs_path.proofs.NameLemmas.{name_one, name_head, periods_from}
use Rattle.zarrs_path.proofs.PathTexts.{IsPath-append, IsPath-parts}
use Rattle.zarrs_store.specs.Contents.{Contents, HasBelow, Lists}
use Rattle.zarrs_store.specs.Segments.{Segments, last_segment, IsSegment, IsPrefix}
use Rattle.zarrs_store.specs.Children.{IsVisibleChild, AreVisibleChildren}
use Rattle.zarrs_store.proofs.Below.{last_segment_is}
use Rattle.zarrs_store.proofs.ChildLemmas.{last_segment-child}
use Rattle.zarrs_meta.specs.Node.{is_group}
use Rattle.zarrs_meta.specs.declared.node.NodeMetadata.{NodeMetadata}
use Rattle.zarrs_config.specs.declared.version.MetadataRetrieveVersion.{MetadataRetrieveVersion}
use Rattle.zarrs_meaning.specs.declared.node_create_error.NodeCreateError.{NodeCreateError}
use Rattle.zarrs_meaning.specs.Meaning.{meaning, bad}
use Rattle.zarrs_meaning.specs.Refusals.{IsInvalidPath}
use Rattle.zarrs_meaning.specs.Refusals.{Finds}
use Rattle.zarrs_node.specs.Forest.{Forest, none, pairs, Shows}
use Rattle.zarrs_node.specs.StepsOfTrees.{own_node, paths_passed, is_group_found}
use Rattle.zarrs_node.specs.Nodes.{MeansNode, Nodes, Ignored, ShowsBad, IsListed, IsBadName}
use Rattle.zarrs_node.specs.Reach.{Opens}
use Rattle.zarrs_node.specs.Faults.{Faults}
use Rattle.zarrs_node.specs.declared.fault.NodeFault.{NodeFault}
use Rattle.zarrs_node.specs.declared.fault.NodeFault.TheVariants.{Name, Document}
use Rattle.zarrs_node.specs.StepsOfTheWalk.{IsPathAndOne, IsFaultOf}
use Rattle.zarrs_node.proofs.walk.Child.{IsNode, node_same}
use Rattle.zarrs_node.proofs.Unique.{Pair}
use Rattle.zarrs_node.proofs.walk.WalkEnds.{ahead, ahead_less}
use Rattle.zarrs_node.proofs.walk.SubtreesApart.{StandsBefore, stands_less, turned_in, all_pairs_last}
use Rattle.zarrs_node.proofs.walk.WalkSteps.{Walked, IsPending, name_less, walked_start, walked_reached, walked_attached, walked_open, walked_closed, walked_nothing, walked_fault, walked_shows, walked_ignores, walked_faults, PathFault}

-- the walk has come so far, and xs are the nodes that it told
pub record HasWalked (s : Contents) (v : MetadataRetrieveVersion) (r : Bool) (b : Path) (xs : List (Path × NodeMetadata)) (ig : List Path) (fs : List PathFault) (ps : List Path) : Type 0 where
  pub trees : Forest
  pub walk : Walked s v r b trees ig fs ps
  pub are : xs ≡ pairs trees

-- a path and one text more is a path where that text, its last, is a name
pub path_if_name : (p : Path) → IsPathAndOne p → IsName (last_segment p) → IsPath p
path_if_name p (q, n, valid, is) name = subst IsPath (sym is) (IsPath-append q (n ∷ []) valid (name_one n (subst IsName (ap last_segment is ∙ last_segment-child q n) name)))

-- and only there
pub name_if_path : (p : Path) → IsPathAndOne p → IsPath p → IsName (last_segment p)
name_if_path p (q, n, valid, is) path = subst IsName (sym (ap last_segment is ∙ last_segment-child q n)) (name_head n [] (IsPath-parts q (n ∷ []) (subst IsPath is path)).1)

-- nothing is left where the stack gives nothing
pub left_none : (len : ℕ) (ps qs : List Path) → ps ≡ qs ++ [] → qs ≡ take (len - 1) ps → len ≡ 0 → ps ≡ []
left_none len ps qs e f g = e ∙ append-nil qs ∙ f ∙ ap (λ n. take (n - 1) ps) g

module _ (s : Contents) (v : MetadataRetrieveVersion) (r : Bool) (b : Path) where
  -- before the first prefix is read
  pub has_started : IsPath b → (cs : List Segments) → AreVisibleChildren s.values b cs → (xs : List Pair) (ig : List Path) (fs : List PathFault) (ps : List Path) → xs ≡ [] → ig ≡ [] → fs ≡ [] → ps ≡ [] ++ reverse cs → HasWalked s v r b xs ig fs ps
  has_started valid cs h xs ig fs ps e f k g = rw (f, k, g) (record { trees = none; walk = walked_start s v r b valid cs h; are = e })

  module _ (xs : List Pair) (ig : List Path) (fs : List PathFault) (ps : List Path) (e : ps ≡ []) (h : HasWalked s v r b xs ig fs ps) where
    -- after the last nothing is ahead
    ended : Walked s v r b h.trees ig fs []
    ended = subst (Walked s v r b h.trees ig fs) e h.walk

    -- then the nodes were told
    pub has_shown : Shows h.trees b (Nodes s v r b)
    has_shown = walked_shows s v r b h.trees ig fs ended

    -- the list has the ignored paths
    pub has_ignored : Lists (Ignored s v r b) ig
    has_ignored = walked_ignores s v r b h.trees ig fs ended

    -- the list has what is bad
    pub has_faults : Lists (Faults s v r b) fs
    has_faults = walked_faults s v r b h.trees ig fs ended

  module _ (c : Path) (can_fail : Bool) (xs : List Pair) (ig : List Path) (fs : List PathFault) (ps : List Path) (ys : List Pair) (jg : List Path) (h : HasWalked s v r b xs ig fs (ps ++ c ∷ [])) where
    -- the nodes with one more
    one_more : (m : NodeMetadata) (f : Forest) → pairs f ≡ pairs h.trees ++ (c, m) ∷ [] → ys ≡ xs ++ (c, m) ∷ [] → ys ≡ pairs f
    one_more m f are e = e ∙ ap (λ zs. zs ++ (c, m) ∷ []) h.are ∙ sym are

    -- a turn at what was found, where the walk does not go on below it
    pub turn_alone : IsPath c → (o : Option NodeMetadata) → Finds can_fail (Ok o) (meaning s v c) → (r ≡ true → true ≡ is_group_found o → ⊥) → ys ≡ xs ++ own_node c o → jg ≡ ig ++ paths_passed c o [] → HasWalked s v r b ys jg fs ps
    turn_alone valid None means closed e f = subst (λ x. HasWalked s v r b ys x fs ps) (sym f) (record {
      trees = h.trees;
      walk = walked_nothing s v r b h.trees ig fs ps c h.walk valid means;
      are = e ∙ append-nil xs ∙ h.are;
    })
    turn_alone valid (Some m) means closed e f =
        let a = walked_attached s v r b h.trees ig fs ps c h.walk m in
        subst (λ x. HasWalked s v r b ys x fs ps) (sym (f ∙ append-nil ig)) (record {
          trees = a.whole;
          walk = walked_closed s v r b h.trees ig fs ps c h.walk valid m means a (λ o. closed o.0 (sym (ap is_group (node_same m o.1.0 (sym means ∙ o.1.1)) ∙ o.1.2)));
          are = one_more m a.whole a.are e;
        })

    -- a turn at a group below which it goes on
    pub turn_deeper : IsPath c → (o : Option NodeMetadata) → Finds can_fail (Ok o) (meaning s v c) → r ≡ true → true ≡ is_group_found o → (cs : List Segments) → AreVisibleChildren s.values c cs → (qs : List Path) → qs ≡ ps ++ reverse cs
        → ys ≡ xs ++ own_node c o → jg ≡ ig ++ paths_passed c o [] → HasWalked s v r b ys jg fs qs
    turn_deeper valid None means deep group cs children qs g e f = absurd (true≢false group)
    turn_deeper valid (Some m) means deep group cs children qs g e f =
        let a = walked_attached s v r b h.trees ig fs ps c h.walk m in
        subst (λ x. HasWalked s v r b ys x fs qs) (sym (f ∙ append-nil ig)) (subst (HasWalked s v r b ys ig fs) (sym g) (record {
          trees = a.whole;
          walk = walked_open s v r b h.trees ig fs ps c h.walk valid m means a cs children deep group;
          are = one_more m a.whole a.are e;
        }))

    -- the prefix that is read next
    next : IsPending s v r b h.trees c
    next = h.walk.pending c (Contains-push ps c)

    -- what stands above it is a path
    above_valid : IsPath b → IsPath next.parent
    above_valid valid = ⊎_elim (λ same. subst IsPath (sym same) valid)
        (λ o. let reached = (h.walk.nodes (next.parent, o.1) o.2).0 in subst IsPath (sym reached.below.2) (IsPath-append b (reached.below.0 ∷ reached.below.1) valid reached.below.3)) next.opened

    -- so it is a path and one segment more
    pub turn_above : IsPath b → IsPathAndOne c
    turn_above valid = (next.parent, next.name, above_valid valid, next.is)

    -- what stands above it is listed
    listed_above : IsListed (meaning s v) r b next.parent
    listed_above = ⊎_elim inl (λ o. let n = h.walk.nodes (next.parent, o.1) o.2 in inr (n.0, (o.0, (o.1, n.1, o.3)))) next.opened

    -- where it is no path its last name is made of periods
    bad_name : IsPath b → IsPrefix c → (IsPath c → ⊥) → IsBadName (meaning s v) (HasBelow s.values) r b c
    bad_name valid segments unnamed = (
      next.parent,
      next.name,
      listed_above,
      periods_from next.name segment next.visible
          (λ is_name. unnamed (subst IsPath (sym next.is) (IsPath-append next.parent (next.name ∷ []) (above_valid valid) (name_one next.name is_name)))),
      subst (HasBelow s.values) next.is next.below,
      next.is,
      segment.nonempty,
    )
      where
        segment : IsSegment next.name
        segment = last_segment_is next.parent next.name (subst IsPrefix next.is segments)

    -- what is its own fault is one on the way
    own_fault : (k : NodeFault) → IsPrefix c → IsFaultOf s v c k → Faults s v r b (c, k)
    own_fault Name segments unnamed = bad_name h.walk.valid segments unnamed
    own_fault (Document e) segments (path, means) = (walked_reached s v r b h.trees ig fs ps c h.walk path, means)

    -- below a fault the walk does not go on
    fault_closed : (k : NodeFault) → IsFaultOf s v c k → Opens (MeansNode s v) r c → IsPath c → ⊥
    fault_closed Name unnamed o path = unnamed path
    fault_closed (Document e) is o path = subst IsNode (sym o.1.1 ∙ is.1) tt

    -- it is a path or its name is bad
    fault_which : (k : NodeFault) → IsFaultOf s v c k → IsPath c ⊎ (k ≡ Name)
    fault_which Name unnamed = inr refl
    fault_which (Document e) is = inl is.0

    -- a turn at what is bad
    pub turn_fault : (k : NodeFault) → IsPrefix c → IsFaultOf s v c k → (gs : List PathFault) → gs ≡ fs ++ (c, k) ∷ [] → HasWalked s v r b xs ig gs ps
    turn_fault k segments is gs e = subst (λ x. HasWalked s v r b xs ig x ps) (sym e) (record {
      trees = h.trees;
      walk = walked_fault s v r b h.trees ig fs ps c h.walk k (own_fault k segments is) (fault_which k is) (fault_closed k is);
      are = h.are;
    })

    -- a refusal at a prefix is one at the base
    pub turn_refused : (e : NodeCreateError) → IsPath b → IsPrefix c → (IsInvalidPath c e × (IsPath c → ⊥)) ⊎ (IsPath c × (meaning s v c ≡ bad e)) → ShowsBad s v r b e
    turn_refused e valid segments why = ⊎_elim
        (λ name. inr (c, bad_name valid segments name.1, name.0))
        (λ doc. inl (c, walked_reached s v r b h.trees ig fs ps c h.walk doc.0, doc.1))
        why

    -- what was pending behind a prefix is after it
    behind : (q : Path) → Contains ps q → path_cmp c q ≡ Less
    behind q l = stands_less c q (all_pairs_last (λ x y. StandsBefore y x) ps c h.walk.order q l)

    -- a key stands below a prefix
    below : HasBelow s.values c
    below = next.below

    -- a turn without children leaves fewer beginnings of keys ahead
    pub falls_alone : (old qs : List Path) → old ≡ ps ++ c ∷ [] → qs ≡ ps → ahead s qs < ahead s old
    falls_alone old qs e f = subst (λ x. ahead s qs < ahead s x) (sym e) (subst (λ x. ahead s x < ahead s (ps ++ c ∷ [])) (sym f) (ahead_less s (ps ++ c ∷ []) ps c (Contains-push ps c) below behind))

    -- and so does a turn with children
    pub falls_deeper : (cs : List Segments) → AreVisibleChildren s.values c cs → (old qs : List Path) → old ≡ ps ++ c ∷ [] → qs ≡ ps ++ reverse cs → ahead s qs < ahead s old
    falls_deeper cs children old qs e f = subst (λ x. ahead s qs < ahead s x) (sym e) (subst (λ x. ahead s x < ahead s (ps ++ c ∷ [])) (sym f)
        (ahead_less s (ps ++ c ∷ []) (ps ++ reverse cs) c (Contains-push ps c) below
        (λ q l. ⊎_elim (behind q)
        (λ in'. let at = turned_in cs q in' in
        let child = subst (IsVisibleChild s.values c) at.2 (children.sound at.0 q at.1) in
        subst (λ x. path_cmp c x ≡ Less) (sym child.is) (name_less c child.name))
        (Contains-append_cases ps (reverse cs) q l))))
