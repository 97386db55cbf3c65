-- The walk over the nodes below a base, with the prefixes that are still to be read.
use Rattle.std.proofs.Common.{◌≡◌, ℕ, ◌⊎◌, inl, inr, ⊎_elim, Bool, true, List, [], ◌∷◌, ◌++◌, get_or, reverse, refl, sym, ap, subst, ◌∙◌, append_assoc, append-nil, arith, Contains, AllPairs, IsTrue, IsFalse, Less, true≢false}
use Rattle.std.proofs.lemmas.List.Elements.{Contains-push, Contains-append_left, Contains-append_right, Contains-append_cases, Contains-push_cases, Contains-get_or}
use Rattle.std.proofs.lemmas.List.Quantifiers.{all_pairs_push}
use Rattle.zarrs_path.specs.Paths.{Path, IsPath, path_cmp}
use Rattle.zarrs_path.specs.Names.{is_all_periods, is_reserved}
use Rattle.zarrs_path.proofs.NameLemmas.{IsName, name_head, name_one, name_not_reserved, not_periods}
use Rattle.zarrs_path.proofs.PathTexts.{IsPath-append, IsPath-parts}
use Rattle.zarrs_store.specs.Contents.{Contents, HasKey, HasBelow, Lists}
use Rattle.zarrs_store.specs.Segments.{Segments}
use Rattle.zarrs_store.specs.Children.{IsVisibleChild, AreVisibleChildren}
use Rattle.zarrs_meta.specs.Node.{is_group}
use Rattle.zarrs_meta.specs.declared.node.NodeMetadata.{NodeMetadata}
use Rattle.zarrs_config.specs.declared.version.MetadataRetrieveVersion.{MetadataRetrieveVersion}
use Rattle.zarrs_meaning.specs.Meaning.{Meaning, meaning, node, nothing, bad}
use Rattle.zarrs_node.specs.Reach.{Reached, Opens}
use Rattle.zarrs_node.specs.Forest.{Forest, none, pairs, IsPlaced, Shows}
use Rattle.zarrs_node.specs.Nodes.{MeansNode, Nodes, Ignored, Bad, IsListed}
use Rattle.zarrs_node.specs.Faults.{Faults, FaultsAscend, PathsAscend}
use Rattle.zarrs_node.specs.declared.fault.NodeFault.{NodeFault}
use Rattle.zarrs_node.specs.declared.fault.NodeFault.TheVariants.{Name, Document}
use Rattle.zarrs_meaning.specs.declared.node_create_error.NodeCreateError.{NodeCreateError}
use Rattle.zarrs_node.proofs.walk.Keys.{means_or_nothing, below_through}
use Rattle.zarrs_node.proofs.Reach.{Through, reached_first, reached_through, not_itself}
use Rattle.zarrs_node.proofs.blocks.Leads.{same_or_above}
use Rattle.zarrs_node.proofs.ListedItems.{all_pairs_append, lists_from}
use Rattle.zarrs_node.proofs.walk.Child.{IsNode, IsBad, node_same, not_open, not_reserved}
use Rattle.zarrs_node.proofs.Order.{below_less, pairs_ascend}
use Rattle.zarrs_node.proofs.Unique.{Pair, Lt, lt_irrefl, names_total, names_irrefl}
use Rattle.zarrs_node.proofs.walk.Attach.{Attached, attach_root, attach_below}
use Rattle.zarrs_node.proofs.walk.SubtreesApart.{StandsBefore, stands_less, stands_below, turned_in, in_turned, turned_pairs, all_pairs_last, all_pairs_front, children_stand}

-- a path and one name is after the path
pub name_less : (p : Path) (n : List ℕ) → path_cmp p (p ++ n ∷ []) ≡ Less
name_less p n = below_less p (p ++ n ∷ []) (record { name = n; rest = []; is = refl })

-- of a path and one name that are a path the name is one
pub name_of : (p q : Path) (n : List ℕ) → p ≡ q ++ n ∷ [] → IsPath p → IsName n
name_of p q n e h = name_head n [] (IsPath-parts q (n ∷ []) (subst IsPath e h)).1

-- a child of a reached group below which the way goes on is reached
pub reached_deeper : (N : Pair → Type 0) (r : Bool) (b g p : Path) (n : List ℕ) → Reached N r b g → Opens N r g → IsName n → p ≡ g ++ n ∷ [] → Reached N r b p
reached_deeper N r b g p n h o name e = record {
  below = (h.below.0, h.below.1 ++ n ∷ [], e ∙ ap (λ x. x ++ n ∷ []) h.below.2 ∙ append_assoc b (h.below.0 ∷ h.below.1) (n ∷ []), IsPath-append (h.below.0 ∷ h.below.1) (n ∷ []) h.below.3 (name_one n name));
  between = λ q low up. ⊎_elim (λ same. subst (Opens N r) (sym same) o) (λ above. h.between q low above) (same_or_above g q n up.0 up.1 (sym e ∙ up.2));
}

-- what is reached from a path is a path
pub reached_path : (N : Pair → Type 0) (r : Bool) (b p : Path) → IsPath b → Reached N r b p → IsPath p
reached_path N r b p valid h = subst IsPath (sym h.below.2) (IsPath-append b (h.below.0 ∷ h.below.1) valid h.below.3)

-- and from what it is reached is one
pub path_above : (N : Pair → Type 0) (r : Bool) (c p : Path) → Reached N r c p → IsPath p → IsPath c
path_above N r c p h valid = (IsPath-parts c (h.below.0 ∷ h.below.1) (subst IsPath h.below.2 valid)).0

-- a path does not end in a name of periods only
pub not_bad_name : (p g : Path) (n : List ℕ) → IsPath p → p ≡ g ++ n ∷ [] → IsTrue (is_all_periods n) → ⊥
not_bad_name p g n valid is periods = true≢false (sym periods ∙ not_periods n (name_of p g n is valid))

-- a path and what is bad there
abbrev pub PathFault : Type 0
PathFault = Path × NodeFault

-- the refusal of a meaning that is bad
abbrev refusal_or : NodeCreateError → Meaning → NodeCreateError
refusal_or d (node m) = d
refusal_or d nothing = d
refusal_or d (bad e) = e

-- one meaning is bad for one reason
pub bad_same : (d e : NodeCreateError) → bad d ≡ bad e → d ≡ e
bad_same d e is = ap (refusal_or d) is

-- nothing is bad where no fault is listed
pub nothing_bad : (s : Contents) (v : MetadataRetrieveVersion) (r : Bool) (b : Path) (fs : List PathFault) → Lists (Faults s v r b) fs → fs ≡ [] → Bad s v r b → ⊥
nothing_bad s v r b fs lists empty is_bad = elim is_bad as (λ _. ⊥) [
  | inl (e, (p, reached, means)) ↦ absurd (omega (arith, (subst (λ xs. Contains xs (p, Document e)) empty (lists.complete (p, Document e) (reached, means))).1))
  | inr (p, h) ↦ absurd (omega (arith, (subst (λ xs. Contains xs (p, Name)) empty (lists.complete (p, Name) h)).1))
]

module _ (s : Contents) (v : MetadataRetrieveVersion) (r : Bool) (b : Path) where
  -- the walk goes on below g: it is the base, or a group that was told
  abbrev pub IsOpened : Forest → Path → Type 0
  IsOpened f g = (g ≡ b) ⊎ (IsTrue r × (m : NodeMetadata) × Contains (pairs f) (g, m) × IsTrue (is_group m))

  -- q is a prefix that was discovered and is still to be read
  pub record IsPending (f : Forest) (q : Path) : Type 0 where
    pub parent : Path
    pub name : List ℕ
    pub is : q ≡ parent ++ name ∷ []
    pub opened : IsOpened f parent
    pub visible : IsFalse (is_reserved name)
    pub below : HasBelow s.values q

  -- p is what a prefix that is still to be read leads to
  abbrev pub IsAhead : List Path → Path → Type 0
  IsAhead ps p = (q : Path) × Contains ps q × Through (MeansNode s v) r q p

  -- p was told, or was passed over, or is bad
  abbrev pub IsDone : Forest → List Path → List PathFault → Path → Type 0
  IsDone f ig fs p = ((m : NodeMetadata) × Contains (pairs f) (p, m)) ⊎ Contains ig p ⊎ ((k : NodeFault) × Contains fs (p, k))

  -- a prefix that is still to be read is that of g and n, or leads to g, or the name was told
  abbrev pub IsNamed : List PathFault → List Path → Path → List ℕ → Type 0
  IsNamed fs ps g n = ((q : Path) × Contains ps q × ((q ≡ g ++ n ∷ []) ⊎ Through (MeansNode s v) r q g)) ⊎ Contains fs (g ++ n ∷ [], Name)

  -- the pairs of f were told, ig were passed over, fs are bad, and ps are still to be read, the last of them first
  pub record Walked (f : Forest) (ig : List Path) (fs : List PathFault) (ps : List Path) : Type 0 where
    pub valid : IsPath b
    pub placed : IsPlaced b f
    pub nodes : (e : Pair) → Contains (pairs f) e → Nodes s v r b e
    pub passed : (p : Path) → Contains ig p → Ignored s v r b p
    pub passed_ascend : PathsAscend ig
    pub faulted : (d : PathFault) → Contains fs d → Faults s v r b d
    pub faults_ascend : FaultsAscend fs
    pub pending : (q : Path) → Contains ps q → IsPending f q
    pub order : AllPairs (λ x y. StandsBefore y x) ps
    pub behind : (e : Pair) → Contains (pairs f) e → (q : Path) → Contains ps q → path_cmp e.0 q ≡ Less
    pub passed_behind : (p : Path) → Contains ig p → (q : Path) → Contains ps q → path_cmp p q ≡ Less
    pub faults_behind : (d : PathFault) → Contains fs d → (q : Path) → Contains ps q → path_cmp d.0 q ≡ Less
    pub covers : (p : Path) → Reached (MeansNode s v) r b p → HasBelow s.values p → IsDone f ig fs p ⊎ IsAhead ps p
    pub names : (g : Path) (n : List ℕ) → IsListed (meaning s v) r b g → IsTrue (is_all_periods n) → HasBelow s.values (g ++ n ∷ []) → IsNamed fs ps g n

  -- where a key stands below g and one name, one stands below g
  below_shorter : (g : Path) (n : List ℕ) → HasBelow s.values (g ++ n ∷ []) → HasBelow s.values g
  below_shorter g n (m, ms, there) = (n, m ∷ ms, subst (HasKey s.values) (append_assoc g (n ∷ []) (m ∷ ms)) there)

  -- a reached path that is listed is one below which the listing goes on
  listed_opens : (g : Path) → Reached (MeansNode s v) r b g → IsListed (meaning s v) r b g → Opens (MeansNode s v) r g
  listed_opens g reached listed = ⊎_elim (λ same. absurd (not_itself (MeansNode s v) r b (subst (Reached (MeansNode s v) r b) same reached))) (λ h. h.1) listed

  -- ---- the children of one prefix

  module _ (g : Path) (cs : List Segments) (h : AreVisibleChildren s.values g cs) where
    -- a name below g that is visible and has a key below it is discovered
    child_there : (n : List ℕ) → IsFalse (is_reserved n) → HasBelow s.values (g ++ n ∷ []) → Contains (reverse cs) (g ++ n ∷ [])
    child_there n visible (next, rest, held) =
        in_turned cs (g ++ n ∷ []) (h.complete (g ++ n ∷ []) (record { name = n; is = refl; has = record { next = next; rest = rest; held = subst (HasKey s.values) (append_assoc g (n ∷ []) (next ∷ rest)) held }; visible = visible }))

    -- what is reached below g and has a key below it is ahead of a child
    child_ahead : (p : Path) → Reached (MeansNode s v) r g p → HasBelow s.values p → IsAhead (reverse cs) p
    child_ahead p reached below =
        let (n, name, t) = reached_first (MeansNode s v) r g p reached in
        (g ++ n ∷ [], child_there n (name_not_reserved n name) (below_through s v r (g ++ n ∷ []) p t below), t)

    -- a child is pending where the walk goes on below g
    child_pending : (f : Forest) → IsOpened f g → (q : Path) → Contains (reverse cs) q → IsPending f q × ((n : List ℕ) × (q ≡ g ++ n ∷ []))
    child_pending f opened q in' =
        let at = turned_in cs q in' in
        let c = subst (IsVisibleChild s.values g) at.2 (h.sound at.0 q at.1) in (
          record {
            parent = g;
            name = c.name;
            is = c.is;
            opened = opened;
            visible = c.visible;
            below = (c.has.next, c.has.rest, subst (HasKey s.values) (sym (append_assoc g (c.name ∷ []) (c.has.next ∷ c.has.rest)) ∙ ap (λ x. x ++ c.has.next ∷ c.has.rest) (sym c.is)) c.has.held);
          },
          (c.name, c.is),
        )

  -- before the first prefix is read the children of the base are ahead
  pub walked_start : IsPath b → (cs : List Segments) → AreVisibleChildren s.values b cs → Walked none [] [] (reverse cs)
  walked_start valid cs h = record {
    valid = valid;
    placed = tt;
    nodes = λ e l. absurd (omega (arith, l.1));
    passed = λ p l. absurd (omega (arith, l.1));
    passed_ascend = λ i j d l m. absurd (omega (arith, m));
    faulted = λ d l. absurd (omega (arith, l.1));
    faults_ascend = λ i j d l m. absurd (omega (arith, m));
    pending = λ q l. (child_pending b cs h none (inl refl) q l).0;
    order = turned_pairs StandsBefore cs (children_stand s b cs h);
    behind = λ e l q m. absurd (omega (arith, l.1));
    passed_behind = λ p l q m. absurd (omega (arith, l.1));
    faults_behind = λ d l q m. absurd (omega (arith, l.1));
    covers = λ p reached below. inr (child_ahead b cs h p reached below);
    names = λ g n listed periods below. inl (⊎_elim
        (λ same. (g ++ n ∷ [], subst (λ x. Contains (reverse cs) (x ++ n ∷ [])) (sym same) (child_there b cs h n (not_reserved n periods) (subst (λ x. HasBelow s.values (x ++ n ∷ [])) same below)), inl refl))
        (λ deep. let a = child_ahead b cs h g deep.0 (below_shorter g n below) in (a.0, a.1, inr a.2))
        listed);
  }

  -- after the last prefix the forest shows the nodes
  module _ (f : Forest) (ig : List Path) (fs : List PathFault) (w : Walked f ig fs []) where
    -- what is reached and has a key below it is told, or passed over, or bad
    done : (p : Path) → Reached (MeansNode s v) r b p → (meaning s v p ≡ nothing → ⊥) → ((m : NodeMetadata) × Contains (pairs f) (p, m)) ⊎ ((k : NodeFault) × Contains fs (p, k))
    done p reached something = ⊎_elim
        (⊎_elim inl (⊎_elim (λ l. absurd (something (w.passed p l).1)) inr))
        (λ a. absurd (omega (arith, a.1.1)))
        (w.covers p reached (⊎_elim (λ below. below) (λ e. absurd (something e)) (means_or_nothing s v p)))

    -- a reached path that is bad means that
    fault_means : (p : Path) (k : NodeFault) → Reached (MeansNode s v) r b p → Faults s v r b (p, k) → (e : NodeCreateError) × (meaning s v p ≡ bad e) × (k ≡ Document e)
    fault_means p Name reached (g, n, listed, periods, below, is, some) = absurd (not_bad_name p g n (reached_path (MeansNode s v) r b p w.valid reached) is periods)
    fault_means p (Document e) reached h = (e, h.1, refl)

    -- what means a node is told
    told_node : (p : Path) (m : NodeMetadata) → Reached (MeansNode s v) r b p → meaning s v p ≡ node m → Contains (pairs f) (p, m)
    told_node p m reached means = ⊎_elim
        (λ t. subst (λ x. Contains (pairs f) (p, x)) (node_same t.0 m (sym (w.nodes (p, t.0) t.1).1 ∙ means)) t.1)
        (λ d. let k = fault_means p d.0 reached (w.faulted (p, d.0) d.1) in absurd (subst IsNode (sym means ∙ k.1) tt))
        (done p reached (λ n. subst IsNode (sym means ∙ n) tt))

    pub walked_shows : Shows f b (Nodes s v r b)
    walked_shows = record {
      shown = lists_from (pairs f) (λ e. (w.nodes e, λ h. told_node e.0 e.1 h.0 h.1))
          (λ i j d l m same. lt_irrefl (get_or (pairs f) j d) (subst (λ x. Lt x (get_or (pairs f) j d)) same (pairs_ascend b f w.placed i j d l m)));
      placed = w.placed;
    }

    -- the list has the ignored paths
    pub walked_ignores : Lists (Ignored s v r b) ig
    walked_ignores = lists_from ig (λ p. (
      w.passed p,
      λ h. ⊎_elim
          (⊎_elim
          (λ t. absurd (subst IsNode (sym (w.nodes (p, t.0) t.1).1 ∙ h.1) tt))
          (⊎_elim (λ l. l) (λ d. let k = fault_means p d.0 h.0 (w.faulted (p, d.0) d.1) in absurd (subst IsBad (sym k.1 ∙ h.1) tt))))
          (λ a. absurd (omega (arith, a.1.1)))
          (w.covers p h.0 h.2),
    ))
        (λ i j d l m same. names_irrefl (get_or ig j d) (subst (λ x. path_cmp x (get_or ig j d) ≡ Less) same (w.passed_ascend i j d l m)))

    -- what is bad is told
    told_fault : (p : Path) (k : NodeFault) → Faults s v r b (p, k) → Contains fs (p, k)
    told_fault p Name (g, n, listed, periods, below, is, some) = ⊎_elim
        (λ a. absurd (omega (arith, a.1.1)))
        (λ told. subst (λ x. Contains fs (x, Name)) (sym is) told)
        (w.names g n listed periods below)
    told_fault p (Document e) (reached, means) = ⊎_elim
        (λ t. absurd (subst IsBad (sym means ∙ (w.nodes (p, t.0) t.1).1) tt))
        (λ d. let k = fault_means p d.0 reached (w.faulted (p, d.0) d.1) in
        subst (λ x. Contains fs (p, x)) (k.2 ∙ ap Document (bad_same k.0 e (sym k.1 ∙ means))) d.1)
        (done p reached (λ n. subst IsBad (sym means ∙ n) tt))

    -- the list has what is bad
    pub walked_faults : Lists (Faults s v r b) fs
    walked_faults = lists_from fs (λ d. (w.faulted d, λ h. told_fault d.0 d.1 h))
        (λ i j d l m same. names_irrefl (get_or fs j d).0 (subst (λ x. path_cmp x.0 (get_or fs j d).0 ≡ Less) same (w.faults_ascend i j d l m)))

  -- the prefix c, which is read next
  module _ (f : Forest) (ig : List Path) (fs : List PathFault) (ps : List Path) (c : Path) (w : Walked f ig fs (ps ++ c ∷ [])) where
    -- it is pending
    at_hand : IsPending f c
    at_hand = w.pending c (Contains-push ps c)

    -- its name is one where it is a path
    named : IsPath c → IsName at_hand.name
    named valid = name_of c at_hand.parent at_hand.name at_hand.is valid

    -- then it is reached
    pub walked_reached : IsPath c → Reached (MeansNode s v) r b c
    walked_reached valid = ⊎_elim
        (λ same. reached_through (MeansNode s v) r b c at_hand.name (named valid) (inl (at_hand.is ∙ ap (λ x. x ++ at_hand.name ∷ []) same)))
        (λ o. let e = w.nodes (at_hand.parent, o.1) o.2 in reached_deeper (MeansNode s v) r b at_hand.parent c at_hand.name e.0 (o.0, (o.1, e.1, o.3)) (named valid) at_hand.is)
        at_hand.opened

    -- a listed path from which c leads to it is reached from a path
    listed_path : (g : Path) → IsListed (meaning s v) r b g → IsPath g
    listed_path g listed = ⊎_elim (λ same. subst IsPath (sym same) w.valid) (λ h. reached_path (MeansNode s v) r b g w.valid h.0) listed

    -- where c itself is listed, the way goes on below it
    listed_here : IsListed (meaning s v) r b c → Opens (MeansNode s v) r c
    listed_here listed = listed_opens c (walked_reached (listed_path c listed)) listed

    -- what was told is before it
    told_before : (e : Pair) → Contains (pairs f) e → path_cmp e.0 c ≡ Less
    told_before e l = w.behind e l c (Contains-push ps c)

    -- it stands before all that is pending behind it
    stands : (q : Path) → Contains ps q → StandsBefore c q
    stands q l = all_pairs_last (λ x y. StandsBefore y x) ps c w.order q l

    -- the forest with the pair of c and m behind its pairs
    pub walked_attached : (m : NodeMetadata) → Attached b f c m
    walked_attached m = ⊎_elim
        (λ same. attach_root b f c m w.placed told_before (at_hand.name, at_hand.is ∙ ap (λ x. x ++ at_hand.name ∷ []) same))
        (λ o. attach_below b f c m w.placed told_before (at_hand.parent, o.1) o.2 o.3 (at_hand.name, at_hand.is))
        at_hand.opened

    -- a turn: c is told, or passed over, or bad, and ks are its children where the walk goes on below it
    module _ (f' : Forest) (ig' : List Path) (fs' : List PathFault) (ks : List Path)
        (placed : IsPlaced b f')
        (old : (e : Pair) → Contains (pairs f') e → Contains (pairs f) e ⊎ ((e.0 ≡ c) × Nodes s v r b e))
        (kept : (e : Pair) → Contains (pairs f) e → Contains (pairs f') e)
        (old_passed : (p : Path) → Contains ig' p → Contains ig p ⊎ ((p ≡ c) × Ignored s v r b p))
        (kept_passed : (p : Path) → Contains ig p → Contains ig' p)
        (passed_ascend : PathsAscend ig')
        (old_faults : (d : PathFault) → Contains fs' d → Contains fs d ⊎ ((d.0 ≡ c) × Faults s v r b d))
        (kept_faults : (d : PathFault) → Contains fs d → Contains fs' d)
        (faults_ascend : FaultsAscend fs')
        (now_done : IsPath c → IsDone f' ig' fs' c)
        (now_named : IsPath c ⊎ Contains fs' (c, Name))
        (children : (q : Path) → Contains ks q → IsPending f' q × ((n : List ℕ) × (q ≡ c ++ n ∷ [])))
        (stand : AllPairs (λ x y. StandsBefore y x) ks)
        (deeper : IsPath c → Opens (MeansNode s v) r c → (p : Path) → Reached (MeansNode s v) r c p → HasBelow s.values p → IsAhead ks p)
        (periods_there : IsPath c → Opens (MeansNode s v) r c → (n : List ℕ) → IsTrue (is_all_periods n) → HasBelow s.values (c ++ n ∷ []) → Contains ks (c ++ n ∷ [])) where
      -- what was pending still is
      still : (q : Path) → IsPending f q → IsPending f' q
      still q h = record {
        parent = h.parent;
        name = h.name;
        is = h.is;
        opened = ⊎_elim inl (λ o. inr (o.0, o.1, kept (h.parent, o.1) o.2, o.3)) h.opened;
        visible = h.visible;
        below = h.below;
      }

      -- what is before c, or is c, is before all that is pending now
      ahead_of : (x : Path) → (path_cmp x c ≡ Less) ⊎ (x ≡ c) → (q : Path) → Contains (ps ++ ks) q → path_cmp x q ≡ Less
      ahead_of x at q l =
          let next : path_cmp c q ≡ Less = ⊎_elim
          (λ in'. stands_less c q (stands q in'))
          (λ in'. let k = (children q in').1 in subst (λ y. path_cmp c y ≡ Less) (sym k.1) (name_less c k.0))
          (Contains-append_cases ps ks q l) in
          ⊎_elim (λ less. names_total.trans x c q less next) (λ same. subst (λ y. path_cmp y q ≡ Less) (sym same) next) at

      -- what leads below c leads to it by a child of c
      deeper_ahead : (p q : Path) → IsPath p → HasBelow s.values p → c ≡ q → Opens (MeansNode s v) r q × Reached (MeansNode s v) r q p → IsAhead (ps ++ ks) p
      deeper_ahead p q path below same d =
          let reached = subst (λ x. Reached (MeansNode s v) r x p) (sym same) d.1 in
          let a = deeper (path_above (MeansNode s v) r c p reached path) (subst (Opens (MeansNode s v) r) (sym same) d.0) p reached below in
          (a.0, Contains-append_right ps ks a.0 a.1, a.2)

      -- what was ahead is done or still ahead
      ahead_still : (p : Path) → IsPath p → HasBelow s.values p → IsAhead (ps ++ c ∷ []) p → IsDone f' ig' fs' p ⊎ IsAhead (ps ++ ks) p
      ahead_still p path below (q, l, t) = ⊎_elim
          (λ in'. inr (q, Contains-append_left ps ks q in', t))
          (λ same. ⊎_elim
          (λ e. inl (subst (IsDone f' ig' fs') (sym (e ∙ sym same)) (now_done (subst IsPath (e ∙ sym same) path))))
          (λ d. inr (deeper_ahead p q path below same d))
          t)
          (Contains-push_cases ps c q l)

      -- where a name of periods goes on below g, a prefix still leads to it, or it was told
      names_still : (g : Path) (n : List ℕ) → IsListed (meaning s v) r b g → IsTrue (is_all_periods n) → HasBelow s.values (g ++ n ∷ []) → IsNamed fs' (ps ++ ks) g n
      names_still g n listed periods below = ⊎_elim
          (λ x. let (q, l, at) = x in ⊎_elim
          (λ in'. inl (q, Contains-append_left ps ks q in', at))
          (λ same. ⊎_elim
          (λ e. ⊎_elim
          (λ path. absurd (not_bad_name c g n path (same ∙ e) periods))
          (λ told. inr (subst (λ x. Contains fs' (x, Name)) (same ∙ e) told))
          now_named)
          (λ t. ⊎_elim
          (λ e. let here = subst (IsListed (meaning s v) r b) (e ∙ sym same) listed in
          let there = periods_there (listed_path c here) (listed_here here) n periods (subst (λ x. HasBelow s.values (x ++ n ∷ [])) (e ∙ sym same) below) in
          inl (c ++ n ∷ [], Contains-append_right ps ks (c ++ n ∷ []) there, inl (ap (λ x. x ++ n ∷ []) (same ∙ sym e))))
          (λ d. let a = deeper_ahead g q (listed_path g listed) (below_shorter g n below) same d in inl (a.0, a.1, inr a.2))
          t)
          at)
          (Contains-push_cases ps c q l))
          (λ told. inr (kept_faults (g ++ n ∷ [], Name) told))
          (w.names g n listed periods below)

      pub walked_turn : Walked f' ig' fs' (ps ++ ks)
      walked_turn = record {
        valid = w.valid;
        placed = placed;
        nodes = λ e l. ⊎_elim (w.nodes e) (λ h. h.1) (old e l);
        passed = λ p l. ⊎_elim (w.passed p) (λ h. h.1) (old_passed p l);
        passed_ascend = passed_ascend;
        faulted = λ d l. ⊎_elim (w.faulted d) (λ h. h.1) (old_faults d l);
        faults_ascend = faults_ascend;
        pending = λ q l. ⊎_elim (λ in'. still q (w.pending q (Contains-append_left ps (c ∷ []) q in'))) (λ in'. (children q in').0) (Contains-append_cases ps ks q l);
        order = all_pairs_append (λ x y. StandsBefore y x) ps ks (all_pairs_front (λ x y. StandsBefore y x) ps c w.order) stand
            (λ x y hx hy. let k = (children y hy).1 in subst (λ z. StandsBefore z x) (sym k.1) (stands_below c x (k.0 ∷ []) (stands x hx)));
        behind = λ e l q m. ahead_of e.0 (⊎_elim (λ in'. inl (told_before e in')) (λ h. inr h.0) (old e l)) q m;
        passed_behind = λ p l q m. ahead_of p (⊎_elim (λ in'. inl (w.passed_behind p in' c (Contains-push ps c))) (λ h. inr h.0) (old_passed p l)) q m;
        faults_behind = λ d l q m. ahead_of d.0 (⊎_elim (λ in'. inl (w.faults_behind d in' c (Contains-push ps c))) (λ h. inr h.0) (old_faults d l)) q m;
        covers = λ p reached below. ⊎_elim
            (λ d. inl (⊎_elim (λ t. inl (t.0, kept (p, t.0) t.1)) (⊎_elim (λ l. inr (inl (kept_passed p l))) (λ k. inr (inr (k.0, kept_faults (p, k.0) k.1)))) d))
            (ahead_still p (reached_path (MeansNode s v) r b p w.valid reached) below)
            (w.covers p reached below);
        names = names_still;
      }

    -- a turn at a fault of c
    pub walked_fault : (k : NodeFault) → Faults s v r b (c, k) → IsPath c ⊎ (k ≡ Name) → (Opens (MeansNode s v) r c → IsPath c → ⊥) → Walked f ig (fs ++ (c, k) ∷ []) ps
    walked_fault k is which closed = subst (Walked f ig (fs ++ (c, k) ∷ [])) (append-nil ps)
        (walked_turn f ig (fs ++ (c, k) ∷ []) [] w.placed (λ e l. inl l) (λ e l. l) (λ p l. inl l) (λ p l. l) w.passed_ascend
        (λ d l. ⊎_elim inl (λ same. inr (ap (λ (x : PathFault). x.0) (sym same), subst (Faults s v r b) same is)) (Contains-push_cases fs (c, k) d l))
        (λ d l. Contains-append_left fs ((c, k) ∷ []) d l)
        (all_pairs_push (λ (x y : PathFault). path_cmp x.0 y.0 ≡ Less) fs (c, k) w.faults_ascend (λ i d lt. w.faults_behind (get_or fs i d) (Contains-get_or fs i d lt) c (Contains-push ps c)))
        (λ path. inr (inr (k, Contains-push fs (c, k))))
        (⊎_elim inl (λ name. inr (subst (λ x. Contains (fs ++ (c, k) ∷ []) (c, x)) name (Contains-push fs (c, k)))) which)
        (λ q l. absurd (omega (arith, l.1)))
        (λ i j d l m. absurd (omega (arith, m)))
        (λ path o p reached below. absurd (closed o path))
        (λ path o n periods below. absurd (closed o path)))

    -- what each turn at a node shares: c is told
    module _ (valid : IsPath c) (m : NodeMetadata) (means : meaning s v c ≡ node m) (a : Attached b f c m) where
      -- what is told is what was, and c
      node_old : (e : Pair) → Contains (pairs a.whole) e → Contains (pairs f) e ⊎ ((e.0 ≡ c) × Nodes s v r b e)
      node_old e l = ⊎_elim inl
          (λ same. inr (ap (λ (x : Pair). x.0) (sym same), subst (Nodes s v r b) same (walked_reached valid, means)))
          (Contains-push_cases (pairs f) (c, m) e (subst (λ ys. Contains ys e) a.are l))

      -- what was told is
      node_kept : (e : Pair) → Contains (pairs f) e → Contains (pairs a.whole) e
      node_kept e l = subst (λ ys. Contains ys e) (sym a.are) (Contains-append_left (pairs f) ((c, m) ∷ []) e l)

      -- c is told
      node_told : Contains (pairs a.whole) (c, m)
      node_told = subst (λ ys. Contains ys (c, m)) (sym a.are) (Contains-push (pairs f) (c, m))

      -- a turn at a group below which the walk goes on
      pub walked_open : (cs : List Segments) → AreVisibleChildren s.values c cs → r ≡ true → true ≡ is_group m → Walked a.whole ig fs (ps ++ reverse cs)
      walked_open cs h deep group =
          walked_turn a.whole ig fs (reverse cs) a.placed node_old node_kept (λ p l. inl l) (λ p l. l) w.passed_ascend (λ d l. inl l) (λ d l. l) w.faults_ascend (λ path. inl (m, node_told)) (inl valid)
          (child_pending c cs h a.whole (inr (deep, m, node_told, sym group)))
          (turned_pairs StandsBefore cs (children_stand s c cs h))
          (λ path o p reached below. child_ahead c cs h p reached below)
          (λ path o n periods below. child_there c cs h n (not_reserved n periods) below)

      -- a turn at a node below which it does not go on
      pub walked_closed : (Opens (MeansNode s v) r c → ⊥) → Walked a.whole ig fs ps
      walked_closed closed = subst (Walked a.whole ig fs) (append-nil ps)
          (walked_turn a.whole ig fs [] a.placed node_old node_kept (λ p l. inl l) (λ p l. l) w.passed_ascend (λ d l. inl l) (λ d l. l) w.faults_ascend (λ path. inl (m, node_told)) (inl valid)
          (λ q l. absurd (omega (arith, l.1)))
          (λ i j d l k. absurd (omega (arith, k)))
          (λ path o p reached below. absurd (closed o))
          (λ path o n periods below. absurd (closed o)))

    -- a turn at what means nothing
    pub walked_nothing : IsPath c → meaning s v c ≡ nothing → Walked f (ig ++ c ∷ []) fs ps
    walked_nothing valid means = subst (Walked f (ig ++ c ∷ []) fs) (append-nil ps)
        (walked_turn f (ig ++ c ∷ []) fs [] w.placed (λ e l. inl l) (λ e l. l)
        (λ p l. ⊎_elim inl (λ same. inr (sym same, subst (Ignored s v r b) same (walked_reached valid, means, at_hand.below))) (Contains-push_cases ig c p l))
        (λ p l. Contains-append_left ig (c ∷ []) p l)
        (all_pairs_push (λ x y. path_cmp x y ≡ Less) ig c w.passed_ascend (λ k d lt. w.passed_behind (get_or ig k d) (Contains-get_or ig k d lt) c (Contains-push ps c)))
        (λ d l. inl l)
        (λ d l. l)
        w.faults_ascend
        (λ path. inr (inl (Contains-push ig c)))
        (inl valid)
        (λ q l. absurd (omega (arith, l.1)))
        (λ i j d l k. absurd (omega (arith, k)))
        (λ path o p reached below. absurd (not_open s v r c means o))
        (λ path o n periods below. absurd (not_open s v r c means o)))
