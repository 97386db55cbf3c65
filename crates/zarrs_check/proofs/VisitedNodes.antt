-- What a check tells of nodes in the order of their paths is what there is to tell of them, each once.
use Rattle.std.proofs.Common.{◌≡◌, ◌≢◌, ◌↔◌, inl, inr, ⊎_elim, Bool, List, [], ◌∷◌, ◌++◌, get_or, refl, sym, ap, subst, ◌∙◌, arith, append-nil, append_assoc, Contains, AllPairs, Less, Ok, map, true}
use Rattle.std.proofs.lemmas.List.Elements.{Contains-append_cases, Contains-append_left, Contains-append_right, Contains-get_or}
use Rattle.std.proofs.lemmas.List.Kept.{AllPairs-cons}
use Rattle.zarrs_store.specs.Contents.{Contents, Lists}
use Rattle.zarrs_path.specs.Paths.{Path, path_cmp}
use Rattle.zarrs_meta.specs.declared.node.NodeMetadata.{NodeMetadata}
use Rattle.zarrs_config.specs.declared.version.MetadataRetrieveVersion.{MetadataRetrieveVersion}
use Rattle.zarrs_node.specs.Faults.{PathsAscend}
use Rattle.zarrs_node.specs.Forest.{pairs}
use Rattle.zarrs_node.specs.Nodes.{Nodes}
use Rattle.zarrs_node.specs.Order.{Ascend}
use Rattle.zarrs_node.specs.Sinks.{TakesAll, TakesForest}
use Rattle.zarrs_node.proofs.FlatForests.{contains_map, contains_mapped}
use Rattle.zarrs_node.proofs.walk.SinkSteps.{took_more}
use Rattle.zarrs_node.proofs.ListedItems.{all_pairs_append, all_pairs_first, all_pairs_tail, lists_from}
use Rattle.zarrs_node.proofs.ForestsBeside.{Contains-first, Contains-cons}
use Rattle.zarrs_node.proofs.Order.{contains_cases}
use Rattle.zarrs_node.proofs.Unique.{names_irrefl}
use Rattle.zarrs_notes.specs.NodeFindings.{AreNodeFindings, ComesBefore, IsNodeFinding}
use Rattle.zarrs_notes.specs.declared.finding.NodeFinding.{NodeFinding}
use Rattle.zarrs_notes.proofs.Parts.{not_before_itself}
use Rattle.zarrs_check.specs.declared.base.Base.{Base}
use Rattle.zarrs_check.specs.Checks.{HasNode, HasNodeAt, IsNodeTold, IsToldBefore}
use Rattle.zarrs_meaning.specs.Meaning.{Pair}
use Rattle.zarrs_check.specs.StepsOfTaking.{Takes, base_nodes}
use Rattle.zarrs_check.specs.StepsOfVisits.{TakesVisit, named_findings}
use Rattle.zarrs_check.specs.Surveys.{IsBase}
use Rattle.zarrs_check.specs.declared.visits.Visits.{Visits}
use Rattle.zarrs_check.proofs.TakenNodes.{all_ascend, each_node}

-- what is told of a node, with its path
abbrev Told : Type 0
Told = Path × NodeFinding

-- ---- of one node

-- what is told with a path is told with that path
named_in : (p : Path) (fs : List NodeFinding) (t : Told) → Contains (named_findings p fs) t → (f : NodeFinding) × Contains fs f × (t ≡ (p, f))
named_in p [] t h = absurd (omega (arith, h.1))
named_in p (f ∷ fs) t h = ⊎_elim
    (λ same. (f, Contains-first f fs, sym same))
    (λ later. let w = named_in p fs t later in (w.0, Contains-cons f fs w.0 w.1, w.2))
    (contains_cases (p, f) (named_findings p fs) t h)

-- and all that there is to tell is told with it
named_out : (p : Path) (fs : List NodeFinding) (f : NodeFinding) → Contains fs f → Contains (named_findings p fs) (p, f)
named_out p [] f h = absurd (omega (arith, h.1))
named_out p (g ∷ fs) f h = ⊎_elim
    (λ same. subst (λ x. Contains ((p, g) ∷ named_findings p fs) (p, x)) same (Contains-first (p, g) (named_findings p fs)))
    (λ later. Contains-cons (p, g) (named_findings p fs) (p, f) (named_out p fs f later))
    (contains_cases g fs f h)

-- it stands in its order
named_ascend : (p : Path) (fs : List NodeFinding) → AllPairs ComesBefore fs → AllPairs IsToldBefore (named_findings p fs)
named_ascend p [] up = λ i j d l m. absurd (omega (arith, m))
named_ascend p (f ∷ fs) up = AllPairs-cons IsToldBefore (p, f) (named_findings p fs)
    (λ i d l.
    let w = named_in p fs (get_or (named_findings p fs) i d) (Contains-get_or (named_findings p fs) i d l) in
    subst (IsToldBefore (p, f)) (sym w.2) (inr (refl, all_pairs_first ComesBefore f fs up w.0 w.1)))
    (named_ascend p fs (all_pairs_tail ComesBefore f fs up))

-- ---- of nodes, one after another

-- what is told is exactly what there is to tell of these nodes, in the order of their paths
pub record TellsOf (s : Contents) (es : List Pair) (ts : List Told) : Type 0 where
  pub exact : (t : Told) → Contains ts t ↔ ((m : NodeMetadata) × Contains es (t.0, m) × IsNodeFinding s t.0 m t.1)
  pub ascend : AllPairs IsToldBefore ts

-- of no node nothing is told
tells_none : (s : Contents) → TellsOf s [] []
tells_none s = record {
  exact = λ t. (λ h. absurd (omega (arith, h.1)), λ h. absurd (omega (arith, h.1.1)));
  ascend = λ i j d l m. absurd (omega (arith, m));
}

-- of one node more, before others
module _ (s : Contents) (e : Pair) (es : List Pair) (found : List NodeFinding) (own : AreNodeFindings s e.0 e.1 found) (ts : List Told) (rest : TellsOf s es ts) where
  -- what there is to tell of the nodes
  abbrev OfNodes : Told → Type 0
  OfNodes t = (m : NodeMetadata) × Contains (e ∷ es) (t.0, m) × IsNodeFinding s t.0 m t.1

  -- what is told of the first node there is to tell of the nodes
  own_in : (t : Told) → Contains (named_findings e.0 found) t → OfNodes t
  own_in t h = let w = named_in e.0 found t h in subst OfNodes (sym w.2) (e.1, Contains-first e es, (own.exact w.0).0 w.1)

  -- what is told of the others there is to tell of the nodes
  rest_in : (t : Told) → Contains ts t → OfNodes t
  rest_in t h = let w = (rest.exact t).0 h in (w.0, Contains-cons e es (t.0, w.0) w.1, w.2)

  -- what there is to tell of the nodes is told of the first or of the others
  all_out : (t : Told) → OfNodes t → Contains (named_findings e.0 found ++ ts) t
  all_out t h = ⊎_elim
      (λ same.
      let is : IsNodeFinding s e.0 e.1 t.1 = subst (λ (x : Pair). IsNodeFinding s x.0 x.1 t.1) (sym same) h.2 in
      let at : e.0 ≡ t.0 = ap (λ (x : Pair). x.0) same in
      Contains-append_left (named_findings e.0 found) ts t (subst (λ p. Contains (named_findings e.0 found) (p, t.1)) at (named_out e.0 found t.1 ((own.exact t.1).1 is))))
      (λ later. Contains-append_right (named_findings e.0 found) ts t ((rest.exact t).1 (h.0, later, h.2)))
      (contains_cases e es (t.0, h.0) h.1)

  -- what is told of the first node, and then of the others, is what there is to tell of the nodes
  tells_more : Ascend (e ∷ es) → TellsOf s (e ∷ es) (named_findings e.0 found ++ ts)
  tells_more up = record {
    exact = λ t. (λ h. ⊎_elim (own_in t) (rest_in t) (Contains-append_cases (named_findings e.0 found) ts t h), all_out t);
    ascend = all_pairs_append IsToldBefore (named_findings e.0 found) ts (named_ascend e.0 found own.ascend) rest.ascend
        (λ t u ht hu.
        let w = named_in e.0 found t ht in
        let x = (rest.exact u).0 hu in
        subst (λ y. IsToldBefore y u) (sym w.2) (inl (all_pairs_first (λ (d y : Pair). path_cmp d.0 y.0 ≡ Less) e es up (u.0, x.0) x.1)));
  }

-- the paths of nodes in their order ascend
paths_ascend : (es : List Pair) → Ascend es → PathsAscend (map (λ d. d.0) es)
paths_ascend [] up = λ i j d l m. absurd (omega (arith, m))
paths_ascend (e ∷ es) up = AllPairs-cons (λ p q. path_cmp p q ≡ Less) e.0 (map (λ d. d.0) es)
    (λ i d l.
    let w = contains_mapped (λ (x : Pair). x.0) es (get_or (map (λ (x : Pair). x.0) es) i d) (Contains-get_or (map (λ (x : Pair). x.0) es) i d l) in
    subst (λ q. path_cmp e.0 q ≡ Less) w.2 (all_pairs_first (λ (d x : Pair). path_cmp d.0 x.0 ≡ Less) e es up w.0 w.1))
    (paths_ascend es (all_pairs_tail (λ (d x : Pair). path_cmp d.0 x.0 ≡ Less) e es up))

-- ---- each once

-- nothing that is told stands before itself
told_apart : (t : Told) → IsToldBefore t t → ⊥
told_apart t h = ⊎_elim (names_irrefl t.0) (λ w. not_before_itself t.1 w.1) h

-- so each stands once
told_once : (ts : List Told) → AllPairs IsToldBefore ts → AllPairs (λ x y. x ≢ y) ts
told_once ts up = λ i j d l m same. told_apart (get_or ts j d) (subst (λ x. IsToldBefore x (get_or ts j d)) same (up i j d l m))

module _ {S : Type 0} (contents : S → Contents) (can_fail : S → Bool) where
  -- what was visited was compared
  pub compared_all : (k : Visits S) (es : List Pair) (z : Visits S) → TakesAll (TakesVisit contents can_fail) k es z → TakesAll (Takes contents can_fail) k.comparisons es z.comparisons
  compared_all k [] z t = ap (λ x. x.comparisons) t
  compared_all k (e ∷ es) z t = (t.0.comparisons, t.1.compared, compared_all t.0 es z t.2)

  -- and of a walk too
  abbrev pub walk_of : (m z : Visits S) (b : Path) (N : Pair → Type 0) → TakesForest (TakesVisit contents can_fail) m z b N → TakesForest (Takes contents can_fail) m.comparisons z.comparisons b N
  walk_of m z b N w = record { trees = w.trees; shows = w.shows; took = compared_all m (pairs w.trees) z w.took }

  -- where nothing failed at last, nothing had failed
  fine_before : (k : Visits S) (es : List Pair) (z : Visits S) → TakesAll (TakesVisit contents can_fail) k es z → z.comparisons.outcome ≡ Ok tt → k.comparisons.outcome ≡ Ok tt
  fine_before k [] z t ok = ap (λ x. x.comparisons.outcome) (sym t) ∙ ok
  fine_before k (e ∷ es) z t ok = (t.1.compared.taken (fine_before t.0 es z t.2 ok)).0

  -- of nodes in their order all that there is to tell was put behind what was told before
  told_all : (s : Contents) (k : Visits S) (es : List Pair) (z : Visits S) → contents k.comparisons.storage.now ≡ s → TakesAll (TakesVisit contents can_fail) k es z → z.comparisons.outcome ≡ Ok tt → Ascend es
      → (ts : List Told) × (z.told.items ≡ k.told.items ++ ts) × TellsOf s es ts
  told_all s k [] z at t ok up = ([], ap (λ x. x.told.items) t ∙ sym (append-nil k.told.items), tells_none s)
  told_all s k (e ∷ es) z at t ok up =
      let step = t.1 in
      let own = step.tells (fine_before t.0 es z t.2 ok) in
      let w = told_all s t.0 es z (ap contents step.compared.storage ∙ at) t.2 ok (all_pairs_tail (λ (d x : Pair). path_cmp d.0 x.0 ≡ Less) e es up) in
      let are : AreNodeFindings s e.0 e.1 own.0 = subst (λ x. AreNodeFindings x e.0 e.1 own.0) at own.1 in (
        named_findings e.0 own.0 ++ w.0,
        w.1 ∙ ap (λ x. x ++ w.0) own.2 ∙ append_assoc k.told.items (named_findings e.0 own.0) w.0,
        tells_more s e es own.0 are w.0 w.2 up,
      )

  -- and their paths were kept behind those of before
  paths_kept : (k : Visits S) (es : List Pair) (z : Visits S) → TakesAll (TakesVisit contents can_fail) k es z → z.comparisons.outcome ≡ Ok tt → z.paths.items ≡ k.paths.items ++ map (λ d. d.0) es
  paths_kept k [] z t ok = ap (λ x. x.paths.items) t ∙ sym (append-nil k.paths.items)
  paths_kept k (e ∷ es) z t ok =
      paths_kept t.0 es z t.2 ok ∙ ap (λ x. x ++ map (λ d. d.0) es) (t.1.named (fine_before t.0 es z t.2 ok)) ∙ append_assoc k.paths.items (e.0 ∷ []) (map (λ d. d.0) es)

  -- of the base and the nodes below it all is told, each once
  module _ (k m z : Visits S) (s : Contents) (v : MetadataRetrieveVersion) (b p : Path) (base : Base) (at : p ≡ b) (same : contents k.comparisons.storage.now ≡ s)
      (first : TakesAll (TakesVisit contents can_fail) k (base_nodes p base) m) (walk : TakesForest (TakesVisit contents can_fail) m z b (Nodes s v true b)) where
    -- the base and the nodes
    abbrev whole : List Pair
    whole = base_nodes b base ++ pairs walk.trees

    -- they ascend
    whole_ascend : Ascend whole
    whole_ascend = all_ascend contents can_fail k.comparisons m.comparisons z.comparisons s v b p base at same (compared_all k (base_nodes p base) m first) (walk_of m z b (Nodes s v true b) walk)

    -- they are the base, where it is a node, and the nodes below it
    whole_each : IsBase s v b base → (d : Pair) → Contains whole d ↔ HasNode s v b d
    whole_each = each_node contents can_fail k.comparisons m.comparisons z.comparisons s v b p base at same (compared_all k (base_nodes p base) m first) (walk_of m z b (Nodes s v true b) walk)

    pub lists_told : k.told.items ≡ [] → z.comparisons.outcome ≡ Ok tt → IsBase s v b base → Lists (IsNodeTold s v b) z.told.items × AllPairs IsToldBefore z.told.items
    lists_told none ok is =
        let took = took_more (TakesVisit contents can_fail) k (base_nodes b base) m (pairs walk.trees) z (subst (λ q. TakesAll (TakesVisit contents can_fail) k (base_nodes q base) m) at first) walk.took in
        let w = told_all s k whole z same took ok whole_ascend in
        let all : w.0 ≡ z.told.items = sym (w.1 ∙ ap (λ x. x ++ w.0) none) in
        let told : TellsOf s whole z.told.items = subst (TellsOf s whole) all w.2 in (
          lists_from z.told.items
              (λ t. (
                λ h. let x = (told.exact t).0 h in (x.0, (whole_each is (t.0, x.0)).0 x.1, x.2),
                λ h. (told.exact t).1 (h.0, (whole_each is (t.0, h.0)).1 h.1, h.2),
              ))
              (told_once z.told.items told.ascend),
          told.ascend,
        )

    -- the paths of the base, where it is a node, and of the nodes below it are kept in their order
    pub lists_paths : k.paths.items ≡ [] → z.comparisons.outcome ≡ Ok tt → IsBase s v b base → PathsAscend z.paths.items × ((q : Path) → Contains z.paths.items q ↔ HasNodeAt s v b q)
    lists_paths none ok is =
        let took = took_more (TakesVisit contents can_fail) k (base_nodes b base) m (pairs walk.trees) z (subst (λ q. TakesAll (TakesVisit contents can_fail) k (base_nodes q base) m) at first) walk.took in
        let all : z.paths.items ≡ map (λ d. d.0) whole = paths_kept k whole z took ok ∙ ap (λ x. x ++ map (λ d. d.0) whole) none in (
          subst PathsAscend (sym all) (paths_ascend whole whole_ascend),
          λ q. (
            λ h. let w = contains_mapped (λ (d : Pair). d.0) whole q (subst (λ ps. Contains ps q) all h) in subst (HasNodeAt s v b) w.2 (w.0.1, (whole_each is w.0).0 w.1),
            λ h. subst (λ ps. Contains ps q) (sym all) (contains_map (λ (d : Pair). d.0) whole (q, h.0) ((whole_each is (q, h.0)).1 h.1)),
          ),
        )
