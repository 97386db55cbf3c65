-- A comparison under way: what a turn keeps true, and what is told in the end.
use Rattle.std.proofs.Common.{Bool, true, false, true≢false, ◌≡◌, ◌↔◌, ◌⊎◌, inl, inr, ⊎_elim, ◌&&◌, if◌then◌else◌, List, [], ◌∷◌, ◌++◌, get_or, Option, Some, None, Ordering, Less, Equal, Greater, refl, sym, ap, subst, ◌∙◌, arith, append_assoc, append-nil, AllPairs, Contains, IsTrue}
use Rattle.std.specs.Bool.{◌==◌}
use Rattle.std.specs.Ordering.{ordering_index}
use Rattle.std.specs.Prelude.{unwrap_or}
use Rattle.std.proofs.lemmas.List.Elements.{Contains-append_left, Contains-append_right, Contains-append_cases}
use Rattle.zarrs_store.specs.Segments.{bytes_cmp}
use Rattle.zarrs_path.specs.Paths.{Path, path_cmp, IsBelow}
use Rattle.zarrs_meta.specs.Node.{is_group}
use Rattle.zarrs_meta.specs.declared.node.NodeMetadata.{NodeMetadata}
use Rattle.zarrs_meaning.specs.declared.node_create_error.NodeCreateError.{NodeCreateError}
use Rattle.zarrs_node.proofs.ListedItems.{all_pairs_first, all_pairs_tail, all_pairs_append}
use Rattle.zarrs_node.proofs.ForestsBeside.{Contains-first, Contains-cons}
use Rattle.zarrs_node.proofs.Order.{contains_cases}
use Rattle.zarrs_check.specs.Findings.{IsAtOrAbove, IsSpoilt, IsPathFinding, Precedes, key_of, rank_of}
use Rattle.zarrs_meaning.specs.Meaning.{Pair}
use Rattle.zarrs_check.specs.StepsOfBlocksAbove.{ArePartFindings}
use Rattle.zarrs_check.specs.StepsOfChecks.{HasBad}
use Rattle.zarrs_check.specs.StepsOfComparing.{ArePathFindings, AreBelow, HangsFrom, IsBeforeFirst, IsPairKind, cut_kind, findings_at}
use Rattle.zarrs_check.specs.StepsOfComparisons.{AreSettled, IsAtEnd, IsEnd, IsNext, IsNextBelow, IsNextOf, IsOneBlock, IsSettled, IsUnderWay, IsUnmoved, NoDocument, NoneBad, PassesLone, PassesPair, PassesWith, PutsSettled, if_some}
use Rattle.zarrs_check.specs.StepsOfMerging.{HoldsUpTo}
use Rattle.zarrs_check.specs.declared.comparison.Comparison.{Comparison}
use Rattle.zarrs_check.specs.declared.finding.Finding.{Finding}
use Rattle.zarrs_check.specs.declared.finding.FindingKind.{FindingKind}
use Rattle.zarrs_check.specs.declared.finding.FindingKind.TheVariants.{BlockFault, BadKey, Shadowed, OwnKey, OwnAttributes, Unreachable, Stale, Unreached, Differs, Missing}
use Rattle.zarrs_check.proofs.Above.{earlier_after}
use Rattle.zarrs_check.proofs.ComparisonSteps.{finding, entry_turn, node_turn, both_turn, by_end}
use Rattle.zarrs_check.proofs.LastGroup.{group_or_not}

-- ---- what comes first

-- where the first of the pairs is greater than a path, that is before it
pub first_behind : (p : Path) (e : Pair) (es : List Pair) → e ≡ get_or es 0 e → path_cmp e.0 p ≡ Greater → IsBeforeFirst p es
first_behind p e [] is h = tt
first_behind p e (d ∷ es) is h = subst (λ x. path_cmp p x.0 ≡ Less) is (earlier_after e.0 p h)

-- an order that compares as the last of the three is that
pub is_greater : (o : Ordering) → true ≡ (ordering_index o == 2) → o ≡ Greater
is_greater Greater h = refl
is_greater Less h = absurd (true≢false h)
is_greater Equal h = absurd (true≢false h)

-- and one that compares as neither the last nor the first is the one between
pub is_equal : (o : Ordering) → false ≡ (ordering_index o == 2) → false ≡ (ordering_index o == 0) → o ≡ Equal
is_equal Equal h g = refl
is_equal Less h g = absurd (true≢false (sym g))
is_equal Greater h g = absurd (true≢false (sym h))

-- ---- turns

-- what holds of a comparison holds of one with the same group, last group and findings
under_way_as : (all nodes es ns : List Pair) (c d : Comparison) → d.group ≡ c.group → HoldsUpTo (Contains all) (Contains nodes) NoneBad NoDocument c.group es ns d.last d.found.items → AreBelow c.group all → AreBelow c.group nodes → IsUnderWay all nodes es ns d
under_way_as all nodes es ns c d of h low under = record {
  low = λ e in'. subst (λ b. IsBelow b e.0) (sym of) (low e in');
  under = λ n in'. subst (λ b. IsBelow b n.0) (sym of) (under n in');
  holds = subst (λ b. HoldsUpTo (Contains all) (Contains nodes) NoneBad NoDocument b es ns d.last d.found.items) (sym of) h;
}

module _ (all nodes : List Pair) (c d : Comparison) (of : d.group ≡ c.group) where
  -- what was told
  abbrev tells : List Finding → Type 0
  tells fs = d.found.items ≡ c.found.items ++ fs

  -- after a turn
  abbrev now_holds : List Pair → List Pair → List Finding → Type 0
  now_holds es ns fs = HoldsUpTo (Contains all) (Contains nodes) NoneBad NoDocument c.group es ns d.last fs

  -- an entry without a node is told and passed
  pub lone_told : (e : Pair) (es ns : List Pair) (reached : Bool) → IsBeforeFirst e.0 ns → IsUnderWay all nodes (e ∷ es) ns c
      → (IsTrue reached ↔ HangsFrom c.last e.0) → tells (findings_at c.group e.0 (cut_kind reached) ++ findings_at c.group e.0 (Some Stale)) → d.last ≡ (if reached && is_group e.1 then e.0 else c.last) → IsUnderWay all nodes es ns d
  lone_told e es ns reached first u says told turns = under_way_as all nodes es ns c d of
      (subst (now_holds es ns) (sym told) (entry_turn (Contains all) (Contains nodes) c.group u.low (group_or_not all) e es ns c.last d.last c.found.items u.holds first reached says turns))
      u.low u.under

  -- an entry beside a node is told and passed
  pub pair_told : (e : Pair) (n : NodeMetadata) (es ns : List Pair) (reached : Bool) (kind : Option FindingKind) → IsUnderWay all nodes (e ∷ es) ((e.0, n) ∷ ns) c
      → (IsTrue reached ↔ HangsFrom c.last e.0) → IsPairKind e.1 n kind → tells (findings_at c.group e.0 (cut_kind reached) ++ findings_at c.group e.0 kind) → d.last ≡ (if reached && is_group e.1 then e.0 else c.last) → IsUnderWay all nodes es ns d
  pair_told e n es ns reached kind u says is told turns = under_way_as all nodes es ns c d of
      (subst (now_holds es ns) (sym told) (both_turn (Contains all) (Contains nodes) c.group u.low (group_or_not all) e (e.0, n) es ns c.last d.last c.found.items u.holds refl reached says kind is turns))
      u.low u.under

  -- a node without an entry is told
  missing_told : (n : Pair) (es ns : List Pair) → IsBeforeFirst n.0 es → IsUnderWay all nodes es (n ∷ ns) c → tells (finding c.group n.0 Missing ∷ []) → d.last ≡ c.last → IsUnderWay all nodes es ns d
  missing_told n es ns first u told same = under_way_as all nodes es ns c d of
      (subst (λ g. HoldsUpTo (Contains all) (Contains nodes) NoneBad NoDocument c.group es ns g d.found.items) (sym same)
      (subst (HoldsUpTo (Contains all) (Contains nodes) NoneBad NoDocument c.group es ns c.last) (sym told)
      (node_turn (Contains all) (Contains nodes) c.group u.low (group_or_not all) u.under n es ns c.last c.found.items u.holds first)))
      u.low u.under

-- an entry that was passed with what is told of one without a node
pub lone_passed : (old new : Comparison) (e : Pair) → PassesWith old e (Some Stale) new → PassesLone old e new
lone_passed old new e p = record {
  one = record { group = p.one.group; of_block = p.one.of_block };
  entries = p.entries;
  told = λ all nodes ns first u. lone_told all nodes old new p.one.group e _ ns p.reached first u p.hangs p.found p.last;
}

-- and with what is told of one beside a node
pub pair_passed : (old new : Comparison) (e : Pair) (n : NodeMetadata) (kind : Option FindingKind) → IsPairKind e.1 n kind → PassesWith old e kind new → PassesPair old e n new
pair_passed old new e n kind is p = record {
  one = record { group = p.one.group; of_block = p.one.of_block };
  entries = p.entries;
  told = λ all nodes ns u. pair_told all nodes old new p.one.group e n _ ns p.reached kind u p.hangs is p.found p.last;
}

-- ---- the way to a node, and to the end

-- where the nodes that are left begin in the same way, some entries before them were told and passed
pub record IsOnTheWay (start : Comparison) (Left : List Pair → List Pair) (now : Comparison) : Type 0 where
  pub one : IsOneBlock start now
  pub told : (all nodes ns : List Pair) → IsUnderWay all nodes start.entries.items (Left ns) start → IsUnderWay all nodes now.entries.items (Left ns) now

-- where the next is of one block, and the one after it too, so is that
pub one_block : (a b c : Comparison) → IsOneBlock a b → IsOneBlock b c → IsOneBlock a c
one_block a b c h g = record { group = g.group ∙ h.group; of_block = g.of_block ∙ h.of_block }

-- before the first turn none were
pub on_the_way_first : (start : Comparison) (Left : List Pair → List Pair) → IsOnTheWay start Left start
on_the_way_first start Left = record { one = record { group = refl; of_block = refl }; told = λ all nodes ns u. u }

module _ (start was mid now : Comparison) (m : IsUnmoved was mid) where
  module _ (Left : List Pair → List Pair) (o : IsOnTheWay start Left was) where
    -- a turn at the entries that are left changes nothing of what was told
    at_turn : (all nodes es ns : List Pair) → was.entries.items ≡ es → IsUnderWay all nodes start.entries.items (Left ns) start → IsUnderWay all nodes es (Left ns) mid
    at_turn all nodes es ns left u =
        let h = subst (λ xs. IsUnderWay all nodes xs (Left ns) was) left (o.told all nodes ns u) in
        under_way_as all nodes es (Left ns) was mid m.one.group
        (subst (λ g. HoldsUpTo (Contains all) (Contains nodes) NoneBad NoDocument was.group es (Left ns) g mid.found.items) (sym m.last)
        (subst (λ fs. HoldsUpTo (Contains all) (Contains nodes) NoneBad NoDocument was.group es (Left ns) was.last fs) (sym m.found) h.holds))
        h.low h.under

    -- an entry before the nodes is passed
    pub on_the_way_next : (x : Pair) → was.entries.items ≡ x ∷ mid.entries.items → ((ns : List Pair) → IsBeforeFirst x.0 (Left ns)) → PassesLone mid x now → IsOnTheWay start Left now
    on_the_way_next x left first p = record {
      one = one_block start was now o.one (one_block was mid now m.one p.one);
      told = λ all nodes ns u. subst (λ es. IsUnderWay all nodes es (Left ns) now) (sym p.entries) (p.told all nodes (Left ns) (first ns) (at_turn all nodes _ ns left u));
    }

  module _ (e : Pair) (o : IsOnTheWay start (λ ns. e ∷ ns) was) where
    -- the entry at the first node is passed with it
    pub passed_at : (x : Pair) → (was.entries.items ≡ x ∷ mid.entries.items) × (x.0 ≡ e.0) → PassesPair mid x e.1 now → IsNext start e now
    passed_at x t p = record {
      one = one_block start was now o.one (one_block was mid now m.one p.one);
      told = λ all nodes ns u. subst (λ es. IsUnderWay all nodes es ns now) (sym p.entries)
          (p.told all nodes ns (subst (λ q. IsUnderWay all nodes (x ∷ mid.entries.items) ((q, e.1) ∷ ns) mid) (sym t.1) (at_turn (λ ns. e ∷ ns) o all nodes _ ns t.0 u)));
    }

    -- and where there is none, the node is told
    pub passed_behind : (mid.entries.items ≡ was.entries.items) × IsBeforeFirst e.0 was.entries.items → IsOneBlock mid now → now.entries.items ≡ mid.entries.items → now.last ≡ mid.last
        → now.found.items ≡ mid.found.items ++ finding mid.group e.0 Missing ∷ [] → IsNext start e now
    passed_behind t one left last told = record {
      one = one_block start was now o.one (one_block was mid now m.one one);
      told = λ all nodes ns u. subst (λ es. IsUnderWay all nodes es ns now) (sym (left ∙ t.0))
          (missing_told all nodes mid now one.group e was.entries.items ns t.1 (at_turn (λ ns. e ∷ ns) o all nodes _ ns refl u) told last);
    }

-- ---- bad documents, and others

module _ (F D : Path → Type 0) where
  -- what becomes of a finding is of its group and path, and of its rank and key
  settled_same : (f : Finding) (o : Option Finding) (h : Finding) → o ≡ Some h → IsSettled F D f o → (h.path ≡ f.path) × (rank_of h.kind ≡ rank_of f.kind) × (key_of h.kind ≡ key_of f.kind)
  settled_same f None h is w = cc
  settled_same f (Some k) h is w =
      let same : k ≡ h = ap (λ o. unwrap_or o h) is in
      subst (λ x. (x.path ≡ f.path) × (rank_of x.kind ≡ rank_of f.kind) × (key_of x.kind ≡ key_of f.kind)) same (⊎_elim
      (λ kept. subst (λ x. (x.path ≡ f.path) × (rank_of x.kind ≡ rank_of f.kind) × (key_of x.kind ≡ key_of f.kind)) (sym kept.1) (refl, refl, refl))
      (λ kept.
      let there_or_not : (rank_of k.kind ≡ rank_of f.kind) × (key_of k.kind ≡ key_of f.kind) = ⊎_elim
      (λ there. (ap rank_of there.1 ∙ sym (ap rank_of kept.0), ap key_of there.1 ∙ sym (ap key_of kept.0)))
      (λ gone. (ap rank_of gone.1 ∙ sym (ap rank_of kept.0), ap key_of gone.1 ∙ sym (ap key_of kept.0)))
      kept.4 in
      (kept.3, there_or_not.0, there_or_not.1))
      w)

  -- so it stands among others as the finding did
  precedes_same : (f g h k : Finding) → (h.path ≡ f.path) × (rank_of h.kind ≡ rank_of f.kind) × (key_of h.kind ≡ key_of f.kind) → (k.path ≡ g.path) × (rank_of k.kind ≡ rank_of g.kind) × (key_of k.kind ≡ key_of g.kind) → Precedes f g → Precedes h k
  precedes_same f g h k x y = ⊎_elim
      (λ less. inl (ap (λ p. path_cmp p k.path) x.0 ∙ ap (path_cmp f.path) y.0 ∙ less))
      (λ same. inr (
        x.0 ∙ same.0 ∙ sym y.0,
        ⊎_elim
            (λ rank. let rank_x = x.1 in let rank_y = y.1 in inl (omega (arith, rank, rank_x, rank_y)))
            (λ both. inr (x.1 ∙ both.0 ∙ sym y.1, ap (λ t. bytes_cmp t (key_of k.kind)) x.2 ∙ ap (bytes_cmp (key_of f.kind)) y.2 ∙ both.1))
            same.1,
      ))

  -- one of the findings that are there at all is the one that is there
  some_in : (o : Option Finding) (h : Finding) → Contains (if_some o) h → o ≡ Some h
  some_in None h in' = absurd (omega (arith, in'.1))
  some_in (Some k) h in' = ⊎_elim (λ same. ap (λ x. Some x) same) (λ none. absurd (omega (arith, none.1))) (contains_cases k [] h in')

  -- where there is a finding, it is one of them
  some_out : (o : Option Finding) (h : Finding) → o ≡ Some h → Contains (if_some o) h
  some_out o h is = subst (λ x. Contains (if_some x) h) (sym is) (Contains-first h [])

  -- what is left is what became of some finding
  pub settled_in : (found left : List Finding) → AreSettled F D found left → (h : Finding) → Contains left h → (f : Finding) × Contains found f × IsSettled F D f (Some h)
  settled_in [] left is h in' = let none : Contains [] h = subst (λ xs. Contains xs h) is in' in absurd (omega (arith, none.1))
  settled_in (f ∷ found) left is h in' = ⊎_elim
      (λ first. (f, Contains-first f found, subst (IsSettled F D f) (some_in is.0 h first) is.3))
      (λ later. let w = settled_in found is.1 is.4 h later in (w.0, Contains-cons f found w.0 w.1, w.2))
      (Contains-append_cases (if_some is.0) is.1 h (subst (λ xs. Contains xs h) is.2 in'))

  -- and of each finding something is left, unless it is spoilt
  pub settled_out : (found left : List Finding) → AreSettled F D found left → (f : Finding) → Contains found f → (o : Option Finding) × IsSettled F D f o × ((h : Finding) → o ≡ Some h → Contains left h)
  settled_out [] left is f in' = absurd (omega (arith, in'.1))
  settled_out (g ∷ found) left is f in' = ⊎_elim
      (λ same. (is.0, subst (λ x. IsSettled F D x is.0) same is.3, λ h some. subst (λ xs. Contains xs h) (sym is.2) (Contains-append_left (if_some is.0) is.1 h (some_out is.0 h some))))
      (λ later. let w = settled_out found is.1 is.4 f later in (w.0, w.1, λ h some. subst (λ xs. Contains xs h) (sym is.2) (Contains-append_right (if_some is.0) is.1 h (w.2 h some))))
      (contains_cases g found f in')

  -- it stands in the order in which the findings do
  pub settled_ascend : (found left : List Finding) → AreSettled F D found left → AllPairs Precedes found → AllPairs Precedes left
  settled_ascend [] left is up = subst (AllPairs Precedes) (sym is) up
  settled_ascend (f ∷ found) left is up = subst (AllPairs Precedes) (sym is.2) (all_pairs_append Precedes (if_some is.0) is.1 (alone is.0)
      (settled_ascend found is.1 is.4 (all_pairs_tail Precedes f found up))
      (λ x y first later.
      let w = settled_in found is.1 is.4 y later in
      precedes_same f w.0 x y (settled_same f is.0 x (some_in is.0 x first) is.3) (settled_same w.0 (Some y) y refl w.2) (all_pairs_first Precedes f found up w.0 w.1)))
    where
      alone : (o : Option Finding) → AllPairs Precedes (if_some o)
      alone None = λ i j d l m. absurd (omega (arith, m))
      alone (Some h) = λ i j d l m. absurd (omega (arith, l, m))

  -- one finding more comes last
  pub settled_more : (found : List Finding) (f : Finding) (o : Option Finding) (left whole : List Finding) → whole ≡ left ++ if_some o → AreSettled F D found left → IsSettled F D f o → AreSettled F D (found ++ f ∷ []) whole
  settled_more [] f o left whole is are one = (o, [], is ∙ ap (λ xs. xs ++ if_some o) are ∙ sym (append-nil (if_some o)), one, refl)
  settled_more (g ∷ found) f o left whole is are one = (
    are.0,
    are.1 ++ if_some o,
    is ∙ ap (λ xs. xs ++ if_some o) are.2 ∙ append_assoc (if_some are.0) are.1 (if_some o),
    are.3,
    settled_more found f o are.1 (are.1 ++ if_some o) refl are.4 one,
  )

  -- of paths of which P holds what is left of their findings, before any document was known, is what there is to tell of them
  module _ (E N : Pair → Type 0) (g : Path) (P : Path → Type 0) (found left : List Finding)
      (exact : (f : Finding) → Contains found f ↔ ((f.group ≡ g) × IsPathFinding E N NoneBad NoDocument g f.path f.kind × P f.path)) (is : AreSettled F D found left) where
    -- what there was to tell of a path, where it is not that an entry has no node
    other_before : (p : Path) (k : FindingKind) → (k ≡ Stale → ⊥) → IsPathFinding E N NoneBad NoDocument g p k → IsPathFinding E N F D g p k
    other_before p Unreachable not h = h
    other_before p Stale not h = absurd (not refl)
    other_before p Unreached not h = absurd h.3
    other_before p Differs not h = h
    other_before p Missing not h = h
    other_before p (BlockFault fault) not h = absurd h
    other_before p (BadKey t) not h = absurd h
    other_before p (Shadowed t) not h = absurd h
    other_before p (OwnKey t) not h = absurd h
    other_before p OwnAttributes not h = absurd h

    -- what is left is there to tell
    left_sound : (h : Finding) → Contains left h → (h.group ≡ g) × IsPathFinding E N F D g h.path h.kind × P h.path
    left_sound h in' =
        let w = settled_in found left is h in' in
        let before = (exact w.0).0 w.1 in
        ⊎_elim
        (λ kept. subst (λ x. (x.group ≡ g) × IsPathFinding E N F D g x.path x.kind × P x.path) (sym kept.1) (before.0, other_before w.0.path w.0.kind kept.0 before.1, before.2))
        (λ kept.
        let lone : IsPathFinding E N NoneBad NoDocument g w.0.path Stale = subst (IsPathFinding E N NoneBad NoDocument g w.0.path) kept.0 before.1 in (
          kept.2 ∙ before.0,
          subst (λ p. IsPathFinding E N F D g p h.kind) (sym kept.3) (⊎_elim
              (λ there. subst (IsPathFinding E N F D g w.0.path) (sym there.1) (lone.0, lone.1, kept.1, there.0))
              (λ gone. subst (IsPathFinding E N F D g w.0.path) (sym gone.1) (lone.0, lone.1, kept.1, gone.0))
              kept.4),
          subst P (sym kept.3) before.2,
        ))
        w.2

    -- a finding by its group, path and kind
    abbrev of_group : Finding → FindingKind → Finding
    of_group h k = record { group = h.group; path = h.path; kind = k }

    -- where it is found and settles as this, it is left
    left_one : (f h : Finding) → Contains found f → ((o : Option Finding) → IsSettled F D f o → o ≡ Some h) → Contains left h
    left_one f h in' settles = let w = settled_out found left is f in' in w.2 h (settles w.0 w.1)

    -- another kind settles as it is
    other_settles : (h : Finding) → (h.kind ≡ Stale → ⊥) → (o : Option Finding) → IsSettled F D h o → o ≡ Some h
    other_settles h not None w = absurd (not w.0)
    other_settles h not (Some x) w = ⊎_elim (λ kept. ap (λ y. Some y) kept.1) (λ kept. absurd (not kept.0)) w

    -- one without a node settles by what is known
    lone_settles : (h : Finding) → (IsSpoilt F h.path → ⊥) → ((h.kind ≡ Stale) × (D h.path → ⊥)) ⊎ ((h.kind ≡ Unreached) × D h.path) → (o : Option Finding) → IsSettled F D (of_group h Stale) o → o ≡ Some h
    lone_settles h clean kinds None w = absurd (clean w.1)
    lone_settles h clean kinds (Some x) w = ap (λ y. Some y) (⊎_elim
        (λ kept. absurd (kept.0 refl))
        (λ kept.
        let kind : x.kind ≡ h.kind = ⊎_elim
        (λ there. ⊎_elim (λ stale. absurd (stale.1 there.0)) (λ unreached. there.1 ∙ sym unreached.0) kinds)
        (λ gone. ⊎_elim (λ stale. gone.1 ∙ sym stale.0) (λ unreached. absurd (gone.0 unreached.1)) kinds)
        kept.4 in
        λ i. record { group = kept.2 i; path = kept.3 i; kind = kind i })
        w)

    -- and what is there to tell is left
    left_complete : (h : Finding) → h.group ≡ g → P h.path → (k : FindingKind) → h.kind ≡ k → IsPathFinding E N F D g h.path k → Contains left h
    left_complete h of at Unreachable is' w = left_one h h ((exact h).1 (of, subst (IsPathFinding E N NoneBad NoDocument g h.path) (sym is') w, at)) (other_settles h (λ e. cc))
    left_complete h of at Differs is' w = left_one h h ((exact h).1 (of, subst (IsPathFinding E N NoneBad NoDocument g h.path) (sym is') w, at)) (other_settles h (λ e. cc))
    left_complete h of at Missing is' w = left_one h h ((exact h).1 (of, subst (IsPathFinding E N NoneBad NoDocument g h.path) (sym is') w, at)) (other_settles h (λ e. cc))
    left_complete h of at Stale is' w = left_one (of_group h Stale) h ((exact (of_group h Stale)).1 (of, (w.0, w.1, λ x. x.1, λ x. x), at)) (lone_settles h w.2 (inl (is', w.3)))
    left_complete h of at Unreached is' w = left_one (of_group h Stale) h ((exact (of_group h Stale)).1 (of, (w.0, w.1, λ x. x.1, λ x. x), at)) (lone_settles h w.2 (inr (is', w.3)))
    left_complete h of at (BlockFault fault) is' w = absurd w
    left_complete h of at (BadKey t) is' w = absurd w
    left_complete h of at (Shadowed t) is' w = absurd w
    left_complete h of at (OwnKey t) is' w = absurd w
    left_complete h of at OwnAttributes is' w = absurd w

    pub settled_exact : (h : Finding) → Contains left h ↔ ((h.group ≡ g) × IsPathFinding E N F D g h.path h.kind × P h.path)
    settled_exact h = (left_sound h, λ w. left_complete h w.0 w.2 h.kind refl w.1)

  -- so it is of all paths
  pub settled_findings : (E N : Pair → Type 0) (g : Path) (found left : List Finding) → ArePathFindings E N NoneBad NoDocument g found → AreSettled F D found left → ArePathFindings E N F D g left
  settled_findings E N g found left are is = record {
    exact = λ h. (λ in'. let w = (all h).0 in' in (w.0, w.1), λ w. (all h).1 (w.0, w.1, tt));
    ascend = settled_ascend found left is are.ascend;
  }
    where
      all : (h : Finding) → Contains left h ↔ ((h.group ≡ g) × IsPathFinding E N F D g h.path h.kind × Unit {0})
      all = settled_exact E N g (λ p. Unit {0}) found left (λ f. (λ in'. let w = (are.exact f).0 in' in (w.0, w.1, tt), λ w. (are.exact f).1 (w.0, w.1))) is

  -- and of those at or below b
  pub settled_part : (E N : Pair → Type 0) (g b : Path) (found left : List Finding) → ArePartFindings E N NoneBad NoDocument g b found → AreSettled F D found left → ArePartFindings E N F D g b left
  settled_part E N g b found left are is = record {
    exact = settled_exact E N g (IsAtOrAbove b) found left are.exact is;
    ascend = settled_ascend found left is are.ascend;
  }

-- where none is left of the entries, the comparison is at its end
pub at_end : (start was now : Comparison) → IsUnmoved was now → IsOnTheWay start (λ ns. []) was → was.entries.items ≡ [] → IsAtEnd start now
at_end start was now m o none = record { one = one_block start was now o.one m.one; told = λ all nodes u. at_turn start was now now m (λ ns. []) o all nodes [] [] none u }

-- all is told at the end
pub ended : (D : Path → Type 0) (start now : Comparison) (bad : List (Path × NodeCreateError)) (whole : List Finding) → IsAtEnd start now → PutsSettled (HasBad bad) D now.of_block.items now.found.items whole → IsEnd D start bad whole
ended D start now bad whole o put all nodes u =
    let h = (o.told all nodes u).holds in
    let are = by_end (Contains all) (Contains nodes) now.group now.last now.found.items h in (
      put.0,
      put.1 ∙ ap (λ fs. fs ++ put.0) o.one.of_block,
      subst (λ g. ArePathFindings (Contains all) (Contains nodes) (HasBad bad) D g put.0) o.one.group
          (settled_findings (HasBad bad) D (Contains all) (Contains nodes) now.group now.found.items put.0 are put.2),
    )

-- ---- nodes in a row

-- after nodes one more was compared
pub next_more : (a : Comparison) (es : List Pair) (b : Comparison) (e : Pair) (c : Comparison) → IsNextOf a es b → IsNextBelow b e c → IsNextOf a (es ++ e ∷ []) c
next_more a [] b e c h next = (c, subst (λ x. IsNextBelow x e c) h next, refl)
next_more a (d ∷ es) b e c h next = (h.0, h.1, next_more h.0 es b e c h.2 next)

-- and others that are not below the group
pub next_rest : (a : Comparison) (es : List Pair) (b : Comparison) (rest : List Pair) → IsNextOf a es b → ((e : Pair) → Contains rest e → IsBelow b.group e.0 → ⊥) → IsNextOf a (es ++ rest) b
next_rest a es b [] h none = subst (λ xs. IsNextOf a xs b) (sym (append-nil es)) h
next_rest a es b (e ∷ rest) h none = subst (λ xs. IsNextOf a xs b) (append_assoc es (e ∷ []) rest)
    (next_rest a (es ++ e ∷ []) b rest (next_more a es b e b h (inr (none e (Contains-first e rest), refl))) (λ d in'. none d (Contains-cons e rest d in')))
