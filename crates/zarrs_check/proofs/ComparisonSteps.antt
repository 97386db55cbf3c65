-- What a comparison of entries and nodes keeps true.
use Rattle.std.proofs.Common.{Option, Some, None, true≢false, ◌≡◌, ◌↔◌, ◌⊎◌, inl, inr, ⊎_elim, Bool, true, false, ◌&&◌, if◌then◌else◌, List, [], ◌∷◌, ◌++◌, refl, sym, ap, subst, ◌∙◌, arith, Contains, AllPairs, IsTrue}
use Rattle.std.specs.Prelude.{unwrap_or}
use Rattle.std.proofs.lemmas.List.Elements.{Contains-append_left, Contains-append_right, Contains-append_cases}
use Rattle.zarrs_path.specs.Paths.{Path, path_cmp, IsBelow}
use Rattle.zarrs_path.specs.PathOrder.{path_total}
use Rattle.zarrs_meta.specs.Node.{is_group}
use Rattle.zarrs_meta.specs.declared.node.NodeMetadata.{NodeMetadata}
use Rattle.zarrs_compare.specs.Same.{IsSame}
use Rattle.zarrs_node.specs.Order.{Ascend}
use Rattle.zarrs_node.specs.Reach.{HasGroup}
use Rattle.zarrs_node.proofs.ListedItems.{all_pairs_append}
use Rattle.zarrs_node.proofs.ForestsBeside.{Contains-first}
use Rattle.zarrs_node.proofs.Order.{contains_cases}
use Rattle.zarrs_check.specs.declared.finding.Finding.{Finding}
use Rattle.zarrs_check.specs.declared.finding.FindingKind.{FindingKind}
use Rattle.zarrs_check.specs.declared.finding.FindingKind.TheVariants.{BlockFault, BadKey, Shadowed, OwnKey, OwnAttributes, Unreachable, Stale, Unreached, Differs, Missing}
use Rattle.zarrs_check.specs.Findings.{HasPath, IsCutOff, IsPathFinding, Precedes, rank_of}
use Rattle.zarrs_meaning.specs.Meaning.{Pair}
use Rattle.zarrs_check.specs.StepsOfComparing.{ArePathFindings, HangsFrom, IsBeforeFirst, IsPairKind, cut_kind, findings_at}
use Rattle.zarrs_check.specs.StepsOfMerging.{IsLeft, IsToldUpTo, IsBeforeAll, IsLastGroup, IsReachable, IsToTell, HoldsUpTo}
use Rattle.zarrs_check.specs.StepsOfComparisons.{NoneBad, NoDocument}
use Rattle.zarrs_check.proofs.MergedPairs.{IsStep, step_entry, step_node, step_both, none_at, only_first, before_all, rest_same, rest_next, rest_all, told_none, told_these}
use Rattle.zarrs_check.proofs.LastGroup.{reached_or_not, base_is_last, last_after_group, last_after_other, hanging_reached, reached_hanging}

-- a finding of the group b by its path and kind
abbrev pub finding : Path → Path → FindingKind → Finding
finding b p k = record { group = b; path = p; kind = k }

-- what is told of a path, before the bad documents and others are known
abbrev pub IsPlain : (Pair → Type 0) → (Pair → Type 0) → Path → Path → FindingKind → Type 0
IsPlain E N b p k = IsPathFinding E N NoneBad NoDocument b p k

-- a path has a finding only where it is one of an entry or a node
is_somewhere : (E N : Pair → Type 0) (b p : Path) (k : FindingKind) → IsPlain E N b p k → HasPath E p ⊎ HasPath N p
is_somewhere E N b p Unreachable h = inl h.0
is_somewhere E N b p Stale h = inl h.0
is_somewhere E N b p Unreached h = inl h.0
is_somewhere E N b p Differs h = inl (h.0, h.2)
is_somewhere E N b p Missing h = inr h.0
is_somewhere E N b p (BlockFault fault) h = absurd h
is_somewhere E N b p (BadKey t) h = absurd h
is_somewhere E N b p (Shadowed t) h = absurd h
is_somewhere E N b p (OwnKey t) h = absurd h
is_somewhere E N b p OwnAttributes h = absurd h

-- findings of one group, up to those that are left
abbrev pub IsToldTo : (Pair → Type 0) → (Pair → Type 0) → Path → List Pair → List Pair → List Finding → Type 0
IsToldTo E N b es ns told = IsToldUpTo path_cmp (λ f. f.path) Precedes (IsLeft es ns) (IsToTell E N NoneBad NoDocument b) told

-- before the first turn it holds
pub holds_none : (b : Path) (es ns : List Pair) → Ascend es → Ascend ns → HoldsUpTo (Contains es) (Contains ns) NoneBad NoDocument b es ns b []
holds_none b es ns up_e up_n = record {
  entries = rest_all path_cmp (IsLeft es ns) es up_e;
  nodes = rest_all path_cmp (IsLeft es ns) ns up_n;
  last = base_is_last b es;
  told = told_none path_cmp (λ f. f.path) Precedes (IsLeft es ns) (IsToTell (Contains es) (Contains ns) NoneBad NoDocument b) (λ f is. is_somewhere (Contains es) (Contains ns) b f.path f.kind is.1);
}

-- a path before the first of ascending pairs is before each
before : (p : Path) (ns : List Pair) → Ascend ns → IsBeforeFirst p ns → IsBeforeAll ns p
before p [] up h l has = absurd (omega (arith, has.1.1))
before p (n ∷ ns) up h l has = before_all path_cmp path_total p n ns up h l has

-- a finding with a group, a path and a kind is that
same_finding : (f : Finding) (b p : Path) (k : FindingKind) → f.group ≡ b → f.path ≡ p → f.kind ≡ k → f ≡ finding b p k
same_finding f b p k of at is = λ i. record { group = of i; path = at i; kind = is i }

-- ---- the findings of one path

-- the finding, if there is one, is that
at_in : (b p : Path) (o : Option FindingKind) (f : Finding) → Contains (findings_at b p o) f → (k : FindingKind) × (o ≡ Some k) × (f ≡ finding b p k)
at_in b p None f h = absurd (omega (arith, h.1))
at_in b p (Some k) f h = ⊎_elim (λ same. (k, refl, sym same)) (λ none. absurd (omega (arith, none.1))) (contains_cases (finding b p k) [] f h)

-- where a path has a kind of finding, the finding of this kind is there
at_out : (b p : Path) (o : Option FindingKind) (k : FindingKind) → o ≡ Some k → Contains (findings_at b p o) (finding b p k)
at_out b p o k is = subst (λ x. Contains (findings_at b p x) (finding b p k)) (sym is) (Contains-first (finding b p k) [])

-- of at most one there are no two
at_alone : (R : Finding → Finding → Type 0) (b p : Path) (o : Option FindingKind) → AllPairs R (findings_at b p o)
at_alone R b p None = λ i j d l m. absurd (omega (arith, m))
at_alone R b p (Some k) = λ i j d l m. absurd (omega (arith, l, m))

-- an entry is told as cut off where it is not reached
cut_is : (reached : Bool) (k : FindingKind) → cut_kind reached ≡ Some k → (reached ≡ false) × (k ≡ Unreachable)
cut_is false k e = (refl, sym (ap (λ o. unwrap_or o k) e))
cut_is true k e = cc

module _ (E N : Pair → Type 0) (b : Path) where
  -- the other kind of the path, which stands behind that, if there is one
  pub record IsOther (p : Path) (other : Option FindingKind) : Type 0 where
    pub sound : (k : FindingKind) → other ≡ Some k → IsPlain E N b p k × (rank_of k ≡ 3)
    pub complete : (k : FindingKind) → IsPlain E N b p k → (k ≡ Unreachable) ⊎ (other ≡ Some k)

  -- of an entry without a node
  other_stale : (p : Path) → HasPath E p → (HasPath N p → ⊥) → IsOther p (Some Stale)
  other_stale p e no_n = record {
    sound = λ k is. subst (λ x. IsPlain E N b p x × (rank_of x ≡ 3)) (ap (λ o. unwrap_or o k) is) ((e, no_n, λ h. h.1, λ h. h), refl);
    complete = all;
  }
    where
      all : (k : FindingKind) → IsPlain E N b p k → (k ≡ Unreachable) ⊎ (Some Stale ≡ Some k)
      all Unreachable h = inl refl
      all Stale h = inr refl
      all Unreached h = absurd h.3
      all Differs h = absurd (no_n (h.1, h.3))
      all Missing h = absurd (no_n h.0)
      all (BlockFault fault) h = absurd h
      all (BadKey t) h = absurd h
      all (Shadowed t) h = absurd h
      all (OwnKey t) h = absurd h
      all OwnAttributes h = absurd h

  -- of an entry and a node, each with one value
  other_pair : (p : Path) (m n : NodeMetadata) → E (p, m) → N (p, n) → ((l : NodeMetadata) → E (p, l) → m ≡ l) → ((l : NodeMetadata) → N (p, l) → n ≡ l) → (kind : Option FindingKind) → IsPairKind m n kind → IsOther p kind
  other_pair p m n e has only_e only_n None same = record { sound = λ k is. cc; complete = all }
    where
      all : (k : FindingKind) → IsPlain E N b p k → (k ≡ Unreachable) ⊎ (None ≡ Some k)
      all Unreachable h = inl refl
      all Differs h = absurd (h.4 (subst (λ x. IsSame x h.1) (only_e h.0 h.2) (subst (IsSame m) (only_n h.1 h.3) same)))
      all Stale h = absurd (h.1 (n, has))
      all Unreached h = absurd h.3
      all Missing h = absurd (h.2 (m, e))
      all (BlockFault fault) h = absurd h
      all (BadKey t) h = absurd h
      all (Shadowed t) h = absurd h
      all (OwnKey t) h = absurd h
      all OwnAttributes h = absurd h
  other_pair p m n e has only_e only_n (Some j) is = record {
    sound = λ k same. subst (λ x. IsPlain E N b p x × (rank_of x ≡ 3)) (sym is.0 ∙ ap (λ o. unwrap_or o k) same) ((m, n, e, has, is.1), refl);
    complete = λ k h. ⊎_elim inl (λ differs. inr (ap (λ x. Some x) (is.0 ∙ sym differs))) (all k h);
  }
    where
      all : (k : FindingKind) → IsPlain E N b p k → (k ≡ Unreachable) ⊎ (k ≡ Differs)
      all Unreachable h = inl refl
      all Differs h = inr refl
      all Stale h = absurd (h.1 (n, has))
      all Unreached h = absurd h.3
      all Missing h = absurd (h.2 (m, e))
      all (BlockFault fault) h = absurd h
      all (BadKey t) h = absurd h
      all (Shadowed t) h = absurd h
      all (OwnKey t) h = absurd h
      all OwnAttributes h = absurd h

  -- of a node without an entry
  only_missing : (p : Path) (k : FindingKind) → (HasPath E p → ⊥) → IsPlain E N b p k → k ≡ Missing
  only_missing p Missing no_e h = refl
  only_missing p Unreachable no_e h = absurd (no_e h.0)
  only_missing p Stale no_e h = absurd (no_e h.0)
  only_missing p Unreached no_e h = absurd (no_e h.0)
  only_missing p Differs no_e h = absurd (no_e (h.0, h.2))
  only_missing p (BlockFault fault) no_e h = absurd h
  only_missing p (BadKey t) no_e h = absurd h
  only_missing p (Shadowed t) no_e h = absurd h
  only_missing p (OwnKey t) no_e h = absurd h
  only_missing p OwnAttributes no_e h = absurd h

  -- the pairs of E are below b, and whether it has a group at a path is known
  module _ (low : (e : Pair) → E e → IsBelow b e.0) (decide : (q : Path) → HasGroup E q ⊎ (HasGroup E q → ⊥)) where
    module _ (e : Pair) (es ns : List Pair) (g g' : Path) (found : List Finding) (h : HoldsUpTo E N NoneBad NoDocument b (e ∷ es) ns g found) where
      -- E has the first entry
      has_entry : E (e.0, e.1)
      has_entry = h.entries.sound e (Contains-first e es)

      -- its path is below b
      is_low : IsBelow b e.0
      is_low = low e has_entry

      -- with these metadata alone
      only_entry : (m : NodeMetadata) → E (e.0, m) → e.1 ≡ m
      only_entry = only_first path_cmp path_total (IsLeft (e ∷ es) ns) E e es h.entries (inl (e.1, Contains-first e es))

      -- a pair of E is left, or before those that are
      left_or_before : (d : Pair) → E d → Contains (e ∷ es) d ⊎ IsBeforeAll (e ∷ es) d.0
      left_or_before d is = ⊎_elim inl (λ past. inr (λ l has. past l (inl has))) (h.entries.complete d is)

      -- where it does not hang from the group, it is not reached
      not_reached : (HangsFrom g e.0 → ⊥) → IsReachable E b e.0 → ⊥
      not_reached other reached = other (reached_hanging E b e es g h.entries.ascend h.last is_low reached)

      -- the group after it is the last that was reached
      last_turn : (reached : Bool) → (IsTrue reached ↔ HangsFrom g e.0) → g' ≡ (if reached && is_group e.1 then e.0 else g) → IsLastGroup E b es g'
      last_turn false says is = subst (IsLastGroup E b es) (sym is) (last_after_other E b e es g h.entries.ascend h.last left_or_before
          (λ reached group. true≢false (sym (says.1 (reached_hanging E b e es g h.entries.ascend h.last is_low reached)))))
      last_turn true says is = elim (is_group e.1) as (λ t. is_group e.1 ≡ t → g' ≡ (if t then e.0 else g) → IsLastGroup E b es g') [
        | true ↦ λ group is'. subst (IsLastGroup E b es) (sym is') (last_after_group E b e es g h.entries.ascend h.last left_or_before
            (hanging_reached E b (e ∷ es) g e.0 h.last (says.0 refl)) (e.1, has_entry, group) is_low)
        | false ↦ λ other is'. subst (IsLastGroup E b es) (sym is') (last_after_other E b e es g h.entries.ascend h.last left_or_before
            (λ reached group. true≢false (sym group.2 ∙ ap is_group (sym (only_entry group.0 group.1)) ∙ other)))
      ] refl is

      -- an entry that is cut off
      cut_off : (IsReachable E b e.0 → ⊥) → IsCutOff E b e.0
      cut_off other = ⊎_elim (λ reached. absurd (other (subst (IsReachable E b) (sym is_low.2) reached)))
          (λ w. (w.0, w.1, subst (IsBelow w.0) (sym is_low.2) w.2, w.3))
          (reached_or_not E decide b is_low.0 is_low.1)

      -- what is told at a step over it, whatever else is left: whether it is cut off, and the other kind
      pub tells : (ns' : List Pair) → IsStep path_cmp (IsLeft (e ∷ es) ns) (IsLeft es ns') e.0 → (reached : Bool) → (IsTrue reached ↔ HangsFrom g e.0) → (other : Option FindingKind) → IsOther e.0 other
          → IsToldTo E N b es ns' (found ++ (findings_at b e.0 (cut_kind reached) ++ findings_at b e.0 other))
      tells ns' s reached says other is = told_these path_cmp path_total (λ f. f.path) Precedes (λ d x less. inl less) (IsLeft (e ∷ es) ns) (IsLeft es ns') (IsToTell E N NoneBad NoDocument b) found e.0 s h.told
          (findings_at b e.0 (cut_kind reached) ++ findings_at b e.0 other)
          (all_pairs_append Precedes (findings_at b e.0 (cut_kind reached)) (findings_at b e.0 other) (at_alone Precedes b e.0 (cut_kind reached)) (at_alone Precedes b e.0 other)
          (λ x y first second.
          let u = at_in b e.0 (cut_kind reached) x first in
          let w = at_in b e.0 other y second in
          let rank_x : rank_of u.0 ≡ 2 = ap rank_of (cut_is reached u.0 u.1).1 in
          let rank_y : rank_of w.0 ≡ 3 = (is.sound w.0 w.1).1 in
          subst (λ z. Precedes z y) (sym u.2) (subst (Precedes (finding b e.0 u.0)) (sym w.2) (inr (refl, inl (omega (arith, rank_x, rank_y)))))))
          (λ f in'. ⊎_elim
          (λ first.
          let u = at_in b e.0 (cut_kind reached) f first in
          let cut = cut_is reached u.0 u.1 in
          let unreached = not_reached (λ hangs. true≢false (sym (says.1 hangs) ∙ cut.0)) in
          subst (λ x. IsToTell E N NoneBad NoDocument b x × (x.path ≡ e.0)) (sym (u.2 ∙ ap (finding b e.0) cut.1)) ((refl, ((e.1, has_entry), cut_off unreached)), refl))
          (λ second.
          let w = at_in b e.0 other f second in
          subst (λ x. IsToTell E N NoneBad NoDocument b x × (x.path ≡ e.0)) (sym w.2) ((refl, (is.sound w.0 w.1).0), refl))
          (Contains-append_cases (findings_at b e.0 (cut_kind reached)) (findings_at b e.0 other) f in'))
          (λ f to_tell at.
          let here : IsPlain E N b e.0 f.kind = subst (λ p. IsPlain E N b p f.kind) at to_tell.1 in
          let whole : f ≡ finding b e.0 f.kind = same_finding f b e.0 f.kind to_tell.0 at refl in
          ⊎_elim
          (λ cut.
          let off : IsPlain E N b e.0 Unreachable = subst (IsPlain E N b e.0) cut here in
          Contains-append_left (findings_at b e.0 (cut_kind reached)) (findings_at b e.0 other) f
          (subst (Contains (findings_at b e.0 (cut_kind reached))) (sym (whole ∙ ap (finding b e.0) cut))
          (at_out b e.0 (cut_kind reached) Unreachable (unreached_cut reached says off.1))))
          (λ same. Contains-append_right (findings_at b e.0 (cut_kind reached)) (findings_at b e.0 other) f
          (subst (Contains (findings_at b e.0 other)) (sym whole) (at_out b e.0 other f.kind same)))
          (is.complete f.kind here))
        where
          -- one that is cut off is not reached
          unreached_cut : (reached : Bool) → (IsTrue reached ↔ HangsFrom g e.0) → IsCutOff E b e.0 → cut_kind reached ≡ Some Unreachable
          unreached_cut false says cut = refl
          unreached_cut true says cut = absurd (cut.3 (hanging_reached E b (e ∷ es) g e.0 h.last (says.0 refl) cut.0 cut.1 cut.2))

    -- an entry comes first
    pub entry_turn : (e : Pair) (es ns : List Pair) (g g' : Path) (found : List Finding) → HoldsUpTo E N NoneBad NoDocument b (e ∷ es) ns g found → IsBeforeFirst e.0 ns
        → (reached : Bool) → (IsTrue reached ↔ HangsFrom g e.0) → g' ≡ (if reached && is_group e.1 then e.0 else g)
        → HoldsUpTo E N NoneBad NoDocument b es ns g' (found ++ (findings_at b e.0 (cut_kind reached) ++ findings_at b e.0 (Some Stale)))
    entry_turn e es ns g g' found h first reached says turns =
        let before_ns = before e.0 ns h.nodes.ascend first in
        let s = step_entry path_cmp path_total e es ns h.entries.ascend before_ns in
        let no_node = none_at path_cmp path_total (IsLeft (e ∷ es) ns) N ns e.0 h.nodes s.was before_ns in
        record {
          entries = rest_next path_cmp path_total (IsLeft (e ∷ es) ns) (IsLeft es ns) E e es s h.entries;
          nodes = rest_same path_cmp path_total (IsLeft (e ∷ es) ns) (IsLeft es ns) N ns e.0 s h.nodes;
          last = last_turn e es ns g g' found h reached says turns;
          told = tells e es ns g g' found h ns s reached says (Some Stale) (other_stale e.0 (e.1, has_entry e es ns g g' found h) no_node);
        }

    -- a node comes first
    pub node_turn : ((n : Pair) → N n → IsBelow b n.0) → (n : Pair) (es ns : List Pair) (g : Path) (found : List Finding) → HoldsUpTo E N NoneBad NoDocument b es (n ∷ ns) g found → IsBeforeFirst n.0 es → HoldsUpTo E N NoneBad NoDocument b es ns g (found ++ findings_at b n.0 (Some Missing))
    node_turn low_n n es ns g found h first =
        let before_es = before n.0 es h.entries.ascend first in
        let s = step_node path_cmp path_total n es ns h.nodes.ascend before_es in
        let has : N (n.0, n.1) = h.nodes.sound n (Contains-first n ns) in
        let no_entry = none_at path_cmp path_total (IsLeft es (n ∷ ns)) E es n.0 h.entries s.was before_es in
        record {
          entries = rest_same path_cmp path_total (IsLeft es (n ∷ ns)) (IsLeft es ns) E es n.0 s h.entries;
          nodes = rest_next path_cmp path_total (IsLeft es (n ∷ ns)) (IsLeft es ns) N n ns s h.nodes;
          last = h.last;
          told = told_these path_cmp path_total (λ f. f.path) Precedes (λ d x less. inl less) (IsLeft es (n ∷ ns)) (IsLeft es ns) (IsToTell E N NoneBad NoDocument b) found n.0 s h.told
              (findings_at b n.0 (Some Missing)) (at_alone Precedes b n.0 (Some Missing))
              (λ f in'. let w = at_in b n.0 (Some Missing) f in' in
              subst (λ x. IsToTell E N NoneBad NoDocument b x × (x.path ≡ n.0)) (sym (w.2 ∙ ap (finding b n.0) (sym (ap (λ o. unwrap_or o Missing) w.1)))) ((refl, ((n.1, has), low_n n has, no_entry)), refl))
              (λ f is at.
              let kind = only_missing n.0 f.kind no_entry (subst (λ p. IsPlain E N b p f.kind) at is.1) in
              subst (Contains (findings_at b n.0 (Some Missing))) (sym (same_finding f b n.0 Missing is.0 at kind)) (at_out b n.0 (Some Missing) Missing refl));
        }

    -- an entry and a node of one path come first
    pub both_turn : (e n : Pair) (es ns : List Pair) (g g' : Path) (found : List Finding) → HoldsUpTo E N NoneBad NoDocument b (e ∷ es) (n ∷ ns) g found → e.0 ≡ n.0
        → (reached : Bool) → (IsTrue reached ↔ HangsFrom g e.0) → (kind : Option FindingKind) → IsPairKind e.1 n.1 kind → g' ≡ (if reached && is_group e.1 then e.0 else g)
        → HoldsUpTo E N NoneBad NoDocument b es ns g' (found ++ (findings_at b e.0 (cut_kind reached) ++ findings_at b e.0 kind))
    both_turn e n es ns g g' found h at reached says kind is turns =
        let s = step_both path_cmp path_total e n es ns h.entries.ascend h.nodes.ascend at in
        let s_node = subst (IsStep path_cmp (IsLeft (e ∷ es) (n ∷ ns)) (IsLeft es ns)) at s in
        let only = only_first path_cmp path_total (IsLeft (e ∷ es) (n ∷ ns)) N n ns h.nodes s_node.was in
        record {
          entries = rest_next path_cmp path_total (IsLeft (e ∷ es) (n ∷ ns)) (IsLeft es ns) E e es s h.entries;
          nodes = rest_next path_cmp path_total (IsLeft (e ∷ es) (n ∷ ns)) (IsLeft es ns) N n ns s_node h.nodes;
          last = last_turn e es (n ∷ ns) g g' found h reached says turns;
          told = tells e es (n ∷ ns) g g' found h ns s reached says kind
              (other_pair e.0 e.1 n.1 (has_entry e es (n ∷ ns) g g' found h)
              (subst (λ p. N (p, n.1)) (sym at) (h.nodes.sound n (Contains-first n ns)))
              (only_entry e es (n ∷ ns) g g' found h)
              (λ m has. only m (subst (λ p. N (p, m)) at has))
              kind is);
        }

  -- when nothing is left all was told
  pub by_end : (g : Path) (found : List Finding) → HoldsUpTo E N NoneBad NoDocument b [] [] g found → ArePathFindings E N NoneBad NoDocument b found
  by_end g found h = record {
    exact = λ f. (h.told.sound f, λ is. ⊎_elim (λ in'. in') (λ left. absurd (⊎_elim (λ has. omega (arith, has.1.1)) (λ has. omega (arith, has.1.1)) left)) (h.told.complete f is));
    ascend = h.told.ascend;
  }
