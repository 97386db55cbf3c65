-- Which entries are reached: the last group that was reached tells it.
use Rattle.std.proofs.Common.{Bool, true, false, true≢false, ◌≡◌, ℕ, ◌⊎◌, inl, inr, ⊎_elim, List, [], ◌∷◌, ◌++◌, refl, sym, ap, subst, ◌∙◌, append_assoc, arith, Contains, Less, IsTrue}
use Rattle.zarrs_path.specs.Paths.{Path, path_cmp, IsBelow}
use Rattle.zarrs_path.specs.PathOrder.{path_total}
use Rattle.zarrs_path.proofs.PathTexts.{last_name}
use Rattle.zarrs_meta.specs.Node.{is_group}
use Rattle.zarrs_node.specs.Order.{Ascend}
use Rattle.zarrs_node.specs.Reach.{HasGroup}
use Rattle.zarrs_node.proofs.ForestsBeside.{Contains-first, Contains-cons}
use Rattle.zarrs_node.proofs.Order.{contains_cases}
use Rattle.zarrs_node.proofs.KeptOfLists.{below_later, below_trans, not_below_itself, above_child, none_between, between_below}
use Rattle.zarrs_check.specs.Findings.{IsAtOrAbove}
use Rattle.zarrs_meaning.specs.Meaning.{Pair}
use Rattle.zarrs_check.specs.StepsOfComparing.{HangsFrom}
use Rattle.zarrs_check.specs.StepsOfMerging.{IsBeforeAll, IsLastGroup, IsReachable}
use Rattle.zarrs_check.proofs.MergedPairs.{not_before, first_before}
use Rattle.zarrs_check.proofs.Above.{same_or_not, at_itself, at_or_above, above_up, up_cases, goes_through}

-- before the first entry it is the base
pub base_is_last : (b : Path) (es : List Pair) → IsLastGroup (Contains es) b es b
base_is_last b es = record {
  groups = λ q low up. absurd (⊎_elim (λ same. not_below_itself b (subst (IsBelow b) (sym same) low)) (λ above. not_below_itself b (below_trans b q b low above)) (up_cases q b up));
  base = at_itself b b refl;
  waits = λ q group reached before d has low. absurd (not_before path_cmp path_total q (before q (group.0, group.1)));
}

module _ (E : Pair → Type 0) (b : Path) where
  -- what hangs from the group is reached
  pub hanging_reached : (es : List Pair) (g p : Path) → IsLastGroup E b es g → HangsFrom g p → IsReachable E b p
  hanging_reached es g p o h q low above =
      let r = h.0 in
      ⊎_elim
      (λ same. o.groups q low (subst (λ x. IsAtOrAbove x g) (sym same) h.3))
      (λ higher. o.groups q low (above_up q r g higher h.3))
      (above_child q r h.1 (subst (IsBelow q) h.2 above))

  -- the first entry that is left hangs from the group, where it is reached
  pub reached_hanging : (e : Pair) (es : List Pair) (g : Path) → Ascend (e ∷ es) → IsLastGroup E b (e ∷ es) g → IsBelow b e.0 → IsReachable E b e.0 → HangsFrom g e.0
  reached_hanging e es g up o low reached =
      let w = last_name (low.0 ∷ low.1) (λ none. cc) in
      let r : Path = b ++ w.0 in
      let is : e.0 ≡ r ++ w.1 ∷ [] = low.2 ∙ ap (λ x. b ++ x) w.2 ∙ sym (append_assoc b w.0 (w.1 ∷ [])) in
      let under : IsBelow r e.0 = (w.1, [], is) in (
        r,
        w.1,
        is,
        ⊎_elim
            (λ same. subst (λ x. IsAtOrAbove x g) (sym same) o.base)
            (λ deeper.
            o.waits r (reached r deeper under) (λ q low' above. reached q low' (below_trans q r e.0 above under))
            (λ l has. ⊎_elim
            (λ same. subst (λ x. path_cmp r x.0 ≡ Less) same (below_later r e.0 under))
            (λ later. path_total.trans r e.0 l (below_later r e.0 under) (first_before path_cmp path_total e es up l (has.0, later)))
            (contains_cases e es (l, has.0) has.1))
            e.0 (e.1, Contains-first e es) under)
            (up_cases b r (w.0, refl)),
      )

  module _ (e : Pair) (es : List Pair) (g : Path) (up : Ascend (e ∷ es)) (o : IsLastGroup E b (e ∷ es) g) (all : (d : Pair) → E d → Contains (e ∷ es) d ⊎ IsBeforeAll (e ∷ es) d.0) where
    -- a group before the entries behind the first is the first, or before it
    earlier : (q : Path) → HasGroup E q → IsBeforeAll es q → (e.0 ≡ q) ⊎ IsBeforeAll (e ∷ es) q
    earlier q group before = ⊎_elim
        (λ in'. ⊎_elim (λ same. inl (ap (λ x. x.0) same)) (λ later. absurd (not_before path_cmp path_total q (before q (group.0, later)))) (contains_cases e es (q, group.0) in'))
        inr
        (all (q, group.0) group.1)

    -- after a reached group it is that
    pub last_after_group : IsReachable E b e.0 → HasGroup E e.0 → IsBelow b e.0 → IsLastGroup E b es e.0
    last_after_group reached group low = record {
      groups = λ q low' at. ⊎_elim (λ same. subst (HasGroup E) same group) (λ above. reached q low' above) (up_cases q e.0 at);
      base = at_or_above b e.0 low;
      waits = λ q group' reached' before d has low'. ⊎_elim
          (λ same. at_itself q e.0 same)
          (λ past. at_or_above q e.0 (between_below q e.0 d (past e.0 (e.1, Contains-first e es)) (first_before path_cmp path_total e es up d has) low'))
          (earlier q group' before);
    }

    -- after another entry it stays
    pub last_after_other : (IsReachable E b e.0 → HasGroup E e.0 → ⊥) → IsLastGroup E b es g
    last_after_other other = record {
      groups = o.groups;
      base = o.base;
      waits = λ q group reached before d has low. ⊎_elim
          (λ same. absurd (other (subst (IsReachable E b) (sym same) reached) (subst (HasGroup E) (sym same) group)))
          (λ past. o.waits q group reached past d (has.0, Contains-cons e es (d, has.0) has.1) low)
          (earlier q group before);
    }

-- each path between is a group, or some is none
pub reached_or_not : (E : Pair → Type 0) → ((q : Path) → HasGroup E q ⊎ (HasGroup E q → ⊥)) → (b : Path) (n : List ℕ) (ns : Path)
    → IsReachable E b (b ++ n ∷ ns) ⊎ ((q : Path) × IsBelow b q × IsBelow q (b ++ n ∷ ns) × (HasGroup E q → ⊥))
reached_or_not E decide b n [] = inl (λ q low above. absurd (none_between b q n low above))
reached_or_not E decide b n (m ∷ ns) =
    let c : Path = b ++ n ∷ [] in
    let is : c ++ m ∷ ns ≡ b ++ n ∷ (m ∷ ns) = append_assoc b (n ∷ []) (m ∷ ns) in
    ⊎_elim
    (λ group. ⊎_elim
    (λ reached. inl (λ q low above. ⊎_elim
    (λ same. subst (HasGroup E) (sym same) group)
    (λ under. reached q under (subst (IsBelow q) (sym is) above))
    (up_cases c q (goes_through b q n (m ∷ ns) low above))))
    (λ w. inr (w.0, below_trans b c w.0 (n, [], refl) w.1, subst (IsBelow w.0) is w.2, w.3))
    (reached_or_not E decide c m ns))
    (λ other. inr (c, (n, [], refl), (m, ns, sym is), other))
    (decide c)

-- whether a path is another, and a truth value holds
this_or_not : (p q : Path) (t : Bool) → ((p ≡ q) × IsTrue t) ⊎ ((p ≡ q) × IsTrue t → ⊥)
this_or_not p q false = inr (λ h. true≢false (sym h.1))
this_or_not p q true = ⊎_elim (λ e. inl (e, refl)) (λ other. inr (λ h. other h.0)) (same_or_not p q)

-- whether a list has a group at a path
pub group_or_not : (es : List Pair) (q : Path) → HasGroup (Contains es) q ⊎ (HasGroup (Contains es) q → ⊥)
group_or_not [] q = inr (λ h. omega (arith, h.1.1))
group_or_not (e ∷ es) q = ⊎_elim
    (λ h. inl (h.0, Contains-cons e es (q, h.0) h.1, h.2))
    (λ other. ⊎_elim
    (λ is. inl (e.1, subst (λ p. Contains (e ∷ es) (p, e.1)) is.0 (Contains-first e es), is.1))
    (λ not_this. inr (λ h. ⊎_elim
    (λ same. not_this (ap (λ x. x.0) same, ap (λ x. is_group x.1) same ∙ h.2))
    (λ later. other (h.0, later, h.2))
    (contains_cases e es (q, h.0) h.1)))
    (this_or_not (e.0) q (is_group e.1)))
    (group_or_not es q)
