-- The findings of a block: those of its keys, that of its own attributes, and those of its entries beside the nodes.
use Rattle.std.proofs.Common.{◌≡◌, ◌↔◌, inl, inr, ⊎_elim, ℕ, Bool, true, false, List, [], ◌∷◌, ◌++◌, refl, sym, ap, subst, ◌∙◌, arith, AllPairs, Contains, IsTrue, Option, Some, None, Ok, is_some, true≢false}
use Rattle.std.specs.List.{list_all}
use Rattle.std.specs.Prelude.{IsSome}
use Rattle.std.proofs.lemmas.List.Elements.{Contains-append_left, Contains-append_right, Contains-append_cases}
use Rattle.zarrs_store.specs.Contents.{Lists}
use Rattle.zarrs_store.specs.Segments.{key_text}
use Rattle.zarrs_path.specs.Names.{is_name}
use Rattle.zarrs_path.specs.Paths.{Path, IsPath, IsBelow, path_cmp, relative_names}
use Rattle.zarrs_meta.specs.declared.node.NodeMetadata.{NodeMetadata}
use Rattle.zarrs_block.specs.Block.{Block, IsAscending, IsValidKey, HasValidKeys, node_at_key, first_some, entry, Entries}
use Rattle.zarrs_node.specs.Reach.{HasGroup}
use Rattle.zarrs_node.proofs.ListedItems.{listed_each, all_pairs_append}
use Rattle.zarrs_node.proofs.ForestsBeside.{Contains-first, Contains-cons}
use Rattle.zarrs_node.proofs.KeptOfLists.{below_later}
use Rattle.zarrs_node.proofs.Order.{contains_cases}
use Rattle.zarrs_check.specs.Checks.{own_finding}
use Rattle.zarrs_check.specs.Findings.{HasPath, IsCutOff, IsSpoilt, IsPathFinding, IsKeyFinding, IsFinding, Precedes, rank_of}
use Rattle.zarrs_meaning.specs.Meaning.{Pair}
use Rattle.zarrs_check.specs.StepsOfChecks.{AreTold}
use Rattle.zarrs_check.specs.StepsOfComparing.{ArePathFindings, IsBadAmong, IsRidOf, findings_at, key_findings, own_findings, own_kind}
use Rattle.zarrs_check.specs.declared.finding.Finding.{Finding}
use Rattle.zarrs_check.specs.declared.finding.FindingKind.{FindingKind}
use Rattle.zarrs_check.specs.declared.finding.FindingKind.TheVariants.{BlockFault, BadKey, Shadowed, OwnKey, OwnAttributes, Unreachable, Stale, Unreached, Differs, Missing}
use Rattle.zarrs_check.proofs.KeyFindings.{names_valid, keys_exact, told_ascend}

-- ---- the block without its bad keys

-- a bad key among findings is that of one of them
among_in : (fs : List Finding) (t : List ℕ) → IsBadAmong fs t → (f : Finding) × Contains fs f × (f.kind ≡ BadKey t)
among_in [] t h = absurd h
among_in (f ∷ fs) t h = ⊎_elim
    (λ is. (f, Contains-first f fs, is))
    (λ later. let w = among_in fs t later in (w.0, Contains-cons f fs w.0 w.1, w.2))
    h

-- the key of a finding of a bad key is bad among the findings that it is one of
in_among : (fs : List Finding) (f : Finding) (t : List ℕ) → Contains fs f → f.kind ≡ BadKey t → IsBadAmong fs t
in_among [] f t h is = absurd (omega (arith, h.1))
in_among (g ∷ fs) f t h is = ⊎_elim
    (λ same. inl (ap (λ x. x.kind) same ∙ is))
    (λ later. inr (in_among fs f t later is))
    (contains_cases g fs f h)

-- what there is to tell of a bad key
bad_key_of : (B : Block) (g p : Path) (k : FindingKind) (t : List ℕ) → k ≡ BadKey t → IsKeyFinding B g p k → IsValidKey t → ⊥
bad_key_of B g p k t is h = (subst (IsKeyFinding B g p) is h).1.1

module _ (g : Path) (B C : Block) (up : IsAscending B) (rid : IsRidOf (key_findings g B B) B C) where
  -- a key that is told as bad is not valid
  not_valid_among : (t : List ℕ) → IsBadAmong (key_findings g B B) t → IsValidKey t → ⊥
  not_valid_among t h =
      let w = among_in (key_findings g B B) t h in
      bad_key_of B g w.0.path w.0.kind t w.2 ((keys_exact g B up w.0).0 w.1).1

  -- and each that is not valid is told
  told_bad : (t : List ℕ) → IsSome (node_at_key B t) → (IsValidKey t → ⊥) → IsBadAmong (key_findings g B B) t
  told_bad t has not_valid =
      let f : Finding = record { group = g; path = g; kind = BadKey t } in
      in_among (key_findings g B B) f t ((keys_exact g B up f).1 (refl, (refl, (has, not_valid)))) refl

  -- at a valid key nothing is changed
  valid_same : (t : List ℕ) → IsValidKey t → node_at_key C t ≡ node_at_key B t
  valid_same t valid = by (node_at_key B t) refl (node_at_key C t) refl
    where
      by : (o : Option NodeMetadata) → node_at_key B t ≡ o → (r : Option NodeMetadata) → node_at_key C t ≡ r → node_at_key C t ≡ node_at_key B t
      by (Some m) is r has = (rid t m).1 (λ among. not_valid_among t among valid, is) ∙ sym is
      by None is None has = has ∙ sym is
      by None is (Some m) has = has ∙ sym ((rid t m).0 has).1

  -- what is left are valid keys
  pub rid_valid : HasValidKeys C
  rid_valid t has = by (list_all is_name (relative_names t)) refl (node_at_key C t) refl has
    where
      by : (n : Bool) → list_all is_name (relative_names t) ≡ n → (o : Option NodeMetadata) → node_at_key C t ≡ o → IsSome o → IsValidKey t
      by true n o is some = (names_valid t).1 n
      by false n None is some = absurd (true≢false (sym some))
      by false n (Some m) is some =
          let w = (rid t m).0 is in
          absurd (w.0 (told_bad t (ap is_some w.1) (λ v. true≢false (sym ((names_valid t).0 v) ∙ n))))

  -- so the entries are the same
  entry_same : (ns : Path) → IsPath ns → entry C ns ≡ entry B ns
  entry_same ns h =
      ap (λ o. first_some o (node_at_key C (47 ∷ key_text ns))) (valid_same (key_text ns) (ns, h, inl refl)) ∙ ap (first_some (node_at_key B (key_text ns))) (valid_same (47 ∷ key_text ns) (ns, h, inr refl))

  -- the entries of both blocks below the group are the same
  entries_same : (e : Pair) → Entries C g e ↔ Entries B g e
  entries_same e = (
    λ (n, ns, h, is, has). (n, ns, h, is, sym (entry_same (n ∷ ns) h) ∙ has),
    λ (n, ns, h, is, has). (n, ns, h, is, entry_same (n ∷ ns) h ∙ has),
  )

  -- and what lists them lists those of the block
  pub listed_same : (es : List Pair) → Lists (Entries C g) es → (e : Pair) → Contains es e ↔ Entries B g e
  listed_same es listed e = (λ in'. (entries_same e).0 ((listed_each listed e).0 in'), λ is. (listed_each listed e).1 ((entries_same e).1 is))

-- ---- findings turn on which pairs there are alone

module _ (E E' N N' : Pair → Type 0) (F F' D : Path → Type 0) (g : Path) (low : (d : Pair) → E d → IsBelow g d.0)
    (e : (d : Pair) → E d ↔ E' d) (n : (d : Pair) → IsBelow g d.0 → N d ↔ N' d) (f : (q : Path) → F q ↔ F' q) where
  -- the groups among the entries are the same
  same_group : (q : Path) → HasGroup E q ↔ HasGroup E' q
  same_group q = (λ h. (h.0, (e (q, h.0)).0 h.1, h.2), λ h. (h.0, (e (q, h.0)).1 h.1, h.2))

  -- a path that has an entry of the one has one of the other
  same_entry : (p : Path) → HasPath E p → HasPath E' p
  same_entry p h = (h.0, (e (p, h.0)).0 h.1)

  -- a path that is cut off among the entries of the one is cut off among those of the other
  same_cut : (p : Path) → IsCutOff E g p → IsCutOff E' g p
  same_cut p h = (h.0, h.1, h.2, λ group. h.3 ((same_group h.0).1 group))

  -- where the one has no node or is not spoilt, the other has none and is not
  none_same : (p : Path) → HasPath E p → (HasPath N p → ⊥) → HasPath N' p → ⊥
  none_same p entry none has = none (has.0, (n (p, has.0) (low (p, entry.0) entry.1)).1 has.1)

  -- where the one is not spoilt, the other is not
  clean_same : (p : Path) → (IsSpoilt F p → ⊥) → IsSpoilt F' p → ⊥
  clean_same p clean spoilt = clean (spoilt.0, (f spoilt.0).1 spoilt.1, spoilt.2)

  -- a finding of a path by the one is a finding by the other
  pub finding_same : (p : Path) (k : FindingKind) → IsPathFinding E N F D g p k → IsPathFinding E' N' F' D g p k
  finding_same p Unreachable h = (same_entry p h.0, same_cut p h.1)
  finding_same p Stale h = (same_entry p h.0, none_same p h.0 h.1, clean_same p h.2, h.3)
  finding_same p Unreached h = (same_entry p h.0, none_same p h.0 h.1, clean_same p h.2, h.3)
  finding_same p Differs h = (h.0, h.1, (e (p, h.0)).0 h.2, (n (p, h.1) (low (p, h.0) h.2)).0 h.3, h.4)
  finding_same p Missing h = ((h.0.0, (n (p, h.0.0) h.1).0 h.0.1), h.1, λ has. h.2 (has.0, (e (p, has.0)).1 has.1))
  finding_same p (BlockFault fault) h = absurd h
  finding_same p (BadKey t) h = absurd h
  finding_same p (Shadowed t) h = absurd h
  finding_same p (OwnKey t) h = absurd h
  finding_same p OwnAttributes h = absurd h

-- and so do those of keys and paths together: on the nodes below the group
pub findings_same : (B : Block) (N N' : Pair → Type 0) (F F' D : Path → Type 0) (g : Path) → ((d : Pair) → IsBelow g d.0 → N d ↔ N' d) → ((q : Path) → F q ↔ F' q) → (x : Finding) → IsFinding B N F D g x → IsFinding B N' F' D g x
findings_same B N N' F F' D g n f x h = (h.0, ⊎_elim inl (λ p. inr (finding_same (Entries B g) (Entries B g) N N' F F' D g (λ d is. (is.0, is.1, is.3)) (λ d. (λ y. y, λ y. y)) n f x.path x.kind p)) h.1)

-- ---- own attributes

module _ (g : Path) where
  -- they are told where the document has others
  own_in : (other : Bool) (f : Finding) → Contains (findings_at g g (own_kind other)) f → IsTrue other × (f ≡ own_finding g)
  own_in false f in' = absurd (omega (arith, in'.1))
  own_in true f in' = ⊎_elim (λ same. (refl, sym same)) (λ none. absurd (omega (arith, none.1))) (contains_cases (own_finding g) [] f in')

  -- where the document has others, there is their finding
  own_out : (other : Bool) (f : Finding) → IsTrue other × (f ≡ own_finding g) → Contains (findings_at g g (own_kind other)) f
  own_out false f w = absurd (true≢false (sym w.0))
  own_out true f w = subst (Contains (own_finding g ∷ [])) (sym w.1) (Contains-first (own_finding g) [])

  -- and once
  own_alone : (other : Bool) → AllPairs Precedes (findings_at g g (own_kind other))
  own_alone false = λ i j d l m. absurd (omega (arith, m))
  own_alone true = λ i j d l m. absurd (omega (arith, l, m))

-- ---- all lists in a row

module _ (g : Path) (B : Block) (h under : List Pair) (each_below : (d : Pair) → Contains under d ↔ (Contains h d × IsBelow g d.0)) (F D : Path → Type 0) (es : List Pair) (others : List Finding) (up : IsAscending B) (each : (d : Pair) → Contains es d ↔ Entries B g d)
    (are : ArePathFindings (Contains es) (Contains under) F D g others) where
  -- the findings of paths are those of the block's entries beside all nodes
  path_exact : (f : Finding) → Contains others f ↔ ((f.group ≡ g) × IsPathFinding (Entries B g) (Contains h) F D g f.path f.kind)
  path_exact f = (
    λ in'.
        let w = (are.exact f).0 in' in (
          w.0,
          finding_same (Contains es) (Entries B g) (Contains under) (Contains h) F F D g (λ d in''. let is = (each d).0 in'' in (is.0, is.1, is.3)) each
              (λ d below. (λ x. ((each_below d).0 x).0, λ x. (each_below d).1 (x, below))) (λ q. (λ x. x, λ x. x)) f.path f.kind w.1,
        ),
    λ w.
        (are.exact f).1 (
          w.0,
          finding_same (Entries B g) (Contains es) (Contains h) (Contains under) F F D g (λ d is. (is.0, is.1, is.3)) (λ d. ((each d).1, (each d).0))
              (λ d below. (λ x. (each_below d).1 (x, below), λ x. ((each_below d).0 x).0)) (λ q. (λ x. x, λ x. x)) f.path f.kind w.1,
        ),
  )

  -- a finding of a path is below the group
  path_below : (p : Path) (k : FindingKind) → IsPathFinding (Entries B g) (Contains h) F D g p k → IsBelow g p
  path_below p Unreachable w = (w.0.1.0, w.0.1.1, w.0.1.3)
  path_below p Stale w = (w.0.1.0, w.0.1.1, w.0.1.3)
  path_below p Unreached w = (w.0.1.0, w.0.1.1, w.0.1.3)
  path_below p Differs w = (w.2.0, w.2.1, w.2.3)
  path_below p Missing w = w.1
  path_below p (BlockFault fault) w = absurd w
  path_below p (BadKey t) w = absurd w
  path_below p (Shadowed t) w = absurd w
  path_below p (OwnKey t) w = absurd w
  path_below p OwnAttributes w = absurd w

  -- a finding of a key is told of the group, before all others
  at_group : (p : Path) (k : FindingKind) → IsKeyFinding B g p k → (p ≡ g) × (rank_of k ≡ 0)
  at_group p (BadKey t) w = (w.0, refl)
  at_group p (Shadowed t) w = (w.0, refl)
  at_group p (OwnKey t) w = (w.0, refl)
  at_group p (BlockFault fault) w = absurd w
  at_group p OwnAttributes w = absurd w
  at_group p Unreachable w = absurd w
  at_group p Stale w = absurd w
  at_group p Unreached w = absurd w
  at_group p Differs w = absurd w
  at_group p Missing w = absurd w

  module _ (other : Bool) where
    -- both lists of what is told of the block itself are told of the group
    of_group : (f : Finding) → Contains (own_findings g B other) f → f.path ≡ g
    of_group f in' = ⊎_elim
        (λ key. (at_group f.path f.kind ((keys_exact g B up f).0 key).1).0)
        (λ own. ap (λ x. x.path) (own_in g other f own).1)
        (Contains-append_cases (key_findings g B B) (findings_at g g (own_kind other)) f in')

    -- what is told of keys, of own attributes and of paths in a row is what there is to tell of the block
    pub found_all : (of_block whole : List Finding) → of_block ≡ own_findings g B other → whole ≡ of_block ++ others → AreTold (Ok (B, other)) (Contains h) F D g whole
    found_all of_block whole is all = subst (AreTold (Ok (B, other)) (Contains h) F D g) (sym (all ∙ ap (λ x. x ++ others) is)) (record {
      exact = λ f. (
        λ in'. ⊎_elim
            (λ first. ⊎_elim
            (λ key. let w = (keys_exact g B up f).0 key in inl (w.0, inl w.1))
            (λ own. inr (own_in g other f own))
            (Contains-append_cases (key_findings g B B) (findings_at g g (own_kind other)) f first))
            (λ second. let w = (path_exact f).0 second in inl (w.0, inr w.1))
            (Contains-append_cases (own_findings g B other) others f in'),
        ⊎_elim
            (λ w. ⊎_elim
            (λ key. Contains-append_left (own_findings g B other) others f (Contains-append_left (key_findings g B B) (findings_at g g (own_kind other)) f ((keys_exact g B up f).1 (w.0, key))))
            (λ path. Contains-append_right (own_findings g B other) others f ((path_exact f).1 (w.0, path)))
            w.1)
            (λ own. Contains-append_left (own_findings g B other) others f (Contains-append_right (key_findings g B B) (findings_at g g (own_kind other)) f (own_out g other f own))),
      );
      ascend = all_pairs_append Precedes (own_findings g B other) others
          (all_pairs_append Precedes (key_findings g B B) (findings_at g g (own_kind other)) (told_ascend g B B up) (own_alone g other)
          (λ x y key own.
          let w = at_group x.path x.kind ((keys_exact g B up x).0 key).1 in
          let rank = w.1 in
          subst (Precedes x) (sym (own_in g other y own).1) (inr (w.0, inl (omega (arith, rank))))))
          are.ascend
          (λ x y first second.
          let path = (path_exact y).0 second in
          inl (ap (λ p. path_cmp p y.path) (of_group x first) ∙ below_later g y.path (path_below y.path y.kind path.1)));
    })
