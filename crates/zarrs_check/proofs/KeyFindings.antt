-- What is told of the keys of a block.
use Rattle.std.proofs.Common.{◌≡◌, ◌≢◌, ◌↔◌, ◌⊎◌, inl, inr, ⊎_elim, ℕ, Bool, true, false, if◌then◌else◌, cond, List, [], ◌∷◌, ◌++◌, get_or, length, refl, sym, ap, subst, ◌∙◌, arith, append_assoc, Contains, AllPairs, Less, Option, Some, None, is_some, true≢false, Ordering, Equal, Greater, is_eq}
use Rattle.std.specs.List.{AllByRecursion, list_all, slice_split}
use Rattle.std.specs.List.Sorted.{IsStrictlySortedBy}
use Rattle.std.specs.Map.{keys_of}
use Rattle.std.specs.Prelude.{IsSome, unwrap_or, ◌==◌}
use Rattle.std.proofs.lemmas.Bool.{and_parts, eqb-true, false_from_ne_true}
use Rattle.std.proofs.lemmas.List.Elements.{Contains-append_right, Contains-get_or}
use Rattle.std.proofs.lemmas.Map.Lookups.{exact_bytes}
use Rattle.std.proofs.lemmas.List.Kept.{AllPairs-cons}
use Rattle.zarrs_store.specs.Segments.{bytes_cmp, is_slash}
use Rattle.zarrs_path.specs.Names.{is_name}
use Rattle.zarrs_path.specs.Paths.{Path, IsPath, relative_names, parts, without_leading_slash}
use Rattle.zarrs_form.specs.Forms.{is_nil}
use Rattle.zarrs_meta.specs.declared.node.NodeMetadata.{NodeMetadata}
use Rattle.zarrs_block.specs.Block.{Block, IsAscending, IsValidKey, node_at_key}
use Rattle.zarrs_block.specs.BlockExpansion.{is_covered}
use Rattle.zarrs_block.proofs.Expansion.{found_all}
use Rattle.zarrs_block.proofs.KeyLaws.{names_of_key, valid_of_names}
use Rattle.zarrs_node.proofs.ForestsBeside.{Contains-first, Contains-cons}
use Rattle.zarrs_node.proofs.Order.{contains_cases}
use Rattle.zarrs_check.specs.Findings.{IsKeyFinding, key_of, rank_of, Precedes}
use Rattle.zarrs_check.specs.StepsOfComparing.{findings_at, key_kind, key_findings}
use Rattle.zarrs_check.specs.declared.finding.Finding.{Finding}
use Rattle.zarrs_check.specs.declared.finding.FindingKind.{FindingKind}
use Rattle.zarrs_check.specs.declared.finding.FindingKind.TheVariants.{BlockFault, BadKey, Shadowed, OwnKey, OwnAttributes, Unreachable, Stale, Unreached, Differs, Missing}

-- a key is valid where its relative names are names
pub names_valid : (t : List ℕ) → IsValidKey t ↔ IsPath (relative_names t)
names_valid t = (λ v. subst IsPath (sym (names_of_key t v.0 v.1 v.2)) v.1, valid_of_names t)

-- a covered key begins with a slash, and the block has what stands behind that
covered_from : (B : Block) (t : List ℕ) → is_covered B t ≡ true → (u : List ℕ) × (t ≡ 47 ∷ u) × IsSome (node_at_key B u)
covered_from B [] e = absurd (true≢false (sym e))
covered_from B (c ∷ t) e = let h = and_parts (is_slash c) (is_some (node_at_key B t)) e in (t, ap (λ d. d ∷ t) (eqb-true c 47 h.0), h.1)

-- a key that is a text behind a slash is covered where the block has the text
covered_of : (B : Block) (t u : List ℕ) → t ≡ 47 ∷ u → IsSome (node_at_key B u) → is_covered B t ≡ true
covered_of B t u is has = ap (is_covered B) is ∙ has

-- the key of the group itself is empty, or one slash
own_from : (t : List ℕ) → is_nil (without_leading_slash t) ≡ true → (t ≡ []) ⊎ (t ≡ 47 ∷ [])
own_from [] e = inl refl
own_from (c ∷ t) e = by (is_slash c) refl e
  where
    rest : (u : List ℕ) → is_nil u ≡ true → u ≡ []
    rest [] e = refl
    rest (x ∷ u) e = absurd (true≢false (sym e))

    by : (b : Bool) → is_slash c ≡ b → is_nil (cond b t (c ∷ t)) ≡ true → (c ∷ t ≡ []) ⊎ (c ∷ t ≡ 47 ∷ [])
    by true is e = inr (ap (λ d. d ∷ t) (eqb-true c 47 is) ∙ ap (λ u. 47 ∷ u) (rest t e))
    by false is e = absurd (true≢false (sym e))

-- an empty key, and one slash, are the key of the group itself
own_of : (t : List ℕ) → (t ≡ []) ⊎ (t ≡ 47 ∷ []) → is_nil (without_leading_slash t) ≡ true
own_of t = ⊎_elim (ap (λ u. is_nil (without_leading_slash u))) (ap (λ u. is_nil (without_leading_slash u)))

-- another key is not
other_key : (t u : List ℕ) → t ≡ 47 ∷ u → u ≢ [] → is_nil (without_leading_slash t) ≡ false
other_key t [] is some = absurd (some refl)
other_key t (x ∷ u) is some = ap (λ w. is_nil (without_leading_slash w)) is

-- what is told of a key is what there is to tell of it
module _ (g : Path) (B : Block) where
  -- the kind of a key by what it is
  abbrev kind_by : List ℕ → Bool → Bool → Bool → Option FindingKind
  kind_by t own n c = if own then Some (OwnKey t) else if n then (if c then Some (Shadowed t) else None) else Some (BadKey t)

  -- the kind of a key is its finding's
  pub kind_finding : (t : List ℕ) (k : FindingKind) → IsSome (node_at_key B t) → key_kind B t ≡ Some k → IsKeyFinding B g g k × (key_of k ≡ t)
  kind_finding t k has is = by (is_nil (without_leading_slash t)) refl (list_all is_name (relative_names t)) refl (is_covered B t) refl is
    where
      by : (o : Bool) → is_nil (without_leading_slash t) ≡ o → (n : Bool) → list_all is_name (relative_names t) ≡ n → (c : Bool) → is_covered B t ≡ c → kind_by t o n c ≡ Some k → IsKeyFinding B g g k × (key_of k ≡ t)
      by true own n named c cov e =
          let same : OwnKey t ≡ k = ap (λ o. unwrap_or o k) e in
          subst (λ x. IsKeyFinding B g g x × (key_of x ≡ t)) same ((refl, (own_from t own, has)), refl)
      by false own true named true c e =
          let same : Shadowed t ≡ k = ap (λ o. unwrap_or o k) e in
          let w = covered_from B t c in
          let some : w.0 ≢ [] = λ empty. true≢false (sym (own_of t (inr (w.1 ∙ ap (λ u. 47 ∷ u) empty))) ∙ own) in
          subst (λ x. IsKeyFinding B g g x × (key_of x ≡ t)) same ((refl, (w.0, w.1, some, (names_valid t).1 named, has, w.2)), refl)
      by false own true named false c e = cc
      by false own false named cov c e =
          let same : BadKey t ≡ k = ap (λ o. unwrap_or o k) e in
          subst (λ x. IsKeyFinding B g g x × (key_of x ≡ t)) same ((refl, (has, λ v. true≢false (sym ((names_valid t).0 v) ∙ named))), refl)

  -- a bad key is not the group's own, which is valid
  not_own : (t : List ℕ) → (IsValidKey t → ⊥) → is_nil (without_leading_slash t) ≡ false
  not_own t bad = false_from_ne_true (is_nil (without_leading_slash t)) (λ own. bad ([], refl, ⊎_elim inl inr (own_from t own)))

  -- and what there is to tell of a key is its kind
  pub finding_kind : (p : Path) (k : FindingKind) → IsKeyFinding B g p k → (p ≡ g) × IsSome (node_at_key B (key_of k)) × (key_kind B (key_of k) ≡ Some k)
  finding_kind p (BadKey t) h = (h.0, h.1.0, rw (not_own t h.1.1, false_from_ne_true (list_all is_name (relative_names t)) (λ is. h.1.1 ((names_valid t).1 is))) refl)
  finding_kind p (Shadowed t) h = (h.0, h.1.4, rw (other_key t h.1.0 h.1.1 h.1.2, (names_valid t).0 h.1.3, covered_of B t h.1.0 h.1.1 h.1.5) refl)
  finding_kind p (OwnKey t) h = (h.0, h.1.1, rw (own_of t h.1.0) refl)
  finding_kind p (BlockFault fault) h = absurd h
  finding_kind p OwnAttributes h = absurd h
  finding_kind p Unreachable h = absurd h
  finding_kind p Stale h = absurd h
  finding_kind p Unreached h = absurd h
  finding_kind p Differs h = absurd h
  finding_kind p Missing h = absurd h

  -- the kind of a key is of that key, and comes first
  pub kind_key : (t : List ℕ) (k : FindingKind) → key_kind B t ≡ Some k → (key_of k ≡ t) × (rank_of k ≡ 0)
  kind_key t k is = by (is_nil (without_leading_slash t)) (list_all is_name (relative_names t)) (is_covered B t) is
    where
      of_kind : (j : FindingKind) → Some j ≡ Some k → (key_of j ≡ t) × (rank_of j ≡ 0) → (key_of k ≡ t) × (rank_of k ≡ 0)
      of_kind j e h = subst (λ x. (key_of x ≡ t) × (rank_of x ≡ 0)) (ap (λ o. unwrap_or o k) e) h

      by : (o n c : Bool) → kind_by t o n c ≡ Some k → (key_of k ≡ t) × (rank_of k ≡ 0)
      by true n c e = of_kind (OwnKey t) e (refl, refl)
      by false true true e = of_kind (Shadowed t) e (refl, refl)
      by false true false e = cc
      by false false c e = of_kind (BadKey t) e (refl, refl)

  -- a finding of a key of the group
  abbrev pub of_key : FindingKind → Finding
  of_key k = record { group = g; path = g; kind = k }

  -- what is told is told of one of the entries
  pub told_in : (es : Block) (f : Finding) → Contains (key_findings g B es) f → (e : List ℕ × NodeMetadata) × (k : FindingKind) × Contains es e × (key_kind B e.0 ≡ Some k) × (f ≡ of_key k)
  told_in [] f h = absurd (omega (arith, h.1))
  told_in (e ∷ es) f h = by (key_kind B e.0) refl (λ later. let w = told_in es f later in (w.0, w.1, Contains-cons e es w.0 w.2, w.3, w.4)) h
    where
      by : (o : Option FindingKind) → key_kind B e.0 ≡ o → (Contains (key_findings g B es) f → (d : List ℕ × NodeMetadata) × (k : FindingKind) × Contains (e ∷ es) d × (key_kind B d.0 ≡ Some k) × (f ≡ of_key k))
          → Contains (findings_at g g o ++ key_findings g B es) f → (d : List ℕ × NodeMetadata) × (k : FindingKind) × Contains (e ∷ es) d × (key_kind B d.0 ≡ Some k) × (f ≡ of_key k)
      by None is again in' = again in'
      by (Some k) is again in' = ⊎_elim (λ same. (e, k, Contains-first e es, is, sym same)) again (contains_cases (of_key k) (key_findings g B es) f in')

  -- and of each entry what there is to tell is told
  pub told_out : (es : Block) (e : List ℕ × NodeMetadata) (k : FindingKind) → Contains es e → key_kind B e.0 ≡ Some k → Contains (key_findings g B es) (of_key k)
  told_out [] e k h is = absurd (omega (arith, h.1))
  told_out (d ∷ es) e k h is = ⊎_elim
      (λ same. subst (λ o. Contains (findings_at g g o ++ key_findings g B es) (of_key k)) (sym (ap (λ (x : List ℕ × NodeMetadata). key_kind B x.0) same ∙ is)) (Contains-first (of_key k) (key_findings g B es)))
      (λ later. Contains-append_right (findings_at g g (key_kind B d.0)) (key_findings g B es) (of_key k) (told_out es e k later is))
      (contains_cases d es e h)

  -- a key before all later ones is before each of them
  key_before : (t : List ℕ) (es : Block) (e : List ℕ × NodeMetadata) → AllByRecursion (λ y. bytes_cmp t y ≡ Less) (keys_of es) → Contains es e → bytes_cmp t e.0 ≡ Less
  key_before t [] e h in' = absurd (omega (arith, in'.1))
  key_before t (d ∷ es) e h in' = ⊎_elim (λ same. subst (λ (x : List ℕ × NodeMetadata). bytes_cmp t x.0 ≡ Less) same h.0) (λ later. key_before t es e h.1 later) (contains_cases d es e in')

  -- what is told of ascending keys ascends
  pub told_ascend : (es : Block) → IsStrictlySortedBy bytes_cmp (keys_of es) → AllPairs Precedes (key_findings g B es)
  unfolding IsStrictlySortedBy
  told_ascend [] up = λ i j d l m. absurd (omega (arith, m))
  told_ascend (e ∷ es) up = by (key_kind B e.0) refl (told_ascend es up.1)
    where
      by : (o : Option FindingKind) → key_kind B e.0 ≡ o → AllPairs Precedes (key_findings g B es) → AllPairs Precedes (findings_at g g o ++ key_findings g B es)
      by None is rest = rest
      by (Some k) is rest = AllPairs-cons Precedes (of_key k) (key_findings g B es)
          (λ i d l.
          let w = told_in es (get_or (key_findings g B es) i d) (Contains-get_or (key_findings g B es) i d l) in
          let x = kind_key e.0 k is in
          let y = kind_key w.0.0 w.1 w.3 in
          subst (Precedes (of_key k)) (sym w.4) (inr (
            refl,
            inr (x.1 ∙ sym y.1, ap (λ t. bytes_cmp t (key_of w.1)) x.0 ∙ ap (bytes_cmp e.0) y.0 ∙ key_before e.0 es w.0 up.0 w.2),
          )))
          rest

  -- a key that the block has is that of an entry
  key_in : (es : Block) (t : List ℕ) → IsSome (node_at_key es t) → (m : NodeMetadata) × Contains es (t, m)
  key_in [] t h = absurd (true≢false (sym h))
  key_in (e ∷ es) t h = by (bytes_cmp t e.0) refl (λ has. let w = key_in es t has in (w.0, Contains-cons e es (t, w.0) w.1)) h
    where
      by : (o : Ordering) → bytes_cmp t e.0 ≡ o → (IsSome (node_at_key es t) → (m : NodeMetadata) × Contains (e ∷ es) (t, m)) → IsSome (cond (is_eq o) (Some e.1) (node_at_key es t)) → (m : NodeMetadata) × Contains (e ∷ es) (t, m)
      by Equal is again has = (e.1, subst (λ x. Contains (e ∷ es) (x, e.1)) (sym (exact_bytes t e.0 is)) (Contains-first e es))
      by Less is again has = again has
      by Greater is again has = again has

  -- an entry is there at its key
  entry_there : (es : Block) (e : List ℕ × NodeMetadata) → AllByRecursion (λ x. node_at_key B x.0 ≡ Some x.1) es → Contains es e → node_at_key B e.0 ≡ Some e.1
  entry_there [] e all h = absurd (omega (arith, h.1))
  entry_there (d ∷ es) e all h = ⊎_elim (λ same. subst (λ (x : List ℕ × NodeMetadata). node_at_key B x.0 ≡ Some x.1) same all.0) (λ later. entry_there es e all.1 later) (contains_cases d es e h)

  -- what is told of the keys of a block is exactly what there is to tell of them
  pub keys_exact : IsAscending B → (f : Finding) → Contains (key_findings g B B) f ↔ ((f.group ≡ g) × IsKeyFinding B g f.path f.kind)
  keys_exact up f = (
    λ in'.
        let w = told_in B f in' in
        let there : IsSome (node_at_key B w.0.0) = ap is_some (entry_there B w.0 (found_all B up) w.2) in
        subst (λ x. (x.group ≡ g) × IsKeyFinding B g x.path x.kind) (sym w.4) (refl, (kind_finding w.0.0 w.1 there w.3).0),
    λ h.
        let w = finding_kind f.path f.kind h.1 in
        let e = key_in B (key_of f.kind) w.1 in
        subst (Contains (key_findings g B B)) (whole f h.0 w.0) (told_out B (key_of f.kind, e.0) f.kind e.1 w.2),
  )
    where
      whole : (x : Finding) → x.group ≡ g → x.path ≡ g → of_key x.kind ≡ x
      whole x a b = ap (λ q. record { group = q; path = g; kind = x.kind }) (sym a) ∙ ap (λ q. record { group = x.group; path = q; kind = x.kind }) (sym b)

-- the parts of a text that is not empty are those between its slashes
pub parts_split : (t : List ℕ) → (length t == 0) ≡ false → slice_split is_slash t ≡ parts t
parts_split [] e = absurd (true≢false e)
parts_split (b ∷ bs) e = refl

-- one key more is told of
pub told_next : (g : Path) (B left : Block) (e : List ℕ × NodeMetadata) (rest : Block) (old new : List Finding) (o : Option FindingKind) → left ≡ e ∷ rest → o ≡ key_kind B e.0 → new ≡ old ++ findings_at g g o
    → old ++ key_findings g B left ≡ key_findings g B B → new ++ key_findings g B rest ≡ key_findings g B B
told_next g B left e rest old new o is kind more h =
    ap (λ x. x ++ key_findings g B rest) (more ∙ ap (λ k. old ++ findings_at g g k) kind) ∙ append_assoc old (findings_at g g (key_kind B e.0)) (key_findings g B rest) ∙ ap (λ es. old ++ key_findings g B es) (sym is) ∙ h
