-- A block of which nothing is to be told, made current at a path, is itself, nested blocks apart.
use Rattle.std.proofs.Common.{◌≡◌, ◌↔◌, ◌⊎◌, inl, inr, ⊎_elim, ℕ, true, List, [], ◌∷◌, ◌++◌, length, refl, sym, ap, subst, ◌∙◌, append_assoc, arith, Option, Some, None}
use Rattle.std.proofs.lemmas.List.{append_cancel_left}
use Rattle.zarrs_store.specs.Contents.{Contents}
use Rattle.zarrs_store.specs.Segments.{key_text}
use Rattle.zarrs_path.specs.Paths.{Path, IsPath, IsBelow, without_leading_slash}
use Rattle.zarrs_path.proofs.PathTexts.{IsPath-parts}
use Rattle.zarrs_config.specs.declared.version.MetadataRetrieveVersion.{MetadataRetrieveVersion}
use Rattle.zarrs_meta.specs.Node.{is_group}
use Rattle.zarrs_meta.specs.declared.node.GroupMetadata.TheVariants.{V2, V3}
use Rattle.zarrs_meta.specs.declared.node.NodeMetadata.{NodeMetadata}
use Rattle.zarrs_meta.specs.declared.node.NodeMetadata.TheVariants.{Group, Array}
use Rattle.zarrs_block.specs.Block.{Block, Entries, entry, first_some, node_at_key}
use Rattle.zarrs_block.specs.KeysAboutAPath.{IsAbout}
use Rattle.zarrs_meaning.specs.Meaning.{meaning}
use Rattle.zarrs_block.proofs.KeyLaws.{one_text}
use Rattle.zarrs_compare.specs.Same.{IsSame, without_block}
use Rattle.zarrs_node.specs.BlocksOfNodes.{text_beyond}
use Rattle.zarrs_node.specs.CurrentBlocks.{BadAnew, HoldsAt, IsFresh, IsNewPair, LeadsTo}
use Rattle.zarrs_node.specs.Nodes.{Bad, HasNothingBad, IsListed, MeansNode, Nodes}
use Rattle.zarrs_node.specs.Reach.{HasGroup, Kept, Reached}
use Rattle.zarrs_node.proofs.blocks.MeaningsAnew.{about_of, renewed_at}
use Rattle.zarrs_node.proofs.blocks.BlockTexts.{text_is}
use Rattle.zarrs_node.proofs.blocks.Current.{AtOrBelow, about_from, bare_text, decided, reached_from, reached_further}
use Rattle.zarrs_node.proofs.KeptPairs.{reached_between}
use Rattle.zarrs_node.proofs.blocks.Leads.{names_beyond}
use Rattle.zarrs_check.specs.Findings.{HasPath}
use Rattle.zarrs_meaning.specs.Meaning.{Pair}
use Rattle.zarrs_check.specs.Laws.{HaveSameNodes, RefreshedBlocksAgree}
use Rattle.zarrs_check.proofs.AgreeingBlocks.{entry_kept, has_entry, has_node, same_metadata}
use Rattle.zarrs_check.proofs.LawProofs.{nothing_bad_is_told}

-- ---- metadata and what may be absent

-- a group is one without its block too
kind_kept : (m : NodeMetadata) → is_group (without_block m) ≡ is_group m
kind_kept (Group (V3 g)) = refl
kind_kept (Group (V2 g)) = refl
kind_kept (Array a) = refl

-- of two metadata that are the same both are groups or neither is
same_kind : (m n : NodeMetadata) → IsSame m n → is_group m ≡ is_group n
same_kind m n same = sym (kind_kept m) ∙ ap is_group same ∙ kind_kept n

-- what has the same metadata, or none, is the same
same_some : (o p : Option NodeMetadata) → ((m : NodeMetadata) → (o ≡ Some m) ↔ (p ≡ Some m)) → o ≡ p
same_some (Some m) p same = sym ((same m).0 refl)
same_some None (Some m) same = (same m).1 refl
same_some None None same = refl

-- the first of two is there, or else the second
either : (o p : Option NodeMetadata) (m : NodeMetadata) → first_some o p ≡ Some m → (o ≡ Some m) ⊎ (p ≡ Some m)
either (Some k) p m is = inl is
either None p m is = inr is

-- where the first is there it counts
first_counts : (o p : Option NodeMetadata) (m : NodeMetadata) → o ≡ Some m → first_some o p ≡ Some m
first_counts o p m is = ap (λ x. first_some x p) is

-- ---- a block whose entries are the nodes, nested blocks apart

module _ (s : Contents) (v : MetadataRetrieveVersion) (b : Path) (B : Block)
    (to_node : (q : Path) → HasPath (Entries B b) q → HasPath (Nodes s v true b) q) (to_entry : (q : Path) → HasPath (Nodes s v true b) q → HasPath (Entries B b) q)
    (same : (q : Path) (k n : NodeMetadata) → Entries B b (q, k) → Nodes s v true b (q, n) → IsSame k n) where
  -- a group of the block is one of the store
  group_node : (q : Path) → HasGroup (Entries B b) q → HasGroup (MeansNode s v) q
  group_node q g = let n = to_node q (g.0, g.1) in (n.0, n.1.1, sym (same_kind g.0 n.0 (same q g.0 n.0 g.1 n.1)) ∙ g.2)

  -- and a reached one of the store is one of the block
  group_entry : (q : Path) → Reached (MeansNode s v) true b q → HasGroup (MeansNode s v) q → HasGroup (Entries B b) q
  group_entry q reached g =
      let k = to_entry q (g.0, (reached, g.1)) in
      (k.0, k.1, same_kind k.0 g.0 (same q k.0 g.0 k.1 (reached, g.1)) ∙ g.2)

  -- what the block leads to is reached
  led_reached : (q : Path) → LeadsTo B b q → Reached (MeansNode s v) true b q
  led_reached q led = record { below = led.below; between = λ r in' up. (refl, group_node r (led.between r in' up).1) }

  -- and the block leads to what is reached
  reached_led : (q : Path) → Reached (MeansNode s v) true b q → LeadsTo B b q
  reached_led q h = record { below = h.below; between = λ r in' up. (refl, group_entry r (reached_between (MeansNode s v) true b q h r in' up) (h.between r in' up).1) }

  module _ (p : Path) (valid : IsPath p) (low : IsBelow b p) where
    -- what is listed from a reached group is listed from the base
    listed_further : Reached (MeansNode s v) true b p → HasGroup (MeansNode s v) p → (g : Path) → IsListed (meaning s v) true p g → IsListed (meaning s v) true b g
    listed_further one group g listed = inr (⊎_elim
        (λ eq. (subst (Reached (MeansNode s v) true b) (sym eq) one, (refl, subst (HasGroup (MeansNode s v)) (sym eq) group)))
        (λ w. (reached_further (MeansNode s v) b p g one group w.0, w.1))
        listed)

    -- so is what is bad below it
    bad_further : Reached (MeansNode s v) true b p → HasGroup (MeansNode s v) p → Bad s v true p → Bad s v true b
    bad_further one group bad' = ⊎_elim
        (λ w. inl (w.0, (w.1.0, reached_further (MeansNode s v) b p w.1.0 one group w.1.1, w.1.2)))
        (λ w. inr (w.0, (w.1.0, w.1.1, listed_further one group w.1.0 w.1.2, w.1.3, w.1.4, w.1.5, w.1.6)))
        bad'

    -- nothing refuses to make the block current
    pub sound_anew : HasNothingBad s v true b → LeadsTo B b p → BadAnew s v p → ⊥
    sound_anew clean led bad' = clean (⊎_elim
        (λ w. inl (w.0, (p, led_reached p led, w.1)))
        (λ w. bad_further (led_reached p led) w.0 w.1)
        bad')

    -- what is renewed is a node
    renewed_node : LeadsTo B b p → (e : Pair) → IsNewPair (meaning s v) p e → Nodes s v true b e
    renewed_node led e new = (
      ⊎_elim
          (λ eq. subst (Reached (MeansNode s v) true b) (sym eq) (led_reached p led))
          (λ w. reached_further (MeansNode s v) b p e.0 (led_reached p led) w.0 w.1)
          new.1,
      new.0,
    )

    -- the names beyond p of what is reached
    deep_names : (q : Path) → Reached (MeansNode s v) true b q → (deep : IsBelow p q) → IsPath (deep.0 ∷ deep.1)
    deep_names q h deep =
        let cut : h.below.0 ∷ h.below.1 ≡ (low.0 ∷ low.1) ++ deep.0 ∷ deep.1 =
        append_cancel_left b (h.below.0 ∷ h.below.1) ((low.0 ∷ low.1) ++ deep.0 ∷ deep.1)
        (sym h.below.2 ∙ deep.2 ∙ ap (λ x. x ++ deep.0 ∷ deep.1) low.2 ∙ append_assoc b (low.0 ∷ low.1) (deep.0 ∷ deep.1)) in
        (IsPath-parts (low.0 ∷ low.1) (deep.0 ∷ deep.1) (subst IsPath cut h.below.3)).1

    -- a node at p or below it is renewed
    node_renewed : (e : Pair) → AtOrBelow p e.0 → Nodes s v true b e → IsNewPair (meaning s v) p e
    node_renewed e at h = (
      h.1,
      ⊎_elim inl (λ deep. inr ((h.0.between p low deep).1, reached_from (MeansNode s v) b p e.0 h.0 low deep (deep_names e.0 h.0 deep))) at,
    )

    -- and the block leads to p
    node_led : (q : Path) → AtOrBelow p q → Reached (MeansNode s v) true b q → LeadsTo B b p
    node_led q at h = reached_led p (⊎_elim (λ eq. subst (Reached (MeansNode s v) true b) eq h) (λ deep. reached_between (MeansNode s v) true b q h p low deep) at)

    own : IsPath (low.0 ∷ low.1)
    own = names_beyond b p low.0 low.1 low.2 valid

    text : text_beyond b p ≡ key_text (low.0 ∷ low.1)
    text = text_is b p low.0 low.1 low.2

    -- the text of p does not begin with a slash, and is not empty
    bare : (t u rest : List ℕ) → t ≡ key_text (low.0 ∷ low.1) → 47 ∷ u ≡ t ++ 47 ∷ rest → ⊥
    bare [] u rest is e = let empty = ap length (one_text (low.0 ∷ low.1) [] own refl (sym is)) in omega (arith, empty)
    bare (c ∷ t) u rest is e = bare_text (low.0 ∷ low.1) t own (sym is ∙ ap (λ x. x ∷ t) (sym (ap (λ l. head_or l) e)))
      where
        head_or : List ℕ → ℕ
        head_or [] = 0
        head_or (x ∷ xs) = x

    -- names that are neither p's nor below p are no key about p, with or without a slash in front
    far_bare : (q : Path) (n : List ℕ) (ns : Path) → q ≡ b ++ n ∷ ns → IsPath (n ∷ ns) → (AtOrBelow p q → ⊥) → IsAbout (text_beyond b p) (key_text (n ∷ ns)) → ⊥
    far_bare q n ns is names far about = far (about_from b p q n ns low valid is names about)

    far_rooted : (q : Path) (n : List ℕ) (ns : Path) → q ≡ b ++ n ∷ ns → IsPath (n ∷ ns) → (AtOrBelow p q → ⊥) → IsAbout (text_beyond b p) (47 ∷ key_text (n ∷ ns)) → ⊥
    far_rooted q n ns is names far about = ⊎_elim
        (λ at. ⊎_elim
        (λ eq. bare_text (low.0 ∷ low.1) (key_text (n ∷ ns)) own (sym text ∙ sym eq))
        (λ deep. bare (text_beyond b p) (key_text (n ∷ ns)) deep.0 text deep.1)
        at)
        (λ rooted. far_bare q n ns is names far (inl (subst (λ u. ((u ≡ text_beyond b p) ⊎ ((rest : List ℕ) × (u ≡ text_beyond b p ++ 47 ∷ rest)))) (sym (ap without_leading_slash rooted.1)) rooted.2)))
        about

    module _ (C : Block) (fresh : IsFresh (meaning s v) b B p C) where
      -- nothing is renewed at a key that is not about p
      not_renewed : (t : List ℕ) (m : NodeMetadata) → (IsAbout (text_beyond b p) t → ⊥) → HoldsAt (IsNewPair (meaning s v) p) b t m → ⊥
      not_renewed t m far new = far (subst (IsAbout (text_beyond b p)) (sym new.2)
          (about_of b p (b ++ new.0 ∷ new.1) new.0 new.1 low refl (renewed_at (meaning s v) b p low valid (b ++ new.0 ∷ new.1, m) new.3)))

      -- there both blocks have the same
      same_there : (t : List ℕ) → (IsAbout (text_beyond b p) t → ⊥) → node_at_key C t ≡ node_at_key B t
      same_there t far = same_some (node_at_key C t) (node_at_key B t) λ m. (
        λ is. ⊎_elim (λ kept. kept.1) (λ new. absurd (not_renewed t m far new.1)) ((fresh t m).0 is),
        λ is. (fresh t m).1 (inl (far, is)),
      )

      -- so neither at p nor below it both have the same entries
      same_entries : (q : Path) → (AtOrBelow p q → ⊥) → (k : NodeMetadata) → Entries B b (q, k) ↔ Entries C b (q, k)
      same_entries q far k = (
        λ e. (e.0, e.1, e.2, e.3, one e.0 e.1 e.2 e.3 ∙ e.4),
        λ e. (e.0, e.1, e.2, e.3, sym (one e.0 e.1 e.2 e.3) ∙ e.4),
      )
        where
          one : (n : List ℕ) (ns : Path) → IsPath (n ∷ ns) → q ≡ b ++ n ∷ ns → entry C (n ∷ ns) ≡ entry B (n ∷ ns)
          one n ns names is =
              ap (λ o. first_some o (node_at_key C (47 ∷ key_text (n ∷ ns)))) (same_there (key_text (n ∷ ns)) (far_bare q n ns is names far))
              ∙ ap (first_some (node_at_key B (key_text (n ∷ ns)))) (same_there (47 ∷ key_text (n ∷ ns)) (far_rooted q n ns is names far))

      -- at p or below it an entry is a node
      entry_node : (q : Path) → AtOrBelow p q → (k : NodeMetadata) → Entries C b (q, k) → Nodes s v true b (q, k)
      entry_node q at k (n, ns, names, is, has) = ⊎_elim
          (λ plain. ⊎_elim
          (λ kept. absurd (kept.0 about))
          (λ new. found new.0 new.1)
          ((fresh (key_text (n ∷ ns)) k).0 plain))
          (λ rooted. ⊎_elim
          (λ kept. absurd (kept.0 (⊎_elim (λ near. inr (key_text (n ∷ ns), refl, near)) (λ behind. absurd (bare_text (n ∷ ns) behind.0 names behind.1)) about)))
          (λ new. absurd (bare_text (new.1.0 ∷ new.1.1) (key_text (n ∷ ns)) (renewed_path new.0 (new.1.0) (new.1.1) new.1.3) (sym new.1.2)))
          ((fresh (47 ∷ key_text (n ∷ ns)) k).0 rooted))
          (either (node_at_key C (key_text (n ∷ ns))) (node_at_key C (47 ∷ key_text (n ∷ ns))) k has)
        where
          about : IsAbout (text_beyond b p) (key_text (n ∷ ns))
          about = about_of b p q n ns low is at

          renewed_path : LeadsTo B b p → (x : List ℕ) (xs : Path) → IsNewPair (meaning s v) p (b ++ x ∷ xs, k) → IsPath (x ∷ xs)
          renewed_path led x xs new =
              let w = (renewed_node led (b ++ x ∷ xs, k) new).0.below in
              subst IsPath (sym (append_cancel_left b (x ∷ xs) (w.0 ∷ w.1) w.2)) w.3

          found : LeadsTo B b p → HoldsAt (IsNewPair (meaning s v) p) b (key_text (n ∷ ns)) k → Nodes s v true b (q, k)
          found led new =
              let eq : n ∷ ns ≡ new.0 ∷ new.1 = one_text (n ∷ ns) (new.0 ∷ new.1) names (renewed_path led new.0 new.1 new.3) new.2 in
              subst (λ r. Nodes s v true b (r, k)) (sym (is ∙ ap (λ l. b ++ l) eq)) (renewed_node led (b ++ new.0 ∷ new.1, k) new.3)

      -- and a node is an entry
      node_entry : (q : Path) → AtOrBelow p q → (k : NodeMetadata) → Nodes s v true b (q, k) → Entries C b (q, k)
      node_entry q at k h =
          let w = h.0.below in (
            w.0,
            w.1,
            w.3,
            w.2,
            first_counts (node_at_key C (key_text (w.0 ∷ w.1))) (node_at_key C (47 ∷ key_text (w.0 ∷ w.1))) k
                ((fresh (key_text (w.0 ∷ w.1)) k).1 (inr (node_led q at h.0, (w.0, w.1, refl, subst (λ r. IsNewPair (meaning s v) p (r, k)) w.2 (node_renewed (q, k) at h))))),
          )

      -- the block made current is itself, nested blocks apart
      pub refreshed_agrees : HaveSameNodes (Entries B b) (Entries C b)
      refreshed_agrees = record {
        paths = λ q. (
          λ w. ⊎_elim (λ at. let n = to_node q w in (n.0, node_entry q at n.0 n.1)) (λ far. (w.0, (same_entries q far w.0).0 w.1)) (decided p q),
          λ w. ⊎_elim (λ at. to_entry q (w.0, entry_node q at w.0 w.1)) (λ far. (w.0, (same_entries q far w.0).1 w.1)) (decided p q),
        );
        metadata = λ q k c old new. ⊎_elim
            (λ at. same q k c old (entry_node q at c new))
            (λ far. alike q k c old ((same_entries q far c).1 new))
            (decided p q);
      }
        where
          alike : (q : Path) (k c : NodeMetadata) → Entries B b (q, k) → Entries B b (q, c) → IsSame k c
          alike q k c one two =
              let n = to_node q (k, one) in
              let x = same q k n.0 one n.1 in
              let y = same q c n.0 two n.1 in
              x ∙ sym y

-- ---- the law

-- a block of which nothing is to be told is made current at any path with no refusal, and is itself then
pub refreshed_blocks_agree : RefreshedBlocksAgree
refreshed_blocks_agree s v b survey h sound named m B base read none p valid low = (
  sound_anew s v b B to_node to_entry same p valid low ((nothing_bad_is_told s v b survey h).0 (sound, named)),
  λ C fresh. refreshed_agrees s v b B to_node to_entry same p valid low C fresh,
)
  where
    kept : (e : Pair) → Entries B b e → Kept (Entries B b) true b e
    kept = entry_kept s v b survey h sound m B base read none

    to_node : (q : Path) → HasPath (Entries B b) q → HasPath (Nodes s v true b) q
    to_node q w = has_node s v b survey h sound m B base read none q (w.0, kept (q, w.0) w.1)

    to_entry : (q : Path) → HasPath (Nodes s v true b) q → HasPath (Entries B b) q
    to_entry q w = let k = has_entry s v b survey h sound m B base read none q w in (k.0, k.1.1)

    same : (q : Path) (k n : NodeMetadata) → Entries B b (q, k) → Nodes s v true b (q, n) → IsSame k n
    same q k n one two = same_metadata s v b survey h sound m B base read none q k n (kept (q, k) one) two
