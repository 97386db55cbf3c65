-- The block of what a listing finds, over stores that differ by the documents of one path.
use Rattle.std.proofs.Common.{◌≡◌, ◌≢◌, ◌↔◌, inl, inr, ⊎_elim, ℕ, true, List, [], ◌∷◌, ◌++◌, is_some, refl, sym, ap, subst, ◌∙◌, append_assoc, IsTrue}
use Rattle.std.proofs.lemmas.List.{same_from_push}
use Rattle.zarrs_store.specs.Contents.{Contents, HasBelow}
use Rattle.zarrs_path.specs.Names.{is_all_periods}
use Rattle.zarrs_path.specs.Paths.{Path, IsPath, IsBelow}
use Rattle.zarrs_path.proofs.PathTexts.{IsPath-parts, last_name}
use Rattle.zarrs_meta.specs.declared.node.NodeMetadata.{NodeMetadata}
use Rattle.zarrs_config.specs.declared.version.MetadataRetrieveVersion.{MetadataRetrieveVersion}
use Rattle.zarrs_block.specs.Block.{Block, Entries, HasPlainNodesIn, HasValidKeys}
use Rattle.zarrs_meaning.specs.Meaning.{Meaning, meaning, bad}
use Rattle.zarrs_meaning.specs.declared.node_create_error.NodeCreateError.{NodeCreateError}
use Rattle.zarrs_block.proofs.Expansion.{found_all}
use Rattle.zarrs_block.proofs.SameBlocks.{one_block}
use Rattle.zarrs_node.specs.Reach.{HasGroup, Reached, Kept}
use Rattle.zarrs_node.specs.Nodes.{Means, MeansNode, Nodes, IsListed, Bad}
use Rattle.zarrs_node.specs.Forest.{Forest, Shows}
use Rattle.zarrs_node.specs.CurrentBlocks.{LeadsTo, IsFresh, BadAnew}
use Rattle.zarrs_node.specs.Changes.{AgreesOutside, IsDocumentOf}
use Rattle.zarrs_node.specs.ListedBlocks.{IsListedBlock, OneListedBlock, FreshIsListed, ListedBlockStays}
use Rattle.zarrs_node.proofs.blocks.Current.{AtOrBelow, not_below_itself, decided, elsewhere_same, group_elsewhere, reached_elsewhere, reached_from, reached_led, deep_names, fresh_is_block}
use Rattle.zarrs_node.proofs.ListedItems.{listed_each}
use Rattle.zarrs_node.proofs.Inverse.{entries_are, keys_valid, nodes_plain}
use Rattle.zarrs_node.proofs.KeptPairs.{kept_closed, kept_same, nodes_same, reached_more}
use Rattle.zarrs_meaning.proofs.PlainMeanings.{plain_node_in}
use Rattle.zarrs_node.proofs.Unique.{one_forest}
use Rattle.zarrs_node.proofs.walk.WalkSteps.{not_bad_name}

-- ---- keys of the documents of a path

-- where a document of p stands further below a name behind g, p has that name behind g
document_below : (p g : Path) (n first file : List ℕ) (rest : Path) → (g ++ n ∷ []) ++ first ∷ rest ≡ p ++ file ∷ [] → (more : Path) × (p ≡ (g ++ n ∷ []) ++ more)
document_below p g n first file rest e =
    let w = last_name (first ∷ rest) (λ z. cc) in
    (w.0, sym (same_from_push ((g ++ n ∷ []) ++ w.0) p w.1 file (append_assoc (g ++ n ∷ []) w.0 (w.1 ∷ []) ∙ ap (λ l. (g ++ n ∷ []) ++ l) (sym w.2) ∙ e)).0)

-- stores that agree outside the documents of a path have alike what stands further below a name of periods only
bad_name_same : (S T : Contents) (p g : Path) (n : List ℕ) → IsPath p → AgreesOutside p S T → IsTrue (is_all_periods n) → HasBelow T.values (g ++ n ∷ []) → HasBelow S.values (g ++ n ∷ [])
bad_name_same S T p g n valid agrees periods (first, rest, here) = (first, rest, ap is_some (sym (agrees.1 ((g ++ n ∷ []) ++ first ∷ rest) other)) ∙ here)
  where
    other : IsDocumentOf p ((g ++ n ∷ []) ++ first ∷ rest) → ⊥
    other d =
        let w = document_below p g n first d.0 rest d.2 in
        not_bad_name (g ++ n ∷ []) g n (IsPath-parts (g ++ n ∷ []) w.0 (subst IsPath w.1 valid)).0 refl periods

-- so they have alike what stands further below a child of b, where p is b
own_below_same : (S T : Contents) (b g : Path) (n : List ℕ) → AtOrBelow b g → AgreesOutside b S T → HasBelow T.values (g ++ n ∷ []) → HasBelow S.values (g ++ n ∷ [])
own_below_same S T b g n at agrees (first, rest, here) = (first, rest, ap is_some (sym (agrees.1 ((g ++ n ∷ []) ++ first ∷ rest) other)) ∙ here)
  where
    deeper : AtOrBelow b g → (more : Path) → b ≡ (g ++ n ∷ []) ++ more → ⊥
    deeper at more e =
        let whole : b ≡ g ++ n ∷ more = e ∙ append_assoc g (n ∷ []) more in
        ⊎_elim
        (λ same. not_below_itself b (n, more, whole ∙ ap (λ x. x ++ n ∷ more) same))
        (λ low. not_below_itself b (low.0, low.1 ++ n ∷ more, whole ∙ ap (λ x. x ++ n ∷ more) low.2 ∙ append_assoc b (low.0 ∷ low.1) (n ∷ more)))
        at

    other : IsDocumentOf b ((g ++ n ∷ []) ++ first ∷ rest) → ⊥
    other d = let w = document_below b g n first d.0 rest d.2 in deeper at w.0 w.1

-- ---- one listed block

-- two listed blocks of a store are one
pub one_listed_block : OneListedBlock
one_listed_block S v b B C one two =
    one_block B C one.ascending two.ascending (λ t m. (λ h. (two.exact t m).1 ((one.exact t m).0 h), λ h. (one.exact t m).1 ((two.exact t m).0 h)))

-- ---- after a change below the base

module _ (S T : Contents) (v : MetadataRetrieveVersion) (b p : Path) (B C : Block) (valid : IsPath p) (low : IsBelow b p) (agrees : AgreesOutside p S T)
    (listed : IsListedBlock S v b B) (fresh : IsFresh (meaning T v) b B p C) (good : LeadsTo B b p → BadAnew T v p → ⊥) where
  -- what paths mean after the change
  abbrev of : Path → Meaning
  of = meaning T v

  -- what paths meant before it
  abbrev was : Path → Meaning
  was = meaning S v

  -- each path but p means what it meant
  now_same : (q : Path) → q ≢ p → was q ≡ of q
  now_same q other = sym (elsewhere_same S T v p agrees q other)

  -- where something at p or below it is reached, nothing that is made anew there is bad
  none_anew : (q : Path) → AtOrBelow p q → Reached (Means of) true b q → BadAnew T v p → ⊥
  none_anew q at reached = good (reached_led was of b p low valid (elsewhere_same S T v p agrees) B C listed.exact fresh q at reached)

  -- what is reached below p is reached from it
  from_p : (q : Path) → Reached (Means of) true b q → IsBelow p q → HasGroup (Means of) p × Reached (Means of) true p q
  from_p q reached deep = (
    (reached.between p low deep).1,
    reached_from (Means of) b p q reached low deep (deep_names was of b p low valid (elsewhere_same S T v p agrees) B C listed.exact fresh q reached deep),
  )

  -- no reached path is bad
  no_bad_document : (e : NodeCreateError) (q : Path) → Reached (Means of) true b q → of q ≡ bad e → ⊥
  no_bad_document e q reached is = ⊎_elim
      (λ at. none_anew q at reached (⊎_elim
      (λ same. inl (e, ap of (sym same) ∙ is))
      (λ deep. let w = from_p q reached deep in inr (w.0, inl (e, (q, w.1, is))))
      at))
      (λ far. listed.clean (inl (e, (q, reached_elsewhere of was b p now_same q far reached, now_same q (λ same. far (inl same)) ∙ is))))
      (decided p q)

  -- what is listed at p or below it is listed from p, which means a group
  listed_from_p : (g : Path) → AtOrBelow p g → Reached (Means of) true b g → HasGroup (Means of) g → HasGroup (Means of) p × IsListed of true p g
  listed_from_p g at reached group = ⊎_elim
      (λ same. (subst (HasGroup (Means of)) same group, inl same))
      (λ deep. let w = from_p g reached deep in (w.0, inr (w.1, (refl, group))))
      at

  -- no child of what is listed has a name of periods only
  no_bad_name : (x g : Path) (n : List ℕ) → IsListed of true b g → IsTrue (is_all_periods n) → HasBelow T.values (g ++ n ∷ []) → x ≡ g ++ n ∷ [] → n ≢ [] → ⊥
  no_bad_name x g n from periods has is some = ⊎_elim
      (λ at. ⊎_elim
      (λ base. not_below_itself b (⊎_elim
      (λ same. subst (IsBelow b) (sym same ∙ base) low)
      (λ deep. subst (IsBelow b) base (low.0, low.1 ++ deep.0 ∷ deep.1, deep.2 ∙ ap (λ l. l ++ deep.0 ∷ deep.1) low.2 ∙ append_assoc b (low.0 ∷ low.1) (deep.0 ∷ deep.1)))
      at))
      (λ w. let z = listed_from_p g at w.0 w.1.1 in none_anew g at w.0 (inr (z.0, inr (x, (g, n, z.1, periods, has, is, some)))))
      from)
      (λ far. listed.clean (inr (
        x,
        (
          g,
          n,
          ⊎_elim inl (λ w. inr (reached_elsewhere of was b p now_same g far w.0, (refl, group_elsewhere of was b p now_same g (λ same. far (inl same)) w.1.1))) from,
          periods,
          bad_name_same S T p g n valid agrees periods has,
          is,
          some,
        ),
      )))
      (decided p g)

  -- so nothing is bad
  still_clean : Bad T v true b → ⊥
  still_clean worse = ⊎_elim
      (λ w. no_bad_document w.0 w.1.0 w.1.1 w.1.2)
      (λ w. no_bad_name w.0 w.1.0 w.1.1 w.1.2 w.1.3 w.1.4 w.1.5 w.1.6)
      worse

-- the listed block, made current, is the listed block
pub fresh_is_listed : FreshIsListed
fresh_is_listed S T v b p B C valid low agrees listed fresh up good = record {
  exact = fresh_is_block S T v b p B C valid low agrees listed.exact fresh;
  ascending = up;
  clean = still_clean S T v b p B C valid low agrees listed fresh good;
}

-- ---- after a change of the base itself

module _ (S T : Contents) (v : MetadataRetrieveVersion) (b : Path) (agrees : AgreesOutside b S T) where
  -- what is below the base means the same
  below_same : (q : Path) → IsBelow b q → meaning T v q ≡ meaning S v q
  below_same q low = elsewhere_same S T v b agrees q (λ same. not_below_itself b (subst (IsBelow b) same low))

  -- what is reached is reached in the other
  reached_back : (q : Path) → Reached (MeansNode T v) true b q → Reached (MeansNode S v) true b q
  reached_back = reached_more (MeansNode T v) (MeansNode S v) true b (λ e low h. sym (below_same e.0 low) ∙ h)

  -- a listed path is the base or below it
  listed_low : (g : Path) → IsListed (meaning T v) true b g → AtOrBelow b g
  listed_low g from = ⊎_elim inl (λ w. inr (w.0.below.0, w.0.below.1, w.0.below.2)) from

  -- what is bad was bad
  bad_back : Bad T v true b → Bad S v true b
  bad_back worse = ⊎_elim
      (λ w. let h = w.1.1 in inl (w.0, (w.1.0, reached_back w.1.0 h, sym (below_same w.1.0 (h.below.0, h.below.1, h.below.2)) ∙ w.1.2)))
      (λ w. inr (w.0, (w.1.0, w.1.1, listed_back w.1.0 w.1.2, w.1.3, own_below_same S T b w.1.0 w.1.1 (listed_low w.1.0 w.1.2) agrees w.1.4, w.1.5, w.1.6)))
      worse
    where
      listed_back : (g : Path) → IsListed (meaning T v) true b g → IsListed (meaning S v) true b g
      listed_back g from = ⊎_elim inl
          (λ w. inr (reached_back g w.0, (refl, (w.1.1.0, sym (below_same g (w.0.below.0, w.0.below.1, w.0.below.2)) ∙ w.1.1.1, w.1.1.2))))
          from

-- the listed block stays
pub listed_block_stays : ListedBlockStays
listed_block_stays S T v b B agrees listed = record {
  exact = λ t m.
      let same = nodes_same (meaning T v) (meaning S v) true b (below_same S T v b agrees) in (
        λ h. let w = (listed.exact t m).0 h in (w.0, w.1, w.2, (same (b ++ w.0 ∷ w.1, m)).1 w.3),
        λ w. (listed.exact t m).1 (w.0, w.1, w.2, (same (b ++ w.0 ∷ w.1, m)).0 w.3),
      );
  ascending = listed.ascending;
  clean = λ worse. listed.clean (bad_back S T v b agrees worse);
}

-- ---- the block in the place of a listing

module _ (S : Contents) (v : MetadataRetrieveVersion) (b : Path) (B : Block) (listed : IsListedBlock S v b B) where
  -- its metadata could have come from documents that may hold the numbers of the store
  pub listed_plain : HasPlainNodesIn S.numbers B
  listed_plain = nodes_plain (Nodes S v true b) b B (λ e k. k.0.below) listed.exact S.numbers (λ e k. plain_node_in S e.0 v e.1 k.1) B (found_all B listed.ascending)

  -- its keys are valid
  pub listed_keys : HasValidKeys B
  listed_keys = keys_valid (Nodes S v true b) b B (λ e k. k.0.below) listed.exact

  -- its entries are the nodes
  entries_listed : (e : Path × NodeMetadata) → Entries B b e ↔ Nodes S v true b e
  entries_listed = entries_are (Nodes S v true b) b B (λ e k. k.0.below) listed.exact

  -- a forest that shows its kept entries shows what is listed
  pub shown_alike : (f g : Forest) → Shows f b (Kept (Entries B b) true b) → Shows g b (Nodes S v true b) → f ≡ g
  shown_alike f g one two =
      let kept = kept_same (Entries B b) (Nodes S v true b) true b (λ e low. entries_listed e) in
      one_forest b f g one.placed two.placed (λ e. (
        λ in'. (listed_each two.shown e).1 ((entries_listed e).0 ((listed_each one.shown e).0 in').1),
        λ in'. (listed_each one.shown e).1 ((kept e).1 (kept_closed (MeansNode S v) b e ((listed_each two.shown e).0 in'))),
      ))
