-- What the blocks above a path say otherwise than a loaded store, and than the whole.
use Rattle.std.proofs.Common.{◌≡◌, ◌↔◌, inl, inr, ⊎_elim, Some, Ok, refl, sym, ap, ◌∙◌, subst}
use Rattle.std.specs.Prelude.{option_map, codes}
use Rattle.serde_json.specs.Find.{get_member}
use Rattle.zarrs_store.specs.Contents.{Contents}
use Rattle.zarrs_path.specs.Keys.{zmetadata}
use Rattle.zarrs_path.specs.Paths.{Path, IsBelow}
use Rattle.zarrs_form.specs.Documents.{of_bytes}
use Rattle.zarrs_meta.specs.declared.node.GroupMetadata.TheVariants.{V2, V3}
use Rattle.zarrs_meta.specs.declared.node.NodeMetadata.{NodeMetadata}
use Rattle.zarrs_meta.specs.declared.node.NodeMetadata.TheVariants.{Group, Array}
use Rattle.zarrs_config.specs.declared.version.MetadataRetrieveVersion.TheVariants.{Default}
use Rattle.zarrs_block.specs.Block.{Block, Entries, block_of_in}
use Rattle.zarrs_meaning.specs.Meaning.{meaning, node}
use Rattle.zarrs_block.specs.Zmetadata.{zmetadata_in}
use Rattle.zarrs_meaning.specs.Exists.{HasNodeKey}
use Rattle.zarrs_node.proofs.KeptOfLists.{not_below_itself}
use Rattle.zarrs_check.specs.BlocksAbove.{MeansNoArray, HasNodeFrom, HasBadFrom, IsAboveFinding}
use Rattle.zarrs_check.specs.Checks.{block_read}
use Rattle.zarrs_check.specs.Findings.{IsAtOrAbove, IsPathFinding}
use Rattle.zarrs_meaning.specs.Meaning.{Pair}
use Rattle.zarrs_check.specs.declared.finding.Finding.{Finding}
use Rattle.zarrs_check.specs.declared.finding.FindingKind.TheVariants.{Stale}
use Rattle.zarrs_check.proofs.Blocks.{finding_same}
use Rattle.zarrs_folder.proofs.DecidingDocuments.{has_zmetadata}
use Rattle.zarrs_folder.specs.declared.documents.Documents.TheVariants.{All}
use Rattle.zarrs_folder.specs.PrunedStores.{IsLoadedFrom}
use Rattle.zarrs_folder.proofs.PrunedListings.{base_shows_same, pruned_shows_same}
use Rattle.zarrs_cli.specs.StepsOfRuns.{HoldsAbove, IsSettledAbove}
use Rattle.zarrs_cli.specs.Report.{IsAboveRemark}
use Rattle.zarrs_cli.specs.declared.remark.Remark.{Remark}
use Rattle.zarrs_cli.proofs.LoadedReports.{IsLone, bad_paths_same, document_over, node_key_back, node_key_or, nodes_same}
use Rattle.zarrs_cli.proofs.ToldRemarks.{no_array}

-- an entry at p of the block of a group g above b, from b on, that is no node, and at or below no bad document
pub record IsLoneAbove (S : Contents) (b g p : Path) : Type 0 where
  pub above : IsBelow g b
  pub metadata : NodeMetadata
  pub means : meaning S Default g ≡ node metadata
  pub block : Block
  pub reads : block_read S g metadata ≡ Some (Ok block)
  pub lone : IsLone (Entries block g) (HasNodeFrom S Default b) (HasBadFrom S Default b) p
  pub place : IsAtOrAbove b p

module _ (S L : Contents) (b : Path) (loaded : IsLoadedFrom All S L b) (above : HoldsAbove S L b) where
  -- b means the same
  base_same : meaning L Default b ≡ meaning S Default b
  base_same = (base_shows_same S L b loaded.base).0 Default

  -- so does each path above it
  means_above : (g : Path) → IsBelow g b → meaning L Default g ≡ meaning S Default g
  means_above g low = (base_shows_same S L g (record { numbers = loaded.base.numbers; keys = loaded.base.keys; documents = above g low })).0 Default

  -- and the same is read as its block
  reads_above : (g : Path) → IsBelow g b → (m : NodeMetadata) → block_read L g m ≡ block_read S g m
  reads_above g low (Group (V3 x)) = ap (λ n. option_map (block_of_in n) (get_member (codes "consolidated_metadata") x.additional_fields)) loaded.base.numbers
  reads_above g low (Group (V2 x)) = λ i. option_map (λ bytes. of_bytes (zmetadata_in (loaded.base.numbers i)) bytes) (above g low zmetadata has_zmetadata i)
  reads_above g low (Array a) = refl

  -- where the one has no array at b, the other has none
  none_over : MeansNoArray L Default b → MeansNoArray S Default b
  none_over none a is = none a (base_same ∙ is)

  -- where the whole has no array at b, the loaded store has none
  none_back : MeansNoArray S Default b → MeansNoArray L Default b
  none_back none a is = none a (sym base_same ∙ is)

  -- the nodes from b on
  node_over : (e : Pair) → HasNodeFrom L Default b e → HasNodeFrom S Default b e
  node_over e (has, place) = ⊎_elim
      (λ at. (⊎_elim (λ w. inl (w.0, sym base_same ∙ w.1)) (λ n. let w = n.0.below in absurd (not_below_itself b (w.0, w.1, sym at ∙ w.2))) has, inl at))
      (λ none.
      let below = loaded.below (no_array S b (none_over none)) in
      ((nodes_same S L b (pruned_shows_same S L b below) below.keys below.documents e).0 has, inr (none_over none)))
      place

  -- a node of the whole from b on is one of the loaded store
  node_back : (e : Pair) → HasNodeFrom S Default b e → HasNodeFrom L Default b e
  node_back e (has, place) = ⊎_elim
      (λ at. (⊎_elim (λ w. inl (w.0, base_same ∙ w.1)) (λ n. let w = n.0.below in absurd (not_below_itself b (w.0, w.1, sym at ∙ w.2))) has, inl at))
      (λ none.
      let below = loaded.below (no_array S b none) in
      ((nodes_same S L b (pruned_shows_same S L b below) below.keys below.documents e).1 has, inr (none_back none)))
      place

  -- and what is bad from b on
  bad_over : (q : Path) → HasBadFrom L Default b q → HasBadFrom S Default b q
  bad_over q = ⊎_elim
      (λ w. inl (w.0, (w.1.0, sym base_same ∙ w.1.1)))
      (λ (none, has).
      let below = loaded.below (no_array S b (none_over none)) in
      inr (none_over none, (bad_paths_same S L b (pruned_shows_same S L b below) below.keys below.documents q).0 has))

  -- what is bad in the whole from b on is bad in the loaded store
  bad_back : (q : Path) → HasBadFrom S Default b q → HasBadFrom L Default b q
  bad_back q = ⊎_elim
      (λ w. inl (w.0, (w.1.0, base_same ∙ w.1.1)))
      (λ (none, has).
      let below = loaded.below (no_array S b none) in
      inr (none_back none, (bad_paths_same S L b (pruned_shows_same S L b below) below.keys below.documents q).1 has))

  -- what the part tells as stale is such an entry, where it has no document
  pub lone_above : (f : Finding) → IsAboveFinding L Default b f → f.kind ≡ Stale → IsLoneAbove S b f.group f.path × (HasNodeKey L f.path → ⊥)
  lone_above f h is =
      let w = subst (IsPathFinding (Entries h.block f.group) (HasNodeFrom L Default b) (HasBadFrom L Default b) (HasNodeKey L) f.group f.path) is h.finding in (
        record {
          above = h.above;
          metadata = h.metadata;
          means = sym (means_above f.group h.above) ∙ h.means;
          block = h.block;
          reads = sym (reads_above f.group h.above h.metadata) ∙ h.reads;
          lone = (w.0, (λ n. w.1 (n.0, node_back (f.path, n.0) n.1)), (λ spoilt. w.2 (spoilt.0, bad_back spoilt.0 spoilt.1, spoilt.2)));
          place = h.place;
        },
        w.3,
      )

  -- and such an entry is told as stale in the part that has no document there
  pub stale_above : (g p : Path) → IsLoneAbove S b g p → (HasNodeKey L p → ⊥) → IsAboveFinding L Default b (record { group = g; path = p; kind = Stale })
  stale_above g p h none = record {
    above = h.above;
    metadata = h.metadata;
    means = means_above g h.above ∙ h.means;
    block = h.block;
    reads = reads_above g h.above h.metadata ∙ h.reads;
    finding = (h.lone.0, (λ n. h.lone.1 (n.0, node_over (p, n.0) n.1)), (λ spoilt. h.lone.2 (spoilt.0, bad_over spoilt.0 spoilt.1, spoilt.2)), none);
    place = h.place;
  }

  module _ (settled : IsSettledAbove S L b) where
    -- the documents at such entries are the same
    lone_documents : (g p : Path) → IsLoneAbove S b g p → HasNodeKey L p ↔ HasNodeKey S p
    lone_documents g p h = (
      node_key_back S L p loaded.base.keys,
      λ has. ⊎_elim (λ in'. in') (λ none. absurd (settled (record { group = g; path = p; kind = Stale }) (stale_above g p h none) refl has)) (node_key_or L p),
    )

    -- so the same is told of the blocks above
    pub above_same : (f : Finding) → IsAboveFinding L Default b f ↔ IsAboveFinding S Default b f
    above_same f = (
      λ h.
          let means = sym (means_above f.group h.above) ∙ h.means in
          let reads = sym (reads_above f.group h.above h.metadata) ∙ h.reads in
          let E = Entries h.block f.group in
          record {
            above = h.above;
            metadata = h.metadata;
            means = means;
            block = h.block;
            reads = reads;
            finding = document_over E (HasNodeFrom S Default b) (HasBadFrom S Default b) (HasNodeKey L) (HasNodeKey S) f.group f.path f.kind
                (λ lone. lone_documents f.group f.path (record { above = h.above; metadata = h.metadata; means = means; block = h.block; reads = reads; lone = lone; place = h.place }))
                (finding_same E E (HasNodeFrom L Default b) (HasNodeFrom S Default b) (HasBadFrom L Default b) (HasBadFrom S Default b) (HasNodeKey L) f.group (λ d is. (is.0, is.1, is.3)) (λ d. (λ y. y, λ y. y))
                (λ d low. (node_over d, node_back d)) (λ q. (bad_over q, bad_back q)) f.path f.kind h.finding);
            place = h.place;
          },
      λ h.
          let E = Entries h.block f.group in
          record {
            above = h.above;
            metadata = h.metadata;
            means = means_above f.group h.above ∙ h.means;
            block = h.block;
            reads = reads_above f.group h.above h.metadata ∙ h.reads;
            finding = finding_same E E (HasNodeFrom S Default b) (HasNodeFrom L Default b) (HasBadFrom S Default b) (HasBadFrom L Default b) (HasNodeKey L) f.group (λ d is. (is.0, is.1, is.3)) (λ d. (λ y. y, λ y. y))
                (λ d low. (node_back d, node_over d)) (λ q. (bad_back q, bad_over q)) f.path f.kind
                (document_over E (HasNodeFrom S Default b) (HasBadFrom S Default b) (HasNodeKey S) (HasNodeKey L) f.group f.path f.kind
                (λ lone. let d = lone_documents f.group f.path (record { above = h.above; metadata = h.metadata; means = h.means; block = h.block; reads = h.reads; lone = lone; place = h.place }) in (d.1, d.0))
                h.finding);
            place = h.place;
          },
    )

    -- and reported
    pub above_remarks_same : (r : Remark) → IsAboveRemark L b r ↔ IsAboveRemark S b r
    above_remarks_same r = (λ (f, found, is). (f, (above_same f).0 found, is), λ (f, found, is). (f, (above_same f).1 found, is))
