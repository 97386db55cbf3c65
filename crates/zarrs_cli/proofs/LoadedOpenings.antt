-- What opening shows over a store that opens at a base as another.
use Rattle.std.proofs.Common.{◌≡◌, ◌↔◌, inl, inr, ⊎_elim, refl, sym, subst, ◌∙◌}
use Rattle.zarrs_store.specs.Contents.{Contents}
use Rattle.zarrs_path.specs.Paths.{Path, IsPath, path_text}
use Rattle.zarrs_path.proofs.LawProofs.{texts_differ}
use Rattle.zarrs_meta.specs.declared.node.NodeMetadata.{NodeMetadata}
use Rattle.zarrs_meta.specs.declared.node.NodeMetadata.TheVariants.{Group, Array}
use Rattle.zarrs_config.specs.declared.version.MetadataRetrieveVersion.TheVariants.{Default}
use Rattle.zarrs_config.specs.declared.version.UseConsolidatedMetadata.{UseConsolidatedMetadata}
use Rattle.zarrs_block.specs.Policy.{Choice, use_block, list_store, refuse}
use Rattle.zarrs_meaning.specs.Meaning.{meaning, node}
use Rattle.zarrs_meaning.specs.declared.node_create_error.NodeCreateError.{NodeCreateError}
use Rattle.zarrs_node.specs.OpeningNodes.{choice, IsCleanBelow, RefusesOpening}
use Rattle.zarrs_hierarchy.specs.PairsOfHierarchies.{Pairs, Holds, WithBase}
use Rattle.zarrs_hierarchy.specs.OpeningHierarchies.{PairsChosen, PairsOf, IsOpened}
use Rattle.zarrs_folder.specs.Openings.{ListSame, OpenSame}
use Rattle.zarrs_folder.proofs.Openings.{lists_over, below_same, opened_answer_same}

-- the pairs of a choice are the same where those of a listing are
pairs_chosen : (S L : Contents) (b : Path) (c : Choice) → (c ≡ list_store → ListSame S L b) → (e : Path × NodeMetadata) → PairsChosen L Default c b e ↔ PairsChosen S Default c b e
pairs_chosen S L b (use_block B) same e = (λ h. h, λ h. h)
pairs_chosen S L b list_store same e = (same refl).nodes e
pairs_chosen S L b refuse same e = (λ h. h, λ h. h)

module _ (S L : Contents) (policy : UseConsolidatedMetadata) (b : Path) (same : OpenSame S L policy b) where
  -- what stands below the base
  pub pairs_same : (m : NodeMetadata) → meaning S Default b ≡ node m → (e : Path × NodeMetadata) → PairsOf L Default policy b m e ↔ PairsOf S Default policy b m e
  pairs_same (Array a) is e = (λ h. h, λ h. h)
  pairs_same (Group g) is e =
      let both = pairs_chosen S L b (choice S policy b (Group g)) (same.listed g is) e in (
        λ h. both.0 (subst (λ c. PairsChosen L Default c b e) (same.choices (Group g)) h),
        λ h. subst (λ c. PairsChosen L Default c b e) (sym (same.choices (Group g))) (both.1 h),
      )

  -- and the base before it
  with_base_same : (m : NodeMetadata) → meaning S Default b ≡ node m → (e : Path × NodeMetadata)
      → WithBase b m (PairsOf L Default policy b m) e ↔ WithBase b m (PairsOf S Default policy b m) e
  with_base_same m is e = (⊎_elim inl (λ h. inr ((pairs_same m is e).0 h)), ⊎_elim inl (λ h. inr ((pairs_same m is e).1 h)))

  -- pairs that hold what is shown over the one store hold what is shown over the other
  holds_over : (h : Pairs) (m : NodeMetadata) → meaning S Default b ≡ node m → Holds h (WithBase b m (PairsOf L Default policy b m)) → Holds h (WithBase b m (PairsOf S Default policy b m))
  holds_over h m is held = record {
    held = lists_over (WithBase b m (PairsOf L Default policy b m)) (WithBase b m (PairsOf S Default policy b m)) h (with_base_same m is) held.held;
    ordered = held.ordered;
  }

  -- what the one opens the other does
  pub opened_over : IsPath b → (h : Pairs) → IsOpened L Default policy (path_text b) h → IsOpened S Default policy (path_text b) h
  opened_over valid h opened =
      let m : NodeMetadata = opened.metadata in
      let path : opened.base ≡ b = texts_differ opened.base b opened.valid valid opened.path in
      let is : meaning S Default b ≡ node m = sym same.means ∙ subst (λ p. meaning L Default p ≡ node m) path opened.means in
      record {
        base = b;
        valid = valid;
        path = refl;
        metadata = m;
        means = is;
        holds = holds_over h m is (subst (λ p. Holds h (WithBase p m (PairsOf L Default policy p m))) path opened.holds);
        clean = (below_same S L policy b same m is).clean.0 (subst (λ p. IsCleanBelow L Default policy p m) path opened.clean);
      }

  -- and what refuses opening the one refuses the other
  pub refused_over : IsPath b → (e : NodeCreateError) → RefusesOpening L Default policy (path_text b) e → RefusesOpening S Default policy (path_text b) e
  refused_over valid e h = ((opened_answer_same S L policy b same).refused valid e).0 h
