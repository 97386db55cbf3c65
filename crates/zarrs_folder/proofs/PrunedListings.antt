-- What a pruned store shows.
use Rattle.std.proofs.Common.{◌≡◌, ◌≤◌, ◌↔◌, ◌⊎◌, inl, inr, ⊎_elim, ℕ, zero, suc, true, List, [], ◌∷◌, ◌++◌, length, refl, sym, ap, subst, ◌∙◌, arith, length-append, append_assoc}
use Rattle.std.specs.Prelude.{option_and_then}
use Rattle.std.specs.Result.{result_ok}
use Rattle.std.specs.FinMap as map
use Rattle.std.proofs.lemmas.List.Elements.{Contains-append_left, Contains-append_right}
use Rattle.zarrs_store.specs.Segments.{Segments}
use Rattle.zarrs_store.specs.Contents.{Contents, Values, HasBelow}
use Rattle.zarrs_path.specs.Paths.{Path, IsBelow}
use Rattle.zarrs_path.specs.Keys.{zmetadata}
use Rattle.zarrs_form.specs.Documents.{of_bytes}
use Rattle.zarrs_meta.specs.declared.node.GroupMetadata.TheVariants.{V2, V3}
use Rattle.zarrs_meta.specs.declared.node.NodeMetadata.{NodeMetadata}
use Rattle.zarrs_meta.specs.declared.node.NodeMetadata.TheVariants.{Group, Array}
use Rattle.zarrs_config.specs.declared.version.MetadataRetrieveVersion.{MetadataRetrieveVersion}
use Rattle.zarrs_config.specs.declared.version.MetadataRetrieveVersion.TheVariants.{Default}
use Rattle.zarrs_meaning.specs.Meaning.{Meaning, meaning}
use Rattle.zarrs_block.specs.Policy.{node_block}
use Rattle.zarrs_block.specs.Zmetadata.{zmetadata_in}
use Rattle.zarrs_meaning.specs.declared.node_create_error.NodeCreateError.{NodeCreateError}
use Rattle.zarrs_node.specs.BlocksBelow.{block_at}
use Rattle.zarrs_node.specs.Changes.{document_files}
use Rattle.zarrs_node.specs.Reach.{HasGroup, Reached, Kept}
use Rattle.zarrs_node.specs.Nodes.{Means, IsListed, IsBadName, HasBadDocument}
use Rattle.zarrs_node.specs.Nodes.{StandsFrom}
use Rattle.zarrs_node.proofs.blocks.Current.{meaning_same}
use Rattle.zarrs_node.proofs.ForestsBeside.{Contains-first}
use Rattle.zarrs_node.proofs.KeptPairs.{reached_between}
use Rattle.zarrs_folder.specs.PrunedStores.{HasBaseOf, HasNoOtherKeys, HasSameFiles}
use Rattle.zarrs_folder.specs.Laws.{BaseShowsSame, PrunedShowsNodes, PrunedShowsSame}
use Rattle.zarrs_folder.specs.declared.documents.Documents.TheVariants.{All}
use Rattle.zarrs_folder.proofs.DecidingDocuments.{files_of_all, loaded_means_same}

-- ---- keys and documents

-- without other keys, nothing stands below a path below which nothing stood
pub no_other_below : (V W : Values) → HasNoOtherKeys V W → (p : Segments) → HasBelow W p → HasBelow V p
no_other_below V W none p (n, ns, has) = (n, ns, none (p ++ n ∷ ns) has)

-- a path with the same files means the same
pub means_same : (S L : Contents) → L.numbers ≡ S.numbers → (p : Path) → HasSameFiles S.values L.values p → (v : MetadataRetrieveVersion) → meaning L v p ≡ meaning S v p
means_same S L alike p same v = meaning_same S L p alike (λ file in'. same file (Contains-append_left document_files (zmetadata ∷ []) file in')) v

-- and has the same document of a block
pub block_same : (V W : Values) (p : Path) → HasSameFiles V W p → map.get W (p ++ zmetadata ∷ []) ≡ map.get V (p ++ zmetadata ∷ [])
block_same V W p same = same zmetadata (Contains-append_right document_files (zmetadata ∷ []) zmetadata (Contains-first zmetadata []))

-- ---- paths

-- what is below something is longer
shorter : (q p : Path) (k : ℕ) → IsBelow q p → length p ≤ suc k → length q ≤ k
shorter q p k up short =
    let long = ap length up.2 in
    let more = length-append q (up.0 ∷ up.1) in
    omega (arith, long, more, short)

-- and has a name
some_name : {A : Type 0} (b p : Path) → IsBelow b p → length p ≤ 0 → A
some_name b p low short =
    let long = ap length low.2 in
    let more = length-append b (low.0 ∷ low.1) in
    absurd (omega (arith, long, more, short))

-- names are some names and a last one
pub last_of : (n : List ℕ) (ns : Path) → (front : Path) × (last : List ℕ) × (n ∷ ns ≡ front ++ last ∷ [])
last_of n [] = ([], n, refl)
last_of n (m ∷ ms) = let w = last_of m ms in (n ∷ w.0, w.1, ap (λ l. n ∷ l) w.2)

-- a path below a base is a path at or below it, and one name
parent_of : (b p : Path) → IsBelow b p → (g : Path) × (x : List ℕ) × (p ≡ g ++ x ∷ []) × ((g ≡ b) ⊎ IsBelow b g)
parent_of b p (n, ns, is) = let w = last_of n ns in by w.0 w.1 (is ∙ ap (λ l. b ++ l) w.2)
  where
    by : (front : Path) (last : List ℕ) → p ≡ b ++ (front ++ last ∷ []) → (g : Path) × (x : List ℕ) × (p ≡ g ++ x ∷ []) × ((g ≡ b) ⊎ IsBelow b g)
    by [] last e = (b, last, e, inl refl)
    by (k ∷ ks) last e = (b ++ k ∷ ks, last, e ∙ sym (append_assoc b (k ∷ ks) (last ∷ [])), inr (k, ks, refl))

-- ---- meanings that are the same at each reached path

module _ (of to : Path → Meaning) (b : Path) (same : (p : Path) → Reached (Means of) true b p → to p ≡ of p) where
  -- a group stays one
  group_over : (q : Path) → Reached (Means of) true b q → HasGroup (Means of) q → HasGroup (Means to) q
  group_over q h (m, is, group) = (m, same q h ∙ is, group)

  -- and was one
  group_back : (q : Path) → Reached (Means of) true b q → HasGroup (Means to) q → HasGroup (Means of) q
  group_back q h (m, is, group) = (m, sym (same q h) ∙ is, group)

  -- what is reached is reached
  reached_over : (p : Path) → Reached (Means of) true b p → Reached (Means to) true b p
  reached_over p h = record {
    below = h.below;
    between = λ q low up. let o = h.between q low up in (o.0, group_over q (reached_between (Means of) true b p h q low up) o.1);
  }

  -- and back, by the number of names
  reached_within : (k : ℕ) (p : Path) → length p ≤ k → Reached (Means to) true b p → Reached (Means of) true b p
  reached_within zero p short h = some_name b p (h.below.0, h.below.1, h.below.2) short
  reached_within (suc k) p short h = record {
    below = h.below;
    between = λ q low up.
        let o = h.between q low up in
        (o.0, group_back q (reached_within k q (shorter q p k up short) (reached_between (Means to) true b p h q low up)) o.1);
  }

  -- and back
  reached_back : (p : Path) → Reached (Means to) true b p → Reached (Means of) true b p
  reached_back p h = let long : length p ≤ length p = omega arith in reached_within (length p) p long h

  -- the nodes are the same
  kept_same : (e : Path × NodeMetadata) → Kept (Means to) true b e ↔ Kept (Means of) true b e
  kept_same e = (λ h. let r = reached_back e.0 h.0 in (r, sym (same e.0 r) ∙ h.1), λ h. (reached_over e.0 h.0, same e.0 h.0 ∙ h.1))

  -- so are the listed paths
  listed_back : (g : Path) → IsListed to true b g → IsListed of true b g
  listed_back g h = ⊎_elim inl (λ w. let r = reached_back g w.0 in inr (r, (w.1.0, group_back g r w.1.1))) h

  -- both ways
  listed_over : (g : Path) → IsListed of true b g → IsListed to true b g
  listed_over g h = ⊎_elim inl (λ w. inr (reached_over g w.0, (w.1.0, group_over g w.0 w.1.1))) h

  -- and the bad documents
  documents_back : (e : NodeCreateError) → HasBadDocument to true b e → HasBadDocument of true b e
  documents_back e (p, h, is) = let r = reached_back p h in (p, r, sym (same p r) ∙ is)

  -- both ways
  documents_over : (e : NodeCreateError) → HasBadDocument of true b e → HasBadDocument to true b e
  documents_over e (p, h, is) = (p, reached_over p h, same p h ∙ is)

-- the parent of a reached path is listed
parent_listed : (of : Path → Meaning) (b p : Path) → Reached (Means of) true b p → (g : Path) × (x : List ℕ) × (p ≡ g ++ x ∷ []) × IsListed of true b g
parent_listed of b p h = let w = parent_of b p (h.below.0, h.below.1, h.below.2) in
    (w.0, w.1, w.2, ⊎_elim inl (λ low. inr (reached_between (Means of) true b p h w.0 low (w.1, [], w.2), h.between w.0 low (w.1, [], w.2))) w.3)

-- ---- two stores

-- a store shows the nodes that the store shows that it is pruned from
pub pruned_shows_nodes : PrunedShowsNodes
pruned_shows_nodes ds S L b pruned = record {
  numbers = pruned.numbers;
  meanings = means;
  reached = λ p. (reached_back of to b same p, reached_over of to b same p);
  nodes = kept_same of to b same;
  ignored = λ p. (
    λ h. let r = reached_back of to b same p h.0 in (r, sym (same p r) ∙ h.1, no_other_below S.values L.values pruned.keys p h.2),
    λ h. (reached_over of to b same p h.0, same p h.0 ∙ h.1, below_of p h.0 h.2),
  );
  bad_names = names;
  refusals = λ e. (
    λ h. ⊎_elim (λ d. inl (documents_back of to b same e d)) (λ d. inr (d.0, (names d.0).0 d.1, d.2)) h,
    λ h. ⊎_elim (λ d. inl (documents_over of to b same e d)) (λ d. inr (d.0, (names d.0).1 d.1, d.2)) h,
  );
}
  where
    of : Path → Meaning
    of = meaning S Default

    to : Path → Meaning
    to = meaning L Default

    means : (p : Path) → StandsFrom S Default b p → meaning L Default p ≡ meaning S Default p
    means p stands = loaded_means_same ds S L p pruned.numbers (pruned.documents p stands)

    same : (p : Path) → Reached (Means of) true b p → to p ≡ of p
    same p h = means p (inr h)

    below_of : (p : Path) → Reached (Means of) true b p → HasBelow S.values p → HasBelow L.values p
    below_of p h has = let w = parent_listed of b p h in
        subst (HasBelow L.values) (sym w.2) (pruned.children w.0 w.1 w.3 (subst (HasBelow S.values) w.2 has))

    names : (p : Path) → IsBadName to (HasBelow L.values) true b p ↔ IsBadName of (HasBelow S.values) true b p
    names p = (
      λ d. (d.0, d.1, listed_back of to b same d.0 d.2, d.3, no_other_below S.values L.values pruned.keys (d.0 ++ d.1 ∷ []) d.4, d.5, d.6),
      λ d. (d.0, d.1, listed_over of to b same d.0 d.2, d.3, pruned.children d.0 d.1 d.2 d.4, d.5, d.6),
    )

-- and with all documents the same
pub pruned_shows_same : PrunedShowsSame
pruned_shows_same S L b pruned =
    (pruned_shows_nodes All S L b pruned, λ p stands. block_same S.values L.values p (files_of_all S.values L.values p (pruned.documents p stands)))

-- ---- the base

-- the block that stands below the base is the same
blocks_same : (S L : Contents) (b : Path) → HasBaseOf S L b → (m : NodeMetadata) → block_at L b m ≡ block_at S b m
blocks_same S L b base (Group (V2 g)) =
    ap (λ n. option_and_then (λ bytes. result_ok (of_bytes (zmetadata_in n) bytes)) (map.get L.values (b ++ zmetadata ∷ []))) base.numbers
    ∙ ap (λ o. option_and_then (λ bytes. result_ok (of_bytes (zmetadata_in S.numbers) bytes)) o) (block_same S.values L.values b base.documents)
blocks_same S L b base (Group (V3 g)) = ap (λ n. node_block n (Group (V3 g))) base.numbers
blocks_same S L b base (Array a) = ap (λ n. node_block n (Array a)) base.numbers

-- a store with the base of another has the same meaning and the same block there
pub base_shows_same : BaseShowsSame
base_shows_same S L b base = (means_same S L base.numbers b base.documents, blocks_same S L b base)
