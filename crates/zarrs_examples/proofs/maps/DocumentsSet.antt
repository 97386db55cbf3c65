-- Documents of version 3 that are set beside those of version 2.
use Rattle.std.proofs.Common.{◌≡◌, ◌≢◌, ◌⊎◌, inl, inr, ⊎_elim, ℕ, Bool, true, false, true≢false, List, [], ◌∷◌, ◌++◌, length, Option, Some, IsTrue, refl, sym, ap, subst, ◌∙◌, append_assoc, append-nil, length-append, arith, Contains, is_some}
use Rattle.std.specs.FinMap as map
use Rattle.std.specs.FinMap.{get}
use Rattle.std.specs.Global.{Vec}
use Rattle.std.specs.Ordering.{eq_by_cmp}
use Rattle.std.proofs.lemmas.List.{append_cancel_left, same_from_push}
use Rattle.zarrs_store.specs.Segments.{Segments, key_cmp}
use Rattle.zarrs_store.specs.Contents.{Contents, with_key, HasBelow}
use Rattle.zarrs_store.proofs.ChildLemmas.{key_cmp-IsAntisymmetric}
use Rattle.zarrs_store.proofs.ContentsLemmas.{tied, get_inserted, AgreesExceptAt-insert}
use Rattle.zarrs_store.proofs.EntryLemmas.{equal_of}
use Rattle.zarrs_path.specs.Keys.{zarr_json}
use Rattle.zarrs_path.specs.Names.{is_all_periods, IsName}
use Rattle.zarrs_path.specs.Paths.{Path, IsPath}
use Rattle.zarrs_path.proofs.NameLemmas.{name_head, name_tail, not_periods}
use Rattle.zarrs_meta.specs.NodeDocuments.{is_version_3}
use Rattle.zarrs_meta.specs.declared.node.NodeMetadata.{NodeMetadata}
use Rattle.zarrs_config.specs.declared.version.MetadataRetrieveVersion.{MetadataRetrieveVersion}
use Rattle.zarrs_config.specs.declared.version.MetadataRetrieveVersion.TheVariants.{Default, V3}
use Rattle.zarrs_meaning.specs.Meaning.{Meaning, meaning, node, nothing, bad}
use Rattle.zarrs_meaning.specs.declared.node_create_error.NodeCreateError.{NodeCreateError}
use Rattle.zarrs_node.specs.Nodes.{IsBadName, MeansNode}
use Rattle.zarrs_node.specs.Changes.{document_files}
use Rattle.zarrs_node.specs.Nodes.{StandsFrom, NodesFrom}
use Rattle.zarrs_examples.specs.MapsOfNodes.{GoesOver, IsToVersion3, AreDocumentsOf, with_documents, DocumentsAreShown}
use Rattle.zarrs_node.proofs.blocks.Current.{meaning_same}
use Rattle.zarrs_node.proofs.ForestsBeside.{Contains-first, Contains-cons}
use Rattle.zarrs_meaning.proofs.Meanings.{same_node}
use Rattle.zarrs_examples.proofs.maps.MapsShown.{stands, mapped_is_shown}
use Rattle.zarrs_node.proofs.Order.{contains_cases}
use Rattle.zarrs_node.proofs.Reach.{head_same, rest_same}
use Rattle.zarrs_meaning.proofs.Versions.{set_v3, set_default, three_alone, nothing_alone, bad_alone}

-- of two keys it is told whether they are one
pub same_or_not : (q k : Segments) → (q ≡ k) ⊎ (q ≢ k)
same_or_not q k =
    elim (eq_by_cmp key_cmp q k) as (λ b. eq_by_cmp key_cmp q k ≡ b → (q ≡ k) ⊎ (q ≢ k)) [
      | true ↦ λ e. inl (key_cmp-IsAntisymmetric q k (equal_of _ e))
      | false ↦ λ e. inr (λ same. true≢false (sym (ap (eq_by_cmp key_cmp q) (sym same) ∙ tied q) ∙ e))
    ] refl

-- at a key stands what one of the documents has
abbrev pub StandsThere : Contents → List (Segments × Vec ℕ) → Segments → Type 0
StandsThere T ds key = (d : Segments × Vec ℕ) × Contains ds d × (d.0 ≡ key) × (get T.values key ≡ Some d.1.items)

-- none of the documents has the key
abbrev pub StandsNot : List (Segments × Vec ℕ) → Segments → Type 0
StandsNot ds key = (d : Segments × Vec ℕ) → Contains ds d → d.0 ≢ key

-- once documents are set, a key has one of them, or what it had
pub get_with : (S : Contents) (ds : List (Segments × Vec ℕ)) (key : Segments)
    → StandsThere (with_documents S ds) ds key ⊎ (StandsNot ds key × (get (with_documents S ds).values key ≡ get S.values key))
get_with S [] key = inr (λ d in'. absurd (omega (arith, in'.1)), refl)
get_with S (d ∷ ds) key = ⊎_elim
    (λ w. inl (w.0, Contains-cons d ds w.0 w.1, w.2, w.3))
    (λ w. ⊎_elim
    (λ same. inl (d, Contains-first d ds, same, w.1 ∙ ap (get (map.insert S.values d.0 d.1.items)) (sym same) ∙ get_inserted S.values d.0 d.1.items))
    (λ other. inr (
      λ x in'. ⊎_elim (λ one. subst (λ y. y.0 ≢ key) one other) (λ rest. w.0 x rest) (contains_cases d ds x in'),
      w.1 ∙ AgreesExceptAt-insert S.values d.0 d.1.items key (λ e. other (sym e)),
    ))
    (same_or_not d.0 key))
    (get_with (with_key S d.0 d.1.items) ds key)

-- the documents may hold what they might
pub numbers_stay : (S : Contents) (ds : List (Segments × Vec ℕ)) → (with_documents S ds).numbers ≡ S.numbers
numbers_stay S [] = refl
numbers_stay S (d ∷ ds) = numbers_stay (with_key S d.0 d.1.items) ds

-- a name of a path, with more names behind it in front of a last one
names_in : (xs gs rest : Path) (n first z : List ℕ) → IsPath xs → gs ++ n ∷ first ∷ rest ≡ xs ++ z ∷ [] → IsName n
names_in [] gs rest n first z valid e =
    let long = ap length e in
    let more = length-append gs (n ∷ first ∷ rest) in
    absurd (omega (arith, long, more))
names_in (x ∷ xs) [] rest n first z valid e = subst IsName (sym (head_same n x (first ∷ rest) (xs ++ z ∷ []) e)) (name_head x xs valid)
names_in (x ∷ xs) (g ∷ gs) rest n first z valid e = names_in xs gs rest n first z (name_tail x xs valid) (rest_same g x (gs ++ n ∷ first ∷ rest) (xs ++ z ∷ []) e)

module _ (f : NodeMetadata → Option NodeMetadata) (to3 : IsToVersion3 f) (S : Contents) (b : Path) (ds : List (Segments × Vec ℕ)) (are : AreDocumentsOf f (NodesFrom S Default b) ds) where
  -- the store with the documents
  abbrev T : Contents
  T = with_documents S ds

  -- p means by either version what f makes of its metadata
  abbrev MeansBoth : Path → NodeMetadata → Type 0
  MeansBoth p m = (c : NodeMetadata) × (f m ≡ Some c) × (meaning T V3 p ≡ node c) × (meaning T Default p ≡ node c)

  -- a document at the key of p is that of p
  set_there : (p : Path) → StandsThere T ds (p ++ zarr_json ∷ []) → (m : NodeMetadata) × MeansNode S Default (p, m) × (is_version_3 m ≡ false) × MeansBoth p m
  set_there p (d, in', at, got) =
      let w = are.only d in' in
      let same : w.0.0 ≡ p = (same_from_push w.0.0 p zarr_json zarr_json (sym w.3.2 ∙ at)).0 in
      let three : is_version_3 w.3.0 ≡ true = to3.version w.0.1 w.3.0 w.3.1 in (
        w.0.1,
        ap (meaning S Default) (sym same) ∙ w.1.1,
        w.2,
        (w.3.0, w.3.1, set_v3 T p d.1.items w.3.0 got w.3.3 three, set_default T p d.1.items w.3.0 got w.3.3 three),
      )

  -- of a path whose `zarr.json` is not set every document is as it was
  files_same : (p : Path) → get T.values (p ++ zarr_json ∷ []) ≡ get S.values (p ++ zarr_json ∷ []) → (file : List ℕ) → Contains document_files file → get T.values (p ++ file ∷ []) ≡ get S.values (p ++ file ∷ [])
  files_same p same file in' = ⊎_elim
      (λ there.
      let w = are.only there.0 there.1 in
      let one : zarr_json ≡ file = (same_from_push w.0.0 p zarr_json file (sym w.3.2 ∙ there.2)).1 in
      ap (λ x. get T.values (p ++ x ∷ [])) (sym one) ∙ same ∙ ap (λ x. get S.values (p ++ x ∷ [])) one)
      (λ w. w.1)
      (get_with S ds (p ++ file ∷ []))

  -- so it means the same
  means_same : (p : Path) → get T.values (p ++ zarr_json ∷ []) ≡ get S.values (p ++ zarr_json ∷ []) → (v : MetadataRetrieveVersion) → meaning T v p ≡ meaning S v p
  means_same p same = meaning_same S T p (numbers_stay S ds) (files_same p same)

  -- what a node from b on means goes over
  node_over : (p : Path) (m : NodeMetadata) → StandsFrom S Default b p → meaning S Default p ≡ node m → MeansBoth p m
  node_over p m stands is = ⊎_elim
      (λ there. let w = set_there p there in subst (MeansBoth p) (same_node w.0 m (sym w.1 ∙ is)) w.3)
      (λ w. by (is_version_3 m) refl w)
      (get_with S ds (p ++ zarr_json ∷ []))
    where
      by : (t : Bool) → is_version_3 m ≡ t → StandsNot ds (p ++ zarr_json ∷ []) × (get T.values (p ++ zarr_json ∷ []) ≡ get S.values (p ++ zarr_json ∷ [])) → MeansBoth p m
      by true three w = (m, to3.stays m three, means_same p w.1 V3 ∙ three_alone S p m three is, means_same p w.1 Default ∙ is)
      by false two w = let v = are.each (p, m) (stands, is) two in absurd (w.0 v.0 v.1 v.2.2)

  -- a path that means nothing still does
  nothing_over : (p : Path) → meaning S Default p ≡ nothing → (meaning T V3 p ≡ nothing) × (meaning T Default p ≡ nothing)
  nothing_over p is = ⊎_elim
      (λ there. let w = set_there p there in let none : nothing ≡ node w.0 = sym is ∙ w.1 in cc)
      (λ w. (means_same p w.1 V3 ∙ nothing_alone S p is, means_same p w.1 Default ∙ is))
      (get_with S ds (p ++ zarr_json ∷ []))

  -- a path that is bad stays so, or means nothing by version 3
  bad_over : (p : Path) (e : NodeCreateError) → meaning S Default p ≡ bad e → ((meaning T V3 p ≡ bad e) ⊎ (meaning T V3 p ≡ nothing)) × (meaning T Default p ≡ bad e)
  bad_over p e is = ⊎_elim
      (λ there. let w = set_there p there in let none : bad e ≡ node w.0 = sym is ∙ w.1 in cc)
      (λ w. (subst (λ x. (x ≡ bad e) ⊎ (x ≡ nothing)) (sym (means_same p w.1 V3)) (bad_alone S p e is), means_same p w.1 Default ∙ is))
      (get_with S ds (p ++ zarr_json ∷ []))

  -- by version 3
  over_v3 : (p : Path) → StandsFrom S Default b p → GoesOver f (meaning S Default p) (meaning T V3 p)
  over_v3 p stands = by (meaning S Default p) refl
    where
      by : (x : Meaning) → meaning S Default p ≡ x → GoesOver f x (meaning T V3 p)
      by (node m) is = let w = node_over p m stands is in (w.0, w.1, w.2)
      by nothing is = (nothing_over p is).0
      by (bad e) is = (bad_over p e is).0

  -- and by default
  over_default : (p : Path) → StandsFrom S Default b p → GoesOver f (meaning S Default p) (meaning T Default p)
  over_default p stands = by (meaning S Default p) refl
    where
      by : (x : Meaning) → meaning S Default p ≡ x → GoesOver f x (meaning T Default p)
      by (node m) is = let w = node_over p m stands is in (w.0, w.1, w.3)
      by nothing is = (nothing_over p is).1
      by (bad e) is = inl (bad_over p e is).1

  -- names that a path has beyond b, where it stands from b on
  beyond : (g : Path) → StandsFrom S Default b g → (gs : Path) × (g ≡ b ++ gs) × IsPath gs
  beyond g stands = ⊎_elim
      (λ same. ([], same ∙ sym (append-nil b), refl))
      (λ r. (r.below.0 ∷ r.below.1, r.below.2, r.below.3))
      stands

  -- no document stands behind a name of periods
  no_periods : (g : Path) (n : List ℕ) → StandsFrom S Default b g → IsTrue (is_all_periods n) → HasBelow T.values (g ++ n ∷ []) → HasBelow S.values (g ++ n ∷ [])
  no_periods g n stands periods (first, rest, held) = ⊎_elim
      (λ there.
      let w = are.only there.0 there.1 in
      let low = beyond g stands in
      let up = beyond w.0.0 w.1.0 in
      let joined : b ++ (low.0 ++ n ∷ first ∷ rest) ≡ b ++ (up.0 ++ zarr_json ∷ []) =
      sym (append_assoc b low.0 (n ∷ first ∷ rest)) ∙ ap (λ x. x ++ n ∷ first ∷ rest) (sym low.1) ∙ sym (append_assoc g (n ∷ []) (first ∷ rest))
      ∙ sym there.2 ∙ w.3.2 ∙ ap (λ x. x ++ zarr_json ∷ []) up.1 ∙ append_assoc b up.0 (zarr_json ∷ []) in
      absurd (true≢false (sym periods ∙ not_periods n (names_in up.0 low.0 rest n first zarr_json up.2 (append_cancel_left b _ _ joined)))))
      (λ w. (first, rest, subst IsTrue (ap is_some w.1) held))
      (get_with S ds ((g ++ n ∷ []) ++ first ∷ rest))

  -- a name of periods that has a key below it had one before
  names_over : (p : Path) → IsBadName (meaning S Default) (HasBelow T.values) true b p → HasBelow S.values p
  names_over p (g, n, listed, periods, below, is, more) = subst (HasBelow S.values) (sym is) (no_periods g n (stands S Default b g listed) periods below)

-- a listing shows what one by default showed, as version 3
pub documents_are_shown : DocumentsAreShown
documents_are_shown f to3 S b ds clean are = (
  mapped_is_shown f to3.kinds S (with_documents S ds) Default V3 b clean (over_v3 f to3 S b ds are) (names_over f to3 S b ds are),
  mapped_is_shown f to3.kinds S (with_documents S ds) Default Default b clean (over_default f to3 S b ds are) (names_over f to3 S b ds are),
)
