-- What is reported of a store that shows from a base on what another shows.
use Rattle.std.proofs.Common.{◌≡◌, ◌↔◌, ◌⊎◌, inl, inr, ⊎_elim, ℕ, true, false, true≢false, Contains, List, [], ◌∷◌, ◌++◌, Option, Some, None, is_some, Result, Ok, Err, refl, sym, ap, subst, ◌∙◌}
use Rattle.std.specs.FinMap as map
use Rattle.std.specs.Prelude.{option_and_then, option_map, codes}
use Rattle.serde_json.specs.Find.{get_member}
use Rattle.zarrs_fault.specs.declared.fault.MetadataFault.{MetadataFault}
use Rattle.zarrs_store.specs.Contents.{Contents}
use Rattle.zarrs_path.specs.Paths.{Path}
use Rattle.zarrs_path.specs.Keys.{zarr_json, zarray, zgroup, zattrs, zmetadata}
use Rattle.zarrs_form.specs.Documents.{json_of, of_bytes}
use Rattle.zarrs_meta.specs.Node.{is_group}
use Rattle.zarrs_meta.specs.declared.node.ArrayMetadata.{ArrayMetadata}
use Rattle.zarrs_meta.specs.declared.node.ArrayMetadata.TheVariants.{V2 as array_v2, V3 as array_v3}
use Rattle.zarrs_meta.specs.declared.node.GroupMetadata.TheVariants.{V2, V3}
use Rattle.zarrs_meta.specs.declared.node.NodeMetadata.{NodeMetadata}
use Rattle.zarrs_meta.specs.declared.node.NodeMetadata.TheVariants.{Group, Array}
use Rattle.zarrs_config.specs.declared.version.MetadataRetrieveVersion.TheVariants.{Default}
use Rattle.zarrs_config.specs.declared.version.UseConsolidatedMetadata.TheVariants.{Never}
use Rattle.zarrs_block.specs.Block.{Block, Entries, block_of_in}
use Rattle.zarrs_block.specs.Zmetadata.{zmetadata_in}
use Rattle.zarrs_meaning.specs.declared.node_create_error.NodeCreateError.{NodeCreateError}
use Rattle.zarrs_meaning.specs.Exists.{HasNodeKey}
use Rattle.zarrs_node.specs.Nodes.{StandsFrom}
use Rattle.zarrs_node.specs.Nodes.{Nodes}
use Rattle.zarrs_node.specs.OpeningNodes.{RefusesNode}
use Rattle.zarrs_node.proofs.ForestsBeside.{Contains-cons, Contains-first}
use Rattle.zarrs_notes.specs.Laws.{HaveSameFiles}
use Rattle.zarrs_notes.specs.NodeFindings.{IsNodeFinding}
use Rattle.zarrs_notes.specs.BesideDocuments.{name_of_file}
use Rattle.zarrs_notes.specs.declared.file.NodeFile.{NodeFile}
use Rattle.zarrs_notes.specs.declared.file.NodeFile.TheVariants.{Zarray, Zgroup, Zattrs, Zmetadata, NewZarrJson, NewZmetadata}
use Rattle.zarrs_notes.specs.declared.finding.NodeFinding.{NodeFinding}
use Rattle.zarrs_notes.proofs.LawProofs.{notes_same}
use Rattle.zarrs_check.specs.Checks.{block_read, own_attributes_in, own_read, HasOtherAttributes, HasNode, HasNodeAt, HasBadPath, IsToldOf, IsBlockFinding, IsCount, IsNodeTold}
use Rattle.zarrs_check.specs.Findings.{HasPath, IsSpoilt, IsKeyFinding, IsPathFinding}
use Rattle.zarrs_meaning.specs.Meaning.{Pair, meaning, node}
use Rattle.zarrs_check.specs.Surveys.{BadDocuments}
use Rattle.zarrs_check.specs.Orphans.{IsCountBelow, IsNodeBelow, IsOrphan}
use Rattle.zarrs_check.specs.declared.finding.Finding.{Finding}
use Rattle.zarrs_check.specs.declared.finding.FindingKind.{FindingKind}
use Rattle.zarrs_check.specs.declared.finding.FindingKind.TheVariants.{BlockFault, BadKey, Shadowed, OwnKey, OwnAttributes, Unreachable, Stale, Unreached, Differs, Missing}
use Rattle.zarrs_check.proofs.AlikeNames.{alike_same}
use Rattle.zarrs_check.proofs.Blocks.{findings_same}
use Rattle.zarrs_check.proofs.SomeCount.{passes_or_not}
use Rattle.zarrs_folder.specs.Laws.{ShowSame}
use Rattle.zarrs_folder.specs.declared.documents.Documents.TheVariants.{All}
use Rattle.zarrs_folder.specs.PrunedStores.{HasLoaded, HasNoOtherKeys, HasSameFiles, IsArrayAt, IsLoadedFrom}
use Rattle.zarrs_folder.specs.PassedPaths.{HasSameDocuments, IsPassed}
use Rattle.zarrs_folder.proofs.DecidingDocuments.{files_of_all, has_zarr_json, has_zarray, has_zattrs, has_zgroup, has_zmetadata, of_more, of_none}
use Rattle.zarrs_folder.proofs.LeftFiles.{left_of_v2, left_of_v3}
use Rattle.zarrs_folder.proofs.LoadingSteps.{same_there}
use Rattle.zarrs_folder.proofs.Openings.{lists_over, opened_answer_same, shown_open_same, turned}
use Rattle.zarrs_folder.proofs.PrunedListings.{pruned_shows_same}
use Rattle.zarrs_cli.specs.declared.remark.Remark.{Remark}
use Rattle.zarrs_cli.specs.declared.report.Tally.{Tally}
use Rattle.zarrs_cli.specs.declared.words.CheckOptions.{CheckOptions}
use Rattle.zarrs_cli.specs.StepsOfRuns.{HoldsPassed, IsSettledOver}
use Rattle.zarrs_cli.specs.Report.{IsAboveRemark, IsOwnRemark, IsRemark, IsRemarkFrom, IsNodeRemark, IsAskedFor, IsReport, IsWholeReport}

-- ---- what a document decides

-- an entry without a node, at or below no bad document: whether a document stands there decides what is told of it
abbrev pub IsLone : (Pair → Type 0) → (Pair → Type 0) → (Path → Type 0) → Path → Type 0
IsLone E N F p = HasPath E p × (HasPath N p → ⊥) × (IsSpoilt F p → ⊥)

-- what is told of a path stays, where the documents at such entries do
pub document_over : (E N : Pair → Type 0) (F D D' : Path → Type 0) (g p : Path) (k : FindingKind) → (IsLone E N F p → D p ↔ D' p) → IsPathFinding E N F D g p k → IsPathFinding E N F D' g p k
document_over E N F D D' g p Stale same h = (h.0, h.1, h.2, λ d. h.3 ((same (h.0, h.1, h.2)).1 d))
document_over E N F D D' g p Unreached same h = (h.0, h.1, h.2, (same (h.0, h.1, h.2)).0 h.3)
document_over E N F D D' g p Unreachable same h = h
document_over E N F D D' g p Differs same h = h
document_over E N F D D' g p Missing same h = h
document_over E N F D D' g p (BlockFault fault) same h = absurd h
document_over E N F D D' g p (BadKey t) same h = absurd h
document_over E N F D D' g p (Shadowed t) same h = absurd h
document_over E N F D D' g p (OwnKey t) same h = absurd h
document_over E N F D D' g p OwnAttributes same h = absurd h

-- so does what is told of what was read as a block
documents_over : (r : Option (Result Block MetadataFault)) (O : Type 0) (N : Pair → Type 0) (F D D' : Path → Type 0) (g : Path) (f : Finding)
    → ((B : Block) → r ≡ Some (Ok B) → (p : Path) → IsLone (Entries B g) N F p → D p ↔ D' p) → IsToldOf r O N F D g f → IsToldOf r O N F D' g f
documents_over None O N F D D' g f same h = h
documents_over (Some (Err fault)) O N F D D' g f same h = h
documents_over (Some (Ok B)) O N F D D' g f same h =
    ⊎_elim (λ is. inl (is.0, ⊎_elim inl (λ p. inr (document_over (Entries B g) N F D D' g f.path f.kind (same B refl f.path) p)) is.1)) inr h

-- what is told as stale is such an entry, where there is no document
told_lone : (r : Option (Result Block MetadataFault)) (O : Type 0) (N : Pair → Type 0) (F D : Path → Type 0) (g : Path) (f : Finding) → IsToldOf r O N F D g f → f.kind ≡ Stale
    → (B : Block) × (r ≡ Some (Ok B)) × IsLone (Entries B g) N F f.path × (D f.path → ⊥)
told_lone None O N F D g f h is = absurd h
told_lone (Some (Err fault)) O N F D g f h is = let no : BlockFault fault ≡ Stale = sym (ap (λ x. x.kind) h) ∙ is in cc no
told_lone (Some (Ok B)) O N F D g f h is = ⊎_elim
    (λ w. ⊎_elim
    (λ key. absurd (subst (IsKeyFinding B g f.path) is key))
    (λ path. let q = subst (IsPathFinding (Entries B g) N F D g f.path) is path in (B, refl, (q.0, q.1, q.2), q.3))
    w.1)
    (λ own. let no : OwnAttributes ≡ Stale = sym (ap (λ x. x.kind) own.1) ∙ is in cc no)
    h

-- what is told of what was read as a block is the same beside the same nodes and the same bad documents
told_over : (r : Option (Result Block MetadataFault)) (O P : Type 0) (N M : Pair → Type 0) (F G D : Path → Type 0) (g : Path) (f : Finding) → (O → P) → ((d : Pair) → N d ↔ M d) → ((q : Path) → F q ↔ G q) → IsToldOf r O N F D g f → IsToldOf r P M G D g f
told_over None O P N M F G D g f others nodes spoilt h = h
told_over (Some (Err fault)) O P N M F G D g f others nodes spoilt h = h
told_over (Some (Ok B)) O P N M F G D g f others nodes spoilt h = ⊎_elim (λ is. inl (findings_same B N M F G D g (λ d low. nodes d) spoilt f is)) (λ own. inr (others own.0, own.1)) h

-- ---- documents

-- a store that has the same files of a path has a document there where the other has one
pub node_key_over : (V W : Contents) (p : Path) → HasSameFiles V.values W.values p → HasNodeKey V p → HasNodeKey W p
node_key_over V W p same = ⊎_elim
    (λ h. inl (same_there V.values W.values (p ++ zarr_json ∷ []) (same zarr_json has_zarr_json) h))
    (⊎_elim
    (λ h. inr (inl (same_there V.values W.values (p ++ zarray ∷ []) (same zarray has_zarray) h)))
    (λ h. inr (inr (same_there V.values W.values (p ++ zgroup ∷ []) (same zgroup has_zgroup) h))))

-- a store that has the same documents of a path has one there where the other has one
pub documents_over_key : (V W : Contents) (p : Path) → HasSameDocuments V.values W.values p → HasNodeKey V p → HasNodeKey W p
documents_over_key V W p same = ⊎_elim
    (λ h. inl (same_there V.values W.values (p ++ zarr_json ∷ []) (same zarr_json (Contains-first zarr_json (zarray ∷ zgroup ∷ []))) h))
    (⊎_elim
    (λ h. inr (inl (same_there V.values W.values (p ++ zarray ∷ []) (same zarray (Contains-cons zarr_json (zarray ∷ zgroup ∷ []) zarray (Contains-first zarray (zgroup ∷ [])))) h)))
    (λ h. inr (inr (same_there V.values W.values (p ++ zgroup ∷ [])
    (same zgroup (Contains-cons zarr_json (zarray ∷ zgroup ∷ []) zgroup (Contains-cons zarray (zgroup ∷ []) zgroup (Contains-first zgroup [])))) h))))

-- a store without other keys has no other documents
pub node_key_back : (V W : Contents) (p : Path) → HasNoOtherKeys V.values W.values → HasNodeKey W p → HasNodeKey V p
node_key_back V W p keys = ⊎_elim (λ h. inl (keys (p ++ zarr_json ∷ []) h)) (⊎_elim (λ h. inr (inl (keys (p ++ zarray ∷ []) h))) (λ h. inr (inr (keys (p ++ zgroup ∷ []) h))))

-- a document stands at a path, or none does
pub node_key_or : (V : Contents) (p : Path) → HasNodeKey V p ⊎ (HasNodeKey V p → ⊥)
node_key_or V p = ⊎_elim (λ h. inl (inl h))
    (λ no. ⊎_elim (λ h. inl (inr (inl h)))
    (λ none. ⊎_elim (λ h. inl (inr (inr h))) (λ last. inr (⊎_elim no (⊎_elim none last))) (passes_or_not (is_some (map.get V.values (p ++ zgroup ∷ [])))))
    (passes_or_not (is_some (map.get V.values (p ++ zarray ∷ [])))))
    (passes_or_not (is_some (map.get V.values (p ++ zarr_json ∷ []))))

-- ---- what the documents of nodes tell

-- both stores have the same at a document of p
abbrev AtFile : Contents → Contents → Path → NodeFile → Type 0
AtFile V W p file = map.get W.values (p ++ name_of_file file ∷ []) ≡ map.get V.values (p ++ name_of_file file ∷ [])

-- what is looked at beside the `zarr.json` of a node, and what else is
beside_json : (V W : Contents) (p : Path) → HasSameFiles V.values W.values p → (rest : List NodeFile) → ((file : NodeFile) → Contains rest file → AtFile V W p file)
    → (file : NodeFile) → Contains (Zarray ∷ Zgroup ∷ Zattrs ∷ Zmetadata ∷ rest) file → AtFile V W p file
beside_json V W p same rest others =
    of_more (AtFile V W p) Zarray (Zgroup ∷ Zattrs ∷ Zmetadata ∷ rest) (same zarray has_zarray)
    (of_more (AtFile V W p) Zgroup (Zattrs ∷ Zmetadata ∷ rest) (same zgroup has_zgroup)
    (of_more (AtFile V W p) Zattrs (Zmetadata ∷ rest) (same zattrs has_zattrs) (of_more (AtFile V W p) Zmetadata rest (same zmetadata has_zmetadata) others)))

-- stores that have the same documents of an array have the same of it
same_of_array : (V W : Contents) (p : Path) → HasSameFiles V.values W.values p → (a : ArrayMetadata) → HaveSameFiles W V p (Array a)
same_of_array V W p same (array_v3 a) = beside_json V W p same [] (of_none (AtFile V W p))
same_of_array V W p same (array_v2 a) =
    of_more (AtFile V W p) Zgroup (Zmetadata ∷ []) (same zgroup has_zgroup) (of_more (AtFile V W p) Zmetadata [] (same zmetadata has_zmetadata) (of_none (AtFile V W p)))

-- so have those that have what is loaded of a node
same_documents : (V W : Contents) (p : Path) → HasLoaded All V.values W.values p → (m : NodeMetadata) → meaning V Default p ≡ node m → HaveSameFiles W V p m
same_documents V W p got (Group (V3 g)) means =
    beside_json V W p (files_of_all V.values W.values p got) (NewZarrJson ∷ []) (of_more (AtFile V W p) NewZarrJson [] (left_of_v3 V W p got g means) (of_none (AtFile V W p)))
same_documents V W p got (Group (V2 g)) means = of_more (AtFile V W p) NewZmetadata [] (left_of_v2 V W p got g means) (of_none (AtFile V W p))
same_documents V W p got (Array a) means = same_of_array V W p (files_of_all V.values W.values p got) a

-- so the same is told of a node there
node_told_same : (V W : Contents) (p : Path) → HasLoaded All V.values W.values p → (m : NodeMetadata) → meaning V Default p ≡ node m → (f : NodeFinding) → IsNodeFinding W p m f ↔ IsNodeFinding V p m f
node_told_same V W p got m means f = (notes_same m W V p (same_documents V W p got m means)).0 f

-- what is told of one node is reported alike, where that is the same
pub same_reported : (P Q : Remark → Type 0) → ((r : Remark) → P r ↔ Q r) → (options : CheckOptions) (nodes : ℕ) (tally : Tally) (text : List ℕ) → IsReport P options nodes tally text → IsReport Q options nodes tally text
same_reported P Q same options nodes tally text r = record {
  remarks = r.remarks;
  lists = lists_over (IsAskedFor options P) (IsAskedFor options Q) r.remarks (λ x. (λ h. ((same x).0 h.0, h.1), λ h. ((same x).1 h.0, h.1))) r.lists;
  ascend = r.ascend;
  is = r.is;
  numbers = r.numbers;
}

-- what the documents of an array are told as, where stores have the same there
pub array_remarks_same : (V W : Contents) (p : Path) (m : NodeMetadata) → is_group m ≡ false → HasSameFiles V.values W.values p → (r : Remark) → IsNodeRemark W p m r ↔ IsNodeRemark V p m r
array_remarks_same V W p (Group g) kind same r = absurd (true≢false kind)
array_remarks_same V W p (Array a) kind same r =
    let told = (notes_same (Array a) W V p (same_of_array V W p same a)).0 in
    (λ (f, is, h). (f, (told f).0 is, h), λ (f, is, h). (f, (told f).1 is, h))

-- one or the other, where each is the same
pub either_same : {P Q R T : Type 0} → P ↔ Q → R ↔ T → (P ⊎ R) ↔ (Q ⊎ T)
either_same p r = (⊎_elim (λ h. inl (p.0 h)) (λ h. inr (r.0 h)), ⊎_elim (λ h. inl (p.1 h)) (λ h. inr (r.1 h)))

-- ---- numbers

-- as many of the one as of the other
count_over : (P Q : Pair → Type 0) (n : ℕ) → ((e : Pair) → P e ↔ Q e) → IsCount P n → IsCount Q n
count_over P Q n same h = (h.0, lists_over P Q h.0 same h.1, h.2)

module _ (S L : Contents) (b : Path) (same : ShowSame S L b) (keys : HasNoOtherKeys S.values L.values) (files : (p : Path) → StandsFrom S Default b p → HasLoaded All S.values L.values p) where
  -- the base and the nodes below it
  pub nodes_same : (e : Pair) → HasNode L Default b e ↔ HasNode S Default b e
  nodes_same e = (
    ⊎_elim (λ w. inl (w.0, sym (same.0.meanings b (inl refl)) ∙ w.1)) (λ n. inr ((same.0.nodes e).0 n)),
    ⊎_elim (λ w. inl (w.0, same.0.meanings b (inl refl) ∙ w.1)) (λ n. inr ((same.0.nodes e).1 n)),
  )

  -- and where they stand
  places_same : (p : Path) → HasNodeAt L Default b p ↔ HasNodeAt S Default b p
  places_same p = (λ (m, h). (m, (nodes_same (p, m)).0 h), λ (m, h). (m, (nodes_same (p, m)).1 h))

  -- each stands from the base on
  node_stands : (e : Pair) → HasNode S Default b e → StandsFrom S Default b e.0
  node_stands e h = ⊎_elim (λ w. inl w.0) (λ n. inr n.0) h

  -- and means what it is
  node_means : (e : Pair) → HasNode S Default b e → meaning S Default e.0 ≡ node e.1
  node_means e h = ⊎_elim (λ w. ap (meaning S Default) w.0 ∙ w.1) (λ n. n.1) h

  -- the bad documents
  pub bad_documents_same : (d : Path × NodeCreateError) → BadDocuments L Default b d ↔ BadDocuments S Default b d
  bad_documents_same d = (
    λ h. let r = (same.0.reached d.0).0 h.0 in (r, sym (same.0.meanings d.0 (inr r)) ∙ h.1),
    λ h. ((same.0.reached d.0).1 h.0, same.0.meanings d.0 (inr h.0) ∙ h.1),
  )

  -- the paths of bad documents are the same
  pub bad_paths_same : (q : Path) → HasBadPath L Default b q ↔ HasBadPath S Default b q
  bad_paths_same q = (λ h. (h.0, (bad_documents_same (q, h.0)).0 h.1), λ h. (h.0, (bad_documents_same (q, h.0)).1 h.1))

  -- what is read as the block of a node
  read_same : (p : Path) → StandsFrom S Default b p → (m : NodeMetadata) → block_read L p m ≡ block_read S p m
  read_same p stands (Group (V3 g)) = ap (λ n. option_map (block_of_in n) (get_member (codes "consolidated_metadata") g.additional_fields)) same.0.numbers
  read_same p stands (Group (V2 g)) = λ i. option_map (λ bytes. of_bytes (zmetadata_in (same.0.numbers i)) bytes) (same.1 p stands i)
  read_same p stands (Array a) = refl

  -- the attributes that the document of its block has of it
  own_read_same : (p : Path) → StandsFrom S Default b p → (m : NodeMetadata) → own_read L p m ≡ own_read S p m
  own_read_same p stands (Group (V3 g)) = refl
  own_read_same p stands (Group (V2 g)) = λ i. option_and_then (own_attributes_in (same.0.numbers i)) (option_and_then json_of (same.1 p stands i))
  own_read_same p stands (Array a) = refl

  -- and whether they are others
  others_same : (p : Path) → StandsFrom S Default b p → (m : NodeMetadata) → HasOtherAttributes L p m ↔ HasOtherAttributes S p m
  others_same p stands m = (λ w. (w.0, sym (own_read_same p stands m) ∙ w.1, w.2), λ w. (w.0, own_read_same p stands m ∙ w.1, w.2))

  -- an entry without a node that the one tells as stale is told so in the part that has no document there
  pub told_stale : (g p : Path) (m : NodeMetadata) (B : Block) → HasNode S Default b (g, m) → block_read S g m ≡ Some (Ok B)
      → IsLone (Entries B g) (Nodes S Default true b) (HasBadPath S Default b) p → (HasNodeKey L p → ⊥) → IsBlockFinding L Default b (record { group = g; path = p; kind = Stale })
  told_stale g p m B held read lone none =
      let found : Finding = record { group = g; path = p; kind = Stale } in (
        m,
        (nodes_same (g, m)).1 held,
        subst (λ r. IsToldOf r (HasOtherAttributes L g m) (Nodes L Default true b) (HasBadPath L Default b) (HasNodeKey L) g found) (sym (read_same g (node_stands (g, m) held) m ∙ read))
            (inl (refl, inr (lone.0, (λ has. lone.1 (has.0, (same.0.nodes (p, has.0)).0 has.1)), (λ spoilt. lone.2 (spoilt.0, (bad_paths_same spoilt.0).0 spoilt.1, spoilt.2)), none))),
      )

  -- what the part tells as stale is an entry without a node, where it has no document
  pub stale_lone : (f : Finding) → IsBlockFinding L Default b f → f.kind ≡ Stale → (m : NodeMetadata) × (B : Block) × HasNode S Default b (f.group, m) × (block_read S f.group m ≡ Some (Ok B))
      × IsLone (Entries B f.group) (Nodes S Default true b) (HasBadPath S Default b) f.path × (HasNodeKey L f.path → ⊥)
  stale_lone f (m, has, told) is =
      let held = (nodes_same (f.group, m)).0 has in
      let w = told_lone (block_read S f.group m) (HasOtherAttributes L f.group m) (Nodes L Default true b) (HasBadPath L Default b) (HasNodeKey L) f.group f
      (subst (λ r. IsToldOf r (HasOtherAttributes L f.group m) (Nodes L Default true b) (HasBadPath L Default b) (HasNodeKey L) f.group f) (read_same f.group (node_stands (f.group, m) held) m) told) is in (
        m,
        w.0,
        held,
        w.1,
        (w.2.0, (λ n. w.2.1 (n.0, (same.0.nodes (f.path, n.0)).1 n.1)), (λ spoilt. w.2.2 (spoilt.0, (bad_paths_same spoilt.0).1 spoilt.1, spoilt.2))),
        w.3,
      )

  -- a listing of both goes no further at the same paths
  pub passed_back : (p : Path) → IsPassed S b p → IsPassed L b p
  passed_back p = ⊎_elim
      (λ is. inl ((same.0.ignored p).1 is))
      (λ w. inr ((same.0.reached p).1 w.0, (w.1.0, same.0.meanings p (inr w.0) ∙ w.1.1)))

  -- what refuses the base
  base_refusals : (e : NodeCreateError) → RefusesNode L Default b e ↔ RefusesNode S Default b e
  base_refusals = (opened_answer_same S L Never b (shown_open_same S L b same Never)).refused_node

  module _ (held : HoldsPassed S L b) where
    -- the paths with documents below a path that is passed, and their number
    below_same : (p q : Path) → IsPassed S b p → IsNodeBelow L p q ↔ IsNodeBelow S p q
    below_same p q is = (λ h. (h.0, h.1, node_key_back S L q keys h.2), λ h. (h.0, h.1, held p q is h.1 h.2))

    number_over : (p : Path) (n : ℕ) → IsPassed S b p → IsCountBelow L p n → IsCountBelow S p n
    number_over p n is (qs, h, count) = (qs, lists_over (IsNodeBelow L p) (IsNodeBelow S p) qs (λ q. below_same p q is) h, count)

    number_back : (p : Path) (n : ℕ) → IsPassed S b p → IsCountBelow S p n → IsCountBelow L p n
    number_back p n is (qs, h, count) = (qs, lists_over (IsNodeBelow S p) (IsNodeBelow L p) qs (λ q. turned (below_same p q is)) h, count)

    -- what is lost below paths without documents
    orphans_same : (o : Path × ℕ) → IsOrphan L Default b o ↔ IsOrphan S Default b o
    orphans_same o = (
      λ (is, count, some). let ignored = (same.0.ignored o.0).0 is in (ignored, number_over o.0 o.1 (inl ignored) count, some),
      λ (is, count, some). ((same.0.ignored o.0).1 is, number_back o.0 o.1 (inl is) count, some),
    )

  -- what the documents of nodes tell
  nodes_told_same : (t : Path × NodeFinding) → IsNodeTold L Default b t ↔ IsNodeTold S Default b t
  nodes_told_same t = (
    λ (m, has, is). let held = (nodes_same (t.0, m)).0 has in (m, held, (node_told_same S L t.0 (files t.0 (node_stands (t.0, m) held)) m (node_means (t.0, m) held) t.1).0 is),
    λ (m, has, is). (m, (nodes_same (t.0, m)).1 has, (node_told_same S L t.0 (files t.0 (node_stands (t.0, m) has)) m (node_means (t.0, m) has) t.1).1 is),
  )

  -- the remarks
  own_over : HoldsPassed S L b → (r : Remark) → IsOwnRemark L b r → IsOwnRemark S b r
  own_over held r h = ⊎_elim
      (λ (e, refused, is). inl (e, (base_refusals e).0 refused, is))
      (λ rest. inr (⊎_elim
      (λ (d, n, found, count, is). let bad = (bad_documents_same d).0 found in inl (d, n, bad, number_over held d.0 n (inr (bad.0, (d.1, bad.1))) count, is))
      (λ more. inr (⊎_elim
      (λ (p, found, is). inl (p, (same.0.bad_names p).0 found, is))
      (λ last. inr (⊎_elim
      (λ (o, found, is). inl (o, (orphans_same held o).0 found, is))
      (λ (t, found, is). inr (t, (nodes_told_same t).0 found, is))
      last))
      more))
      rest))
      h

  -- a path's own remark that is to be told of S is to be told of L
  own_back : HoldsPassed S L b → (r : Remark) → IsOwnRemark S b r → IsOwnRemark L b r
  own_back held r h = ⊎_elim
      (λ (e, refused, is). inl (e, (base_refusals e).1 refused, is))
      (λ rest. inr (⊎_elim
      (λ (d, n, found, count, is). inl (d, n, (bad_documents_same d).1 found, number_back held d.0 n (inr (found.0, (d.1, found.1))) count, is))
      (λ more. inr (⊎_elim
      (λ (p, found, is). inl (p, (same.0.bad_names p).1 found, is))
      (λ last. inr (⊎_elim
      (λ (o, found, is). inl (o, (orphans_same held o).1 found, is))
      (λ (t, found, is). inr (t, (nodes_told_same t).1 found, is))
      last))
      more))
      rest))
      h

  module _ (settled : IsSettledOver S L b) (held : HoldsPassed S L b) where
    -- the documents that decide are the same
    lone_same : (g p : Path) (m : NodeMetadata) (B : Block) → HasNode S Default b (g, m) → block_read S g m ≡ Some (Ok B)
        → IsLone (Entries B g) (Nodes S Default true b) (HasBadPath S Default b) p → HasNodeKey L p ↔ HasNodeKey S p
    lone_same g p m B held read lone = (
      node_key_back S L p keys,
      λ has. ⊎_elim (λ in'. in') (λ none. absurd (settled (record { group = g; path = p; kind = Stale }) (told_stale g p m B held read lone none) refl has)) (node_key_or L p),
    )

    -- what there is to tell of blocks
    pub block_findings_same : (f : Finding) → IsBlockFinding L Default b f ↔ IsBlockFinding S Default b f
    block_findings_same f = (
      λ (m, has, told).
          let held = (nodes_same (f.group, m)).0 has in (
            m,
            held,
            documents_over (block_read S f.group m) (HasOtherAttributes S f.group m) (Nodes S Default true b) (HasBadPath S Default b) (HasNodeKey L) (HasNodeKey S) f.group f (λ B is p lone. lone_same f.group p m B held is lone)
                (told_over (block_read S f.group m) (HasOtherAttributes L f.group m) (HasOtherAttributes S f.group m) (Nodes L Default true b) (Nodes S Default true b) (HasBadPath L Default b) (HasBadPath S Default b) (HasNodeKey L) f.group f
                (others_same f.group (node_stands (f.group, m) held) m).0 same.0.nodes bad_paths_same
                (subst (λ r. IsToldOf r (HasOtherAttributes L f.group m) (Nodes L Default true b) (HasBadPath L Default b) (HasNodeKey L) f.group f) (read_same f.group (node_stands (f.group, m) held) m) told)),
          ),
      λ (m, has, told). (
        m,
        (nodes_same (f.group, m)).1 has,
        subst (λ r. IsToldOf r (HasOtherAttributes L f.group m) (Nodes L Default true b) (HasBadPath L Default b) (HasNodeKey L) f.group f) (sym (read_same f.group (node_stands (f.group, m) has) m))
            (told_over (block_read S f.group m) (HasOtherAttributes S f.group m) (HasOtherAttributes L f.group m) (Nodes S Default true b) (Nodes L Default true b) (HasBadPath S Default b) (HasBadPath L Default b) (HasNodeKey L) f.group f
            (others_same f.group (node_stands (f.group, m) has) m).1 (λ d. turned (same.0.nodes d)) (λ q. turned (bad_paths_same q))
            (documents_over (block_read S f.group m) (HasOtherAttributes S f.group m) (Nodes S Default true b) (HasBadPath S Default b) (HasNodeKey S) (HasNodeKey L) f.group f (λ B is p lone. turned (lone_same f.group p m B has is lone)) told)),
      ),
    )

    pub remarks_from_same : (r : Remark) → IsRemarkFrom L b r ↔ IsRemarkFrom S b r
    remarks_from_same r = (
      ⊎_elim (λ h. inl (own_over held r h)) (⊎_elim (λ (t, is, told). inr (inl (t, alike_same (HasNodeAt L Default b) (HasNodeAt S Default b) t places_same is, told)))
          (λ (f, found, is). inr (inr (f, (block_findings_same f).0 found, is)))),
      ⊎_elim (λ h. inl (own_back held r h)) (⊎_elim (λ (t, is, told). inr (inl (t, alike_same (HasNodeAt S Default b) (HasNodeAt L Default b) t (λ p. turned (places_same p)) is, told)))
          (λ (f, found, is). inr (inr (f, (block_findings_same f).1 found, is)))),
    )

    -- their number
    pub count_same : (n : ℕ) → IsCount (HasNode L Default b) n → IsCount (HasNode S Default b) n
    count_same n = count_over (HasNode L Default b) (HasNode S Default b) n nodes_same

    -- the report on the one is that on the other, where the same is told of the blocks above
    pub report_over : ((r : Remark) → IsAboveRemark L b r ↔ IsAboveRemark S b r) → (options : CheckOptions) (tally : Tally) (text : List ℕ) → IsWholeReport L b options tally text → IsWholeReport S b options tally text
    report_over uppers options tally text (n, counted, r) =
        (n, count_same n counted, same_reported (IsRemark L b) (IsRemark S b) (λ x. either_same (remarks_from_same x) (uppers x)) options n tally text r)

-- the report on a loaded store is that on the whole, where the base is no array
pub loaded_report : (S L : Contents) (b : Path) → IsLoadedFrom All S L b → IsSettledOver S L b → HoldsPassed S L b → (IsArrayAt S b → ⊥) → ((r : Remark) → IsAboveRemark L b r ↔ IsAboveRemark S b r)
    → (options : CheckOptions) (tally : Tally) (text : List ℕ) → IsWholeReport L b options tally text → IsWholeReport S b options tally text
loaded_report S L b loaded settled held no_array = let below = loaded.below no_array in report_over S L b (pruned_shows_same S L b below) below.keys below.documents settled held
