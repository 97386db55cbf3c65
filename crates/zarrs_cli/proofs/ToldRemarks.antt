-- The remarks on a survey and on the findings beside it are exactly what there is to tell, each once.
use Rattle.std.proofs.Common.{◌≡◌, ◌≢◌, ◌⊎◌, inl, inr, ⊎_elim, ℕ, ◌+◌, true, true≢false, List, [], ◌∷◌, ◌++◌, get_or, length, map, zip, AllPairs, Option, Some, None, Less, is_eq, refl, sym, ap, subst, ◌∙◌, arith, ◌<◌, Contains, append_assoc, codes, take}
use Rattle.std.specs.List.{list_all}
use Rattle.std.specs.Option.{unwrap_or}
use Rattle.std.proofs.lemmas.Bool.{and_parts}
use Rattle.std.proofs.lemmas.Cmp.{tied_itself, nat_list_cmp_total}
use Rattle.std.proofs.lemmas.List.{take_more, map-append}
use Rattle.std.proofs.lemmas.List.Elements.{Contains-append_left, Contains-append_right, Contains-append_cases, Contains-get_or}
use Rattle.std.proofs.lemmas.List.Kept.{AllPairs-cons, AllPairs-filter}
use Rattle.std.proofs.lemmas.List.Sorted.{All-permutation, Contains-permutation}
use Rattle.zarrs_store.specs.Segments.{last_segment, bytes_cmp}
use Rattle.zarrs_store.specs.Contents.{Contents, Lists}
use Rattle.zarrs_store.proofs.ChildLemmas.{last_segment-child}
use Rattle.zarrs_path.specs.Names.{is_name, IsName}
use Rattle.zarrs_path.specs.Paths.{Path, IsBelow, IsPath, path_cmp}
use Rattle.zarrs_path.proofs.NameLemmas.{not_periods}
use Rattle.zarrs_meta.specs.declared.node.NodeMetadata.{NodeMetadata}
use Rattle.zarrs_meta.specs.declared.node.NodeMetadata.TheVariants.{Group, Array}
use Rattle.zarrs_config.specs.declared.version.MetadataRetrieveVersion.TheVariants.{Default}
use Rattle.zarrs_meaning.specs.Meaning.{Meaning, meaning, node, nothing, bad}
use Rattle.zarrs_meaning.specs.Refusals.{IsMissing}
use Rattle.zarrs_meaning.specs.declared.node_create_error.NodeCreateError.{NodeCreateError}
use Rattle.zarrs_meaning.specs.declared.node_create_error.NodeCreateError.TheVariants.{NodePathError, StorePrefixError, StorageError, MetadataVersionMismatch, MissingMetadata, OutOfMemory}
use Rattle.zarrs_node.specs.OpeningNodes.{RefusesNode}
use Rattle.zarrs_node.proofs.FlatForests.{contains_map, contains_mapped, filter_holds, filter_keeps}
use Rattle.zarrs_node.proofs.ListedItems.{all_pairs_append, all_pairs_first, all_pairs_tail, listed_each}
use Rattle.zarrs_node.proofs.ForestsBeside.{Contains-first, Contains-cons}
use Rattle.zarrs_node.proofs.KeptOfLists.{below_trans, not_below_itself}
use Rattle.zarrs_node.proofs.Lasts.{contains_filtered}
use Rattle.zarrs_node.proofs.Order.{contains_cases}
use Rattle.zarrs_node.proofs.Unique.{names_irrefl}
use Rattle.zarrs_check.specs.Surveys.{BadDocuments, BadNames}
use Rattle.zarrs_check.specs.Findings.{key_of, rank_of}
use Rattle.zarrs_notes.specs.FindingTexts.{node_finding_text}
use Rattle.zarrs_notes.specs.NodeFindings.{AreNodeFindings, ComesBefore, field_of}
use Rattle.zarrs_notes.specs.declared.finding.NodeFinding.{NodeFinding}
use Rattle.zarrs_notes.specs.declared.finding.NodeFinding.TheVariants as told
use Rattle.zarrs_check.specs.BlocksAbove.{AreAboveFindings, MeansNoArray}
use Rattle.zarrs_check.specs.PathChecks.{IsCheckedFrom, IsPathCheckOf}
use Rattle.zarrs_check.specs.declared.path_check.CheckedFrom.{CheckedFrom}
use Rattle.zarrs_check.specs.declared.path_check.CheckedFrom.TheVariants as from
use Rattle.zarrs_check.specs.declared.path_check.PathCheck.{PathCheck}
use Rattle.zarrs_folder.specs.PrunedStores.{IsArrayAt}
use Rattle.zarrs_check.specs.Checks.{HasNode, IsBaseFault, IsCheckOf, IsNodeTold, IsToldBefore, StandsBefore, AreBlockFindings}
use Rattle.zarrs_check.specs.declared.finding.Finding.{Finding}
use Rattle.zarrs_check.specs.declared.finding.FindingKind.{FindingKind}
use Rattle.zarrs_check.specs.declared.finding.FindingKind.TheVariants.{BlockFault, BadKey, Shadowed, OwnKey, OwnAttributes, Unreachable, Stale, Unreached, Differs, Missing}
use Rattle.zarrs_check.specs.Orphans.{IsCountBelow, IsOrphan}
use Rattle.zarrs_check.specs.declared.check.Check.{Check}
use Rattle.zarrs_check.proofs.DocumentCounts.{count_same}
use Rattle.zarrs_cli.specs.declared.remark.Remark.{Remark}
use Rattle.zarrs_cli.specs.declared.report.Tally.{Tally}
use Rattle.zarrs_cli.specs.declared.kind.RemarkKind.{RemarkKind}
use Rattle.zarrs_cli.specs.declared.kind.RemarkKind.TheVariants as remark
use Rattle.zarrs_cli.specs.declared.kind.RemarkKind.TheVariants.{NoNode}
use Rattle.zarrs_cli.specs.declared.words.CheckOptions.{CheckOptions}
use Rattle.zarrs_cli.specs.Kinds.{error_kind, finding_kind, told_kind, wrong_key}
use Rattle.zarrs_cli.specs.Report.{own_remark, error_remark, document_remark, orphan_remark, remark_of, told_remark, remarks_text, tally_of, is_asked, alike_remark, IsAlikeRemark, IsOwnRemark, IsRemarkFrom, IsAboveRemark, IsNodeRemark, IsAskedFor, IsReport, IsReportFrom}
use Rattle.zarrs_cli.specs.StepsOfReports.{AreSorted, asked_of, base_remarks, document_remarks, name_remark, node_remarks, nodes_from, own_remarks, path_remarks, remarks_from}
use Rattle.zarrs_cli.proofs.Counts.{pair_complete, pair_sound, pairs_apart}
use Rattle.zarrs_cli.proofs.Order.{sorted_ascend, ascend_once}
use Rattle.zarrs_cli.proofs.ToldTexts.{places_same, fields_same}

-- ---- lists

-- what has a property that keeps others apart keeps its images apart
once_mapped : {A B : Type 0} (R : A → A → Type 0) (f : A → B) (xs : List A) → ((x y : A) → Contains xs x → Contains xs y → R x y → f x ≢ f y) → AllPairs R xs → AllPairs (λ x y. x ≢ y) (map f xs)
once_mapped R f [] apart up = λ i j d l m. absurd (omega (arith, m))
once_mapped R f (x ∷ xs) apart up = AllPairs-cons (λ y z. y ≢ z) (f x) (map f xs)
    (λ k d l same.
    let w = contains_mapped f xs (get_or (map f xs) k d) (Contains-get_or (map f xs) k d l) in
    apart x w.0 (Contains-first x xs) (Contains-cons x xs w.0 w.1) (all_pairs_first R x xs up w.0 w.1) (same ∙ sym w.2))
    (once_mapped R f xs (λ y z p q. apart y z (Contains-cons x xs y p) (Contains-cons x xs z q)) (all_pairs_tail R x xs up))

-- ---- where things stand

-- names behind a path make another path
not_itself : (b : Path) (n : List ℕ) (ns : Path) → b ≡ b ++ n ∷ ns → ⊥
not_itself [] n ns e = cc
not_itself (m ∷ b) n ns e = let rest : b ≡ b ++ n ∷ ns = cc in not_itself b n ns rest

-- the last of some names is one
last_is_name : (n : List ℕ) (ns : Path) → IsPath (n ∷ ns) → IsName (last_segment (n ∷ ns))
last_is_name n [] h = (and_parts (is_name n) true h).0
last_is_name n (m ∷ ns) h = last_is_name m ns (and_parts (is_name n) (list_all is_name (m ∷ ns)) h).1

-- the last of names behind a path is that of the names
last_behind : (b : Path) (n : List ℕ) (ns : Path) → last_segment (b ++ n ∷ ns) ≡ last_segment (n ∷ ns)
last_behind [] n ns = refl
last_behind (m ∷ []) n ns = refl
last_behind (m ∷ k ∷ b) n ns = last_behind (k ∷ b) n ns

module _ (s : Contents) (b : Path) where
  -- a bad document stands below the base
  document_below : (d : Path × NodeCreateError) → BadDocuments s Default b d → b ≢ d.0
  document_below d h same = let w = h.0.below in not_itself b w.0 w.1 (same ∙ w.2)

  -- a bad name stands below the base
  name_below : (p : Path) → BadNames s Default b p → b ≢ p
  name_below p (g, n, listed, periods, has, is, some) same = ⊎_elim
      (λ base. not_itself b n [] (same ∙ (is ∙ ap (λ q. q ++ n ∷ []) base)))
      (λ reached. let w = reached.0.below in not_itself b w.0 (w.1 ++ n ∷ []) (same ∙ (is ∙ (ap (λ q. q ++ n ∷ []) w.2 ∙ append_assoc b (w.0 ∷ w.1) (n ∷ [])))))
      listed

  -- no path has a bad document and a bad name
  document_not_name : (d : Path × NodeCreateError) (p : Path) → BadDocuments s Default b d → BadNames s Default b p → d.0 ≢ p
  document_not_name d p h (g, n, listed, periods, has, is, some) same =
      let w = h.0.below in
      let last : last_segment (w.0 ∷ w.1) ≡ n = sym (last_behind b w.0 w.1) ∙ (ap last_segment (sym w.2 ∙ (same ∙ is)) ∙ last_segment-child g n) in
      let name : IsName n = subst IsName last (last_is_name w.0 w.1 w.3) in
      true≢false (sym periods ∙ not_periods n name)

-- what is bad in one way is not in another
bad_one : NodeCreateError → Meaning → NodeCreateError
bad_one d (bad e) = e
bad_one d nothing = d
bad_one d (node m) = d

-- a meaning is a node
abbrev IsNode : Meaning → Type 0
IsNode (node m) = Unit {0}
IsNode nothing = ⊥
IsNode (bad e) = ⊥

-- what is bad with an error is bad with no other
bad_same : (e d : NodeCreateError) → bad e ≡ bad d → e ≡ d
unfolding bad_one
bad_same e d same = ap (bad_one e) same

-- a finding's order is strict: it sees the path, the group, the rank and the key
not_before : (f h : Finding) → f.path ≡ h.path → f.group ≡ h.group → rank_of f.kind ≡ rank_of h.kind → key_of f.kind ≡ key_of h.kind → StandsBefore f h → ⊥
not_before f h paths groups ranks keys = ⊎_elim
    (λ less. names_irrefl h.group (subst (λ g. path_cmp g h.group ≡ Less) groups less))
    (λ later. ⊎_elim
    (λ less. names_irrefl h.path (subst (λ p. path_cmp p h.path ≡ Less) paths less))
    (λ k. ⊎_elim
    (λ less. omega (arith, ranks, less))
    (λ same. true≢false (sym (ap is_eq (tied_itself nat_list_cmp_total (key_of h.kind))) ∙ ap is_eq (subst (λ t. bytes_cmp t (key_of h.kind) ≡ Less) keys same.1)))
    k.1)
    later.1)

-- a group or another
abbrev group_or : Path → Option Path → Path
group_or d None = d
group_or d (Some g) = g

-- the key of a finding is the one that its remark has
key_from : (kind : FindingKind) → key_of kind ≡ unwrap_or (wrong_key kind) []
key_from (BlockFault fault) = refl
key_from (BadKey key) = refl
key_from (Shadowed key) = refl
key_from (OwnKey key) = refl
key_from OwnAttributes = refl
key_from Unreachable = refl
key_from Stale = refl
key_from Unreached = refl
key_from Differs = refl
key_from Missing = refl

-- the rank of a remark's kind among those of blocks
rank_by : RemarkKind → ℕ
rank_by remark.OwnAttributes = 1
rank_by remark.Unreachable = 2
rank_by remark.Stale = 3
rank_by remark.Unreached = 3
rank_by remark.Differs = 3
rank_by remark.Missing = 3
rank_by _ = 0

-- is that of the finding
rank_from : (kind : FindingKind) → rank_of kind ≡ rank_by (finding_kind kind)
unfolding rank_by
rank_from (BlockFault fault) = refl
rank_from (BadKey key) = refl
rank_from (Shadowed key) = refl
rank_from (OwnKey key) = refl
rank_from OwnAttributes = refl
rank_from Unreachable = refl
rank_from Stale = refl
rank_from Unreached = refl
rank_from Differs = refl
rank_from Missing = refl

-- findings whose remarks have the same kind have the same rank
ranks_same : (j k : FindingKind) → finding_kind j ≡ finding_kind k → rank_of j ≡ rank_of k
ranks_same j k same = rank_from j ∙ (ap rank_by same ∙ sym (rank_from k))

-- findings whose remarks have the same key have it
keys_same : (j k : FindingKind) → wrong_key j ≡ wrong_key k → key_of j ≡ key_of k
keys_same j k same = key_from j ∙ (ap (λ key. unwrap_or key []) same ∙ sym (key_from k))

-- findings in their order are told once
findings_once : (fs : List Finding) → AllPairs StandsBefore fs → AllPairs (λ q r. q ≢ r) (map remark_of fs)
findings_once fs ascend = once_mapped StandsBefore remark_of fs
    (λ f g p q before same. not_before f g (ap (λ r. r.path) same) (ap (λ r. group_or f.group r.group) same)
    (ranks_same f.kind g.kind (ap (λ r. r.kind) same)) (keys_same f.kind g.kind (ap (λ r. r.key) same)) before)
    ascend

-- a group is there
abbrev HasGroup : Option Path → Type 0
HasGroup None = ⊥
HasGroup (Some g) = Unit {0}

-- a remark of a group has one
group_there : (r : Remark) → ((g : Path) × (r.group ≡ Some g)) → HasGroup r.group
group_there r (g, is) = subst HasGroup (sym is) tt

-- what is some is one
some_same : (g h : Path) → Some g ≡ Some h → g ≡ h
some_same g h same = ap (group_or g) same

-- a remark is of a group above b
abbrev IsOfAbove : Path → Remark → Type 0
IsOfAbove b r = (g : Path) × (r.group ≡ Some g) × IsBelow g b

-- no node from b on is above it
held_not_above : (s : Contents) (b : Path) (e : Path × NodeMetadata) → HasNode s Default b e → IsBelow e.0 b → ⊥
held_not_above s b e h low = ⊎_elim
    (λ w. not_below_itself b (subst (λ g. IsBelow g b) w.0 low))
    (λ n. let w = n.0.below in not_below_itself b (below_trans b e.0 b (w.0, w.1, w.2) low))
    h

-- ---- what the documents of nodes tell

-- the kind is of what the documents of a node tell
abbrev IsTold : RemarkKind → Type 0
IsTold remark.BadShape = Unit {0}
IsTold remark.BadFillValue = Unit {0}
IsTold remark.BadCodecs = Unit {0}
IsTold remark.NotOpened = Unit {0}
IsTold remark.Misplaced = Unit {0}
IsTold remark.Beside = Unit {0}
IsTold remark.LeftOver = Unit {0}
IsTold _ = ⊥

-- it is of each of these
told_is : (f : NodeFinding) → IsTold (told_kind f)
told_is told.NoLengths = tt
told_is (told.GridRank lengths shape) = tt
told_is told.ZeroLength = tt
told_is (told.NameCount names shape) = tt
told_is (told.FillValue data_type) = tt
told_is told.NoCodecs = tt
told_is (told.UnknownField name) = tt
told_is (told.DemandingBlock group) = tt
told_is told.MisplacedBlock = tt
told_is (told.Beside file document) = tt
told_is (told.LeftOver file) = tt

-- and of no error
error_is_not : (e : NodeCreateError) → IsTold (error_kind e) → ⊥
error_is_not (MissingMetadata t) h = h
error_is_not (NodePathError e) h = h
error_is_not (StorePrefixError e) h = h
error_is_not (StorageError e) h = h
error_is_not MetadataVersionMismatch h = h
error_is_not OutOfMemory h = h

-- the kind is of what is lost below a path without a document
abbrev IsLost : RemarkKind → Type 0
IsLost remark.Orphaned = Unit {0}
IsLost _ = ⊥

-- it is of no error
error_is_kept : (e : NodeCreateError) → IsLost (error_kind e) → ⊥
error_is_kept (MissingMetadata t) h = h
error_is_kept (NodePathError e) h = h
error_is_kept (StorePrefixError e) h = h
error_is_kept (StorageError e) h = h
error_is_kept MetadataVersionMismatch h = h
error_is_kept OutOfMemory h = h

-- the kind is of names that differ in case alone
abbrev IsAlikeKind : RemarkKind → Type 0
IsAlikeKind remark.Alike = Unit {0}
IsAlikeKind _ = ⊥

-- it is of no error, and of nothing that the documents of a node tell
error_not_alike : (e : NodeCreateError) → IsAlikeKind (error_kind e) → ⊥
error_not_alike (MissingMetadata t) h = h
error_not_alike (NodePathError e) h = h
error_not_alike (StorePrefixError e) h = h
error_not_alike (StorageError e) h = h
error_not_alike MetadataVersionMismatch h = h
error_not_alike OutOfMemory h = h

-- the kind of what the documents of a node tell is not that of names that differ in case alone
told_not_alike : (f : NodeFinding) → IsAlikeKind (told_kind f) → ⊥
told_not_alike told.NoLengths h = h
told_not_alike (told.GridRank lengths shape) h = h
told_not_alike told.ZeroLength h = h
told_not_alike (told.NameCount names shape) h = h
told_not_alike (told.FillValue data_type) h = h
told_not_alike told.NoCodecs h = h
told_not_alike (told.UnknownField name) h = h
told_not_alike (told.DemandingBlock group) h = h
told_not_alike told.MisplacedBlock h = h
told_not_alike (told.Beside file document) h = h
told_not_alike (told.LeftOver file) h = h

-- the remark on a bad document and its number
abbrev paired : (Path × NodeCreateError) × ℕ → Remark
paired x = document_remark x.0 x.1

-- the order of what is told of a node is strict: it sees the place and the field, which the text tells
not_before_told : (f h : NodeFinding) → node_finding_text f ≡ node_finding_text h → ComesBefore f h → ⊥
not_before_told f h same = ⊎_elim
    (λ less. omega (arith, places_same f h same, less))
    (λ level.
    true≢false
    (sym (ap is_eq (tied_itself nat_list_cmp_total (field_of h))) ∙ ap is_eq (subst (λ t. bytes_cmp t (field_of h) ≡ Less) (fields_same f h same) level.1)))

-- what base remarks are of
base_remark_of : (b : Path) (base : Option NodeCreateError) (r : Remark) → Contains (base_remarks b base) r → (e : NodeCreateError) × (base ≡ Some e) × (r ≡ error_remark b e)
base_remark_of b None r h = absurd (omega (arith, h.1))
base_remark_of b (Some e) r h = (e, refl, ⊎_elim (λ same. sym same) (λ none. absurd (omega (arith, none.1))) (contains_cases (error_remark b e) [] r h))

-- what is told by errors that say that there are no metadata at a path is one
missing_same : (b : Path) (e d : NodeCreateError) → IsMissing b e → IsMissing b d → error_remark b e ≡ error_remark b d
missing_same b (MissingMetadata t) (MissingMetadata u) h k = ap (λ x. own_remark b NoNode (codes "Metadata is missing for " ++ x)) (h ∙ sym k)
missing_same b (MissingMetadata t) (NodePathError d) h k = absurd k
missing_same b (MissingMetadata t) (StorePrefixError d) h k = absurd k
missing_same b (MissingMetadata t) (StorageError d) h k = absurd k
missing_same b (MissingMetadata t) MetadataVersionMismatch h k = absurd k
missing_same b (MissingMetadata t) OutOfMemory h k = absurd k
missing_same b (NodePathError e) d h k = absurd h
missing_same b (StorePrefixError e) d h k = absurd h
missing_same b (StorageError e) d h k = absurd h
missing_same b MetadataVersionMismatch d h k = absurd h
missing_same b OutOfMemory d h k = absurd h

-- nothing is not what is bad
abbrev IsNothing : Meaning → Type 0
IsNothing nothing = Unit {0}
IsNothing (node m) = ⊥
IsNothing (bad e) = ⊥

module _ (s : Contents) (b : Path) where
  -- what is told by the errors that refuse a base is one
  refused_same : (e d : NodeCreateError) → RefusesNode s Default b e → RefusesNode s Default b d → error_remark b e ≡ error_remark b d
  unfolding bad_one
  refused_same e d h k = ⊎_elim
      (λ none. ⊎_elim (λ none'. missing_same b e d none.1 none'.1) (λ is. absurd (subst IsNothing (sym none.0 ∙ is) tt)) k)
      (λ is. ⊎_elim (λ none. absurd (subst IsNothing (sym none.0 ∙ is) tt)) (λ is'. ap (error_remark b) (ap (bad_one e) (sym is ∙ is'))) k)
      h

  -- a base that is a node is not refused
  not_refused : (m : NodeMetadata) (e : NodeCreateError) → meaning s Default b ≡ node m → RefusesNode s Default b e → ⊥
  not_refused m e means h = ⊎_elim (λ none. subst IsNode (sym means ∙ none.0) tt) (λ is. subst IsNode (sym means ∙ is) tt) h

  -- what refuses the base is told of it
  base_told : (base : Option NodeCreateError) (e : NodeCreateError) → IsBaseFault s Default b base → RefusesNode s Default b e → Contains (base_remarks b base) (error_remark b e)
  base_told None e is h = absurd (not_refused is.0 e is.1 h)
  base_told (Some d) e is h = subst (Contains (error_remark b d ∷ [])) (refused_same d e is h) (Contains-first (error_remark b d) [])

  -- the error of a base that is none refuses it
  base_refuses : (base : Option NodeCreateError) (e : NodeCreateError) → IsBaseFault s Default b base → base ≡ Some e → RefusesNode s Default b e
  base_refuses base e is same = subst (IsBaseFault s Default b) same is

  -- of the base at most one fault is told
  base_once : (base : Option NodeCreateError) → AllPairs (λ q r. q ≢ r) (base_remarks b base)
  base_once None = λ i j d l m. absurd (omega (arith, m))
  base_once (Some e) = λ i j d l m. absurd (omega (arith, l, m))

-- one remark more is told
pub told_next : {A : Type 0} (f : A → Remark) (xs : List A) (i : ℕ) (x : A) (r : Remark) (start old new : List Remark) → i < length xs → x ≡ get_or xs i x → r ≡ f x
    → new ≡ old ++ r ∷ [] → old ≡ start ++ map f (take i xs) → new ≡ start ++ map f (take (i + 1) xs)
told_next f xs i x r start old new lt at is more told =
    let front : map f (take (i + 1) xs) ≡ map f (take i xs) ++ f x ∷ [] =
    ap (map f) (take_more xs i x lt) ∙ (map-append f (take i xs) (get_or xs i x ∷ []) ∙ ap (λ y. map f (take i xs) ++ f y ∷ []) (sym at)) in
    more ∙ (ap (λ q. q ++ r ∷ []) told ∙ (append_assoc start (map f (take i xs)) (r ∷ []) ∙ (ap (λ q. start ++ (map f (take i xs) ++ q ∷ [])) is ∙ ap (λ q. start ++ q) (sym front))))

-- ---- what is told, in its order

module _ (told : Remark → Type 0) (all : List Remark) (sound : (r : Remark) → Contains all r → told r) (complete : (r : Remark) → told r → Contains all r) (once : AllPairs (λ q r. q ≢ r) all) (options : CheckOptions) where
  -- those that a report has
  abbrev asked : List Remark
  asked = asked_of options all

  -- none of these stands twice
  asked_once : AllPairs (λ q r. q ≢ r) asked
  asked_once = AllPairs-filter (λ q r. q ≢ r) (is_asked options.notes) all once

  -- each of these is to be told and asked for
  asked_sound : (r : Remark) → Contains asked r → IsAskedFor options told r
  asked_sound r in' = (sound r (contains_filtered (is_asked options.notes) all r in'), filter_holds (is_asked options.notes) all r in')

  -- each that is to be told and asked for is one of these
  asked_complete : (r : Remark) → IsAskedFor options told r → Contains asked r
  asked_complete r is = filter_keeps (is_asked options.notes) all r is.1 (complete r is.0)

  -- in their order they are exactly those that are to be told
  sorted_lists : (rs : List Remark) → AreSorted asked rs → Lists (IsAskedFor options told) rs
  sorted_lists rs sorted = record {
    each_once = ascend_once rs (sorted_ascend asked rs asked_once sorted.moved sorted.ordered);
    sound = All-permutation (IsAskedFor options told) asked rs sorted.moved (λ i d l. asked_sound (get_or asked i d) (Contains-get_or asked i d l));
    complete = λ r is. Contains-permutation asked rs r sorted.moved (asked_complete r is);
  }

  -- the text of the sorted remarks is the report
  reported : (nodes : ℕ) (rs : List Remark) (tally : Tally) (text : List ℕ) → AreSorted asked rs → tally ≡ tally_of options nodes rs → text ≡ remarks_text options rs → IsReport told options nodes tally text
  reported nodes rs tally text sorted numbers is = record {
    remarks = rs;
    lists = sorted_lists rs sorted;
    ascend = sorted_ascend asked rs asked_once sorted.moved sorted.ordered;
    is = is;
    numbers = numbers;
  }

module _ (s : Contents) (b : Path) (c : Check) (h : IsCheckOf s Default b c) (k : AreBlockFindings s Default b c.findings.items) where
  -- the faults of the base, of bad documents and of bad names, what is lost below paths without documents, what the documents of nodes tell, and what there is to tell of blocks
  abbrev bases : List Remark
  bases = base_remarks c.path c.base_fault

  -- the remarks on bad documents
  abbrev documents : List Remark
  documents = document_remarks c.bad_documents c.hidden.items

  -- the remarks on bad names
  abbrev names : List Remark
  names = map name_remark c.bad_names.items

  -- the remarks on what is lost below paths without documents
  abbrev orphans : List Remark
  orphans = map orphan_remark c.orphans.items

  -- the remarks on what the documents of nodes tell
  abbrev tolds : List Remark
  tolds = map told_remark c.told.items

  -- the remarks on what there is to tell of blocks
  abbrev blocks : List Remark
  blocks = map remark_of c.findings.items

  -- the remarks on names that differ in case alone
  abbrev alikes : List Remark
  alikes = map alike_remark c.alike.items

  -- all these remarks
  abbrev all : List Remark
  all = (own_remarks c ++ alikes) ++ blocks

  -- ---- each is to be told

  -- a remark on the base is to be told
  base_sound : (r : Remark) → Contains bases r → IsOwnRemark s b r
  base_sound r in' =
      let w = base_remark_of c.path c.base_fault r in' in
      inl (w.0, base_refuses s b c.base_fault w.0 h.base w.1, w.2 ∙ ap (λ p. error_remark p w.0) h.path)

  -- a remark on a bad document is to be told
  document_sound : (r : Remark) → Contains documents r → IsOwnRemark s b r
  document_sound r in' =
      let w = contains_mapped paired (zip c.bad_documents c.hidden.items) r in' in
      let v = pair_sound s c.bad_documents c.hidden.items h.hidden w.0 w.1 in
      inr (inl (w.0.0, w.0.1, (listed_each h.bad_documents w.0.0).0 v.0, v.1, sym w.2))

  -- a remark on a bad name is to be told
  name_sound : (r : Remark) → Contains names r → IsOwnRemark s b r
  name_sound r in' =
      let w = contains_mapped name_remark c.bad_names.items r in' in
      inr (inr (inl (w.0, (listed_each h.bad_names w.0).0 w.1, sym w.2)))

  -- a remark on what the documents of a node tell is to be told
  told_sound : (r : Remark) → Contains tolds r → IsOwnRemark s b r
  told_sound r in' =
      let w = contains_mapped told_remark c.told.items r in' in
      inr (inr (inr (inr (w.0, (listed_each h.told w.0).0 w.1, sym w.2))))

  -- a remark on what is lost below a path without a document is to be told
  orphan_sound : (r : Remark) → Contains orphans r → IsOwnRemark s b r
  orphan_sound r in' =
      let w = contains_mapped orphan_remark c.orphans.items r in' in
      inr (inr (inr (inl (w.0, (listed_each h.orphans w.0).0 w.1, sym w.2))))

  -- a path's own remark is to be told
  own_sound : (r : Remark) → Contains (own_remarks c) r → IsOwnRemark s b r
  own_sound r in' = ⊎_elim
      (base_sound r)
      (λ later. ⊎_elim
      (document_sound r)
      (λ more. ⊎_elim
      (name_sound r)
      (λ last. ⊎_elim (orphan_sound r) (told_sound r) (Contains-append_cases orphans tolds r last))
      (Contains-append_cases names (orphans ++ tolds) r more))
      (Contains-append_cases documents (names ++ (orphans ++ tolds)) r later))
      (Contains-append_cases bases (documents ++ (names ++ (orphans ++ tolds))) r in')

  -- a remark on a block is to be told
  block_sound : (r : Remark) → Contains blocks r → IsRemarkFrom s b r
  block_sound r in' = let w = contains_mapped remark_of c.findings.items r in' in inr (inr (w.0, (k.exact w.0).0 w.1, sym w.2))

  -- a remark on names that differ in case alone is to be told
  alike_sound : (r : Remark) → Contains alikes r → IsAlikeRemark s b r
  alike_sound r in' = let w = contains_mapped alike_remark c.alike.items r in' in (w.0, (h.alike.exact w.0).0 w.1, sym w.2)

  -- each of all remarks is to be told
  sound : (r : Remark) → Contains all r → IsRemarkFrom s b r
  sound r in' = ⊎_elim
      (λ first. ⊎_elim (λ own. inl (own_sound r own)) (λ near. inr (inl (alike_sound r near))) (Contains-append_cases (own_remarks c) alikes r first))
      (block_sound r)
      (Contains-append_cases (own_remarks c ++ alikes) blocks r in')

  -- ---- what is to be told is

  -- what refuses the base has its remark
  base_complete : (e : NodeCreateError) → RefusesNode s Default b e → Contains (own_remarks c) (error_remark b e)
  base_complete e refused = Contains-append_left bases (documents ++ (names ++ (orphans ++ tolds))) (error_remark b e)
      (subst (λ p. Contains (base_remarks p c.base_fault) (error_remark b e)) (sym h.path) (base_told s b c.base_fault e h.base refused))

  -- a bad document and its number have their remark
  document_complete : (d : Path × NodeCreateError) (n : ℕ) → BadDocuments s Default b d → IsCountBelow s d.0 n → Contains (own_remarks c) (document_remark d n)
  document_complete d n is count =
      let w = pair_complete s c.bad_documents c.hidden.items h.hidden d ((listed_each h.bad_documents d).1 is) in
      let v = pair_sound s c.bad_documents c.hidden.items h.hidden (d, w.0) w.1 in
      subst (λ k. Contains (own_remarks c) (document_remark d k)) (count_same s d.0 w.0 n v.1 count)
      (Contains-append_right bases (documents ++ (names ++ (orphans ++ tolds))) (document_remark d w.0)
      (Contains-append_left documents (names ++ (orphans ++ tolds)) (document_remark d w.0) (contains_map paired (zip c.bad_documents c.hidden.items) (d, w.0) w.1)))

  -- a remark behind those on bad documents is a path's own
  later_complete : (r : Remark) → Contains (names ++ (orphans ++ tolds)) r → Contains (own_remarks c) r
  later_complete r in' = Contains-append_right bases (documents ++ (names ++ (orphans ++ tolds))) r (Contains-append_right documents (names ++ (orphans ++ tolds)) r in')

  -- a bad name has its remark
  name_complete : (p : Path) → BadNames s Default b p → Contains (own_remarks c) (name_remark p)
  name_complete p is = later_complete (name_remark p)
      (Contains-append_left names (orphans ++ tolds) (name_remark p) (contains_map name_remark c.bad_names.items p ((listed_each h.bad_names p).1 is)))

  -- a remark behind those on bad names is a path's own
  last_complete : (r : Remark) → Contains (orphans ++ tolds) r → Contains (own_remarks c) r
  last_complete r in' = later_complete r (Contains-append_right names (orphans ++ tolds) r in')

  -- a path without a document, below which something is lost, has its remark
  orphan_complete : (o : Path × ℕ) → IsOrphan s Default b o → Contains (own_remarks c) (orphan_remark o)
  orphan_complete o is = last_complete (orphan_remark o)
      (Contains-append_left orphans tolds (orphan_remark o) (contains_map orphan_remark c.orphans.items o ((listed_each h.orphans o).1 is)))

  -- what the documents of a node tell has its remark
  told_complete : (t : Path × NodeFinding) → IsNodeTold s Default b t → Contains (own_remarks c) (told_remark t)
  told_complete t is = last_complete (told_remark t)
      (Contains-append_right orphans tolds (told_remark t) (contains_map told_remark c.told.items t ((listed_each h.told t).1 is)))

  -- each of the paths' own remarks that is to be told is there
  own_complete : (r : Remark) → IsOwnRemark s b r → Contains (own_remarks c) r
  own_complete r = ⊎_elim
      (λ w. subst (Contains (own_remarks c)) (sym w.2) (base_complete w.0 w.1))
      (⊎_elim
      (λ w. subst (Contains (own_remarks c)) (sym w.4) (document_complete w.0 w.1 w.2 w.3))
      (⊎_elim
      (λ w. subst (Contains (own_remarks c)) (sym w.2) (name_complete w.0 w.1))
      (⊎_elim
      (λ w. subst (Contains (own_remarks c)) (sym w.2) (orphan_complete w.0 w.1))
      (λ w. subst (Contains (own_remarks c)) (sym w.2) (told_complete w.0 w.1)))))

  -- each remark that is to be told is there
  complete : (r : Remark) → IsRemarkFrom s b r → Contains all r
  complete r = ⊎_elim
      (λ own. Contains-append_left (own_remarks c ++ alikes) blocks r (Contains-append_left (own_remarks c) alikes r (own_complete r own)))
      (⊎_elim
      (λ w. Contains-append_left (own_remarks c ++ alikes) blocks r
      (Contains-append_right (own_remarks c) alikes r (subst (Contains alikes) (sym w.2) (contains_map alike_remark c.alike.items w.0 ((h.alike.exact w.0).1 w.1)))))
      (λ w. Contains-append_right (own_remarks c ++ alikes) blocks r (subst (Contains blocks) (sym w.2) (contains_map remark_of c.findings.items w.0 ((k.exact w.0).1 w.1)))))

  -- ---- none is told twice

  -- no remark on a bad document is told twice
  documents_once : AllPairs (λ q r. q ≢ r) documents
  documents_once = once_mapped (λ x y. x.0 ≢ y.0) paired (zip c.bad_documents c.hidden.items)
      (λ x y p q apart same.
      let mine = (listed_each h.bad_documents x.0).0 (pair_sound s c.bad_documents c.hidden.items h.hidden x p).0 in
      let theirs = (listed_each h.bad_documents y.0).0 (pair_sound s c.bad_documents c.hidden.items h.hidden y q).0 in
      let paths : x.0.0 ≡ y.0.0 = ap (λ r. r.path) same in
      let errors : x.0.1 ≡ y.0.1 = bad_same x.0.1 y.0.1 (sym mine.1 ∙ (ap (meaning s Default) paths ∙ theirs.1)) in
      apart (ap (λ p. (p, x.0.1)) paths ∙ ap (λ e. (y.0.0, e)) errors))
      (pairs_apart c.bad_documents c.hidden.items h.bad_documents.each_once)

  -- no remark on a bad name is told twice
  names_once : AllPairs (λ q r. q ≢ r) names
  names_once = once_mapped (λ p q. p ≢ q) name_remark c.bad_names.items (λ p q x y apart same. apart (ap (λ r. r.path) same)) h.bad_names.each_once

  -- no remark on what is lost is told twice
  orphans_once : AllPairs (λ q r. q ≢ r) orphans
  orphans_once = once_mapped (λ o q. path_cmp o.0 q.0 ≡ Less) orphan_remark c.orphans.items
      (λ o q x y less same. names_irrefl q.0 (subst (λ p. path_cmp p q.0 ≡ Less) (ap (λ r. r.path) same) less))
      h.orphans_ascend

  -- no remark on what the documents of nodes tell is told twice
  tolds_once : AllPairs (λ q r. q ≢ r) tolds
  tolds_once = once_mapped IsToldBefore told_remark c.told.items
      (λ t u p q before same. ⊎_elim
      (λ less. names_irrefl u.0 (subst (λ x. path_cmp x u.0 ≡ Less) (ap (λ r. r.path) same) less))
      (λ level. not_before_told t.1 u.1 (ap (λ r. r.text) same) level.1)
      before)
      h.told_ascend

  -- no remark on names that differ in case alone is told twice
  alikes_once : AllPairs (λ q r. q ≢ r) alikes
  alikes_once = once_mapped (λ (t u : Path × Path). path_cmp t.0 u.0 ≡ Less) alike_remark c.alike.items
      (λ t u x y less same. names_irrefl u.0 (subst (λ p. path_cmp p u.0 ≡ Less) (ap (λ r. r.path) same) less))
      h.alike.ascend

  -- no remark on blocks is told twice
  blocks_once : AllPairs (λ q r. q ≢ r) blocks
  blocks_once = findings_once c.findings.items k.ascend

  -- a remark on the base, and one on what is below
  base_apart : (q r : Remark) → Contains bases q → Contains (documents ++ names) r → q ≢ r
  base_apart q r in' later same =
      let w = base_remark_of c.path c.base_fault q in' in
      let at : b ≡ r.path = sym h.path ∙ (ap (λ x. x.path) (sym w.2) ∙ ap (λ x. x.path) same) in
      ⊎_elim
      (λ d.
      let v = contains_mapped paired (zip c.bad_documents c.hidden.items) r d in
      document_below s b v.0.0 ((listed_each h.bad_documents v.0.0).0 (pair_sound s c.bad_documents c.hidden.items h.hidden v.0 v.1).0) (at ∙ ap (λ x. x.path) (sym v.2)))
      (λ n. let v = contains_mapped name_remark c.bad_names.items r n in name_below s b v.0 ((listed_each h.bad_names v.0).0 v.1) (at ∙ ap (λ x. x.path) (sym v.2)))
      (Contains-append_cases documents names r later)

  -- what the documents of nodes tell is of other kinds than the faults of paths
  base_other : (q : Remark) → Contains bases q → IsTold q.kind → ⊥
  base_other q in' is = let w = base_remark_of c.path c.base_fault q in' in error_is_not w.0 (subst (λ x. IsTold x.kind) w.2 is)

  -- a remark on a bad document is not of the kinds that the documents of nodes tell
  document_other : (q : Remark) → Contains documents q → IsTold q.kind → ⊥
  document_other q in' is = let w = contains_mapped paired (zip c.bad_documents c.hidden.items) q in' in error_is_not w.0.0.1 (subst (λ x. IsTold x.kind) (sym w.2) is)

  -- a remark on a bad name is not of the kinds that the documents of nodes tell
  name_other : (q : Remark) → Contains names q → IsTold q.kind → ⊥
  name_other q in' is = let w = contains_mapped name_remark c.bad_names.items q in' in subst (λ x. IsTold x.kind) (sym w.2) is

  -- a remark that is not of these kinds is none on what the documents of nodes tell
  told_apart : (q r : Remark) → (IsTold q.kind → ⊥) → Contains tolds r → q ≢ r
  told_apart q r other in' same =
      let w = contains_mapped told_remark c.told.items r in' in
      other (subst (λ x. IsTold x.kind) (w.2 ∙ sym same) (told_is w.0.1))

  -- what is lost below paths without documents is of a kind of its own
  orphan_apart : (q r : Remark) → (IsLost q.kind → ⊥) → Contains orphans r → q ≢ r
  orphan_apart q r other in' same = let w = contains_mapped orphan_remark c.orphans.items r in' in other (subst (λ x. IsLost x.kind) (w.2 ∙ sym same) tt)

  -- a remark on the base is not of the kind of what is lost
  base_kept : (q : Remark) → Contains bases q → IsLost q.kind → ⊥
  base_kept q in' is = let w = base_remark_of c.path c.base_fault q in' in error_is_kept w.0 (subst (λ x. IsLost x.kind) w.2 is)

  -- a remark on a bad document is not of the kind of what is lost
  document_kept : (q : Remark) → Contains documents q → IsLost q.kind → ⊥
  document_kept q in' is = let w = contains_mapped paired (zip c.bad_documents c.hidden.items) q in' in error_is_kept w.0.0.1 (subst (λ x. IsLost x.kind) (sym w.2) is)

  -- a remark on a bad name is not of the kind of what is lost
  name_kept : (q : Remark) → Contains names q → IsLost q.kind → ⊥
  name_kept q in' is = let w = contains_mapped name_remark c.bad_names.items q in' in subst (λ x. IsLost x.kind) (sym w.2) is

  -- a remark on what is lost is not of the kinds that the documents of nodes tell
  orphan_other : (q : Remark) → Contains orphans q → IsTold q.kind → ⊥
  orphan_other q in' is = let w = contains_mapped orphan_remark c.orphans.items q in' in subst (λ x. IsTold x.kind) (sym w.2) is

  -- what is of neither is no remark of these
  last_apart : (q r : Remark) → (IsLost q.kind → ⊥) → (IsTold q.kind → ⊥) → Contains (orphans ++ tolds) r → q ≢ r
  last_apart q r kept other in' = ⊎_elim (orphan_apart q r kept) (told_apart q r other) (Contains-append_cases orphans tolds r in')

  -- a remark on a bad document is none on a bad name
  later_apart : (q r : Remark) → Contains documents q → Contains names r → q ≢ r
  later_apart q r in' later same =
      let w = contains_mapped paired (zip c.bad_documents c.hidden.items) q in' in
      let v = contains_mapped name_remark c.bad_names.items r later in
      document_not_name s b w.0.0 v.0 ((listed_each h.bad_documents w.0.0).0 (pair_sound s c.bad_documents c.hidden.items h.hidden w.0 w.1).0) ((listed_each h.bad_names v.0).0 v.1) (ap (λ x. x.path) (w.2 ∙ (same ∙ sym v.2)))

  -- a path's own fault is of no group
  own_group : (r : Remark) → IsOwnRemark s b r → HasGroup r.group → ⊥
  own_group r = ⊎_elim
      (λ w has. subst (λ x. HasGroup x.group) w.2 has)
      (⊎_elim
      (λ w has. subst (λ x. HasGroup x.group) w.4 has)
      (⊎_elim
      (λ w has. subst (λ x. HasGroup x.group) w.2 has)
      (⊎_elim (λ w has. subst (λ x. HasGroup x.group) w.2 has) (λ w has. subst (λ x. HasGroup x.group) w.2 has))))

  -- nor is what is told of names that differ in case alone, whose kind is no other's
  alike_group : (r : Remark) → Contains alikes r → HasGroup r.group → ⊥
  alike_group r in' has = let w = alike_sound r in' in subst (λ x. HasGroup x.group) w.2 has

  -- a path's own remark is not of the kind of names that differ in case alone
  own_not_alike : (r : Remark) → IsOwnRemark s b r → IsAlikeKind r.kind → ⊥
  own_not_alike r = ⊎_elim
      (λ w is. error_not_alike w.0 (subst (λ x. IsAlikeKind x.kind) w.2 is))
      (⊎_elim
      (λ w is. error_not_alike w.0.1 (subst (λ x. IsAlikeKind x.kind) w.4 is))
      (⊎_elim
      (λ w is. subst (λ x. IsAlikeKind x.kind) w.2 is)
      (⊎_elim (λ w is. subst (λ x. IsAlikeKind x.kind) w.2 is) (λ w is. told_not_alike w.0.1 (subst (λ x. IsAlikeKind x.kind) w.2 is)))))

  -- a path's own remark is none on names that differ in case alone
  alike_apart : (q r : Remark) → Contains (own_remarks c) q → Contains alikes r → q ≢ r
  alike_apart q r in' later same = let w = alike_sound r later in own_not_alike q (own_sound q in') (subst (λ x. IsAlikeKind x.kind) (sym w.2 ∙ sym same) tt)

  -- neither a path's own remark nor one on names that differ in case alone is of a group
  first_group : (r : Remark) → Contains (own_remarks c ++ alikes) r → HasGroup r.group → ⊥
  first_group r in' = ⊎_elim (λ own. own_group r (own_sound r own)) (alike_group r) (Contains-append_cases (own_remarks c) alikes r in')

  -- neither a path's own remark nor one on names that differ in case alone is one on blocks
  first_apart : (q r : Remark) → Contains (own_remarks c ++ alikes) q → Contains blocks r → q ≢ r
  first_apart q r in' later same =
      let v = contains_mapped remark_of c.findings.items r later in
      first_group q in' (subst (λ x. HasGroup x.group) (v.2 ∙ sym same) tt)

  -- no remark behind those on bad documents is told twice
  named_once : AllPairs (λ q r. q ≢ r) (names ++ (orphans ++ tolds))
  named_once = all_pairs_append (λ q r. q ≢ r) names (orphans ++ tolds) names_once
      (all_pairs_append (λ q r. q ≢ r) orphans tolds orphans_once tolds_once (λ q r in' later. told_apart q r (orphan_other q in') later))
      (λ q r in' later. last_apart q r (name_kept q in') (name_other q in') later)

  -- no remark behind those on the base is told twice
  below_once : AllPairs (λ q r. q ≢ r) (documents ++ (names ++ (orphans ++ tolds)))
  below_once = all_pairs_append (λ q r. q ≢ r) documents (names ++ (orphans ++ tolds)) documents_once named_once
      (λ q r in' later. ⊎_elim (later_apart q r in') (last_apart q r (document_kept q in') (document_other q in')) (Contains-append_cases names (orphans ++ tolds) r later))

  -- none of the paths' own remarks is told twice
  own_once : AllPairs (λ q r. q ≢ r) (own_remarks c)
  own_once = all_pairs_append (λ q r. q ≢ r) bases (documents ++ (names ++ (orphans ++ tolds))) (base_once s c.path c.base_fault) below_once
      (λ q r in' later. ⊎_elim
      (λ d. base_apart q r in' (Contains-append_left documents names r d))
      (λ more. ⊎_elim
      (λ n. base_apart q r in' (Contains-append_right documents names r n))
      (last_apart q r (base_kept q in') (base_other q in'))
      (Contains-append_cases names (orphans ++ tolds) r more))
      (Contains-append_cases documents (names ++ (orphans ++ tolds)) r later))

  -- none of all remarks is told twice
  all_once : AllPairs (λ q r. q ≢ r) all
  all_once = all_pairs_append (λ q r. q ≢ r) (own_remarks c ++ alikes) blocks (all_pairs_append (λ q r. q ≢ r) (own_remarks c) alikes own_once alikes_once alike_apart) blocks_once first_apart

  -- each of them is of no group above b
  all_not_above : (r : Remark) → Contains all r → IsOfAbove b r → ⊥
  all_not_above r in' = ⊎_elim
      (λ first up. first_group r first (group_there r (up.0, up.1)))
      (λ of' up.
      let w = contains_mapped remark_of c.findings.items r of' in
      let is = (k.exact w.0).0 w.1 in
      let same : w.0.group ≡ up.0 = some_same w.0.group up.0 (ap (λ x. x.group) w.2 ∙ up.1) in
      held_not_above s b (w.0.group, is.0) is.1 (subst (λ g. IsBelow g b) (sym same) up.2))
      (Contains-append_cases (own_remarks c ++ alikes) blocks r in')

-- ---- one node

module _ (s : Contents) (p : Path) (m : NodeMetadata) (found : List NodeFinding) (are : AreNodeFindings s p m found) where
  -- each remark on the node is to be told
  node_sound : (r : Remark) → Contains (node_remarks p found) r → IsNodeRemark s p m r
  node_sound r in' = let w = contains_mapped (λ f. told_remark (p, f)) found r in' in (w.0, (are.exact w.0).0 w.1, sym w.2)

  -- each remark on the node that is to be told is there
  node_complete : (r : Remark) → IsNodeRemark s p m r → Contains (node_remarks p found) r
  node_complete r w = subst (Contains (node_remarks p found)) (sym w.2) (contains_map (λ f. told_remark (p, f)) found w.0 ((are.exact w.0).1 w.1))

  -- no remark on the node is told twice
  node_once : AllPairs (λ q r. q ≢ r) (node_remarks p found)
  node_once = once_mapped ComesBefore (λ f. told_remark (p, f)) found (λ f g x y before same. not_before_told f g (ap (λ r. r.text) same) before) are.ascend

  -- no remark on the node is of a group above b
  node_not_above : (b : Path) (r : Remark) → Contains (node_remarks p found) r → IsOfAbove b r → ⊥
  node_not_above b r in' up = let w = node_sound r in' in subst (λ x. HasGroup x.group) w.2 (group_there r (up.0, up.1))

-- ---- what is told from a path on, and of the blocks above it

module _ (s : Contents) (b : Path) (told : Remark → Type 0) (from : List Remark) (sound : (r : Remark) → Contains from r → told r) (complete : (r : Remark) → told r → Contains from r)
    (once : AllPairs (λ q r. q ≢ r) from) (beside : (r : Remark) → Contains from r → IsOfAbove b r → ⊥) (found : List Finding) (k : AreAboveFindings s Default b found) where
  -- what is told of the blocks above
  abbrev uppers : List Remark
  uppers = map remark_of found

  -- each of these is to be told of the blocks above
  upper_sound : (r : Remark) → Contains uppers r → IsAboveRemark s b r
  upper_sound r in' = let w = contains_mapped remark_of found r in' in (w.0, (k.exact w.0).0 w.1, sym w.2)

  -- each that is to be told of the blocks above is one of these
  upper_complete : (r : Remark) → IsAboveRemark s b r → Contains uppers r
  upper_complete r w = subst (Contains uppers) (sym w.2) (contains_map remark_of found w.0 ((k.exact w.0).1 w.1))

  -- each of these is of a group above b
  upper_above : (r : Remark) → Contains uppers r → IsOfAbove b r
  upper_above r in' = let w = upper_sound r in' in (w.0.group, ap (λ x. x.group) w.2, w.1.above)

  -- each remark from the path on, or on the blocks above it, is to be told
  whole_sound : (r : Remark) → Contains (from ++ uppers) r → told r ⊎ IsAboveRemark s b r
  whole_sound r in' = ⊎_elim (λ of'. inl (sound r of')) (λ up. inr (upper_sound r up)) (Contains-append_cases from uppers r in')

  -- each that is to be told from the path on, or of the blocks above it, is there
  whole_complete : (r : Remark) → told r ⊎ IsAboveRemark s b r → Contains (from ++ uppers) r
  whole_complete r = ⊎_elim (λ is. Contains-append_left from uppers r (complete r is)) (λ is. Contains-append_right from uppers r (upper_complete r is))

  -- no remark from the path on, or on the blocks above it, is told twice
  whole_once : AllPairs (λ q r. q ≢ r) (from ++ uppers)
  whole_once = all_pairs_append (λ q r. q ≢ r) from uppers once (findings_once found k.ascend) (λ q r in' later same. beside q in' (subst (IsOfAbove b) (sym same) (upper_above r later)))

  -- the report on all of them
  whole_reported : (options : CheckOptions) (nodes : ℕ) (rs : List Remark) (tally : Tally) (text : List ℕ) → AreSorted (asked_of options (from ++ uppers)) rs → tally ≡ tally_of options nodes rs → text ≡ remarks_text options rs
      → IsReport (λ r. told r ⊎ IsAboveRemark s b r) options nodes tally text
  whole_reported options = reported (λ r. told r ⊎ IsAboveRemark s b r) (from ++ uppers) whole_sound whole_complete whole_once options

-- what means no array is none
pub no_array : (s : Contents) (b : Path) → MeansNoArray s Default b → IsArrayAt s b → ⊥
no_array s b none (Group g, is, kind) = true≢false kind
no_array s b none (Array a, is, kind) = none a is

-- the report on what was checked from a path on
pub report_is : (s : Contents) (b : Path) (c : PathCheck) → IsPathCheckOf s Default b c → (options : CheckOptions) (rs : List Remark) (tally : Tally) (text : List ℕ)
    → AreSorted (asked_of options (path_remarks b c)) rs → tally ≡ tally_of options (nodes_from c.from) rs → text ≡ remarks_text options rs → IsReportFrom s b options tally text
report_is s b c h options rs tally text = by c.from h.from
  where
    by : (from : CheckedFrom) → IsCheckedFrom s Default b from → AreSorted (asked_of options (remarks_from b from ++ map remark_of c.above.items)) rs → tally ≡ tally_of options (nodes_from from) rs → text ≡ remarks_text options rs
        → IsReportFrom s b options tally text
    by (from.Array found) (m, means, kind, are) sorted numbers is = inl (
      m,
      (means, kind),
      whole_reported s b (IsNodeRemark s b m) (node_remarks b found.items) (node_sound s b m found.items are) (node_complete s b m found.items are) (node_once s b m found.items are)
          (node_not_above s b m found.items are b) c.above.items h.above options 1 rs tally text sorted numbers is,
    )
    by (from.Tree check) (none, checked, findings) sorted numbers is = inr (
      no_array s b none,
      (
        check.nodes,
        checked.nodes,
        whole_reported s b (IsRemarkFrom s b) (all s b check checked findings) (sound s b check checked findings) (complete s b check checked findings) (all_once s b check checked findings)
            (all_not_above s b check checked findings) c.above.items h.above options check.nodes rs tally text sorted numbers is,
      ),
    )
