-- The faults of a walk, sorted into bad documents and bad names.
use Rattle.std.proofs.Common.{◌≡◌, ◌⊎◌, ⊎_elim, ℕ, suc, Bool, true, false, true≢false, append_assoc, List, [], ◌∷◌, ◌++◌, get_or, length, refl, sym, ap, subst, ◌∙◌, arith, Contains, Less}
use Rattle.std.proofs.lemmas.List.Kept.{AllPairs-cons}
use Rattle.std.proofs.lemmas.List.Elements.{Contains-get_or}
use Rattle.zarrs_store.specs.Contents.{Contents, Lists}
use Rattle.zarrs_store.specs.declared.storage_error.StorageError.TheVariants.{Fault, InvalidMetadata, Other, OutOfMemory as NoStoreMemory}
use Rattle.zarrs_path.specs.Paths.{Path, IsPath, IsBelow, path_cmp}
use Rattle.zarrs_config.specs.declared.version.MetadataRetrieveVersion.{MetadataRetrieveVersion}
use Rattle.zarrs_meaning.specs.Meaning.{Meaning, node, nothing, bad}
use Rattle.zarrs_meaning.specs.Refusals.{IsExcused, IsMissing}
use Rattle.zarrs_meaning.specs.declared.node_create_error.NodeCreateError.{NodeCreateError}
use Rattle.zarrs_meaning.specs.declared.node_create_error.NodeCreateError.TheVariants.{NodePathError, StorePrefixError, StorageError, MetadataVersionMismatch, MissingMetadata, OutOfMemory}
use Rattle.zarrs_node.specs.OpeningNodes.{RefusesNode}
use Rattle.zarrs_node.proofs.walk.BadDocuments.{IsOfDocument, bad_by_document}
use Rattle.zarrs_node.specs.Faults.{Faults, FaultsAscend, PathsAscend}
use Rattle.zarrs_node.specs.Nodes.{MeansNode}
use Rattle.zarrs_node.specs.declared.fault.NodeFault.{NodeFault}
use Rattle.zarrs_node.specs.declared.fault.NodeFault.TheVariants.{Name, Document}
use Rattle.zarrs_node.proofs.ListedItems.{lists_from, listed_each, all_pairs_first, all_pairs_tail}
use Rattle.zarrs_node.proofs.ForestsBeside.{Contains-first, Contains-cons}
use Rattle.zarrs_node.proofs.Order.{contains_cases}
use Rattle.zarrs_node.proofs.Unique.{names_irrefl}
use Rattle.zarrs_node.proofs.walk.WalkSteps.{reached_path}
use Rattle.zarrs_check.specs.Surveys.{BadDocuments, BadNames}
use Rattle.zarrs_check.specs.StepsOfSurveys.{is_of_node, IsOfPath, HasPaths, documents_of, names_of, HaveApartDocuments}

-- a path with what is bad there
abbrev PathFault : Type 0
PathFault = Path × NodeFault

-- a path with its bad document
abbrev PathError : Type 0
PathError = Path × NodeCreateError

-- a bad document among the sorted ones is one of the faults
pub document_in : (fs : List PathFault) (p : Path) (e : NodeCreateError) → Contains (documents_of fs) (p, e) → Contains fs (p, Document e)
document_in [] p e h = absurd (omega (arith, h.1))
document_in ((q, Name) ∷ fs) p e h = Contains-cons (q, Name) fs (p, Document e) (document_in fs p e h)
document_in ((q, Document d) ∷ fs) p e h = ⊎_elim
    (λ same. subst (λ (x : PathError). Contains ((q, Document d) ∷ fs) (x.0, Document x.1)) same (Contains-first (q, Document d) fs))
    (λ later. Contains-cons (q, Document d) fs (p, Document e) (document_in fs p e later))
    (contains_cases (q, d) (documents_of fs) (p, e) h)

-- the error of a fault
abbrev error_or : NodeCreateError → NodeFault → NodeCreateError
error_or d Name = d
error_or d (Document e) = e

-- a fault is a name's or a document's
abbrev IsDocument : NodeFault → Type 0
IsDocument Name = ⊥
IsDocument (Document e) = Unit {0}

-- and the other way round
pub document_out : (fs : List PathFault) (p : Path) (e : NodeCreateError) → Contains fs (p, Document e) → Contains (documents_of fs) (p, e)
document_out [] p e h = absurd (omega (arith, h.1))
document_out ((q, Name) ∷ fs) p e h = ⊎_elim
    (λ same. absurd (subst (λ (x : PathFault). IsDocument x.1 → ⊥) same (λ x. x) tt))
    (document_out fs p e)
    (contains_cases (q, Name) fs (p, Document e) h)
document_out ((q, Document d) ∷ fs) p e h = ⊎_elim
    (λ same. subst (λ (x : PathFault). Contains ((q, d) ∷ documents_of fs) (x.0, error_or d x.1)) same (Contains-first (q, d) (documents_of fs)))
    (λ later. Contains-cons (q, d) (documents_of fs) (p, e) (document_out fs p e later))
    (contains_cases (q, Document d) fs (p, Document e) h)

-- a bad name among the sorted ones is one of the faults
pub name_in : (fs : List PathFault) (p : Path) → Contains (names_of fs) p → Contains fs (p, Name)
name_in [] p h = absurd (omega (arith, h.1))
name_in ((q, Document d) ∷ fs) p h = Contains-cons (q, Document d) fs (p, Name) (name_in fs p h)
name_in ((q, Name) ∷ fs) p h = ⊎_elim
    (λ same. subst (λ x. Contains ((q, Name) ∷ fs) (x, Name)) same (Contains-first (q, Name) fs))
    (λ later. Contains-cons (q, Name) fs (p, Name) (name_in fs p later))
    (contains_cases q (names_of fs) p h)

-- and the other way round
pub name_out : (fs : List PathFault) (p : Path) → Contains fs (p, Name) → Contains (names_of fs) p
name_out [] p h = absurd (omega (arith, h.1))
name_out ((q, Document d) ∷ fs) p h = ⊎_elim
    (λ same. absurd (subst (λ (x : PathFault). IsDocument x.1) same tt))
    (name_out fs p)
    (contains_cases (q, Document d) fs (p, Name) h)
name_out ((q, Name) ∷ fs) p h = ⊎_elim
    (λ same. subst (λ (x : PathFault). Contains (q ∷ names_of fs) x.0) same (Contains-first q (names_of fs)))
    (λ later. Contains-cons q (names_of fs) p (name_out fs p later))
    (contains_cases (q, Name) fs (p, Name) h)

-- the bad names ascend as the faults do
pub names_ascend : (fs : List PathFault) → FaultsAscend fs → PathsAscend (names_of fs)
names_ascend [] up = λ i j d l m. absurd (omega (arith, m))
names_ascend ((q, Document d) ∷ fs) up = names_ascend fs (all_pairs_tail (λ (d e : PathFault). path_cmp d.0 e.0 ≡ Less) (q, Document d) fs up)
names_ascend ((q, Name) ∷ fs) up = AllPairs-cons (λ p q. path_cmp p q ≡ Less) q (names_of fs)
    (λ i d l. all_pairs_first (λ (d e : PathFault). path_cmp d.0 e.0 ≡ Less) (q, Name) fs up (get_or (names_of fs) i d, Name) (name_in fs (get_or (names_of fs) i d) (Contains-get_or (names_of fs) i d l)))
    (names_ascend fs (all_pairs_tail (λ (d e : PathFault). path_cmp d.0 e.0 ≡ Less) (q, Name) fs up))

-- what a meaning is, a node
abbrev IsNode : Meaning → Type 0
IsNode (node m) = Unit {0}
IsNode nothing = ⊥
IsNode (bad e) = ⊥

module _ (s : Contents) (v : MetadataRetrieveVersion) (b : Path) where
  -- below a bad document nothing is reached
  none_below : (d e : PathError) → BadDocuments s v b d → BadDocuments s v b e → IsBelow d.0 e.0 → ⊥
  none_below d e (reached, means) (other, _) low =
      let group = (other.between d.0 (reached.below.0, reached.below.1, reached.below.2) low).1 in
      subst IsNode (sym group.1 ∙ means) tt

  -- so the bad documents are apart
  pub documents_apart : (fs : List PathFault) → FaultsAscend fs → ((p : Path) (e : NodeCreateError) → Contains fs (p, Document e) → BadDocuments s v b (p, e)) → HaveApartDocuments fs
  documents_apart [] up are = λ i j d l m. absurd (omega (arith, m))
  documents_apart ((q, Name) ∷ fs) up are =
      documents_apart fs (all_pairs_tail (λ (d e : PathFault). path_cmp d.0 e.0 ≡ Less) (q, Name) fs up) (λ p e in'. are p e (Contains-cons (q, Name) fs (p, Document e) in'))
  documents_apart ((q, Document k) ∷ fs) up are = AllPairs-cons (λ (d e : PathError). (path_cmp d.0 e.0 ≡ Less) × (IsBelow d.0 e.0 → ⊥)) (q, k) (documents_of fs)
      (λ i d l.
      let x : PathError = get_or (documents_of fs) i d in
      let in' : Contains fs (x.0, Document x.1) = document_in fs x.0 x.1 (Contains-get_or (documents_of fs) i d l) in (
        all_pairs_first (λ (d e : PathFault). path_cmp d.0 e.0 ≡ Less) (q, Document k) fs up (x.0, Document x.1) in',
        none_below (q, k) x (are q k (Contains-first (q, Document k) fs)) (are x.0 x.1 (Contains-cons (q, Document k) fs (x.0, Document x.1) in')),
      ))
      (documents_apart fs (all_pairs_tail (λ (d e : PathFault). path_cmp d.0 e.0 ≡ Less) (q, Document k) fs up) (λ p e in'. are p e (Contains-cons (q, Document k) fs (p, Document e) in')))

  module _ (fs : List PathFault) (h : Lists (Faults s v true b) fs) (up : FaultsAscend fs) where
    -- each bad document stands at a path
    pub have_paths : IsPath b → HasPaths fs
    have_paths valid = λ i d l. by (get_or fs i d).0 (get_or fs i d).1 (h.sound i d l)
      where
        by : (p : Path) (k : NodeFault) → Faults s v true b (p, k) → IsOfPath p k
        by p Name f = tt
        by p (Document e) f = reached_path (MeansNode s v) true b p valid f.0

    pub have_apart : HaveApartDocuments fs
    have_apart = documents_apart fs up (λ p e in'. (listed_each h (p, Document e)).0 in')

    -- the sorted ones are exactly the bad documents
    pub lists_documents : Lists (BadDocuments s v b) (documents_of fs)
    lists_documents = lists_from (documents_of fs)
        (λ d. (λ in'. (listed_each h (d.0, Document d.1)).0 (document_in fs d.0 d.1 in'), λ is. document_out fs d.0 d.1 ((listed_each h (d.0, Document d.1)).1 is)))
        (λ i j d l m same. names_irrefl (get_or (documents_of fs) j d).0 (subst (λ (x : PathError). path_cmp x.0 (get_or (documents_of fs) j d).0 ≡ Less) same (have_apart i j d l m).0))

    -- and exactly the bad names
    pub lists_names : Lists (BadNames s v b) (names_of fs)
    lists_names = lists_from (names_of fs)
        (λ p. (λ in'. (listed_each h (p, Name)).0 (name_in fs p in'), λ is. name_out fs p ((listed_each h (p, Name)).1 is)))
        (λ i j d l m same. names_irrefl (get_or (names_of fs) j d) (subst (λ x. path_cmp x (get_or (names_of fs) j d) ≡ Less) same (names_ascend fs up i j d l m)))

-- ---- one fault after another

-- a bad document more is sorted
pub document_next : (left rest : List PathFault) (p : Path) (e : NodeCreateError) (done new whole : List PathError) → left ≡ (p, Document e) ∷ rest → new ≡ done ++ (p, e) ∷ []
    → done ++ documents_of left ≡ whole → new ++ documents_of rest ≡ whole
document_next left rest p e done new whole is more h = ap (λ x. x ++ documents_of rest) more ∙ append_assoc done ((p, e) ∷ []) (documents_of rest) ∙ ap (λ fs. done ++ documents_of fs) (sym is) ∙ h

-- a bad name more is
pub name_next : (left rest : List PathFault) (p : Path) (done new whole : List Path) → left ≡ (p, Name) ∷ rest → new ≡ done ++ p ∷ []
    → done ++ names_of left ≡ whole → new ++ names_of rest ≡ whole
name_next left rest p done new whole is more h = ap (λ x. x ++ names_of rest) more ∙ append_assoc done (p ∷ []) (names_of rest) ∙ ap (λ fs. done ++ names_of fs) (sym is) ∙ h

-- what holds of the faults holds of those behind the first
pub paths_rest : (left rest : List PathFault) (f : PathFault) → left ≡ f ∷ rest → HasPaths left → HasPaths rest
paths_rest left rest f is h = λ i d l. subst HasPaths is h (suc i) d (omega (arith, l))

-- ---- the refusal of a base

-- a refusal that is of a document says something of it
of_document : (e : NodeCreateError) → IsOfDocument e → is_of_node e ≡ true
of_document (StorageError (InvalidMetadata key fault)) h = refl
of_document (StorageError Fault) h = absurd h
of_document (StorageError (Other text)) h = absurd h
of_document (StorageError NoStoreMemory) h = absurd h
of_document MetadataVersionMismatch h = refl
of_document (MissingMetadata text) h = absurd h
of_document (NodePathError e) h = absurd h
of_document (StorePrefixError e) h = absurd h
of_document OutOfMemory h = absurd h

-- so does one that says that there are no metadata
of_missing : (b : Path) (e : NodeCreateError) → IsMissing b e → is_of_node e ≡ true
of_missing b (MissingMetadata text) h = refl
of_missing b (StorageError e) h = absurd h
of_missing b MetadataVersionMismatch h = absurd h
of_missing b (NodePathError e) h = absurd h
of_missing b (StorePrefixError e) h = absurd h
of_missing b OutOfMemory h = absurd h

module _ (can_fail : Bool) (s : Contents) (v : MetadataRetrieveVersion) (b : Path) (e : NodeCreateError) (why : IsExcused can_fail e ⊎ RefusesNode s v b e) where
  -- what says nothing of it is excused
  pub base_excused : is_of_node e ≡ false → IsExcused can_fail e
  base_excused other = ⊎_elim (λ x. x)
      (⊎_elim (λ m. absurd (true≢false (sym (of_missing b e m.1) ∙ other))) (λ d. absurd (true≢false (sym (of_document e (bad_by_document s v b e d)) ∙ other))))
      why

-- what has no length is empty
pub none_left : {A : Type 0} (xs : List A) (n : ℕ) → n ≡ length xs → n ≡ 0 → xs ≡ []
none_left [] n e z = refl
none_left (x ∷ xs) n e z = absurd (omega (arith, e, z))
