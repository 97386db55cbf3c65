-- Steps of a survey: the faults of a walk, sorted; no public contract rests on them.
use Rattle.std.specs.Prelude.{Bool, true, false, List, [], ◌∷◌, All}
use Rattle.zarrs_store.specs.declared.storage_error.StorageError.TheVariants.{InvalidMetadata}
use Rattle.zarrs_path.specs.Paths.{Path, IsPath}
use Rattle.zarrs_meaning.specs.declared.node_create_error.NodeCreateError.{NodeCreateError}
use Rattle.zarrs_meaning.specs.declared.node_create_error.NodeCreateError.TheVariants.{StorageError}
use Rattle.zarrs_meaning.specs.declared.node_create_error.NodeCreateError.TheVariants.{MetadataVersionMismatch}
use Rattle.zarrs_meaning.specs.declared.node_create_error.NodeCreateError.TheVariants.{MissingMetadata}
use Rattle.zarrs_node.specs.declared.fault.NodeFault.{NodeFault}
use Rattle.zarrs_node.specs.declared.fault.NodeFault.TheVariants.{Name, Document}
use Rattle.zarrs_check.specs.Apart.{AreApart}

-- a refusal says something of the node: that there is none, or that its document is bad
abbrev pub is_of_node : NodeCreateError → Bool
is_of_node (StorageError (InvalidMetadata key fault)) = true
is_of_node MetadataVersionMismatch = true
is_of_node (MissingMetadata text) = true
is_of_node _ = false

-- a bad document stands at a path
abbrev pub IsOfPath : Path → NodeFault → Type 0
IsOfPath p Name = Unit {0}
IsOfPath p (Document e) = IsPath p

-- each bad document stands at a path
abbrev pub HasPaths : List (Path × NodeFault) → Type 0
HasPaths fs = All (λ d. IsOfPath d.0 d.1) fs

-- the path with its bad document, before others, where it is one
abbrev pub with_document : Path → NodeFault → List (Path × NodeCreateError) → List (Path × NodeCreateError)
with_document p Name ds = ds
with_document p (Document e) ds = (p, e) ∷ ds

-- the bad documents among faults
abbrev pub documents_of : List (Path × NodeFault) → List (Path × NodeCreateError)
documents_of [] = []
documents_of (f ∷ fs) = with_document f.0 f.1 (documents_of fs)

-- the path, before others, where its name is bad
abbrev pub with_name : Path → NodeFault → List Path → List Path
with_name p Name ps = p ∷ ps
with_name p (Document e) ps = ps

-- the bad names among faults
abbrev pub names_of : List (Path × NodeFault) → List Path
names_of [] = []
names_of (f ∷ fs) = with_name f.0 f.1 (names_of fs)

-- no bad document stands below another, and they ascend
abbrev pub HaveApartDocuments : List (Path × NodeFault) → Type 0
HaveApartDocuments fs = AreApart (documents_of fs)
