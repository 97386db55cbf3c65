-- Zarr core specification 3.1, "Hierarchy": the prefixes that a walk has still to read, as a stack, and what it reads
-- of one.
use Rattle.std.specs.Prelude.{◌≡◌, ℕ, Bool, List, [], ◌∷◌, ◌++◌, reverse, Result, Ok, Err}
use Rattle.zarrs_store.specs.Contents.{Contents}
use Rattle.zarrs_store.specs.declared.storage_error.StorageError.TheVariants.{InvalidMetadata, Other}
use Rattle.zarrs_config.specs.declared.version.MetadataRetrieveVersion.{MetadataRetrieveVersion}
use Rattle.zarrs_meaning.specs.Meaning.{meaning, bad}
use Rattle.zarrs_meaning.specs.declared.node_create_error.NodeCreateError.{NodeCreateError}
use Rattle.zarrs_meaning.specs.declared.node_create_error.NodeCreateError.TheVariants.{StorageError}
use Rattle.zarrs_meaning.specs.declared.node_create_error.NodeCreateError.TheVariants.{MetadataVersionMismatch}
use Rattle.zarrs_meaning.specs.Refusals.{Finds}
use Rattle.zarrs_node.specs.declared.descent.Child.{Child}
use Rattle.zarrs_node.specs.declared.descent.Child.TheVariants.{Read, Told}
use Rattle.zarrs_node.specs.declared.fault.NodeFault.{NodeFault}
use Rattle.zarrs_node.specs.declared.fault.NodeFault.TheVariants.{Name, Document}
use Rattle.zarrs_store.specs.Segments.{Segments}
use Rattle.zarrs_store.specs.Children.{AreVisibleChildren}
use Rattle.zarrs_path.specs.Paths.{Path, IsPath}

-- the child prefixes of p were put on the stack, whose top is its end, the first of them on top
pub record AreOnTop (s : Contents) (p : Path) (before after : List Segments) : Type 0 where
  pub children : List Segments
  pub discovered : AreVisibleChildren s.values p children
  pub stacked : after ≡ before ++ reverse children

-- a path, and one text more, which may be no name
abbrev pub IsPathAndOne : Path → Type 0
IsPathAndOne p = (q : Path) × (n : List ℕ) × IsPath q × (p ≡ q ++ n ∷ [])

-- what a refusal of a child says of it, or the refusal itself where it says nothing
abbrev pub fault_of : NodeCreateError → Result NodeFault NodeCreateError
fault_of (StorageError (InvalidMetadata key fault)) = Ok (Document (StorageError (InvalidMetadata key fault)))
fault_of (StorageError (Other text)) = Ok Name
fault_of MetadataVersionMismatch = Ok (Document MetadataVersionMismatch)
fault_of e = Err e

-- the fault is the child's own: it is no path, or it means `bad e`
abbrev pub IsFaultOf : Contents → MetadataRetrieveVersion → Path → NodeFault → Type 0
IsFaultOf s v c Name = ¬ IsPath c
IsFaultOf s v c (Document e) = IsPath c × (meaning s v c ≡ bad e)

-- what became of a child: it was read as what it means, or it is bad, and its fault was put behind the others
abbrev pub IsReadOrTold : Bool → Contents → MetadataRetrieveVersion → Path → Child → List (Path × NodeFault)
    → List (Path × NodeFault) → Type 0
IsReadOrTold can_fail s v c (Read found) old new = IsPath c × Finds can_fail (Ok found) (meaning s v c) × (new ≡ old)
IsReadOrTold can_fail s v c Told old new = (k : NodeFault) × IsFaultOf s v c k × (new ≡ old ++ (c, k) ∷ [])
