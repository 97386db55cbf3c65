-- Zarr core specification 3.1, "Hierarchy", "Node names" and "Metadata documents": what is bad on the way of a
-- listing, each with its path.
-- <https://zarr-specs.readthedocs.io/en/latest/v3/core/index.html#hierarchy>
-- <https://zarr-specs.readthedocs.io/en/latest/v3/core/index.html#node-names>
use Rattle.std.specs.Prelude.{◌≡◌, Bool, List, AllPairs}
use Rattle.std.specs.declared.cmp.Ordering.TheVariants.{Less}
use Rattle.zarrs_store.specs.Contents.{Contents, HasBelow}
use Rattle.zarrs_path.specs.Paths.{Path, path_cmp}
use Rattle.zarrs_config.specs.declared.version.MetadataRetrieveVersion.{MetadataRetrieveVersion}
use Rattle.zarrs_meaning.specs.Meaning.{Meaning, meaning, bad}
use Rattle.zarrs_node.specs.Reach.{Reached}
use Rattle.zarrs_node.specs.Nodes.{Means, IsBadName}
use Rattle.zarrs_node.specs.declared.fault.NodeFault.{NodeFault}
use Rattle.zarrs_node.specs.declared.fault.NodeFault.TheVariants.{Name, Document}

-- p is reached and means `bad e`, where the fault is the document's with e; p is a child of a listed path with a name
-- of periods only, where it is the name's
abbrev pub HasFault : (Path → Meaning) → (Path → Type 0) → Bool → Path → Path → NodeFault → Type 0
HasFault of has recursive b p Name = IsBadName of has recursive b p
HasFault of has recursive b p (Document e) = Reached (Means of) recursive b p × (of p ≡ bad e)

-- what is bad in a store on the way of a listing, each with its path
abbrev pub Faults : Contents → MetadataRetrieveVersion → Bool → Path → Path × NodeFault → Type 0
Faults s v recursive b d = HasFault (meaning s v) (HasBelow s.values) recursive b d.0 d.1

-- each path stands before all later paths
abbrev pub PathsAscend : List Path → Type 0
PathsAscend ps = AllPairs (λ p q. path_cmp p q ≡ Less) ps

-- each fault's path stands before the paths of all later faults
abbrev pub FaultsAscend : List (Path × NodeFault) → Type 0
FaultsAscend ds = AllPairs (λ d e. path_cmp d.0 e.0 ≡ Less) ds
