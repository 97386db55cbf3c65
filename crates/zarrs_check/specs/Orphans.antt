-- Zarr core specification 3.1, "Hierarchy" and "Storage keys": the paths with documents of nodes below those at which
-- a listing goes no further.
-- <https://zarr-specs.readthedocs.io/en/latest/v3/core/index.html#hierarchy>
-- <https://zarr-specs.readthedocs.io/en/latest/v3/core/index.html#storage-keys>
--     IsNodeBelow s p q      q is a path below p that has a document of a node
--     IsCountBelow s p n      n such paths are below p
--     IsOrphan s v b o      an ignored path below which such paths are, with their number
--     AreHidden s ds ns      for each bad document the number of such paths below it
use Rattle.std.specs.Prelude.{◌≡◌, ◌≢◌, ◌<◌, ℕ, true, List, get_or, length}
use Rattle.zarrs_store.specs.Contents.{Contents, Lists}
use Rattle.zarrs_path.specs.Paths.{Path, IsPath, IsBelow}
use Rattle.zarrs_config.specs.declared.version.MetadataRetrieveVersion.{MetadataRetrieveVersion}
use Rattle.zarrs_meaning.specs.declared.node_create_error.NodeCreateError.{NodeCreateError}
use Rattle.zarrs_meaning.specs.Exists.{HasNodeKey}
use Rattle.zarrs_node.specs.Nodes.{Ignored}

-- q is a path below p, and the store has a document of a node at it
abbrev pub IsNodeBelow : Contents → Path → Path → Type 0
IsNodeBelow s p q = IsPath q × IsBelow p q × HasNodeKey s q

-- n paths below p have a document of a node
abbrev pub IsCountBelow : Contents → Path → ℕ → Type 0
IsCountBelow s p n = (qs : List Path) × Lists (IsNodeBelow s p) qs × (n ≡ length qs)

-- an ignored path below which some paths have a document of a node, with their number
abbrev pub IsOrphan : Contents → MetadataRetrieveVersion → Path → Path × ℕ → Type 0
IsOrphan s v b o = Ignored s v true b o.0 × IsCountBelow s o.0 o.1 × (o.1 ≢ 0)

-- for each of the bad documents, in their order, the number of paths below its own that have a document of a node
pub record AreHidden (s : Contents) (ds : List (Path × NodeCreateError)) (ns : List ℕ) : Type 0 where
  pub size : length ns ≡ length ds
  pub each : (i : ℕ) (d : Path × NodeCreateError) (n : ℕ) → i < length ds
      → IsCountBelow s (get_or ds i d).0 (get_or ns i n)
