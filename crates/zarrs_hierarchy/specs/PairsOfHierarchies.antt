-- Zarr core specification 3.1, "Hierarchy": the nodes of a hierarchy, each by its path.
-- <https://zarr-specs.readthedocs.io/en/latest/v3/core/index.html#hierarchy>
use Rattle.std.specs.Prelude.{◌≡◌, List, Option, ◌⊎◌}
use Rattle.std.specs.Map.{lookup}
use Rattle.std.specs.BTreeMap.{is_at}
use Rattle.zarrs_store.specs.Contents.{Lists}
use Rattle.zarrs_path.specs.Paths.{Path, path_cmp}
use Rattle.zarrs_meta.specs.declared.node.NodeMetadata.{NodeMetadata}
use Rattle.zarrs_node.specs.Order.{Ascend}
use Rattle.zarrs_meaning.specs.Meaning.{Pair}

-- paths with their metadata, as a hierarchy shows them
abbrev pub Pairs : Type 0
Pairs = List Pair

-- the hierarchy has exactly the pairs of N, each once, in the order of paths
pub record Holds (h : Pairs) (N : Pair → Type 0) : Type 0 where
  pub held : Lists N h
  pub ordered : Ascend h

-- the metadata that a hierarchy has at a path
abbrev pub metadata_at : Pairs → Path → Option NodeMetadata
metadata_at h p = lookup (is_at (path_cmp p)) h

-- b with its metadata, and the pairs of N
abbrev pub WithBase : Path → NodeMetadata → (Pair → Type 0) → Pair → Type 0
WithBase b m N e = (e ≡ (b, m)) ⊎ N e
