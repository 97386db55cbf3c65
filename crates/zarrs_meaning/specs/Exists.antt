-- Zarr core specification 3.1, "Storage keys", and the version 2 specification, "Metadata": the documents by which a
-- path has a node.
-- <https://zarr-specs.readthedocs.io/en/latest/v3/core/index.html#storage-keys>
-- <https://zarr-specs.readthedocs.io/en/latest/v2/v2.0.html#metadata>
use Rattle.std.specs.Prelude.{[], ◌∷◌, ◌++◌, ◌⊎◌}
use Rattle.zarrs_store.specs.Contents.{Contents, HasKey}
use Rattle.zarrs_path.specs.Paths.{Path}
use Rattle.zarrs_path.specs.Keys.{zarr_json, zarray, zgroup}

-- the store has the key `zarr.json`, `.zarray` or `.zgroup` of p
abbrev pub HasNodeKey : Contents → Path → Type 0
HasNodeKey s p =
    HasKey s.values (p ++ zarr_json ∷ []) ⊎ HasKey s.values (p ++ zarray ∷ []) ⊎ HasKey s.values (p ++ zgroup ∷ [])
