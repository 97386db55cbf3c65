-- Zarr core specification 3.1, "Storage keys": the names of the documents of a node.
-- The key of the document f of a path p is `p ++ f ∷ []`. The names of version 2 are those of its specification,
-- "Metadata", "Groups" and "Attributes".
-- <https://zarr-specs.readthedocs.io/en/latest/v3/core/index.html#storage-keys>
-- <https://zarr-specs.readthedocs.io/en/latest/v2/v2.0.html#metadata>
-- <https://zarr-specs.readthedocs.io/en/latest/v2/v2.0.html#groups>
-- <https://zarr-specs.readthedocs.io/en/latest/v2/v2.0.html#attributes>
use Rattle.std.specs.Prelude.{ℕ, List, codes}

-- `zarr.json`, the metadata document of version 3
abbrev pub zarr_json : List ℕ
zarr_json = codes "zarr.json"

-- `.zarray`, the metadata document of a version 2 array
abbrev pub zarray : List ℕ
zarray = codes ".zarray"

-- `.zgroup`, the metadata document of a version 2 group
abbrev pub zgroup : List ℕ
zgroup = codes ".zgroup"

-- `.zattrs`, the attributes of a version 2 node
abbrev pub zattrs : List ℕ
zattrs = codes ".zattrs"

-- `.zmetadata`, the consolidated metadata of a version 2 group
abbrev pub zmetadata : List ℕ
zmetadata = codes ".zmetadata"
