-- The texts of why there is no name and no path, as they print themselves (Zarr core specification 3.1, "Node names"
-- and "Paths").
-- <https://zarr-specs.readthedocs.io/en/latest/v3/core/index.html#node-names>
-- <https://zarr-specs.readthedocs.io/en/latest/v3/core/index.html#path>
use Rattle.std.specs.Prelude.{ℕ, List, ◌++◌, codes, string_bytes}
use Rattle.zarrs_path.specs.declared.node_name.NodeNameError.{NodeNameError}
use Rattle.zarrs_path.specs.declared.node_name.NodeNameError.TheVariants.{Invalid as InvalidName}
use Rattle.zarrs_path.specs.declared.node_name.NodeNameError.TheVariants.{OutOfMemory as NoNameMemory}
use Rattle.zarrs_path.specs.declared.node_path.NodePathError.{NodePathError}
use Rattle.zarrs_path.specs.declared.node_path.NodePathError.TheVariants.{Invalid as InvalidPath}
use Rattle.zarrs_path.specs.declared.node_path.NodePathError.TheVariants.{OutOfMemory as NoPathMemory}

-- why there is no name
abbrev pub name_error_text : NodeNameError → List ℕ
name_error_text (InvalidName text) = codes "invalid node name " ++ string_bytes text
name_error_text NoNameMemory = codes "out of memory"

-- why there is no path
abbrev pub path_error_text : NodePathError → List ℕ
path_error_text (InvalidPath text) = codes "invalid node path " ++ string_bytes text
path_error_text NoPathMemory = codes "out of memory"
