-- Zarr core specification 3.1, "Node names": what refused names say.
-- <https://zarr-specs.readthedocs.io/en/latest/v3/core/index.html#node-names>
use Rattle.std.specs.Prelude.{◌≡◌, ℕ, List, IsFalse, string_bytes}
use Rattle.zarrs_path.specs.Names.{is_node_name}
use Rattle.zarrs_path.specs.declared.node_name.NodeNameError.{NodeNameError}
use Rattle.zarrs_path.specs.declared.node_name.NodeNameError.TheVariants.{Invalid, OutOfMemory}

-- the text is no name, and the error holds it; or out of memory
abbrev pub RefusesName : List ℕ → NodeNameError → Type 0
RefusesName n (Invalid text) = (string_bytes text ≡ n) × IsFalse (is_node_name n)
RefusesName n OutOfMemory = Unit {0}
