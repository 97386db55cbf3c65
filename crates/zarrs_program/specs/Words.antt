-- The words of a run, and the path that one of them names (Zarr core specification 3.1, "Paths").
-- <https://zarr-specs.readthedocs.io/en/latest/v3/core/index.html#path>
use Rattle.std.specs.Prelude.{ℕ, List, map, String, string_bytes}
use Rattle.std.specs.declared.alloc.Global.{Global}
use Rattle.zarrs_path.specs.PathErrors.{RefusesPath}
use Rattle.zarrs_meaning.specs.declared.node_create_error.NodeCreateError.{NodeCreateError}
use Rattle.zarrs_meaning.specs.declared.node_create_error.NodeCreateError.TheVariants.{NodePathError}

-- the texts of words
abbrev pub texts : List (String Global) → List (List ℕ)
texts words = map (λ w. string_bytes w) words

-- the error is of a path: the text is none, and the error holds it; or memory ran out when the path was made
abbrev pub RefusesPathText : List ℕ → NodeCreateError → Type 0
RefusesPathText text (NodePathError e) = RefusesPath text e
RefusesPathText text _ = ⊥
