-- Zarr core specification 3.1, "Paths": what refused paths say.
-- <https://zarr-specs.readthedocs.io/en/latest/v3/core/index.html#path>
use Rattle.std.specs.Prelude.{◌≡◌, ℕ, List, ◌++◌, string_bytes, Some, codes}
use Rattle.zarrs_path.specs.Paths.{Path, IsPath, path_text, IsPathText, relative_names, first_bad}
use Rattle.zarrs_path.specs.Paths.{without_leading_slash}
use Rattle.zarrs_path.specs.declared.node_path.NodePathError.{NodePathError}
use Rattle.zarrs_path.specs.declared.node_path.NodePathError.TheVariants.{Invalid, OutOfMemory}

-- the text is no path, and the error holds it; or out of memory
abbrev pub RefusesPath : List ℕ → NodePathError → Type 0
RefusesPath bs (Invalid text) = (string_bytes text ≡ bs) × (¬ IsPathText bs)
RefusesPath bs OutOfMemory = Unit {0}

-- the text that names the bad part c of the rest
abbrev pub bad_part_text : List ℕ → List ℕ → List ℕ
bad_part_text c rest = codes "invalid node name `" ++ (c ++ (codes "` in '" ++ (rest ++ codes "'")))

-- a part is no name, and the error names the first such part; or out of memory
abbrev pub RefusesJoin : List ℕ → NodePathError → Type 0
RefusesJoin rel (Invalid text) =
    (c : List ℕ) × (first_bad (relative_names rel) ≡ Some c)
    × (string_bytes text ≡ bad_part_text c (without_leading_slash rel))
RefusesJoin rel OutOfMemory = Unit {0}

-- a segment is no name, and the error holds the text of the path; or out of memory
abbrev pub RefusesSegments : Path → NodePathError → Type 0
RefusesSegments p (Invalid text) = (string_bytes text ≡ path_text p) × (¬ IsPath p)
RefusesSegments p OutOfMemory = Unit {0}
