-- Zarr core specification 3.1, section "Paths": the pairs of a hierarchy in the order of their paths.
-- <https://zarr-specs.readthedocs.io/en/latest/v3/core/index.html#path>
use Rattle.std.specs.Prelude.{◌≡◌, List, AllPairs}
use Rattle.std.specs.declared.cmp.Ordering.TheVariants.{Less}
use Rattle.zarrs_path.specs.Paths.{path_cmp}
use Rattle.zarrs_meaning.specs.Meaning.{Pair}

-- Each pair's path stands before the paths of all later pairs.
abbrev pub Ascend : List Pair → Type 0
Ascend es = AllPairs (λ d e. path_cmp d.0 e.0 ≡ Less) es
