-- Zarr core specification 3.1, "Hierarchy": paths none of which is below another.
-- <https://zarr-specs.readthedocs.io/en/latest/v3/core/index.html#hierarchy>
use Rattle.std.specs.Prelude.{◌≡◌, List, AllPairs}
use Rattle.std.specs.declared.cmp.Ordering.TheVariants.{Less}
use Rattle.zarrs_path.specs.Paths.{Path, path_cmp, IsBelow}
use Rattle.zarrs_meaning.specs.declared.node_create_error.NodeCreateError.{NodeCreateError}

-- each path stands before all later ones, and none of these is below it
abbrev pub AreApart : List (Path × NodeCreateError) → Type 0
AreApart ds = AllPairs (λ d e. (path_cmp d.0 e.0 ≡ Less) × (IsBelow d.0 e.0 → ⊥)) ds
