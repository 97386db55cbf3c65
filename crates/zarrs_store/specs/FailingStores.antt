-- Zarr core specification 3.1, "Abstract store interface": a store in memory that fails at one place.
-- <https://zarr-specs.readthedocs.io/en/latest/v3/core/index.html#abstract-store-interface>
use Rattle.std.specs.Prelude.{ℕ, ◌/◌, List, length, take}
use Rattle.std.specs.FinMap as map
use Rattle.zarrs_store.specs.Segments.{Segments}
use Rattle.zarrs_store.specs.Contents.{Values}
use Rattle.zarrs_store.specs.declared.fault_store.FaultAt.{FaultAt}

-- the entries of the store in memory, and the one place at which it fails
pub record Failing : Type 0 where
  pub inner : List (Segments × List ℕ)
  pub place : FaultAt

-- a failing store holds what its store in memory holds
abbrev pub inner_contents : Failing → Values
inner_contents s = map.from_entries s.inner

-- the first half of these bytes: half their number, rounded down
abbrev pub first_half : List ℕ → List ℕ
first_half bytes = take (length bytes / 2) bytes
