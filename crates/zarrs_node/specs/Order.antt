-- Zarr core specification 3.1, section "Paths": the pairs of a hierarchy in the order of their paths.
-- <https://zarr-specs.readthedocs.io/en/latest/v3/core/index.html#path>
pub use Rattle.zarrs_block.specs.Order.{Ascend}
