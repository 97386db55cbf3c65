-- Zarr core specification 3.1, "Abstract store interface": what holds of every key.
-- <https://zarr-specs.readthedocs.io/en/latest/v3/core/index.html#abstract-store-interface>
use Rattle.std.specs.Prelude.{◌≡◌}
use Rattle.zarrs_store.specs.Segments.{Segments, IsKey, key_text, segments_of}

-- the segments of a key's text are those of the key
abbrev pub KeysReadBack : Type 0
KeysReadBack = (key : Segments) → IsKey key → segments_of (key_text key) ≡ key
