-- Zarr core specification 3.1, "Group metadata", with zarr-python's field `consolidated_metadata`: how a block is made
-- of the nodes below a group.
-- <https://zarr-specs.readthedocs.io/en/latest/v3/core/index.html#group-metadata>
-- <https://zarr.readthedocs.io/en/stable/user-guide/consolidated_metadata/>
--     text_beyond b p      the text of the names of p beyond b
use Rattle.std.specs.Prelude.{ℕ, List, drop, length}
use Rattle.zarrs_store.specs.Segments.{key_text}
use Rattle.zarrs_path.specs.Paths.{Path}

-- the names of p beyond b, joined by slashes
abbrev pub text_beyond : Path → Path → List ℕ
text_beyond b p = key_text (drop (length b) p)
