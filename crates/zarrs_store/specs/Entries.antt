-- Zarr core specification 3.1, "Abstract store interface", `list_dir`: where a key stands below a prefix, as tests.
-- <https://zarr-specs.readthedocs.io/en/latest/v3/core/index.html#abstract-store-interface>
use Rattle.std.specs.Prelude.{Bool, [], ◌∷◌, Option, Some, None, is_some, cond}
use Rattle.zarrs_store.specs.Segments.{Segments, bytes_eq}

-- the segments of a key beyond a prefix, where the key is the prefix and at least one segment more
abbrev pub beyond : Segments → Segments → Option Segments
beyond [] [] = None
beyond [] (t ∷ ts) = Some (t ∷ ts)
beyond (s ∷ ss) [] = None
beyond (s ∷ ss) (t ∷ ts) = cond (bytes_eq s t) (beyond ss ts) None

-- the key is the prefix and at least one segment more
abbrev pub is_below : Segments → Segments → Bool
is_below prefix key = is_some (beyond prefix key)
