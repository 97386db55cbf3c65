-- Zarr core specification 3.1, "Storage keys": the keys of the documents of a node, by examples.
use Rattle.std.proofs.Common.{◌≡◌, true, false, [], ◌∷◌, ◌++◌, codes, refl}
use Rattle.zarrs_store.specs.Segments.{key_text, prefix_text, segments_of, is_reserved}
use Rattle.zarrs_path.specs.Keys.{zarr_json, zarray}

-- the document of version 3 of the root
key_of_root : key_text ([] ++ zarr_json ∷ []) ≡ codes "zarr.json"
key_of_root = refl

-- that of `/a/x`, by version 2
key_of_x : key_text ((codes "a" ∷ codes "x" ∷ []) ++ zarray ∷ []) ≡ codes "a/x/.zarray"
key_of_x = refl

-- the prefix of what stands below `/a/x`
prefix_of_x : prefix_text (codes "a" ∷ codes "x" ∷ []) ≡ codes "a/x/"
prefix_of_x = refl

-- a text is cut at its slashes
cut_at_slashes : segments_of (codes "a/x/zarr.json") ≡ codes "a" ∷ codes "x" ∷ zarr_json ∷ []
unfolding segments_of
cut_at_slashes = refl

-- `__a` is reserved
is_kept_back : is_reserved (codes "__a") ≡ true
is_kept_back = refl

-- `_a` is not
is_not_kept_back : is_reserved (codes "_a") ≡ false
is_not_kept_back = refl
