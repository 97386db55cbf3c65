-- Zarr core specification 3.1, "Abstract store interface": changes of a store, one key at a time.
-- <https://zarr-specs.readthedocs.io/en/latest/v3/core/index.html#abstract-store-interface>
use Rattle.std.specs.Prelude.{◌≡◌, ℕ, List, [], ◌∷◌, ◌++◌}
use Rattle.zarrs_store.specs.Segments.{Segments}
use Rattle.zarrs_store.specs.Contents.{Contents, with_key, without_key, AgreesExceptAt}

-- an edit: one key set to bytes, or removed
pub data Edit : Type 0 where
  set : Segments → List ℕ → Edit
  remove : Segments → Edit

-- the key that an edit changes
abbrev pub edit_key : Edit → Segments
edit_key (set key bytes) = key
edit_key (remove key) = key

-- the store after one edit
abbrev pub after_edit : Contents → Edit → Contents
after_edit S (set key bytes) = with_key S key bytes
after_edit S (remove key) = without_key S key

-- the store after a list of edits, from the first on
abbrev pub after : Contents → List Edit → Contents
after S [] = S
after S (e ∷ es) = after (after_edit S e) es

-- T has what S has at each key but this one, and its documents may hold the numbers that those of S may
abbrev pub AgreesOutsideKey : Segments → Contents → Contents → Type 0
AgreesOutsideKey key S T = (T.numbers ≡ S.numbers) × AgreesExceptAt key S.values T.values

-- a first part of the edits was done, and not all of them: the store is what these leave, except perhaps at the key
-- of the next edit
pub record IsCutShort (S : Contents) (edits : List Edit) (S' : Contents) : Type 0 where
  pub done : List Edit
  pub next : Edit
  pub rest : List Edit
  pub is : edits ≡ done ++ next ∷ rest
  pub others : AgreesOutsideKey (edit_key next) (after S done) S'
