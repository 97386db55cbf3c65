-- Zarr core specification 3.1, "Abstract store interface": keys and prefixes, as lists of segments, and their texts.
-- <https://zarr-specs.readthedocs.io/en/latest/v3/core/index.html#abstract-store-interface>
--     segments_of t      the nonempty stretches of a text between its slashes
--     IsKey, key_text, IsKeyText      one or more segments; joined by slashes; that a text is such a one
--     IsPrefix, prefix_text, IsPrefixText      any number of segments; each with a slash behind it; that a text is
-- such a one
--     bytes_cmp, key_cmp      texts by their bytes; lists of segments by their segments
use Rattle.std.specs.Prelude.{◌≡◌, ◌≢◌, ℕ, Bool, true, false, All, List, [], ◌∷◌, ◌++◌, ◌==◌, ◌&&◌, not, nat_eq}
use Rattle.std.specs.List.{slice_split, list_all, filter, flat_map, join_with_byte, starts_with}
use Rattle.std.specs.declared.cmp.Ordering.{Ordering}
use Rattle.std.specs.Ordering.{nat_cmp}
use Rattle.std.specs.Cmp.Lexicographic.{slice_cmp, pointwise}
use Rattle.zarrs_fault.specs.Bytes.{slash}

-- segments are texts, in order
abbrev pub Segments : Type 0
Segments = List (List ℕ)

-- texts are ordered by their bytes
abbrev pub bytes_cmp : List ℕ → List ℕ → Ordering
bytes_cmp = slice_cmp nat_cmp

-- texts are equal where their bytes are
abbrev pub bytes_eq : List ℕ → List ℕ → Bool
bytes_eq = pointwise nat_eq

-- lists of segments are ordered by their segments
abbrev pub key_cmp : Segments → Segments → Ordering
key_cmp = slice_cmp bytes_cmp

-- the text has a byte
abbrev pub is_nonempty : List ℕ → Bool
is_nonempty [] = false
is_nonempty (b ∷ bs) = true

-- the byte is `/`
abbrev pub is_slash : ℕ → Bool
is_slash b = b == slash

-- no byte of the text is `/`
abbrev pub has_no_slash : List ℕ → Bool
has_no_slash s = list_all (λ b. not (is_slash b)) s

-- the text is a segment, as a test: it has a byte, and none of its bytes is `/`
abbrev pub is_segment : List ℕ → Bool
is_segment s = is_nonempty s && has_no_slash s

-- the stretches of a text between its slashes; of the empty text one, which is empty
abbrev pub stretches : List ℕ → Segments
stretches t = slice_split is_slash t

-- those that are not empty
unfoldable pub segments_of : List ℕ → Segments
segments_of t = filter is_nonempty (stretches t)

-- the last segment, and of none the empty text
abbrev pub last_segment : Segments → List ℕ
last_segment [] = []
last_segment (s ∷ []) = s
last_segment (s ∷ t ∷ ss) = last_segment (t ∷ ss)

-- the text begins with `__`
abbrev pub is_reserved : List ℕ → Bool
is_reserved name = starts_with nat_eq name (95 ∷ 95 ∷ [])

-- a segment is a text that is not empty and holds no `/`
pub record IsSegment (s : List ℕ) : Type 0 where
  pub nonempty : s ≢ []
  pub no_slash : All (λ b. b ≢ slash) s

-- a key has at least one segment
pub record IsKey (key : Segments) : Type 0 where
  pub some : key ≢ []
  pub each : All IsSegment key

-- a prefix has any number of segments
abbrev pub IsPrefix : Segments → Type 0
IsPrefix prefix = All IsSegment prefix

-- the text of a key: its segments, joined by `/`
abbrev pub key_text : Segments → List ℕ
key_text ss = join_with_byte slash ss

-- the text of a prefix: its segments, each with `/` behind it
abbrev pub prefix_text : Segments → List ℕ
prefix_text ss = flat_map (λ s. s ++ slash ∷ []) ss

-- the text is that of some key
pub record IsKeyText (t : List ℕ) : Type 0 where
  pub key : Segments
  pub valid : IsKey key
  pub is : t ≡ key_text key

-- the text is that of some prefix
pub record IsPrefixText (t : List ℕ) : Type 0 where
  pub prefix : Segments
  pub valid : IsPrefix prefix
  pub is : t ≡ prefix_text prefix
