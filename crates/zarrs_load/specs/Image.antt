-- The store of an image: a JSON object from the texts of store keys to the texts of documents, as a finite map from
-- keys to bytes (Zarr core
-- specification 3.1, "Abstract store interface": keys with values).
-- <https://zarr-specs.readthedocs.io/en/latest/v3/core/index.html#abstract-store-interface>
use Rattle.std.specs.Prelude.{◌≡◌, ℕ, List, [], ◌∷◌, ◌++◌, All, Option, Some, IfSome, IsSome, option_and_then, IsUtf8}
use Rattle.std.specs.Prelude.{string_bytes}
use Rattle.std.specs.FinMap as map
use Rattle.std.specs.Map.{lookup}
use Rattle.std.specs.Str.{bytes_eq}
use Rattle.std.specs.Io.KnownBytes.{IsAtEnd}
use Rattle.serde_json.specs.Data.{Data, object, Members, no_members, member}
use Rattle.serde_json.specs.Find.{as_str}
use Rattle.serde_json.specs.Read.{read}
use Rattle.zarrs_store.specs.Segments.{Segments, IsKey, IsKeyText, key_text}
use Rattle.zarrs_store.specs.Contents.{Values, HasKey}
use Rattle.zarrs_load.specs.Reading.{IsWithinBound, RefusedReading}
use Rattle.zarrs_load.specs.declared.fault.LoadFault.{LoadFault}
use Rattle.zarrs_load.specs.declared.fault.LoadFault.TheVariants.{Image, ImageKey, ImageValue}

-- an object's members, in ascending order of their names
abbrev pub member_list : Members → List (List ℕ × Data)
member_list no_members = []
member_list (member name value rest) = (name, value) ∷ member_list rest

-- the bytes are a JSON object with these members
abbrev pub IsObject : Members → List ℕ → Type 0
IsObject members bytes = IsUtf8 bytes × (read bytes ≡ Some (object members))

-- the member's name is a key's text, and its value is a text
abbrev pub IsEntry : List ℕ × Data → Type 0
IsEntry m = IsKeyText m.0 × IsSome (as_str m.1)

-- the text of the member with this name
abbrev pub member_text : List ℕ → List (List ℕ × Data) → Option (List ℕ)
member_text name members = option_and_then as_str (lookup (bytes_eq name) members)

-- each member is a key with a text, and the store has at each key the text of the member with the key's text, and
-- nothing else
pub record HoldsMembers (members : List (List ℕ × Data)) (store : Values) : Type 0 where
  pub entries : All IsEntry members
  pub same : (key : Segments) → IsKey key → map.get store key ≡ member_text (key_text key) members
  pub keys : (key : Segments) → HasKey store key → IsKey key

-- the member with this name and value is the first that is no key with a text
pub record IsFirstBad (members : List (List ℕ × Data)) (name : List ℕ) (value : Data) : Type 0 where
  pub before : List (List ℕ × Data)
  pub after : List (List ℕ × Data)
  pub splits : members ≡ before ++ (name, value) ∷ after
  pub good : All IsEntry before

-- the bytes are an image, and this is its store
abbrev pub IsImage : List ℕ → Values → Type 0
IsImage bytes store = (members : Members) × IsObject members bytes × HoldsMembers (member_list members) store

-- the store is that of the image that the reader had left, where its bytes are known
abbrev pub IsLoaded : Option (List ℕ) → Values → Type 0
IsLoaded before store = IfSome before (λ bytes. IsImage bytes store)

-- the bytes are no image, and this is why: they are no JSON object; or its first bad member has this name, which is
-- no key's text; or it has this
-- name, which is one, and its value is no text
abbrev pub IsImageFault : List ℕ → LoadFault → Type 0
IsImageFault bytes Image = (members : Members) → IsObject members bytes → ⊥
IsImageFault bytes (ImageKey name) =
    (members : Members) × IsObject members bytes × (value : Data)
    × IsFirstBad (member_list members) (string_bytes name) value × (IsKeyText (string_bytes name) → ⊥)
IsImageFault bytes (ImageValue name) =
    (members : Members) × IsObject members bytes × (value : Data)
    × IsFirstBad (member_list members) (string_bytes name) value × IsKeyText (string_bytes name)
    × (IsSome (as_str value) → ⊥)
IsImageFault bytes _ = ⊥

-- the reader was read to its end within the bound, and what it gave is no image
abbrev pub IsReadFault : Option (List ℕ) → Option (List ℕ) → LoadFault → Type 0
IsReadFault before after fault = IsAtEnd after × IfSome before (λ bytes. IsWithinBound bytes × IsImageFault bytes fault)

-- what a reader gave, and where it stands, when no store was loaded
abbrev pub RefusedImage : Option (List ℕ) → Option (List ℕ) → LoadFault → Type 0
RefusedImage before after Image = IsReadFault before after Image
RefusedImage before after (ImageKey name) = IsReadFault before after (ImageKey name)
RefusedImage before after (ImageValue name) = IsReadFault before after (ImageValue name)
RefusedImage before after fault = RefusedReading before after fault
