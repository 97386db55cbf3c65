-- Steps of loading a store: what private calls find and refuse; no public contract rests on them.
use Rattle.std.specs.Prelude.{ℕ, List, All, Vec, ⊤, Option, IsSome, string_bytes}
use Rattle.std.specs.declared.alloc.Global.{Global}
use Rattle.zarrs_store.specs.Segments.{Segments, key_text, IsKeyText}
use Rattle.zarrs_load.specs.Folder.{IsFound}
use Rattle.serde_json.specs.Data.{Data}
use Rattle.serde_json.specs.Find.{as_str}
use Rattle.zarrs_load.specs.Reading.{RefusedReading}
use Rattle.zarrs_load.specs.declared.fault.LoadFault.{LoadFault}
use Rattle.zarrs_load.specs.declared.fault.LoadFault.TheVariants.{Image, ImageKey, ImageValue, OutOfMemory}
use Rattle.zarrs_load.specs.Image.{IsFirstBad, IsReadFault}

-- the bytes of each file are those that a file has whose names are the text of its key
abbrev pub AreFound : List (Segments × Vec ℕ Global) → Type 0
AreFound files = All (λ f. IsFound (key_text f.0) f.1.items) files

-- the first bad member has this name, which is no key's text
abbrev pub IsFirstBadKey : List (List ℕ × Data) → List ℕ → Type 0
IsFirstBadKey members name = (value : Data) × IsFirstBad members name value × (IsKeyText name → ⊥)

-- the first bad member has this name, which is a key's text, and its value is no text
abbrev pub IsFirstBadValue : List (List ℕ × Data) → List ℕ → Type 0
IsFirstBadValue members name =
    (value : Data) × IsFirstBad members name value × IsKeyText name × (IsSome (as_str value) → ⊥)

-- the members make no store, and this is why, or out of memory
abbrev pub IsMemberFault : List (List ℕ × Data) → LoadFault → Type 0
IsMemberFault members (ImageKey name) = IsFirstBadKey members (string_bytes name)
IsMemberFault members (ImageValue name) = IsFirstBadValue members (string_bytes name)
IsMemberFault members OutOfMemory = ⊤
IsMemberFault members _ = ⊥

-- what a reader gave, and where it stands, when no object was read
abbrev pub RefusedObject : Option (List ℕ) → Option (List ℕ) → LoadFault → Type 0
RefusedObject before after Image = IsReadFault before after Image
RefusedObject before after fault = RefusedReading before after fault
