-- Zarr core specification 3.1, "Storage keys": what a folder answers of the files below it.
-- <https://zarr-specs.readthedocs.io/en/latest/v3/core/index.html#storage-keys>
--     values_of es, in_any V      what a store in memory with these entries holds; a store that holds V and whose
-- documents may hold any number
--     NoneIsBelow V prefix found      where no key was found, V has none below the prefix
--     IsFaultOfFolder can_fail e      what a folder may refuse
--     IsFaultAt path e      the fault names this path
use Rattle.std.specs.Prelude.{◌≡◌, ℕ, Bool, List, Option, Some, None, IsTrue, ⊤, string_bytes}
use Rattle.std.specs.FinMap as map
use Rattle.zarrs_fault.specs.declared.numbers.Numbers.TheVariants.{Any}
use Rattle.zarrs_store.specs.Segments.{Segments, key_cmp}
use Rattle.zarrs_store.specs.Contents.{Contents, Values, HasBelow}
use Rattle.zarrs_folder.specs.declared.fault.FolderFault.{FolderFault}
use Rattle.zarrs_folder.specs.declared.fault.FolderFault.TheVariants.{Unread, NoFolder, OutOfMemory}

-- what a store in memory with these entries holds
abbrev pub values_of : List (Segments × List ℕ) → Values
values_of es = map.from_entries {R = key_cmp} es

-- the store that holds this, and whose documents may hold any number
abbrev pub in_any : Values → Contents
in_any V = record { values = V; numbers = Any }

-- where no key was found, there is none below the prefix
abbrev pub NoneIsBelow : Values → Segments → Option Segments → Type 0
NoneIsBelow V prefix None = HasBelow V prefix → ⊥
NoneIsBelow V prefix (Some key) = ⊤

-- out of memory; or something was not read, of a folder that can fail
abbrev pub IsFaultOfFolder : Bool → FolderFault → Type 0
IsFaultOfFolder can_fail (Unread path why) = IsTrue can_fail
IsFaultOfFolder can_fail (NoFolder path) = IsTrue can_fail
IsFaultOfFolder can_fail OutOfMemory = ⊤

-- the path that was not read, or where no folder stands, is this one; or out of memory
abbrev pub IsFaultAt : List ℕ → FolderFault → Type 0
IsFaultAt text (Unread path why) = string_bytes path ≡ text
IsFaultAt text (NoFolder path) = string_bytes path ≡ text
IsFaultAt text OutOfMemory = ⊤
