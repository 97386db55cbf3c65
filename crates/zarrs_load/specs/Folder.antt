-- The store of a folder: a file's key is the names that lead to it, joined by slashes, and documents alone have bytes
-- (Zarr core specification 3.1,
-- "Storage keys"; the keys of version 2 metadata).
-- <https://zarr-specs.readthedocs.io/en/latest/v3/core/index.html#storage-keys>
-- <https://zarr-specs.readthedocs.io/en/latest/v2/v2.0.html#metadata>
use Rattle.std.specs.Prelude.{◌≡◌, ℕ, List, [], ◌∷◌, ◌++◌, ◌⊎◌, ⊤, Contains, IfSome, codes}
use Rattle.std.specs.FinMap as map
use Rattle.zarrs_store.specs.Segments.{Segments, key_text}
use Rattle.zarrs_store.specs.Contents.{Values}
use Rattle.zarrs_load.specs.Reading.{IsWithinBound}
use Rattle.zarrs_load.specs.declared.fault.LoadFault.{LoadFault}
use Rattle.zarrs_load.specs.declared.fault.LoadFault.TheVariants.{Folder, OutOfMemory}
use Rattle.zarrs_fault.specs.Bytes.{slash}

-- the names of the files that are documents
abbrev pub document_names : List (List ℕ)
document_names = codes "zarr.json" ∷ codes ".zarray" ∷ codes ".zgroup" ∷ codes ".zattrs" ∷ codes ".zmetadata" ∷ []

-- a name behind the names that lead to it, with a slash between where there are any
abbrev pub joined_names : List ℕ → List ℕ → List ℕ
joined_names [] name = name
joined_names (b ∷ bs) name = (b ∷ bs) ++ slash ∷ name

-- a file of this name has no bytes, or it is a document and they are within the bound of one input
abbrev pub IsRead : List ℕ → List ℕ → Type 0
IsRead name bytes = (bytes ≡ []) ⊎ (Contains document_names name × IsWithinBound bytes)

-- the bytes are those that a file has whose names are the text
abbrev pub IsFound : List ℕ → List ℕ → Type 0
IsFound text bytes = (front name : List ℕ) × (text ≡ joined_names front name) × IsRead name bytes

-- where the store has bytes at a key, they are those that a file has whose names are the key's text
abbrev pub HoldsDocumentsAlone : Values → Type 0
HoldsDocumentsAlone store = (key : Segments) → IfSome (map.get store key) (IsFound (key_text key))

-- a folder or a file was not read, or out of memory
abbrev pub IsFolderFault : LoadFault → Type 0
IsFolderFault Folder = ⊤
IsFolderFault OutOfMemory = ⊤
IsFolderFault _ = ⊥
