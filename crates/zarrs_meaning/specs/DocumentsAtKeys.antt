-- Zarr core specification 3.1, "Metadata documents", and the version 2 specification, "Attributes": the document at a
-- key of a store of bytes, or of a small store of JSON trees.
-- <https://zarr-specs.readthedocs.io/en/latest/v3/core/index.html#metadata>
-- <https://zarr-specs.readthedocs.io/en/latest/v2/v2.0.html#attributes>
--     in_bytes numbers, in_trees numbers      how bytes, or trees, read as a document that may hold these numbers
--     document_at reading s key      the document at a key, or none where the key is absent, or its fault
--     attributes_in reading s p, attributes_at s p      that of the key `.zattrs` of a path; in a store of bytes
--     RefusesReading can_fail reading e      what refuses the reading of a document
use Rattle.std.specs.Prelude.{◌≡◌, ℕ, Bool, IsTrue, List, [], ◌∷◌, ◌++◌, Option, Some, None, Result, Ok, Err}
use Rattle.std.specs.FinMap.{FinMap, get}
use Rattle.serde_json.specs.Data.{Data}
use Rattle.zarrs_store.specs.Segments.{Segments, key_cmp}
use Rattle.zarrs_store.specs.Contents.{Contents}
use Rattle.zarrs_fault.specs.declared.fault.MetadataFault.{MetadataFault}
use Rattle.zarrs_fault.specs.declared.numbers.Numbers.{Numbers}
use Rattle.zarrs_store.specs.declared.storage_error.StorageError.{StorageError}
use Rattle.zarrs_store.specs.declared.storage_error.StorageError.TheVariants.{Fault, InvalidMetadata, Other}
use Rattle.zarrs_store.specs.declared.storage_error.StorageError.TheVariants.{OutOfMemory}
use Rattle.zarrs_path.specs.Paths.{Path}
use Rattle.zarrs_path.specs.Keys.{zattrs}
use Rattle.zarrs_form.specs.Documents.{of_bytes}
use Rattle.zarrs_meta.specs.Attributes.{attributes_document_in}
use Rattle.zarrs_meta.specs.declared.attributes.AttributesDocument.{AttributesDocument}

-- a document as it was read, where a fault names the key
abbrev pub document_or_fault : {D : Type 0} → Segments → Result D MetadataFault → Result (Option D) StorageError
document_or_fault key (Ok d) = Ok (Some d)
document_or_fault key (Err fault) = Err (InvalidMetadata key fault)

-- how what stands at the keys of a store reads as a document of a kind, which is given for any numbers
abbrev pub Reading : Type 0 → Type 1
Reading V = (D : Type 0) → (Numbers → Data → Result D MetadataFault) → V → Result D MetadataFault

-- bytes read as the document that their tree is, which may hold these numbers
abbrev pub in_bytes : Numbers → Reading (List ℕ)
in_bytes numbers D document = of_bytes {A = D} (document numbers)

-- a tree reads as the document that it is, which may hold these numbers
abbrev pub in_trees : Numbers → Reading Data
in_trees numbers D document = document numbers

-- the document of what stands at a key, or none where nothing stands there
abbrev pub document_from : {V D : Type 0} → (V → Result D MetadataFault) → Segments → Option V
    → Result (Option D) StorageError
document_from reading key None = Ok None
document_from reading key (Some x) = document_or_fault key (reading x)

-- the document at a key of a store of bytes or of trees, or none where the key is absent
unfoldable pub document_at : {V D : Type 0} → (V → Result D MetadataFault) → FinMap key_cmp V → Segments
    → Result (Option D) StorageError
document_at reading s key = document_from reading key (get s key)

-- the attributes at the key `.zattrs` of a path
abbrev pub attributes_in : {V : Type 0} → Reading V → FinMap key_cmp V → Path
    → Result (Option AttributesDocument) StorageError
attributes_in reading s p = document_at (reading AttributesDocument attributes_document_in) s (p ++ zattrs ∷ [])

-- the attributes at the key `.zattrs` of a path, in a store of bytes
abbrev pub attributes_at : Contents → Path → Result (Option AttributesDocument) StorageError
attributes_at s p = attributes_in (in_bytes s.numbers) s.values p

-- the document at a key of a store of bytes, by what a JSON value means in the numbers of the store, or none where the
-- key is absent
abbrev pub stored_document : {D : Type 0} → (Numbers → Data → Result D MetadataFault) → Contents → Segments
    → Result (Option D) StorageError
stored_document meaning s key = document_at (of_bytes (meaning s.numbers)) s.values key

-- the error is the fault of a store that can fail, or out of memory, or what the reading refuses
abbrev pub RefusesReading : {D : Type 0} → Bool → Result D StorageError → StorageError → Type 0
RefusesReading can_fail reading Fault = IsTrue can_fail
RefusesReading can_fail reading (InvalidMetadata key fault) = reading ≡ Err (InvalidMetadata key fault)
RefusesReading can_fail reading (Other text) = ⊥
RefusesReading can_fail reading OutOfMemory = Unit {0}
