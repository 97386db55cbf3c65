-- Zarr core specification 3.1, "Abstract store interface": the errors of stores, of keys and of prefixes.
-- <https://zarr-specs.readthedocs.io/en/latest/v3/core/index.html#abstract-store-interface>
use Rattle.std.specs.Prelude.{◌≡◌, ℕ, List, Bool, IsTrue, string_bytes}
use Rattle.zarrs_store.specs.Segments.{IsKeyText, IsPrefixText}
use Rattle.zarrs_store.specs.declared.key.StoreKeyError.{StoreKeyError}
use Rattle.zarrs_store.specs.declared.key.StoreKeyError.TheVariants.{Invalid as InvalidKey, OutOfMemory as NoKeyMemory}
use Rattle.zarrs_store.specs.declared.prefix.StorePrefixError.{StorePrefixError}
use Rattle.zarrs_store.specs.declared.prefix.StorePrefixError.TheVariants.{Invalid as InvalidPrefix}
use Rattle.zarrs_store.specs.declared.prefix.StorePrefixError.TheVariants.{OutOfMemory as NoPrefixMemory}
use Rattle.zarrs_store.specs.declared.storage_error.StorageError.{StorageError}
use Rattle.zarrs_store.specs.declared.storage_error.StorageError.TheVariants.{Fault, InvalidMetadata, Other}
use Rattle.zarrs_store.specs.declared.storage_error.StorageError.TheVariants.{OutOfMemory}

-- an error that a store may answer: `Fault` only where it can fail, out of memory at any time, and no other
abbrev pub IsStoreError : Bool → StorageError → Type 0
IsStoreError can_fail Fault = IsTrue can_fail
IsStoreError can_fail (InvalidMetadata key fault) = ⊥
IsStoreError can_fail (Other text) = ⊥
IsStoreError can_fail OutOfMemory = Unit {0}

-- the refusal of a text as a key: it holds the text, and that is no key's; or out of memory
abbrev pub RefusesKey : List ℕ → StoreKeyError → Type 0
RefusesKey text (InvalidKey said) = (string_bytes said ≡ text) × ¬ IsKeyText text
RefusesKey text NoKeyMemory = Unit {0}

-- the refusal of a text as a prefix: it holds the text, and that is no prefix's; or out of memory
abbrev pub RefusesPrefix : List ℕ → StorePrefixError → Type 0
RefusesPrefix text (InvalidPrefix said) = (string_bytes said ≡ text) × ¬ IsPrefixText text
RefusesPrefix text NoPrefixMemory = Unit {0}
