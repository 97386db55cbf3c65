-- The texts of the errors of stores, of keys and of prefixes, as they print themselves (Zarr core specification 3.1,
-- "Abstract store interface").
-- <https://zarr-specs.readthedocs.io/en/latest/v3/core/index.html#abstract-store-interface>
use Rattle.std.specs.Prelude.{ℕ, List, ◌++◌, codes, string_bytes}
use Rattle.zarrs_fault.specs.FaultTexts.{fault_text}
use Rattle.zarrs_store.specs.Segments.{key_text}
use Rattle.zarrs_store.specs.declared.key.StoreKeyError.{StoreKeyError}
use Rattle.zarrs_store.specs.declared.key.StoreKeyError.TheVariants.{Invalid as InvalidKey, OutOfMemory as NoKeyMemory}
use Rattle.zarrs_store.specs.declared.prefix.StorePrefixError.{StorePrefixError}
use Rattle.zarrs_store.specs.declared.prefix.StorePrefixError.TheVariants.{Invalid as InvalidPrefix}
use Rattle.zarrs_store.specs.declared.prefix.StorePrefixError.TheVariants.{OutOfMemory as NoPrefixMemory}
use Rattle.zarrs_store.specs.declared.storage_error.StorageError.{StorageError}
use Rattle.zarrs_store.specs.declared.storage_error.StorageError.TheVariants.{Fault, InvalidMetadata, Other}
use Rattle.zarrs_store.specs.declared.storage_error.StorageError.TheVariants.{OutOfMemory}

-- why there is no key
abbrev pub key_error_text : StoreKeyError → List ℕ
key_error_text (InvalidKey text) = codes "invalid store key " ++ string_bytes text
key_error_text NoKeyMemory = codes "out of memory"

-- why there is no prefix
abbrev pub prefix_error_text : StorePrefixError → List ℕ
prefix_error_text (InvalidPrefix text) = codes "invalid store prefix " ++ string_bytes text
prefix_error_text NoPrefixMemory = codes "out of memory"

-- why a call over a store is refused
abbrev pub storage_error_text : StorageError → List ℕ
storage_error_text Fault = codes "store fault"
storage_error_text (InvalidMetadata key fault) =
    codes "error parsing metadata for " ++ (key_text key ++ (codes ": " ++ fault_text fault))
storage_error_text (Other text) = string_bytes text
storage_error_text OutOfMemory = codes "out of memory"
