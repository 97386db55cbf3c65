-- The text of why a folder was not read, as it prints itself (Zarr core specification 3.1, "Storage keys").
-- <https://zarr-specs.readthedocs.io/en/latest/v3/core/index.html#storage-keys>
use Rattle.std.specs.Prelude.{ℕ, List, ◌++◌, codes, string_bytes}
use Rattle.zarrs_folder.specs.declared.fault.FolderFault.{FolderFault}
use Rattle.zarrs_folder.specs.declared.fault.FolderFault.TheVariants.{Unread, NoFolder, OutOfMemory}

-- why a folder was not read
abbrev pub folder_fault_text : FolderFault → List ℕ
folder_fault_text (Unread path why) = string_bytes path ++ codes ": " ++ string_bytes why
folder_fault_text (NoFolder path) = string_bytes path ++ codes " is a file, and a store is a folder"
folder_fault_text OutOfMemory = codes "out of memory"
