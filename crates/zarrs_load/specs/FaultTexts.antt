-- The text of why no store is loaded, as it prints itself (Zarr core specification 3.1, "Abstract store interface").
-- <https://zarr-specs.readthedocs.io/en/latest/v3/core/index.html#abstract-store-interface>
use Rattle.std.specs.Prelude.{ℕ, List, ◌++◌, codes, string_bytes}
use Rattle.zarrs_load.specs.declared.fault.LoadFault.{LoadFault}
use Rattle.zarrs_load.specs.declared.fault.LoadFault.TheVariants.{Read, ReadTooLong, Image, ImageKey, ImageValue}
use Rattle.zarrs_load.specs.declared.fault.LoadFault.TheVariants.{Folder, OutOfMemory}

-- why no store is loaded
abbrev pub load_fault_text : LoadFault → List ℕ
load_fault_text Read = codes "read fault"
load_fault_text ReadTooLong = codes "input too long"
load_fault_text Image = codes "image is not a JSON object"
load_fault_text (ImageKey name) = codes "bad store key in image: " ++ string_bytes name
load_fault_text (ImageValue name) = codes "no text in image at " ++ string_bytes name
load_fault_text Folder = codes "folder fault"
load_fault_text OutOfMemory = codes "out of memory"
