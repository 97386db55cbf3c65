-- The text of why a metadata document is refused, as it prints itself (Zarr core specification 3.1, "Array metadata"
-- and "Group metadata").
-- <https://zarr-specs.readthedocs.io/en/latest/v3/core/index.html#array-metadata>
-- <https://zarr-specs.readthedocs.io/en/latest/v3/core/index.html#group-metadata>
use Rattle.std.specs.Prelude.{ℕ, List, ◌++◌, codes}
use Rattle.zarrs_fault.specs.declared.fault.MetadataFault.{MetadataFault}
use Rattle.zarrs_fault.specs.declared.fault.MetadataFault.TheVariants.{NotJson, UnsupportedNumber, NotAnObject}
use Rattle.zarrs_fault.specs.declared.fault.MetadataFault.TheVariants.{WrongFormat, WrongNodeType, MissingMember}
use Rattle.zarrs_fault.specs.declared.fault.MetadataFault.TheVariants.{BadMember, OutOfMemory}

-- why a document is refused
abbrev pub fault_text : MetadataFault → List ℕ
fault_text NotJson = codes "not JSON"
fault_text UnsupportedNumber = codes "unsupported number"
fault_text NotAnObject = codes "not an object"
fault_text WrongFormat = codes "wrong zarr_format"
fault_text WrongNodeType = codes "wrong node_type"
fault_text (MissingMember name) = codes "missing member " ++ name
fault_text (BadMember name) = codes "bad member " ++ name
fault_text OutOfMemory = codes "out of memory"
