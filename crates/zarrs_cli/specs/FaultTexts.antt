-- The text of why a run is refused, as it prints itself (Zarr core specification 3.1, "Hierarchy").
-- <https://zarr-specs.readthedocs.io/en/latest/v3/core/index.html#hierarchy>
use Rattle.std.specs.Prelude.{ℕ, List, codes}
use Rattle.zarrs_meaning.specs.ErrorTexts.{error_text}
use Rattle.zarrs_load.specs.FaultTexts.{load_fault_text}
use Rattle.zarrs_program.specs.FaultTexts.{write_fault_text}
use Rattle.zarrs_folder.specs.FaultTexts.{folder_fault_text}
use Rattle.zarrs_consolidate.specs.FaultTexts.{consolidate_error_text}
use Rattle.zarrs_write.specs.FaultTexts.{replace_error_text}
use Rattle.zarrs_cli.specs.declared.fault.ZarrsFault.{ZarrsFault}
use Rattle.zarrs_cli.specs.declared.fault.ZarrsFault.TheVariants.{Usage, Load, Folder, Node, TooDeep, Consolidate}
use Rattle.zarrs_cli.specs.declared.fault.ZarrsFault.TheVariants.{Replace, Write, Closed, OutOfMemory}

-- why a run is refused
abbrev pub zarrs_fault_text : ZarrsFault → List ℕ
zarrs_fault_text Usage = codes "wrong words"
zarrs_fault_text (Load fault) = load_fault_text fault
zarrs_fault_text (Folder fault) = folder_fault_text fault
zarrs_fault_text (Node error) = error_text error
zarrs_fault_text TooDeep = codes "the document would nest deeper than any that is read"
zarrs_fault_text (Consolidate error) = consolidate_error_text error
zarrs_fault_text (Replace error) = replace_error_text error
zarrs_fault_text Write = write_fault_text
zarrs_fault_text Closed = codes "nobody reads the output"
zarrs_fault_text OutOfMemory = codes "out of memory"
