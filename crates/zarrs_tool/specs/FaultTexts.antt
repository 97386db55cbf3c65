-- The text of why a run is refused, as it prints itself (Zarr core specification 3.1, "Hierarchy").
-- <https://zarr-specs.readthedocs.io/en/latest/v3/core/index.html#hierarchy>
use Rattle.std.specs.Prelude.{ℕ, List, ◌++◌, codes}
use Rattle.zarrs_path.specs.Paths.{path_text}
use Rattle.zarrs_meaning.specs.ErrorTexts.{error_text}
use Rattle.zarrs_load.specs.FaultTexts.{load_fault_text}
use Rattle.zarrs_load.specs.declared.fault.LoadFault.TheVariants as load
use Rattle.zarrs_program.specs.FaultTexts.{write_fault_text}
use Rattle.zarrs_tool.specs.declared.fault.ToolFault.{ToolFault}
use Rattle.zarrs_tool.specs.declared.fault.ToolFault.TheVariants.{Usage, Read, ReadTooLong, Image, ImageKey, ImageValue}
use Rattle.zarrs_tool.specs.declared.fault.ToolFault.TheVariants.{Folder, NotAGroup, Fraction, Node, Write, OutOfMemory}

-- why a run is refused
abbrev pub tool_fault_text : ToolFault → List ℕ
tool_fault_text Usage = codes "usage: zarrs_tool (children|list|tree|consolidate) PATH | folder DIR tree PATH"
tool_fault_text Read = load_fault_text load.Read
tool_fault_text ReadTooLong = load_fault_text load.ReadTooLong
tool_fault_text Image = load_fault_text load.Image
tool_fault_text (ImageKey name) = load_fault_text (load.ImageKey name)
tool_fault_text (ImageValue name) = load_fault_text (load.ImageValue name)
tool_fault_text Folder = load_fault_text load.Folder
tool_fault_text NotAGroup = codes "not a group"
tool_fault_text (Fraction path) = path_text path ++ codes " has an unsupported number, one with a fraction"
tool_fault_text (Node error) = error_text error
tool_fault_text Write = write_fault_text
tool_fault_text OutOfMemory = codes "out of memory"
