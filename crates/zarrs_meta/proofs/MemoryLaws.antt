-- No document means out of memory: what reading refuses with is never that fault.
use Rattle.zarrs_form.proofs.MemoryLaws.{bytes_never}
use Rattle.zarrs_form.proofs.PlainForms.{never_of}
use Rattle.zarrs_meta.specs.GroupV3.{group_v3_in}
use Rattle.zarrs_meta.specs.GroupV2.{group_v2_in}
use Rattle.zarrs_meta.specs.ArrayV3.{array_v3_in}
use Rattle.zarrs_meta.specs.ArrayV2.{array_v2_in}
use Rattle.zarrs_meta.specs.Attributes.{attributes_document_in}
use Rattle.zarrs_meta.specs.Node.{node_in, zarr_json_in}
use Rattle.zarrs_meta.specs.Laws.{ReadingNeverLacksMemory}
use Rattle.zarrs_meta.proofs.PlainGroups as groups
use Rattle.zarrs_meta.proofs.PlainArrays as arrays
use Rattle.zarrs_meta.proofs.PlainNodes as nodes

-- no bytes mean out of memory, whatever document they are read as
pub reading_never_lacks_memory : ReadingNeverLacksMemory
reading_never_lacks_memory numbers bytes = (
  bytes_never (group_v3_in numbers) (λ d. never_of (groups.PlainV3In numbers) (group_v3_in numbers d) (groups.group_v3_plain_in numbers d)) bytes,
  bytes_never (array_v3_in numbers) (λ d. never_of (arrays.PlainV3In numbers) (array_v3_in numbers d) (arrays.array_v3_plain_in numbers d)) bytes,
  bytes_never (group_v2_in numbers) (λ d. never_of (groups.PlainV2In numbers) (group_v2_in numbers d) (groups.group_v2_plain_in numbers d)) bytes,
  bytes_never (array_v2_in numbers) (λ d. never_of (arrays.PlainV2In numbers) (array_v2_in numbers d) (arrays.array_v2_plain_in numbers d)) bytes,
  bytes_never (attributes_document_in numbers) (λ d. never_of (nodes.PlainAttributesIn numbers) (attributes_document_in numbers d) (nodes.attributes_plain_in numbers d)) bytes,
  bytes_never (node_in numbers) (λ d. never_of (nodes.PlainNodeIn numbers) (node_in numbers d) (nodes.node_plain_in numbers d)) bytes,
  bytes_never (zarr_json_in numbers) (λ d. never_of (nodes.PlainZarrJsonIn numbers) (zarr_json_in numbers d) (nodes.zarr_json_plain_in numbers d)) bytes,
)
