-- Steps of reading the attributes that a document `.zmetadata` has of its own group; no public contract rests on them.
use Rattle.std.specs.Prelude.{Bool, false, not, Option, Some, None, option_and_then, Result, Ok}
use Rattle.std.specs.Result.{result_ok}
use Rattle.serde_json.specs.Data.{Data, Members}
use Rattle.serde_json.specs.Find.{get_member}
use Rattle.zarrs_fault.specs.declared.fault.MetadataFault.{MetadataFault}
use Rattle.zarrs_fault.specs.declared.numbers.Numbers.{Numbers}
use Rattle.zarrs_path.specs.Keys.{zarray, zgroup, zattrs}
use Rattle.zarrs_form.specs.Documents.{◌>>=◌}
use Rattle.zarrs_meta.specs.ArrayV2.{array_v2_in}
use Rattle.zarrs_meta.specs.Attributes.{attributes_document_in}
use Rattle.zarrs_meta.specs.GroupV2.{group_v2_in}
use Rattle.zarrs_compare.specs.StepsOfSame.{same_members}

-- the attributes of the document beside, where there is one, and else these
abbrev pub attributes_beside : Numbers → Option Data → Members → Result Members MetadataFault
attributes_beside numbers None own = Ok own
attributes_beside numbers (Some d) own = attributes_document_in numbers d >>= λ a. Ok a.0

-- the attributes of the array of the first document, or else of the group of the second, with those beside it, or
-- else nothing, or the first fault
abbrev pub read_attributes : Numbers → Option Data → Option Data → Option Data → Result (Option Members) MetadataFault
read_attributes numbers (Some d) group beside =
    array_v2_in numbers d >>= λ m. attributes_beside numbers beside m.attributes >>= λ a. Ok (Some a)
read_attributes numbers None (Some d) beside =
    group_v2_in numbers d >>= λ m. attributes_beside numbers beside m.attributes >>= λ a. Ok (Some a)
read_attributes numbers None None beside = Ok None

-- the attributes that members have of the group itself
abbrev pub members_attributes : Numbers → Members → Result (Option Members) MetadataFault
members_attributes numbers ms =
    read_attributes numbers (get_member zarray ms) (get_member zgroup ms) (get_member zattrs ms)

-- the same, but for the fault: where the documents do not read there are none
abbrev pub own_in_members : Numbers → Members → Option Members
own_in_members numbers ms = option_and_then (λ own. own) (result_ok (members_attributes numbers ms))

-- the second attributes, if there are some, are others than the first
abbrev pub is_other : Members → Option Members → Bool
is_other attributes None = false
is_other attributes (Some own) = not (same_members own attributes)
