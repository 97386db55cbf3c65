-- What holds of every document, by the definitions alone.
-- <https://zarr-specs.readthedocs.io/en/latest/v3/core/index.html#metadata>
use Rattle.std.specs.Prelude.{◌≡◌, ℕ, Bool, List, IsTrue, Result, Ok}
use Rattle.serde_json.specs.Data.{Data}
use Rattle.zarrs_fault.specs.declared.fault.MetadataFault.{MetadataFault}
use Rattle.zarrs_fault.specs.declared.numbers.Numbers.{Numbers}
use Rattle.zarrs_meta.specs.GroupV3.{group_v3_in}
use Rattle.zarrs_meta.specs.GroupV2.{group_v2_in, is_plain_group_v2}
use Rattle.zarrs_meta.specs.ArrayV3.{array_v3_in}
use Rattle.zarrs_meta.specs.ArrayV2.{array_v2_in, is_plain_array_v2}
use Rattle.zarrs_form.specs.Documents.{of_bytes, NeverLacksMemory}
use Rattle.zarrs_meta.specs.Attributes.{attributes_document_in, is_plain_attributes_in}
use Rattle.zarrs_meta.specs.Node.{node_in, zarr_json_in, is_plain_node_in}
use Rattle.zarrs_meta.specs.Node.{group_with, array_with}
use Rattle.zarrs_meta.specs.declared.attributes.AttributesDocument.{AttributesDocument}
use Rattle.zarrs_meta.specs.declared.node.ZarrJson.TheVariants.{Node}
use Rattle.zarrs_meta.specs.declared.node.NodeMetadata.{NodeMetadata}
use Rattle.zarrs_meta.specs.declared.group_v2.GroupMetadataV2.{GroupMetadataV2}
use Rattle.zarrs_meta.specs.declared.array_v2.ArrayMetadataV2.{ArrayMetadataV2}
use Rattle.zarrs_fault.specs.declared.numbers.Numbers.TheVariants.{Whole}

-- what is read where a document may hold these numbers is plain in them
abbrev pub ReadIsPlain : {A : Type 0} → (Numbers → Data → Result A MetadataFault) → (Numbers → A → Bool) → Type 0
ReadIsPlain {A} reading plain =
    (numbers : Numbers) (d : Data) (x : A) → reading numbers d ≡ Ok x → IsTrue (plain numbers x)

-- a node that was read at the key `zarr.json` where it may hold these numbers is plain in them
abbrev pub ReadZarrJsonIsPlainIn : Type 0
ReadZarrJsonIsPlainIn =
    (numbers : Numbers) (d : Data) (m : NodeMetadata) → zarr_json_in numbers d ≡ Ok (Node m)
    → IsTrue (is_plain_node_in numbers m)

-- the reading gives what the other gives, where that gives a value
abbrev pub ReadsToo : {A : Type 0} → Result A MetadataFault → Result A MetadataFault → Type 0
ReadsToo {A} reading other = (x : A) → other ≡ Ok x → reading ≡ Ok x

-- what is read where numbers have to be whole is read the same whatever numbers may stand, whatever document it is
abbrev pub WholeReadsTheSame : Type 0
WholeReadsTheSame = (numbers : Numbers) (d : Data) →
    ReadsToo (group_v3_in numbers d) (group_v3_in Whole d) × ReadsToo (array_v3_in numbers d) (array_v3_in Whole d)
    × ReadsToo (group_v2_in numbers d) (group_v2_in Whole d) × ReadsToo (array_v2_in numbers d) (array_v2_in Whole d)
    × ReadsToo (attributes_document_in numbers d) (attributes_document_in Whole d)
    × ReadsToo (node_in numbers d) (node_in Whole d) × ReadsToo (zarr_json_in numbers d) (zarr_json_in Whole d)

-- a plain version 2 group or array with plain attributes in place of its own is plain
abbrev pub WithAttributesIsPlain : Type 0
WithAttributesIsPlain = (a : AttributesDocument) → IsTrue (is_plain_attributes_in Whole a) →
    ((m : GroupMetadataV2) → IsTrue (is_plain_group_v2 m) → IsTrue (is_plain_group_v2 (group_with a m)))
    × ((m : ArrayMetadataV2) → IsTrue (is_plain_array_v2 m) → IsTrue (is_plain_array_v2 (array_with a m)))

-- no bytes mean out of memory, whatever document they are read as and whatever numbers it may hold
abbrev pub ReadingNeverLacksMemory : Type 0
ReadingNeverLacksMemory = (numbers : Numbers) (bytes : List ℕ) →
    NeverLacksMemory (of_bytes (group_v3_in numbers) bytes) × NeverLacksMemory (of_bytes (array_v3_in numbers) bytes)
    × NeverLacksMemory (of_bytes (group_v2_in numbers) bytes) × NeverLacksMemory (of_bytes (array_v2_in numbers) bytes)
    × NeverLacksMemory (of_bytes (attributes_document_in numbers) bytes)
    × NeverLacksMemory (of_bytes (node_in numbers) bytes) × NeverLacksMemory (of_bytes (zarr_json_in numbers) bytes)
