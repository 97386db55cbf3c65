-- Zarr core specification 3.1, section "Hierarchy": a hierarchy as text, a line for each node.
-- <https://zarr-specs.readthedocs.io/en/latest/v3/core/index.html#hierarchy>
use Rattle.std.specs.Prelude.{◌≡◌, ℕ, ◌+◌, ◌-◌, ◌*◌, Option, Some, None, List, [], ◌∷◌, ◌++◌, replicate, length, codes}
use Rattle.std.specs.Fmt.{decimal}
use Rattle.std.specs.List.{join_by}
use Rattle.zarrs_store.specs.Contents.{Lists}
use Rattle.zarrs_store.specs.Segments.{last_segment}
use Rattle.zarrs_path.specs.Paths.{Path, IsBelow}
use Rattle.zarrs_form.specs.declared.data_type.DataTypeMetadataV2.{DataTypeMetadataV2}
use Rattle.zarrs_form.specs.declared.data_type.DataTypeMetadataV2.TheVariants.{Simple, Structured}
use Rattle.zarrs_form.specs.declared.extension.MetadataV3.{MetadataV3}
use Rattle.zarrs_meta.specs.declared.node.ArrayMetadata.{ArrayMetadata}
use Rattle.zarrs_meta.specs.declared.node.ArrayMetadata.TheVariants.{V3, V2}
use Rattle.zarrs_meta.specs.declared.node.NodeMetadata.{NodeMetadata}
use Rattle.zarrs_meta.specs.declared.node.NodeMetadata.TheVariants.{Group, Array}
use Rattle.zarrs_node.specs.Forest.{Forest, none, tree}
use Rattle.zarrs_node.specs.Order.{Ascend}
use Rattle.zarrs_fault.specs.Bytes.{newline, space}
use Rattle.zarrs_meaning.specs.Meaning.{Pair}

-- The lengths of a shape in decimal, with a comma and a space between each two, in brackets.
abbrev pub shape_text : List ℕ → List ℕ
shape_text shape = 91 ∷ (join_by decimal (codes ", ") shape ++ 93 ∷ [])

-- A configuration is shown as `(..)`, and none as nothing.
abbrev pub configuration_text : {C : Type 0} → Option C → List ℕ
configuration_text None = []
configuration_text (Some c) = codes "(..)"

-- A data type of version 3 is shown by its name and its configuration.
abbrev pub type_text_v3 : MetadataV3 → List ℕ
type_text_v3 t = t.name ++ configuration_text t.configuration

-- A simple data type of version 2 is shown as `Simple("..")` around its name as it stands, and any other as
-- `Structured(..)`.
abbrev pub type_text_v2 : DataTypeMetadataV2 → List ℕ
type_text_v2 (Simple name) = codes "Simple(\"" ++ (name ++ codes "\")")
type_text_v2 (Structured fields) = codes "Structured(..)"

-- An array is shown by its shape, a space and its data type.
abbrev pub array_text : ArrayMetadata → List ℕ
array_text (V3 a) = shape_text a.shape ++ space ∷ type_text_v3 a.data_type
array_text (V2 a) = shape_text a.shape ++ space ∷ type_text_v2 a.dtype

-- Behind a node's name stands, for an array, a space and the array.
abbrev pub node_text : NodeMetadata → List ℕ
node_text (Group g) = []
node_text (Array a) = space ∷ array_text a

-- A node's name, what stands behind it, and a newline.
abbrev pub named_line : List ℕ → NodeMetadata → List ℕ
named_line name m = name ++ (node_text m ++ newline ∷ [])

-- The first line of a text names its node `/`.
abbrev pub first_line : NodeMetadata → List ℕ
first_line m = named_line (codes "/") m

-- A line begins with two spaces for each level, and names its node by the last name of the path.
abbrev pub line : ℕ → Path → NodeMetadata → List ℕ
line level p m = replicate (2 * level) space ++ named_line (last_segment p) m

-- A line for each node of a forest, parents before children, siblings as they stand, each child one level deeper.
abbrev pub preorder : ℕ → Forest → List ℕ
preorder level none = []
preorder level (tree p m below after) = line level p m ++ (preorder (level + 1) below ++ preorder level after)

-- The text of a node: its first line, and the nodes below it from one level on.
abbrev pub tree_text : NodeMetadata → Forest → List ℕ
tree_text m below = first_line m ++ preorder 1 below

-- The lines of pairs below b as they stand, each indented by a level for each name beyond b.
abbrev pub lines : Path → List Pair → List ℕ
lines b [] = []
lines b (e ∷ es) = line (length e.0 - length b) e.0 e.1 ++ lines b es

-- The text is the lines of those pairs of N that are below b, joined in the order of paths; the others do not matter.
abbrev pub IsLines : Path → (Pair → Type 0) → List ℕ → Type 0
IsLines b N text = (es : List Pair) × Lists (λ e. N e × IsBelow b e.0) es × Ascend es × (text ≡ lines b es)
