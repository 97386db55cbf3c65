-- Steps of a check: what is told of blocks, one after another; no public contract rests on them.
use Rattle.std.specs.Prelude.{◌≡◌, ◌⊎◌, ◌↔◌, ℕ, Bool, IsTrue, List, AllPairs, Contains, Option, Some, option_map}
use Rattle.std.specs.Prelude.{option_and_then, Result, Ok, Err}
use Rattle.std.specs.declared.cmp.Ordering.TheVariants.{Less}
use Rattle.serde_json.specs.Data.{Members}
use Rattle.zarrs_fault.specs.declared.fault.MetadataFault.{MetadataFault}
use Rattle.zarrs_fault.specs.declared.fault.MetadataFault.TheVariants.{OutOfMemory}
use Rattle.zarrs_fault.specs.declared.numbers.Numbers.{Numbers}
use Rattle.zarrs_store.specs.Contents.{Contents}
use Rattle.zarrs_path.specs.Paths.{Path, path_cmp}
use Rattle.zarrs_meta.specs.declared.node.NodeMetadata.{NodeMetadata}
use Rattle.zarrs_form.specs.Documents.{json_of, of_bytes}
use Rattle.zarrs_block.specs.Block.{Block}
use Rattle.zarrs_block.specs.Zmetadata.{zmetadata_in}
use Rattle.zarrs_block.specs.declared.consolidated.ConsolidatedMetadata.{ConsolidatedMetadata}
use Rattle.zarrs_meaning.specs.declared.node_create_error.NodeCreateError.{NodeCreateError}
use Rattle.zarrs_check.specs.Checks.{StandsBefore, block_read, fault_of_block, node_attributes, own_attributes_in}
use Rattle.zarrs_check.specs.Checks.{own_finding, own_read}
use Rattle.zarrs_check.specs.Findings.{IsFinding, Precedes}
use Rattle.zarrs_meaning.specs.Meaning.{Pair}
use Rattle.zarrs_check.specs.StepsOfOwnAttributes.{is_other}
use Rattle.zarrs_check.specs.declared.finding.Finding.{Finding}

-- what is read as a block: the block, and whether its document has other attributes of its group, or the first fault
abbrev pub BlockOrFault : Type 0
BlockOrFault = Result (Block × Bool) MetadataFault

-- what is read as a block, with whether its document has other attributes
abbrev pub block_with : Bool → Result Block MetadataFault → BlockOrFault
block_with other (Ok B) = Ok (B, other)
block_with other (Err fault) = Err fault

-- what the bytes of a document `.zmetadata`, which may hold these numbers, are read as beside a group with these
-- attributes
abbrev pub compared_bytes : Numbers → Members → List ℕ → BlockOrFault
compared_bytes numbers attributes bytes =
    block_with (is_other attributes (option_and_then (own_attributes_in numbers) (json_of bytes)))
    (of_bytes (zmetadata_in numbers) bytes)

-- what is read as the block of a node, if it has one
abbrev pub block_with_own : Contents → Path → NodeMetadata → Option BlockOrFault
block_with_own s p m = option_map (block_with (is_other (node_attributes m) (own_read s p m))) (block_read s p m)

-- what there is to tell of what was read as the block of g
abbrev pub IsToldWith : BlockOrFault → (Pair → Type 0) → (Path → Type 0) → (Path → Type 0) → Path → Finding → Type 0
IsToldWith (Err fault) N F D g f = f ≡ fault_of_block g fault
IsToldWith (Ok w) N F D g f = IsFinding w.0 N F D g f ⊎ (IsTrue w.1 × (f ≡ own_finding g))

-- the findings are exactly what there is to tell of what was read as the block of g, each once, in their order
pub record AreTold (read : BlockOrFault) (N : Pair → Type 0) (F D : Path → Type 0) (g : Path)
    (found : List Finding) : Type 0 where
  pub exact : (f : Finding) → Contains found f ↔ IsToldWith read N F D g f
  pub ascend : AllPairs Precedes found

-- a block, and whether its document has other attributes, as they are seen
abbrev pub shown_pair : ConsolidatedMetadata × Bool → Block × Bool
shown_pair w = (w.0.metadata, w.1)

-- what was read as a block, as it is seen
abbrev pub shown_block : Result (ConsolidatedMetadata × Bool) MetadataFault → BlockOrFault
shown_block (Ok w) = Ok (shown_pair w)
shown_block (Err fault) = Err fault

-- the same of what was read, if there is something
abbrev pub as_known : Option (Result (ConsolidatedMetadata × Bool) MetadataFault) → Option BlockOrFault
as_known read = option_map shown_block read

-- a path, and what was read as the block there
abbrev pub ReadBlock : Type 0
ReadBlock = Path × BlockOrFault

-- the paths ascend
abbrev pub GroupsAscend : List ReadBlock → Type 0
GroupsAscend bs = AllPairs (λ b c. path_cmp b.0 c.0 ≡ Less) bs

-- a bad document stands at the path
abbrev pub HasBad : List (Path × NodeCreateError) → Path → Type 0
HasBad bad q = (e : NodeCreateError) × Contains bad (q, e)

-- the findings are exactly what there is to tell of these blocks, each once, in the order of groups, paths, kinds and
-- keys
pub record AreFindingsOf (blocks : List ReadBlock) (nodes : List Pair) (bad : List (Path × NodeCreateError))
    (D : Path → Type 0) (found : List Finding) : Type 0 where
  pub exact : (f : Finding) → Contains found f
      ↔ ((r : BlockOrFault) × Contains blocks (f.group, r) × IsToldWith r (Contains nodes) (HasBad bad) D f.group f)
  pub ascend : AllPairs StandsBefore found

-- memory was not wanting as it was read
abbrev pub IsKnown : {A : Type 0} → Result A MetadataFault → Type 0
IsKnown (Ok block) = Unit {0}
IsKnown (Err OutOfMemory) = ⊥
IsKnown (Err fault) = Unit {0}

-- what was read is the block, or its fault
abbrev pub IsKnownOf : {A : Type 0} → Result A MetadataFault → Option (Result A MetadataFault) → Type 0
IsKnownOf read known = (known ≡ Some read) × IsKnown read
