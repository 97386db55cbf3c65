-- Steps of finding and of carrying out what becomes of a block.
use Rattle.std.specs.Prelude.{◌≡◌, ◌⊎◌, ⊤, Bool, IsTrue, Option, is_some, string_bytes}
use Rattle.zarrs_store.specs.Contents.{Contents}
use Rattle.zarrs_path.specs.Paths.{Path, path_text}
use Rattle.zarrs_config.specs.declared.version.MetadataRetrieveVersion.TheVariants.{Default}
use Rattle.zarrs_meta.specs.declared.node.GroupMetadata.{GroupMetadata}
use Rattle.zarrs_block.specs.Block.{Block}
use Rattle.zarrs_meaning.specs.Refusals.{IsExcused}
use Rattle.zarrs_node.specs.OpeningNodes.{RefusesNode}
use Rattle.zarrs_group.specs.BlockDocuments.{block_document}
use Rattle.zarrs_group.specs.BlocksOfGroups.{RefusesBlock}
use Rattle.zarrs_write.specs.declared.replace.Replaced.{Replaced}
use Rattle.zarrs_write.specs.declared.replace.Replaced.TheVariants as replaced
use Rattle.zarrs_write.specs.declared.remove.Removed.{Removed}
use Rattle.zarrs_write.specs.declared.remove.Removed.TheVariants as removed
use Rattle.zarrs_consolidate.specs.Plans.{group_holding}
use Rattle.zarrs_consolidate.specs.Refusals.{HasDeepDocument, MeansArray}
use Rattle.zarrs_consolidate.specs.declared.carry_out.Outcome.{Outcome}
use Rattle.zarrs_consolidate.specs.declared.carry_out.Outcome.TheVariants.{Unchanged, Changed}
use Rattle.zarrs_consolidate.specs.declared.fault.ConsolidateError.{ConsolidateError}
use Rattle.zarrs_consolidate.specs.declared.fault.ConsolidateError.TheVariants.{Node, NotAGroup, TooDeep}
use Rattle.zarrs_consolidate.specs.declared.fault.ConsolidateError.TheVariants.{Block as NoBlock, OutOfMemory}

-- the node at b is refused, or it is an array
abbrev pub RefusesGroup : Bool → Contents → Path → ConsolidateError → Type 0
RefusesGroup can_fail s b (Node e) = IsExcused can_fail e ⊎ RefusesNode s Default b e
RefusesGroup can_fail s b (NotAGroup path) = MeansArray s b × (string_bytes path ≡ path_text b)
RefusesGroup can_fail s b OutOfMemory = ⊤
RefusesGroup can_fail s b _ = ⊥

-- the group at b with these metadata, and with a block or without one, has a document that holds it
abbrev pub HasBlockDocument : Path → GroupMetadata → Option Block → Type 0
HasBlockDocument b m block = IsTrue (is_some (block_document (group_holding b m block)))

-- the group does not take the block, or with it has a document that nests too deep
abbrev pub RefusesDocument : Path → GroupMetadata → Option Block → ConsolidateError → Type 0
RefusesDocument b m block (NoBlock e) = RefusesBlock m block e
RefusesDocument b m block TooDeep = HasDeepDocument (group_holding b m block)
RefusesDocument b m block OutOfMemory = ⊤
RefusesDocument b m block _ = ⊥

-- how a plan ends by a replacement
abbrev pub outcome_of_replaced : Replaced → Outcome
outcome_of_replaced replaced.Unchanged = Unchanged
outcome_of_replaced replaced.Written = Changed

-- how a plan ends by a removal
abbrev pub outcome_of_removed : Removed → Outcome
outcome_of_removed removed.Absent = Unchanged
outcome_of_removed removed.Gone = Changed
