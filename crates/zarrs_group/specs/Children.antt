-- Zarr core specification 3.1, "Hierarchy" and "Group metadata", with zarr-python's field `consolidated_metadata` and
-- document `.zmetadata` of version 2: what stands below a group, by its block or by a listing.
-- <https://zarr-specs.readthedocs.io/en/latest/v3/core/index.html#hierarchy>
-- <https://zarr-specs.readthedocs.io/en/latest/v3/core/index.html#group-metadata>
-- <https://zarr.readthedocs.io/en/stable/user-guide/consolidated_metadata/>
--     block_choice numbers g config      that a block is used of a group, or that the store is listed, or that the
-- want of a block is refused
--     ShowsChildren, ListsNodes, AreChildren      what its trees show; what all its nodes are; what its children are,
-- in order
--     HasCleanChildren, RefusesChildren      that nothing refuses it; what a refusal is
--     is_listed choice      whether the store is listed: only there its fault is excused
use Rattle.std.specs.Prelude.{Bool, true, false, ◌&&◌, List, [], ◌∷◌, None, ◌⊎◌}
use Rattle.zarrs_fault.specs.declared.numbers.Numbers.{Numbers}
use Rattle.zarrs_store.specs.Contents.{Contents, Lists}
use Rattle.zarrs_path.specs.Paths.{Path}
use Rattle.zarrs_config.specs.Settings.{Settings}
use Rattle.zarrs_config.specs.declared.version.MetadataRetrieveVersion.TheVariants.{Default}
use Rattle.zarrs_meta.specs.declared.node.GroupMetadata.{GroupMetadata}
use Rattle.zarrs_meta.specs.declared.node.NodeMetadata.{NodeMetadata}
use Rattle.zarrs_meta.specs.declared.node.NodeMetadata.TheVariants.{Group, Array}
use Rattle.zarrs_block.specs.Block.{Entries}
use Rattle.zarrs_block.specs.Policy.{Choice, use_block, list_store, refuse, block_to_use}
use Rattle.zarrs_meaning.specs.Refusals.{IsExcused}
use Rattle.zarrs_meaning.specs.declared.node_create_error.NodeCreateError.{NodeCreateError}
use Rattle.zarrs_node.specs.Nodes.{Nodes}
use Rattle.zarrs_node.specs.Reach.{Kept}
use Rattle.zarrs_node.specs.Forest.{Forest}
use Rattle.zarrs_node.specs.OpeningNodes.{ShowsChosen, IsCleanChosen, RefusesChosen}
use Rattle.zarrs_node.specs.Order.{Ascend}
use Rattle.zarrs_group.specs.declared.create_error.GroupCreateError.{GroupCreateError}
use Rattle.zarrs_group.specs.Groups.{GroupState}
use Rattle.zarrs_group.specs.BlocksOfGroups.{held_by_in}
use Rattle.zarrs_group.specs.OpeningGroups.{IsFromNode}
use Rattle.zarrs_meaning.specs.Meaning.{Pair}

-- the choice of a block of a group, read in these numbers
abbrev pub block_choice : Numbers → GroupState → Settings → Choice
block_choice numbers g config = block_to_use (held_by_in numbers g) config.use_consolidated

-- the forest shows the nodes below the group, by the block that is used or by the documents of either version; or its
-- children alone
abbrev pub ShowsChildren : Contents → GroupState → Settings → Bool → Forest → Type 0
ShowsChildren s g config recursive f = ShowsChosen s Default (block_choice s.numbers g config) recursive g.path f

-- the pairs are all that stands below b, each once, in any order: all entries of the block that is used, or the nodes
-- that a listing finds; and nothing is listed where the want of a block is refused
abbrev pub ListsChosen : Contents → Choice → Path → List Pair → Type 0
ListsChosen s (use_block B) b es = Lists (Entries B b) es
ListsChosen s list_store b es = Lists (Nodes s Default true b) es
ListsChosen s refuse b es = ⊥

-- the pairs are all that stands below the group
abbrev pub ListsNodes : Contents → GroupState → Settings → List Pair → Type 0
ListsNodes s g config es = ListsChosen s (block_choice s.numbers g config) g.path es

-- the pairs are the nodes directly below b, each once: the entries of the block that is used, or the nodes that a
-- listing finds; and none are listed where the want of a block is refused
abbrev pub ListsDirectly : Contents → Choice → Path → List Pair → Type 0
ListsDirectly s (use_block B) b es = Lists (Kept (Entries B b) false b) es
ListsDirectly s list_store b es = Lists (Nodes s Default false b) es
ListsDirectly s refuse b es = ⊥

-- the pairs are the children of the group, each once, in the order of their paths
pub record AreChildren (s : Contents) (g : GroupState) (config : Settings) (es : List Pair) : Type 0 where
  pub ascend : Ascend es
  pub children : ListsDirectly s (block_choice s.numbers g config) g.path es

-- nothing refuses what stands below the group: a listing comes upon nothing bad, or all keys of the block that is
-- used are valid
abbrev pub HasCleanChildren : Contents → GroupState → Settings → Bool → Type 0
HasCleanChildren s g config recursive = IsCleanChosen s Default (block_choice s.numbers g config) recursive g.path

-- the store is listed: no block is used, and the want of one is not refused
abbrev pub is_listed : Choice → Bool
is_listed (use_block B) = false
is_listed list_store = true
is_listed refuse = false

-- out of memory, or the error is the fault of a store that is listed and can fail; or the want of a block is refused;
-- or, by the block that is used or by a listing, what stands below the group is
abbrev pub RefusesChildren : Bool → Contents → GroupState → Settings → Bool → NodeCreateError → Type 0
RefusesChildren can_fail s g config recursive e =
    IsExcused (is_listed (block_choice s.numbers g config) && can_fail) e
    ⊎ RefusesChosen s Default (block_choice s.numbers g config) recursive g.path e

-- ---- groups among the children

-- the group at a path with these metadata, without a block beside them, and with the choices of a configuration
abbrev pub group_at : Settings → Path → GroupMetadata → GroupState
group_at config p m = record {
  path = p;
  metadata = m;
  block = None;
  convert_version = config.convert_version;
  erase_version = config.erase_version;
}

-- a group before others, where the metadata are a group's
abbrev pub with_group : Settings → Path → NodeMetadata → List GroupState → List GroupState
with_group config p (Group m) gs = group_at config p m ∷ gs
with_group config p (Array a) gs = gs

-- the groups among the pairs, in their order
abbrev pub groups_of : Settings → List Pair → List GroupState
groups_of config [] = []
groups_of config (e ∷ es) = with_group config e.0 e.1 (groups_of config es)

-- the refusal of a group is that of what stands below it
abbrev pub RefusesGroups : Bool → Contents → GroupState → Settings → GroupCreateError → Type 0
RefusesGroups can_fail s g config made =
    (e : NodeCreateError) × RefusesChildren can_fail s g config false e × IsFromNode e made
