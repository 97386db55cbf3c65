-- Zarr core specification 3.1, "Group metadata", with zarr-python's field `consolidated_metadata`: a catalogue, which
-- keeps the block of a version 3 group current.
-- <https://zarr-specs.readthedocs.io/en/latest/v3/core/index.html#group-metadata>
-- <https://zarr.readthedocs.io/en/stable/user-guide/consolidated_metadata/>
--     IsCurrent S c      the block of the catalogue is the one that a listing of the store S makes
--     after_change, after_changes      the store after a change, and after a list of them
--     RefusesChange, IsRefusedAt      why a change is refused; at which step a list of them is
--     IsStored S c, RefusesStored      the group holds the block of the catalogue, and opens alike by it and by a
-- listing; why that is refused
--     RefusesUpdate      why a catalogue is not brought up to date
use Rattle.std.specs.Prelude.{◌≡◌, ◌≤◌, ℕ, Bool, List, [], ◌∷◌, ◌++◌, Option, Some, None, option_map, take, slice_get}
use Rattle.std.specs.List.{fold}
use Rattle.serde_json.specs.Data.{depth}
use Rattle.serde_json.specs.Read.{max_depth}
use Rattle.zarrs_store.specs.Segments.{Segments}
use Rattle.zarrs_store.specs.Contents.{Contents}
use Rattle.zarrs_store.specs.Faults.{IsStoreError}
use Rattle.zarrs_path.specs.Paths.{IsBelow, IsPath, path_text}
use Rattle.zarrs_path.specs.Keys.{zarr_json}
use Rattle.zarrs_config.specs.declared.version.MetadataRetrieveVersion.TheVariants.{V3}
use Rattle.zarrs_meta.specs.declared.node.GroupMetadata.{GroupMetadata}
use Rattle.zarrs_block.specs.Policy.{group_block}
use Rattle.zarrs_meaning.specs.Refusals.{IsExcusedOr}
use Rattle.zarrs_meaning.specs.declared.node_create_error.NodeCreateError.TheVariants.{OutOfMemory as NoMemory}
use Rattle.zarrs_node.specs.CurrentBlocks.{LeadsTo, ShowsBadAnew}
use Rattle.zarrs_node.specs.ListedBlocks.{IsListedBlock}
use Rattle.zarrs_group.specs.BlocksOfGroups.{with_block}
use Rattle.zarrs_group.specs.Edits.{AgreesOutsideKey, Edit, set, remove, after_edit}
use Rattle.zarrs_group.specs.Groups.{GroupState, group_tree}
use Rattle.zarrs_group.specs.Meaning.{MeansGroup}
use Rattle.zarrs_group.specs.OpeningGroups.{RefusesOpeningGroup}
use Rattle.zarrs_group.specs.StoredBlocks.{OpensAlike}
use Rattle.zarrs_group.specs.StoringGroups.{RefusesStoringGroup}
use Rattle.zarrs_examples.specs.declared.catalogue.Catalogue.{Catalogue}
use Rattle.zarrs_examples.specs.declared.catalogue.Change.{Change}
use Rattle.zarrs_examples.specs.declared.catalogue.ChangeError.{ChangeError}
use Rattle.zarrs_examples.specs.declared.catalogue.ChangeError.TheVariants.{NotBelow, Store, Refresh}
use Rattle.zarrs_examples.specs.declared.catalogue.RefusedStep.{RefusedStep}
use Rattle.zarrs_examples.specs.declared.catalogue.StoringError.{StoringError}
use Rattle.zarrs_examples.specs.declared.catalogue.UpdateError.{UpdateError}
use Rattle.zarrs_examples.specs.declared.catalogue.UpdateError.TheVariants.{Step, Storing}
use Rattle.zarrs_examples.specs.declared.catalogue.StoringError.TheVariants.{Group, Block as SetBlock, TooDeep}
use Rattle.zarrs_examples.specs.declared.catalogue.StoringError.TheVariants.{Store as StoreGroup, OutOfMemory}

-- the block of the catalogue is the one that a listing of the store below its path makes, as version 3
abbrev pub IsCurrent : Contents → Catalogue → Type 0
IsCurrent S c = IsListedBlock S V3 c.path c.block

-- ---- changes

-- a key is set to bytes where there are some, and else removed
abbrev pub edit_at : Segments → Option (List ℕ) → Edit
edit_at key (Some bytes) = set key bytes
edit_at key None = remove key

-- the key of the document that a change sets or erases
abbrev pub changed_key : Change → Segments
changed_key c = c.path ++ zarr_json ∷ []

-- the store after a change: the document of its path is set, or erased
abbrev pub after_change : Contents → Change → Contents
after_change S c = after_edit S (edit_at (changed_key c) (option_map (λ v. v.items) c.document))

-- the store after a list of changes, from the first on
abbrev pub after_changes : Contents → List Change → Contents
after_changes S cs = fold after_change S cs

-- ---- refusals

-- a change is refused over a store S, which becomes T: its path is not below that of the catalogue, and nothing is
-- changed; or the store refused, and no other key is changed; or the document is changed, and what the block would
-- need of it is bad
abbrev pub RefusesChange : Bool → Catalogue → Change → Contents → Contents → ChangeError → Type 0
RefusesChange can_fail c change S T NotBelow = (IsBelow c.path change.path → ⊥) × (T ≡ S)
RefusesChange can_fail c change S T (Store e) = IsStoreError can_fail e × AgreesOutsideKey (changed_key change) S T
RefusesChange can_fail c change S T (Refresh e) =
    (T ≡ after_change S change)
    × IsExcusedOr can_fail (λ e. LeadsTo c.block c.path change.path × ShowsBadAnew T V3 change.path e) e

-- of a list of changes over a store S the one at the step was refused, by a catalogue that became c of a first one: c
-- is current in the store after the changes before the step where the first was current in S, and the change is
-- refused over that store
pub record IsRefusedAt (can_fail : Bool) (first c : Catalogue) (changes : List Change) (S T : Contents)
    (e : RefusedStep) : Type 0 where
  pub change : Change
  pub is : slice_get changes e.step ≡ Some change
  pub current : IsCurrent S first → IsCurrent (after_changes S (take e.step changes)) c
  pub why : RefusesChange can_fail c change (after_changes S (take e.step changes)) T e.cause

-- ---- the stored group

-- the path of the catalogue means a version 3 group that holds its block, in the numbers of the store; a node opened
-- there by the block, under Must, has the forest below it that one opened by a listing, under Never, has; and nothing
-- in the store refuses either opening
pub record IsStored (S : Contents) (c : Catalogue) : Type 0 where
  pub group : GroupMetadata
  pub holds : group_block S.numbers group ≡ Some c.block
  pub alike : OpensAlike S V3 c.path group

-- h is the group that the path of the catalogue means, as version 3, with the block of the catalogue set
pub record IsGroupWithBlock (S : Contents) (c : Catalogue) (h : GroupState) : Type 0 where
  pub group : GroupState
  pub path : group.path ≡ c.path
  pub valid : IsPath c.path
  pub means : MeansGroup S V3 c.path group.metadata
  pub set : h ≡ with_block group (Some c.block)

-- to store the catalogue is refused over a store S, which becomes T: the group is not opened; or out of memory; or
-- with the block its document nests too deep, or is not stored
abbrev pub RefusesStored : Bool → Catalogue → Contents → Contents → StoringError → Type 0
RefusesStored can_fail c S T (Group e) = (T ≡ S) × RefusesOpeningGroup can_fail S V3 (path_text c.path) e
RefusesStored can_fail c S T (SetBlock e) = (T ≡ S) × (e ≡ NoMemory)
RefusesStored can_fail c S T TooDeep =
    (T ≡ S) × ((h : GroupState) × IsGroupWithBlock S c h × (depth (group_tree h.metadata) ≤ max_depth → ⊥))
RefusesStored can_fail c S T (StoreGroup e) =
    (h : GroupState) × IsGroupWithBlock S c h × RefusesStoringGroup can_fail h.convert_version h S T e
RefusesStored can_fail c S T OutOfMemory = T ≡ S

-- to bring a first catalogue, which became c, up to date by changes over a store S, which became T, is refused: at a
-- step; or all changes were applied, and to store c is refused
abbrev pub RefusesUpdate : Bool → Catalogue → Catalogue → List Change → Contents → Contents → UpdateError → Type 0
RefusesUpdate can_fail first c changes S T (Step e) = IsRefusedAt can_fail first c changes S T e
RefusesUpdate can_fail first c changes S T (Storing e) =
    (IsCurrent S first → IsCurrent T c) × RefusesStored can_fail c (after_changes S changes) T e
