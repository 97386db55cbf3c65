-- Zarr core specification 3.1, "Group metadata" and "Extension points": opening a group, and the additional fields
-- that must be understood.
-- <https://zarr-specs.readthedocs.io/en/latest/v3/core/index.html#group-metadata>
-- <https://zarr-specs.readthedocs.io/en/latest/v3/core/index.html#extension-points>
use Rattle.std.specs.Prelude.{true, false, ◌≢◌, ◌≡◌, ℕ, Bool, IsTrue, List, Option, Some, None}
use Rattle.std.specs.declared.cmp.Ordering.TheVariants.{Less}
use Rattle.serde_json.specs.Data.{Data, Members}
use Rattle.serde_json.specs.Find.{get_member}
use Rattle.zarrs_store.specs.Segments.{bytes_cmp}
use Rattle.zarrs_store.specs.Contents.{Contents}
use Rattle.zarrs_store.specs.declared.storage_error.StorageError.TheVariants as storage
use Rattle.zarrs_store.specs.declared.prefix.StorePrefixError.TheVariants as prefix
use Rattle.zarrs_path.specs.Paths.{Path, IsPath, path_text}
use Rattle.zarrs_path.specs.PathErrors.{RefusesPath}
use Rattle.zarrs_path.specs.declared.node_path.NodePathError.TheVariants as path
use Rattle.zarrs_config.specs.declared.version.MetadataRetrieveVersion.{MetadataRetrieveVersion}
use Rattle.zarrs_form.specs.Fields.{must_understand}
use Rattle.zarrs_meta.specs.declared.node.GroupMetadata.{GroupMetadata}
use Rattle.zarrs_meta.specs.declared.node.GroupMetadata.TheVariants.{V3, V2}
use Rattle.zarrs_meaning.specs.declared.node_create_error.NodeCreateError.{NodeCreateError}
use Rattle.zarrs_meaning.specs.declared.node_create_error.NodeCreateError.TheVariants as node
use Rattle.zarrs_group.specs.declared.create_error.GroupCreateError.{GroupCreateError}
use Rattle.zarrs_group.specs.declared.create_error.GroupCreateError.TheVariants as error
use Rattle.zarrs_group.specs.UnsupportedFields.{UnsupportedField}
use Rattle.zarrs_meaning.specs.Meaning.{Meaning, nothing, bad}
use Rattle.zarrs_group.specs.Meaning.{MeansGroup, group_meaning}

-- the field is one of the fields and must be understood, and no field that must be understood has a lesser name
pub record IsLeastUnsupported (fields : Members) (field : UnsupportedField) : Type 0 where
  pub held : get_member field.name fields ≡ Some field.value
  pub must : must_understand field.value ≡ true
  pub least : (name : List ℕ) (d : Data) → get_member name fields ≡ Some d → must_understand d ≡ true
      → bytes_cmp name field.name ≢ Less

-- where nothing was found, no field must be understood; a field that was found has the least name of those that must
-- be understood
abbrev pub IsUnsupported : Members → Option UnsupportedField → Type 0
IsUnsupported fields None = (name : List ℕ) (d : Data) → get_member name fields ≡ Some d → must_understand d ≡ false
IsUnsupported fields (Some field) = IsLeastUnsupported fields field

-- of a version 3 group the least additional field was found that must be understood, or nothing where none must be;
-- of a version 2 group nothing was found
abbrev pub IsUnsupportedIn : GroupMetadata → Option UnsupportedField → Type 0
IsUnsupportedIn (V3 m) found = IsUnsupported m.additional_fields found
IsUnsupportedIn (V2 m) found = found ≡ None

-- the text is that of a path, and as a group the path has this meaning
pub record MeansAt (S : Contents) (v : MetadataRetrieveVersion) (text : List ℕ) (meaning : Meaning) : Type 0 where
  pub path : Path
  pub valid : IsPath path
  pub is : path_text path ≡ text
  pub means : group_meaning S v path ≡ meaning

-- the text is the path of a group, whose least field that must be understood is this one
pub record HasUnsupported (S : Contents) (v : MetadataRetrieveVersion) (text : List ℕ)
    (field : UnsupportedField) : Type 0 where
  pub path : Path
  pub valid : IsPath path
  pub is : path_text path ≡ text
  pub metadata : GroupMetadata
  pub means : MeansGroup S v path metadata
  pub unsupported : IsUnsupportedIn metadata (Some field)

-- opening is refused: the text is no path; as a group its path is bad, or means nothing, or means a group with a
-- field that must be understood; or the store can fail; or out of memory.
-- A text has one path and a path has one meaning, so no two of the first four hold at once
abbrev pub RefusesOpeningGroup : Bool → Contents → MetadataRetrieveVersion → List ℕ → GroupCreateError → Type 0
RefusesOpeningGroup can_fail S v text (error.NodePathError e) = RefusesPath text e
RefusesOpeningGroup can_fail S v text (error.AdditionalFieldUnsupportedError field) = HasUnsupported S v text field
RefusesOpeningGroup can_fail S v text (error.StorageError storage.Fault) = IsTrue can_fail
RefusesOpeningGroup can_fail S v text (error.StorageError (storage.InvalidMetadata key fault)) =
    MeansAt S v text (bad (node.StorageError (storage.InvalidMetadata key fault)))
RefusesOpeningGroup can_fail S v text (error.StorageError (storage.Other said)) = ⊥
RefusesOpeningGroup can_fail S v text (error.StorageError storage.OutOfMemory) = Unit {0}
RefusesOpeningGroup can_fail S v text error.MissingMetadata = MeansAt S v text nothing
RefusesOpeningGroup can_fail S v text error.OutOfMemory = Unit {0}

-- making a group is refused: the text is no path, or out of memory
abbrev pub RefusesMaking : List ℕ → GroupCreateError → Type 0
RefusesMaking text (error.NodePathError e) = RefusesPath text e
RefusesMaking text (error.AdditionalFieldUnsupportedError e) = ⊥
RefusesMaking text (error.StorageError e) = ⊥
RefusesMaking text error.MissingMetadata = ⊥
RefusesMaking text error.OutOfMemory = Unit {0}

-- ---- from the refusal of a node

-- the error is a storage error that holds some text, whatever it says, or it is `OutOfMemory`
abbrev pub IsTold : GroupCreateError → Type 0
IsTold (error.StorageError (storage.Other said)) = Unit {0}
IsTold error.OutOfMemory = Unit {0}
IsTold _ = ⊥

-- the refusal of a node was made that of a group: a storage error is kept, out of memory stays out of memory, and any
-- other error becomes some text, whatever it says, or out of memory
abbrev pub IsFromNode : NodeCreateError → GroupCreateError → Type 0
IsFromNode (node.StorageError e) made = made ≡ error.StorageError e
IsFromNode (node.NodePathError path.OutOfMemory) made = made ≡ error.OutOfMemory
IsFromNode (node.NodePathError (path.Invalid text)) made = IsTold made
IsFromNode (node.StorePrefixError prefix.OutOfMemory) made = made ≡ error.OutOfMemory
IsFromNode (node.StorePrefixError (prefix.Invalid text)) made = IsTold made
IsFromNode node.MetadataVersionMismatch made = IsTold made
IsFromNode (node.MissingMetadata text) made = IsTold made
IsFromNode node.OutOfMemory made = made ≡ error.OutOfMemory
