-- Steps of opening and storing groups: what their private calls answer; no public contract rests on them.
use Rattle.std.specs.Prelude.{◌≡◌, Bool, IsTrue, Option, Some, None}
use Rattle.zarrs_store.specs.declared.storage_error.StorageError.{StorageError}
use Rattle.zarrs_store.specs.declared.storage_error.StorageError.TheVariants.{Fault, InvalidMetadata, Other}
use Rattle.zarrs_store.specs.declared.storage_error.StorageError.TheVariants.{OutOfMemory}
use Rattle.zarrs_meta.specs.declared.node.GroupMetadata.{GroupMetadata}
use Rattle.zarrs_meta.specs.declared.node.NodeMetadata.TheVariants.{Group}
use Rattle.zarrs_meaning.specs.declared.node_create_error.NodeCreateError.TheVariants as refused
use Rattle.zarrs_meaning.specs.Meaning.{Meaning, node, nothing, bad}
use Rattle.zarrs_group.specs.declared.edit.Edit.{Edit as RustEdit}
use Rattle.zarrs_group.specs.declared.edit.Edit.TheVariants.{Set, Erase}
use Rattle.zarrs_group.specs.Edits.{Edit, set, remove}
use Rattle.serde_json.specs.Data.{Members}
use Rattle.std.specs.Borrow.{Lends, MutBor, Fml}
use Rattle.zarrs_meta.specs.contracts.node.GroupMetadata.{the_row as metadata_row}
use Rattle.zarrs_form.specs.contracts.shapes.Object.{the_row as object_row}
use Rattle.zarrs_group.specs.Groups.{with_attributes}

-- the answer is what this line says, whatever the lines after it
abbrev pub FindsByLine : Option GroupMetadata → (Meaning → Meaning) → Type 0
FindsByLine (Some m) line = (after : Meaning) → line after ≡ node (Group m)
FindsByLine None line = (after : Meaning) → line after ≡ after

-- the error is excused, or this line says that the path is bad
abbrev pub RefusesLine : Bool → (Meaning → Meaning) → StorageError → Type 0
RefusesLine can_fail line Fault = IsTrue can_fail
RefusesLine can_fail line (InvalidMetadata key fault) =
    (after : Meaning) → line after ≡ bad (refused.StorageError (InvalidMetadata key fault))
RefusesLine can_fail line (Other text) = ⊥
RefusesLine can_fail line OutOfMemory = Unit {0}

-- the answer is the meaning
abbrev pub FindsMeaning : Option GroupMetadata → Meaning → Type 0
FindsMeaning (Some m) meaning = meaning ≡ node (Group m)
FindsMeaning None meaning = meaning ≡ nothing

-- the error is excused, or the path is bad with it
abbrev pub RefusesMeaning : Bool → Meaning → StorageError → Type 0
RefusesMeaning can_fail meaning Fault = IsTrue can_fail
RefusesMeaning can_fail meaning (InvalidMetadata key fault) =
    meaning ≡ bad (refused.StorageError (InvalidMetadata key fault))
RefusesMeaning can_fail meaning (Other text) = ⊥
RefusesMeaning can_fail meaning OutOfMemory = Unit {0}

-- what an edit of the code does
abbrev pub edit_of : RustEdit → Edit
edit_of (Set key bytes) = set key bytes.items
edit_of (Erase key) = remove key

-- the metadata end with the attributes that were last written
abbrev pub LendsAttributesOf : MutBor GroupMetadata → MutBor Members → Fml
LendsAttributesOf m r = Lends metadata_row object_row m r (with_attributes m.now)
