-- What storing and erasing say before the first edit.
use Rattle.std.proofs.Common.{◌≡◌, Result, Ok, Err, OnOk, List, [], ◌∷◌, ◌++◌, Option, Some, None, refl, sym, ap, ◌∙◌}
use Rattle.zarrs_store.specs.Segments.{Segments}
use Rattle.zarrs_store.specs.Contents.{Contents}
use Rattle.zarrs_fault.specs.declared.numbers.Numbers.{Numbers}
use Rattle.zarrs_fault.specs.declared.fault.MetadataFault.{MetadataFault}
use Rattle.zarrs_path.specs.Keys.{zmetadata}
use Rattle.zarrs_path.specs.Paths.{Path}
use Rattle.zarrs_meta.specs.declared.node.GroupMetadata.{GroupMetadata}
use Rattle.zarrs_meta.specs.declared.node.GroupMetadata.TheVariants.{V3, V2}
use Rattle.zarrs_config.specs.declared.version.MetadataEraseVersion.{MetadataEraseVersion}
use Rattle.zarrs_config.specs.declared.version.MetadataEraseVersion.TheVariants as version
use Rattle.zarrs_block.specs.Block.{Block}
use Rattle.zarrs_group.specs.Edits.{Edit, IsCutShort}
use Rattle.zarrs_group.specs.Plain.{group_fault_in, beside_fault_in}
use Rattle.zarrs_group.specs.StoringGroups.{metadata_key, store_edits, erase_edits, fault_at, first_fault, stored_fault_in}

-- where nothing was done, the first edit is the next
none_done : (S : Contents) (e : Edit) (es : List Edit) → IsCutShort S (e ∷ es) S
none_done S e es = record { done = []; next = e; rest = es; is = refl; others = (refl, λ q n. refl) }

-- where nothing was done of storing, it was cut short at its first edit
pub none_stored : (S : Contents) (p : Path) (m : GroupMetadata) (block : Option Block) → IsCutShort S (store_edits p m block) S
none_stored S p (V3 m) block = none_done S _ _
none_stored S p (V2 m) None = none_done S _ _
none_stored S p (V2 m) (Some B) = none_done S _ _

-- where nothing was done of erasing, it was cut short at its first edit
pub none_erased : (S : Contents) (p : Path) (v : MetadataEraseVersion) (m : GroupMetadata) → IsCutShort S (erase_edits p v m) S
none_erased S p version.Default (V3 m) = none_done S _ _
none_erased S p version.Default (V2 m) = none_done S _ _
none_erased S p version.All m = none_done S _ _
none_erased S p version.V3 m = none_done S _ _
none_erased S p version.V2 m = none_done S _ _

-- what follows from success
pub on_ok : {X E A B : Type 0} (r : Result X E) → OnOk r A → (A → B) → OnOk r B
on_ok (Ok x) a f = f a
on_ok (Err e) a f = tt

-- ---- the faults

-- else it is that of the block
pub beside_is : (numbers : Numbers) (p : Path) (m : GroupMetadata) (block : Option Block) (fault : Option MetadataFault) → group_fault_in numbers m ≡ None → beside_fault_in numbers m block ≡ fault
    → stored_fault_in numbers p m block ≡ fault_at (p ++ zmetadata ∷ []) fault
beside_is numbers p m block fault own is =
    ap (λ f. first_fault (fault_at (metadata_key p m) f) (fault_at (p ++ zmetadata ∷ []) (beside_fault_in numbers m block))) own ∙ ap (fault_at (p ++ zmetadata ∷ [])) is

-- where there is no fault the metadata have none
pub own_plain : (numbers : Numbers) (p : Path) (m : GroupMetadata) (block : Option Block) → stored_fault_in numbers p m block ≡ None → group_fault_in numbers m ≡ None
own_plain numbers p m block none = at (group_fault_in numbers m) none
  where
    at : (o : Option MetadataFault) → first_fault (fault_at (metadata_key p m) o) (fault_at (p ++ zmetadata ∷ []) (beside_fault_in numbers m block)) ≡ None → o ≡ None
    at None e = refl
    at (Some f) e = cc

-- where no fault is told there is none
none_told : (key : Segments) (fault : Option MetadataFault) → fault_at key fault ≡ None → fault ≡ None
none_told key None e = refl
none_told key (Some f) e = cc

-- so does what stands beside them
pub beside_plain : (numbers : Numbers) (p : Path) (m : GroupMetadata) (block : Option Block) → stored_fault_in numbers p m block ≡ None → beside_fault_in numbers m block ≡ None
beside_plain numbers p m block none =
    none_told (p ++ zmetadata ∷ []) (beside_fault_in numbers m block) (sym (beside_is numbers p m block (beside_fault_in numbers m block) (own_plain numbers p m block none) refl) ∙ none)
