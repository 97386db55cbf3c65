-- The field of the block among the additional fields: set, removed, and read again.
use Rattle.std.proofs.Common.{◌≡◌, ℕ, List, [], ◌∷◌, Bool, true, false, if◌then◌else◌, Option, Some, None, option_and_then, Ok, codes, refl, ap, ◌∙◌}
use Rattle.std.specs.Result.{result_ok}
use Rattle.serde_json.specs.Data.{Data, Members, no_members, member, put}
use Rattle.serde_json.proofs.Views.{get_member-put}
use Rattle.zarrs_fault.specs.declared.numbers.Numbers.{Numbers}
use Rattle.zarrs_form.specs.Documents.{is_own, besides, has_own}
use Rattle.zarrs_form.specs.Fields.{field_data}
use Rattle.zarrs_form.proofs.MemberLaws.{get-others}
use Rattle.zarrs_meta.specs.declared.group_v3.GroupMetadataV3.{GroupMetadataV3}
use Rattle.zarrs_meta.specs.declared.node.GroupMetadata.{GroupMetadata}
use Rattle.zarrs_meta.specs.declared.node.GroupMetadata.TheVariants.{V3, V2}
use Rattle.zarrs_block.specs.Block.{Block, block_of_in, block_tree, documents, inline_block}
use Rattle.zarrs_block.specs.Policy.{fields_block}
use Rattle.zarrs_block.proofs.BlockReads.{block_again_in}
use Rattle.zarrs_group.specs.Groups.{GroupState}
use Rattle.zarrs_group.specs.BlocksOfGroups.{fields_with, metadata_with, beside_with, with_block, held_in, held_by_in, CanHoldIn, MetadataHold}

-- ---- the block that is held once it was set

-- no member has a name that was left out
none_own_at : (names : List (List ℕ)) (l : List ℕ) (e : Data) (ms : Members) (b : Bool) → is_own names l ≡ b → has_own names ms ≡ false → has_own names (if b then ms else member l e ms) ≡ false
none_own_at names l e ms true is rest = rest
none_own_at names l e ms false is rest = rw is rest

-- of the members besides some names none has one of them
none_own : (names : List (List ℕ)) (ms : Members) → has_own names (besides names ms) ≡ false
none_own names no_members = refl
none_own names (member l e ms) = none_own_at names l e (besides names ms) (is_own names l) refl (none_own names ms)

-- a name is one of itself
its_own : is_own (codes "consolidated_metadata" ∷ []) (codes "consolidated_metadata") ≡ true
its_own = refl

-- fields hold the block that these documents read as, where it was set
pub field_reads : (numbers : Numbers) (D : Members) (B : Block) (ms : Members) → block_of_in numbers (inline_block D) ≡ Ok B
    → fields_block numbers (put (codes "consolidated_metadata") (field_data (inline_block D) false) ms) ≡ Some B
field_reads numbers D B ms again = ap (option_and_then (λ d. result_ok (block_of_in numbers d))) (get_member-put (codes "consolidated_metadata") _ ms) ∙ ap result_ok again

-- fields hold the block that was set, in numbers in which it reads back
pub set_reads : (numbers : Numbers) (B : Block) (ms : Members) → block_of_in numbers (block_tree B) ≡ Ok B → fields_block numbers (fields_with (Some B) ms) ≡ Some B
set_reads numbers B ms again = field_reads numbers (documents B) B ms again

-- metadata hold the block that was set, in numbers in which it reads back
metadata_read : (numbers : Numbers) (m : GroupMetadata) (B : Block) (old : Option Block) → block_of_in numbers (block_tree B) ≡ Ok B → held_in numbers (metadata_with (Some B) m) (beside_with (Some B) m old) ≡ Some B
metadata_read numbers (V3 m) B old again = set_reads numbers B m.additional_fields again
metadata_read numbers (V2 m) B old again = refl

-- so does a group
pub held_as_read : (numbers : Numbers) (g : GroupState) (B : Block) → block_of_in numbers (block_tree B) ≡ Ok B → held_by_in numbers (with_block g (Some B)) ≡ Some B
held_as_read numbers g B again = metadata_read numbers g.metadata B g.block again

-- the fields hold the block that was set, in numbers in which it could have come from a document, or none where it was removed
fields_hold : (numbers : Numbers) (block : Option Block) (ms : Members) (m : GroupMetadataV3) → MetadataHold numbers (V3 m) block → fields_block numbers (fields_with block ms) ≡ block
fields_hold numbers None ms m can =
    ap (option_and_then (λ d. result_ok (block_of_in numbers d)))
    (get-others (codes "consolidated_metadata" ∷ []) (codes "consolidated_metadata") (besides (codes "consolidated_metadata" ∷ []) ms) its_own
    (none_own (codes "consolidated_metadata" ∷ []) ms))
fields_hold numbers (Some B) ms m plain = set_reads numbers B ms (block_again_in numbers B plain)

-- metadata that can hold a block hold it once it was set, or it stands beside them
metadata_hold : (numbers : Numbers) (m : GroupMetadata) (block old : Option Block) → MetadataHold numbers m block → held_in numbers (metadata_with block m) (beside_with block m old) ≡ block
metadata_hold numbers (V3 m) block old can = fields_hold numbers block m.additional_fields m can
metadata_hold numbers (V2 m) block old can = refl

-- a group that can hold a block in some numbers holds it in them once it was set
pub held_once_set : (numbers : Numbers) (g : GroupState) (block : Option Block) → CanHoldIn numbers g block → held_by_in numbers (with_block g block) ≡ block
held_once_set numbers g block can = metadata_hold numbers g.metadata block g.block can
