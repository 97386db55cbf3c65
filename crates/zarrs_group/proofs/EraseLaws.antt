-- Erasing with All.
use Rattle.std.proofs.Common.{◌≡◌, ◌≢◌, ℕ, List, [], ◌∷◌, ◌++◌, None, refl, ◌∙◌}
use Rattle.std.specs.FinMap as map
use Rattle.zarrs_store.specs.Segments.{Segments}
use Rattle.zarrs_store.specs.Contents.{Contents, Values}
use Rattle.zarrs_store.proofs.ContentsLemmas.{get_removed, AgreesExceptAt-remove}
use Rattle.zarrs_path.specs.Keys.{zarr_json, zgroup, zattrs, zmetadata}
use Rattle.zarrs_path.specs.Paths.{Path}
use Rattle.zarrs_path.proofs.LawProofs.{same_fronts}
use Rattle.zarrs_form.proofs.MemberLaws.{differ}
use Rattle.zarrs_meta.specs.declared.node.GroupMetadata.{GroupMetadata}
use Rattle.zarrs_config.specs.declared.version.MetadataEraseVersion.TheVariants as erase
use Rattle.zarrs_group.specs.Edits.{after}
use Rattle.zarrs_group.specs.StoringGroups.{erase_edits}
use Rattle.zarrs_group.specs.Laws.{IsErased}

-- keys of two documents of one path
pub keys_differ : (p : Path) (f g : List ℕ) → f ≢ g → p ++ f ∷ [] ≢ p ++ g ∷ []
keys_differ p f g apart e = apart (same_fronts p p f g e).1

-- four different keys erased in turn
module _ (S : Values) (a b c d : Segments) (a_b : a ≢ b) (a_c : a ≢ c) (a_d : a ≢ d) (b_c : b ≢ c) (b_d : b ≢ d) (c_d : c ≢ d) where
  -- the store without the first two keys
  abbrev two : Values
  two = map.remove (map.remove S a) b

  -- the store without the first three keys
  abbrev three : Values
  three = map.remove two c

  -- the store without the four keys
  abbrev erased : Values
  erased = map.remove three d

  -- the first key is gone
  pub first_gone : map.get erased a ≡ None
  first_gone = AgreesExceptAt-remove three d a a_d ∙ AgreesExceptAt-remove two c a a_c ∙ AgreesExceptAt-remove (map.remove S a) b a a_b ∙ get_removed S a

  -- the second key is gone
  pub second_gone : map.get erased b ≡ None
  second_gone = AgreesExceptAt-remove three d b b_d ∙ AgreesExceptAt-remove two c b b_c ∙ get_removed (map.remove S a) b

  -- the third key is gone
  pub third_gone : map.get erased c ≡ None
  third_gone = AgreesExceptAt-remove three d c c_d ∙ get_removed two c

  -- the fourth key is gone
  pub fourth_gone : map.get erased d ≡ None
  fourth_gone = get_removed three d

  -- every other key has what it had
  pub others_stay : (key : Segments) → key ≢ a → key ≢ b → key ≢ c → key ≢ d → map.get erased key ≡ map.get S key
  others_stay key x y z w =
      AgreesExceptAt-remove three d key w ∙ AgreesExceptAt-remove two c key z ∙ AgreesExceptAt-remove (map.remove S a) b key y ∙ AgreesExceptAt-remove S a key x

-- `zarr.json` and `.zgroup` differ
pub json_group : zarr_json ≢ zgroup
json_group = differ zarr_json zgroup refl

-- `zarr.json` and `.zattrs` differ
pub json_attrs : zarr_json ≢ zattrs
json_attrs = differ zarr_json zattrs refl

-- `zarr.json` and `.zmetadata` differ
pub json_metadata : zarr_json ≢ zmetadata
json_metadata = differ zarr_json zmetadata refl

-- `.zgroup` and `.zattrs` differ
pub group_attrs : zgroup ≢ zattrs
group_attrs = differ zgroup zattrs refl

-- `.zgroup` and `.zmetadata` differ
pub group_metadata : zgroup ≢ zmetadata
group_metadata = differ zgroup zmetadata refl

-- `.zattrs` and `.zmetadata` differ
pub attrs_metadata : zattrs ≢ zmetadata
attrs_metadata = differ zattrs zmetadata refl

-- erasing with All leaves none of the four keys, and every other key as it was
pub erasing_all : (S : Contents) (p : Path) (m : GroupMetadata) → IsErased p S.values (after S (erase_edits p erase.All m)).values
erasing_all S p m =
    let a : Segments = p ++ zarr_json ∷ [] in
    let b : Segments = p ++ zgroup ∷ [] in
    let c : Segments = p ++ zattrs ∷ [] in
    let d : Segments = p ++ zmetadata ∷ [] in
    let a_b : a ≢ b = keys_differ p zarr_json zgroup json_group in
    let a_c : a ≢ c = keys_differ p zarr_json zattrs json_attrs in
    let a_d : a ≢ d = keys_differ p zarr_json zmetadata json_metadata in
    let b_c : b ≢ c = keys_differ p zgroup zattrs group_attrs in
    let b_d : b ≢ d = keys_differ p zgroup zmetadata group_metadata in
    let c_d : c ≢ d = keys_differ p zattrs zmetadata attrs_metadata in
    record {
      no_zarr_json = first_gone S.values a b c d a_b a_c a_d b_c b_d c_d;
      no_zgroup = second_gone S.values a b c d a_b a_c a_d b_c b_d c_d;
      no_zattrs = third_gone S.values a b c d a_b a_c a_d b_c b_d c_d;
      no_zmetadata = fourth_gone S.values a b c d a_b a_c a_d b_c b_d c_d;
      others = others_stay S.values a b c d a_b a_c a_d b_c b_d c_d;
    }
