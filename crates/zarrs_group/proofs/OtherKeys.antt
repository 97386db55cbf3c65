-- Storing and erasing change no key but the four of the group, and not the numbers.
use Rattle.std.proofs.Common.{◌≡◌, ◌≢◌, List, [], ◌∷◌, ◌++◌, Option, Some, None, refl, sym, ◌∙◌, subst, map}
use Rattle.std.specs.FinMap as map
use Rattle.serde_json.specs.Data.{Data}
use Rattle.zarrs_store.specs.Segments.{Segments}
use Rattle.zarrs_store.specs.Contents.{Contents}
use Rattle.zarrs_store.proofs.ContentsLemmas.{AgreesExceptAt-insert, AgreesExceptAt-remove}
use Rattle.zarrs_path.specs.Keys.{zarr_json, zarray, zgroup, zattrs, zmetadata}
use Rattle.zarrs_path.specs.Paths.{Path}
use Rattle.zarrs_form.proofs.MemberLaws.{differ}
use Rattle.zarrs_meta.specs.declared.node.GroupMetadata.{GroupMetadata}
use Rattle.zarrs_meta.specs.declared.node.GroupMetadata.TheVariants.{V3, V2}
use Rattle.zarrs_config.specs.declared.version.MetadataEraseVersion.{MetadataEraseVersion}
use Rattle.zarrs_config.specs.declared.version.MetadataEraseVersion.TheVariants as erase
use Rattle.zarrs_block.specs.Block.{Block}
use Rattle.zarrs_group.specs.Edits.{AgreesOutsideKey, Edit, set, remove, after_edit, after, edit_key, IsCutShort}
use Rattle.zarrs_group.specs.StoringGroups.{AreEditsOf, KeyChange, store_changes, store_edits, erase_edits, whole_edit}
use Rattle.zarrs_group.specs.Laws.{OthersStayAfter, OtherKeysStay, ArraysStay}
use Rattle.zarrs_group.proofs.EraseLaws.{keys_differ}
use Rattle.zarrs_group.proofs.KeyChanges.{key_of}

-- an edit changes no key but its own, and not the numbers
pub edited_elsewhere : (S : Contents) (e : Edit) → AgreesOutsideKey (edit_key e) S (after_edit S e)
edited_elsewhere S (set key bytes) = (refl, AgreesExceptAt-insert S.values key bytes)
edited_elsewhere S (remove key) = (refl, AgreesExceptAt-remove S.values key)

-- edits do not change the numbers
numbers_after : (S : Contents) (es : List Edit) → (after S es).numbers ≡ S.numbers
numbers_after S [] = refl
numbers_after S (e ∷ es) = numbers_after (after_edit S e) es ∙ (edited_elsewhere S e).0

-- the edit is at another key
abbrev Elsewhere : Segments → Edit → Type 0
Elsewhere key e = key ≢ edit_key e

-- each of the edits is at another key
abbrev EachElsewhere : Segments → List Edit → Type 0
EachElsewhere key [] = Unit {0}
EachElsewhere key (e ∷ es) = Elsewhere key e × EachElsewhere key es

-- edits at other keys leave a key as it was
after_elsewhere : (key : Segments) (S : Contents) (es : List Edit) → EachElsewhere key es → map.get (after S es).values key ≡ map.get S.values key
after_elsewhere key S [] all = refl
after_elsewhere key S (e ∷ es) all = after_elsewhere key (after_edit S e) es all.1 ∙ (edited_elsewhere S e).1 key all.0

-- of edits at other keys, those that were done are at other keys, and so is the next
front_elsewhere : (key : Segments) (done rest : List Edit) (e : Edit) → EachElsewhere key (done ++ e ∷ rest) → EachElsewhere key done × Elsewhere key e
front_elsewhere key [] rest e all = (tt, all.0)
front_elsewhere key (d ∷ done) rest e all = let more = front_elsewhere key done rest e all.1 in ((all.0, more.0), more.1)

-- edits at other keys leave a key as it was also where they are cut short
cut_elsewhere : (key : Segments) (S S' : Contents) (es : List Edit) → EachElsewhere key es → IsCutShort S es S' → map.get S'.values key ≡ map.get S.values key
cut_elsewhere key S S' es all cut =
    let parts = front_elsewhere key cut.done cut.rest cut.next (subst (λ ds. EachElsewhere key ds) cut.is all) in
    cut.others.1 key parts.1 ∙ after_elsewhere key S cut.done parts.0

-- the key is none of the four of the group
abbrev IsOther : Path → Segments → Type 0
IsOther p key = (key ≢ p ++ zarr_json ∷ []) × (key ≢ p ++ zgroup ∷ []) × (key ≢ p ++ zattrs ∷ []) × (key ≢ p ++ zmetadata ∷ [])

-- edits that are at other keys than every other key leave those as they were
others_after : (p : Path) (es : List Edit) → ((key : Segments) → IsOther p key → EachElsewhere key es) → OthersStayAfter p es
others_after p es all S = (
  (numbers_after S es, λ key a b c d. after_elsewhere key S es (all key (a, b, c, d))),
  λ S' cut. (cut.others.0 ∙ numbers_after S cut.done, λ key a b c d. cut_elsewhere key S S' es (all key (a, b, c, d)) cut),
)

-- each of the changes is at another key
abbrev EachChangeElsewhere : Segments → List KeyChange → Type 0
EachChangeElsewhere key [] = Unit {0}
EachChangeElsewhere key (c ∷ cs) = (key ≢ c.0) × EachChangeElsewhere key cs

-- the edits of changes at other keys are at other keys
edits_elsewhere : (key : Segments) (cs : List KeyChange) (es : List Edit) → EachChangeElsewhere key cs → AreEditsOf cs es → EachElsewhere key es
edits_elsewhere key [] [] all are = tt
edits_elsewhere key [] (e ∷ es) all are = absurd are
edits_elsewhere key (c ∷ cs) [] all are = absurd are
edits_elsewhere key (c ∷ cs) (e ∷ es) (first, others) (at, rest) = (subst (λ k. key ≢ k) (sym (key_of c.0 c.1 e at)) first, edits_elsewhere key cs es others rest)

-- the edit of a change in whole numbers is at its key
whole_key : (key : Segments) (t : Option Data) → edit_key (whole_edit key t) ≡ key
whole_key key (Some d) = refl
whole_key key None = refl

-- so are those in whole numbers
whole_elsewhere : (key : Segments) (cs : List KeyChange) → EachChangeElsewhere key cs → EachElsewhere key (map (λ c. whole_edit c.0 c.1) cs)
whole_elsewhere key [] all = tt
whole_elsewhere key (c ∷ cs) (first, others) = (subst (λ k. key ≢ k) (sym (whole_key c.0 c.1)) first, whole_elsewhere key cs others)

-- the changes that store are at the four keys
storing : (p : Path) (m : GroupMetadata) (block : Option Block) (key : Segments) → IsOther p key → EachChangeElsewhere key (store_changes p m block)
storing p (V3 m) block key other = (other.0, tt)
storing p (V2 m) None key other = (other.3, (other.2, (other.1, tt)))
storing p (V2 m) (Some B) key other = (other.2, (other.1, (other.3, tt)))

-- the edits that erase are at the four keys
erasing : (p : Path) (v : MetadataEraseVersion) (m : GroupMetadata) (key : Segments) → IsOther p key → EachElsewhere key (erase_edits p v m)
erasing p erase.Default (V3 m) key other = (other.0, tt)
erasing p erase.Default (V2 m) key other = (other.1, (other.2, (other.3, tt)))
erasing p erase.All m key other = (other.0, (other.1, (other.2, (other.3, tt))))
erasing p erase.V3 m key other = (other.0, tt)
erasing p erase.V2 m key other = (other.1, (other.2, (other.3, tt)))

-- storing and erasing change no key but the four
pub other_keys_stay : OtherKeysStay
other_keys_stay p m = (
  λ block. others_after p (store_edits p m block) (λ key other. whole_elsewhere key (store_changes p m block) (storing p m block key other)),
  λ block es are. others_after p es (λ key other. edits_elsewhere key (store_changes p m block) es (storing p m block key other) are),
  λ v. others_after p (erase_edits p v m) (erasing p v m),
)

-- `.zarray` is at none of the four keys
pub arrays_stay : ArraysStay
arrays_stay p S S' others =
    others (p ++ zarray ∷ []) (keys_differ p zarray zarr_json (differ zarray zarr_json refl)) (keys_differ p zarray zgroup (differ zarray zgroup refl))
    (keys_differ p zarray zattrs (differ zarray zattrs refl)) (keys_differ p zarray zmetadata (differ zarray zmetadata refl))
