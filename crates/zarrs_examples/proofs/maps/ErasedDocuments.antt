-- Documents of version 2 that are erased beside those of version 3.
use Rattle.std.proofs.Common.{◌≡◌, ⊎_elim, ℕ, Bool, true, false, cond, List, [], ◌∷◌, ◌++◌, Option, Some, None, Ok, is_some, true≢false, refl, sym, ap, subst, ◌∙◌, arith, Contains}
use Rattle.std.specs.FinMap as map
use Rattle.std.specs.FinMap.{get}
use Rattle.std.specs.Ordering.{eq_by_cmp}
use Rattle.std.proofs.lemmas.List.{same_from_push}
use Rattle.std.proofs.lemmas.List.Elements.{Contains-append_cases, Contains-append_left, Contains-append_right}
use Rattle.zarrs_store.specs.Segments.{Segments, key_cmp}
use Rattle.zarrs_store.specs.Contents.{Contents, without_key, HasBelow, HasKey}
use Rattle.zarrs_store.proofs.ChildLemmas.{key_cmp_total}
use Rattle.zarrs_store.proofs.ContentsLemmas.{get_removed, AgreesExceptAt-remove}
use Rattle.zarrs_path.specs.Keys.{zarr_json, zarray, zgroup, zattrs, zmetadata}
use Rattle.zarrs_path.specs.Paths.{Path}
use Rattle.zarrs_meta.specs.declared.node.NodeMetadata.{NodeMetadata}
use Rattle.zarrs_config.specs.declared.version.MetadataRetrieveVersion.TheVariants.{Default, V3}
use Rattle.zarrs_meaning.specs.Meaning.{meaning, node, nothing}
use Rattle.zarrs_examples.specs.MapsOfNodes.{version_2_files, version_2_keys, without_keys, keys_beside, KeysStandBeside, OthersAreKept, ErasedAreAbsent, BesideMeansSame, ErasedShowSame}
use Rattle.zarrs_node.proofs.blocks.Current.{meaning_same}
use Rattle.zarrs_meaning.proofs.Meanings.{document_none, zarr_json_line_is, v3_is}
use Rattle.zarrs_meaning.proofs.Versions.{by_zarr_json}
use Rattle.zarrs_node.proofs.FlatForests.{contains_map, contains_mapped}
use Rattle.zarrs_examples.proofs.maps.DocumentsSet.{get_with}
use Rattle.zarrs_node.proofs.ForestsBeside.{Contains-first, Contains-cons}
use Rattle.zarrs_examples.proofs.maps.MapsShown.{some_keeps, unchanged, mapped_is_shown}
use Rattle.zarrs_node.proofs.Order.{contains_cases}

-- a key that is absent stays so where others are erased
absent_stays : (S : Contents) (ks : List Segments) (key : Segments) → get S.values key ≡ None → get (without_keys S ks).values key ≡ None
absent_stays S [] key none = none
absent_stays S (k ∷ ks) key none =
    absent_stays (without_key S k) ks key (map.get-remove key_cmp_total S.values k key ∙ ap (cond (eq_by_cmp key_cmp key k) None) none ∙ both (eq_by_cmp key_cmp key k))
  where
    both : (t : Bool) → cond t None None ≡ (let o : Option (List ℕ) = None in o)
    both true = refl
    both false = refl

-- a key that was erased is absent
erased_is_absent : (S : Contents) (ks : List Segments) (key : Segments) → Contains ks key → get (without_keys S ks).values key ≡ None
erased_is_absent S [] key in' = absurd (omega (arith, in'.1))
erased_is_absent S (k ∷ ks) key in' = ⊎_elim
    (λ same. absent_stays (without_key S k) ks key (ap (get (map.remove S.values k)) (sym same) ∙ get_removed S.values k))
    (λ rest. erased_is_absent (without_key S k) ks key rest)
    (contains_cases k ks key in')

-- a path that means a node by version 3 has a `zarr.json`
version_3_has_key : (S : Contents) (p : Path) (m : NodeMetadata) → meaning S V3 p ≡ node m → HasKey S.values (p ++ zarr_json ∷ [])
version_3_has_key S p m is = by (get S.values (p ++ zarr_json ∷ [])) refl
  where
    by : (o : Option (List ℕ)) → get S.values (p ++ zarr_json ∷ []) ≡ o → HasKey S.values (p ++ zarr_json ∷ [])
    by (Some bytes) e = ap is_some e
    by None e =
        let none : nothing ≡ node m = sym (v3_is S p ∙ zarr_json_line_is S p _ refl (Ok None) (document_none _ S _ (sym e)) nothing) ∙ is in
        cc

-- none of the files of version 2 is `zarr.json`
other_file : (file : List ℕ) → Contains version_2_files file → file ≡ zarr_json → ⊥
other_file file in' e = ⊎_elim
    (λ same. let no : zarray ≡ zarr_json = same ∙ e in cc)
    (λ rest. ⊎_elim
    (λ same. let no : zgroup ≡ zarr_json = same ∙ e in cc)
    (λ more. ⊎_elim
    (λ same. let no : zattrs ≡ zarr_json = same ∙ e in cc)
    (λ last. ⊎_elim
    (λ same. let no : zmetadata ≡ zarr_json = same ∙ e in cc)
    (λ none. omega (arith, none.1))
    (contains_cases zmetadata [] file last))
    (contains_cases zattrs (zmetadata ∷ []) file more))
    (contains_cases zgroup (zattrs ∷ zmetadata ∷ []) file rest))
    (contains_cases zarray (zgroup ∷ zattrs ∷ zmetadata ∷ []) file in')

-- each path means by default what it meant
pub beside_means_same : BesideMeansSame
beside_means_same S T alike others p = by (get S.values (p ++ zarr_json ∷ [])) refl
  where
    own : get T.values (p ++ zarr_json ∷ []) ≡ get S.values (p ++ zarr_json ∷ [])
    own = others (p ++ zarr_json ∷ []) (λ w. other_file w.1 w.2 (sym (same_from_push p w.0 zarr_json w.1 w.3).1))

    by : (o : Option (List ℕ)) → get S.values (p ++ zarr_json ∷ []) ≡ o → meaning T Default p ≡ meaning S Default p
    by (Some bytes) e = by_zarr_json S T p bytes alike own e
    by None e = meaning_same S T p alike (λ file in'. others (p ++ file ∷ []) (λ w.
        let there : HasKey S.values (p ++ zarr_json ∷ []) = subst (λ q. HasKey S.values (q ++ zarr_json ∷ [])) (sym (same_from_push p w.0 file w.1 w.3).0) w.4 in
        true≢false (sym there ∙ ap is_some e))) Default

-- ---- the documents of version 2 at some paths

-- the keys at the path of a pair are among those at the paths of all
own_key : (es : List (Path × NodeMetadata)) (e : Path × NodeMetadata) (key : Segments) → Contains es e → Contains (version_2_keys e.0) key → Contains (keys_beside es) key
own_key [] e key in' own = absurd (omega (arith, in'.1))
own_key (d ∷ es) e key in' own = ⊎_elim
    (λ same. Contains-append_left (version_2_keys d.0) (keys_beside es) key (subst (λ x. Contains (version_2_keys x.0) key) (sym same) own))
    (λ rest. Contains-append_right (version_2_keys d.0) (keys_beside es) key (own_key es e key rest own))
    (contains_cases d es e in')

-- they stand beside a `zarr.json`
pub keys_stand_beside : KeysStandBeside
keys_stand_beside S [] means key in' = absurd (omega (arith, in'.1))
keys_stand_beside S (e ∷ es) means key in' = ⊎_elim
    (λ own.
    let w = contains_mapped (λ file. e.0 ++ file ∷ []) version_2_files key own in
    (e.0, w.0, w.1, sym w.2, version_3_has_key S e.0 e.1 (means e (Contains-first e es))))
    (λ rest. keys_stand_beside S es (λ d there. means d (Contains-cons e es d there)) key rest)
    (Contains-append_cases (version_2_keys e.0) (keys_beside es) key in')

-- once they are erased, none of them is there
pub erased_are_absent : ErasedAreAbsent
erased_are_absent S es e file in' known = erased_is_absent S (keys_beside es) (e.0 ++ file ∷ []) (own_key es e (e.0 ++ file ∷ []) in' (contains_map (λ x. e.0 ++ x ∷ []) version_2_files file known))

-- ---- a listing once they are erased

-- at a key that is not erased stands what was there
others_stay : (S : Contents) (ks : List Segments) (key : Segments) → (Contains ks key → ⊥) → get (without_keys S ks).values key ≡ get S.values key
others_stay S [] key far = refl
others_stay S (k ∷ ks) key far =
    others_stay (without_key S k) ks key (λ in'. far (Contains-cons k ks key in'))
    ∙ AgreesExceptAt-remove S.values k key (λ same. far (subst (λ x. Contains (k ∷ ks) x) (sym same) (Contains-first k ks)))

-- so it is of what is set, and of what is erased
pub others_are_kept : OthersAreKept
others_are_kept S key = (
  λ ds far. ⊎_elim (λ w. absurd (far w.0 w.1 w.2)) (λ w. w.1) (get_with S ds key),
  λ ks far. others_stay S ks key far,
)

-- the documents may hold what they might
pub numbers_stay : (S : Contents) (ks : List Segments) → (without_keys S ks).numbers ≡ S.numbers
numbers_stay S [] = refl
numbers_stay S (k ∷ ks) = numbers_stay (without_key S k) ks

-- what is there was there
was_there : (S : Contents) (ks : List Segments) (key : Segments) → HasKey (without_keys S ks).values key → HasKey S.values key
was_there S ks key there = by (get S.values key) refl
  where
    by : (o : Option (List ℕ)) → get S.values key ≡ o → HasKey S.values key
    by (Some bytes) e = ap is_some e
    by None e = absurd (true≢false (sym there ∙ ap is_some (absent_stays S ks key e)))

-- a listing by default shows what it showed
pub erased_show_same : ErasedShowSame
erased_show_same S ks beside b good =
    let same = beside_means_same S (without_keys S ks) (numbers_stay S ks) (λ key far. others_stay S ks key (λ in'. far (beside key in'))) in
    mapped_is_shown Some some_keeps S (without_keys S ks) Default Default b good
    (λ p _. unchanged (meaning S Default p) (meaning (without_keys S ks) Default p) (same p))
    (λ p d. let there = subst (HasBelow (without_keys S ks).values) (sym d.5) d.4 in (there.0, there.1, was_there S ks (p ++ there.0 ∷ there.1) there.2))
