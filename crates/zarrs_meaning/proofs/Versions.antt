-- What the version of a node's metadata says of the documents that it comes from.
use Rattle.std.proofs.Common.{◌≡◌, ◌⊎◌, inl, inr, ◌==◌, ℕ, Bool, true, false, true≢false, if◌then◌else◌, List, [], ◌∷◌, ◌++◌, Option, Some, None, Result, Ok, Err, refl, sym, ap, subst, ◌∙◌, codes}
use Rattle.std.specs.Prelude.{option_and_then}
use Rattle.std.specs.Result.{is_ok}
use Rattle.std.specs.FinMap.{get}
use Rattle.std.proofs.lemmas.Bool.{eqb-true}
use Rattle.serde_json.specs.Data.{Data}
use Rattle.serde_json.specs.Find as find
use Rattle.serde_json.specs.Find.{as_number, as_u64}
use Rattle.zarrs_store.specs.Segments.{Segments}
use Rattle.zarrs_store.specs.Contents.{Contents}
use Rattle.zarrs_fault.specs.declared.fault.MetadataFault.{MetadataFault}
use Rattle.zarrs_fault.specs.declared.fault.MetadataFault.TheVariants.{WrongFormat}
use Rattle.zarrs_store.specs.declared.storage_error.StorageError.{StorageError}
use Rattle.zarrs_path.specs.Paths.{Path}
use Rattle.zarrs_path.specs.Keys.{zarr_json}
use Rattle.zarrs_form.specs.Documents.{◌>>=◌, document_of, format_of, json_of, of_bytes, tree_or_fault}
use Rattle.zarrs_fault.specs.declared.numbers.Numbers.{Numbers}
use Rattle.zarrs_fault.specs.declared.numbers.Numbers.TheVariants.{Whole}
use Rattle.zarrs_meta.proofs.MoreNumbers.{zarr_json_too}
use Rattle.zarrs_meta.specs.ArrayV2.{array_v2_in}
use Rattle.zarrs_meta.specs.GroupV2.{group_v2_in}
use Rattle.zarrs_meta.specs.Node.{node_in, zarr_json_in, has_format, node_v2_in, node_v3_in, array_with, group_with}
use Rattle.zarrs_meta.specs.NodeDocuments.{ReadsAs, is_version_3}
use Rattle.zarrs_meta.specs.declared.array_v2.ArrayMetadataV2.{ArrayMetadataV2}
use Rattle.zarrs_meta.specs.declared.group_v2.GroupMetadataV2.{GroupMetadataV2}
use Rattle.zarrs_meta.specs.declared.attributes.AttributesDocument.{AttributesDocument}
use Rattle.zarrs_meta.specs.declared.node.ArrayMetadata.TheVariants.{V2 as array_v2}
use Rattle.zarrs_meta.specs.declared.node.GroupMetadata.TheVariants.{V2 as group_v2}
use Rattle.zarrs_meta.specs.declared.node.NodeMetadata.{NodeMetadata}
use Rattle.zarrs_meta.specs.declared.node.NodeMetadata.TheVariants.{Group, Array}
use Rattle.zarrs_meta.specs.declared.node.ZarrJson.{ZarrJson}
use Rattle.zarrs_meta.specs.declared.node.ZarrJson.TheVariants.{Node as node_json, Version2}
use Rattle.zarrs_config.specs.declared.version.MetadataRetrieveVersion.TheVariants.{Default, V3}
use Rattle.zarrs_meaning.specs.declared.node_create_error.NodeCreateError.{NodeCreateError}
use Rattle.zarrs_meaning.specs.DocumentsAtKeys.{in_bytes, document_or_fault, document_from, document_at}
use Rattle.zarrs_meaning.specs.Meaning.{Meaning, meaning, node, nothing, bad, version_3_line, version_2_line, zarr_json_line, zarray_line, zgroup_line}
use Rattle.zarrs_meaning.proofs.Meanings.{same_node, zarr_json_line_is, zarray_line_is, zgroup_line_is, default_is, v3_is}

-- ---- documents at `zarr.json`

-- there is a number, and it is this one
abbrev is_that : ℕ → Option ℕ → Bool
is_that n None = false
is_that n (Some m) = m == n

-- 3 is not 2
apart : (o : Option ℕ) → is_that 3 o ≡ true → is_that 2 o ≡ false
apart None e = refl
apart (Some k) e = ap (λ x. x == 2) (eqb-true k 3 e)

-- a step that is taken where a test is true
ok_if : (t : Bool) → is_ok (let r : Result (Unit {0}) MetadataFault = if t then Ok tt else Err WrongFormat in r) ≡ t
ok_if true = refl
ok_if false = refl

-- what has format 3 has not format 2
three_not_two : (d : Data) → has_format 3 d ≡ true → has_format 2 d ≡ false
unfolding format_of
three_not_two d e =
    let o : Option ℕ = option_and_then as_u64 (option_and_then as_number (find.get (codes "zarr_format") d)) in
    ok_if (is_that 2 o) ∙ apart o (sym (ok_if (is_that 3 o)) ∙ e)

-- what is read as a value is it
same_ok : {A : Type 0} (x y : A) → (let r : Result A MetadataFault = Ok x in r) ≡ Ok y → x ≡ y
same_ok x y e = cc

-- a document of version 2 has metadata of version 2
two_by : (t : Bool) (r : Result ArrayMetadataV2 MetadataFault) (s : Result GroupMetadataV2 MetadataFault) (m : NodeMetadata)
    → (if t then r >>= (λ x. Ok (Array (array_v2 x))) else s >>= (λ x. Ok (Group (group_v2 x)))) ≡ Ok m → is_version_3 m ≡ false
two_by true (Ok x) s m e = ap is_version_3 (sym (same_ok (Array (array_v2 x)) m e))
two_by true (Err x) s m e = cc
two_by false r (Ok x) m e = ap is_version_3 (sym (same_ok (Group (group_v2 x)) m e))
two_by false r (Err x) m e = cc

-- metadata of version 3 are read of what has format 3
three_by : (t u : Bool) (d : Data) (m : NodeMetadata) → (if t then node_v3_in Whole d else (if u then node_v2_in Whole d else Err WrongFormat)) ≡ Ok m → is_version_3 m ≡ true → t ≡ true
three_by true u d m e v = refl
three_by false true d m e v = absurd (true≢false (sym v ∙ two_by _ (array_v2_in Whole d) (group_v2_in Whole d) m e))
three_by false false d m e v = cc

-- a step before another gives the value that the other gives
ok_of : {A B : Type 0} (r : Result A MetadataFault) (s : Result B MetadataFault) (x : B) → r >>= (λ _. s) ≡ Ok x → s ≡ Ok x
ok_of (Ok a) s x e = e
ok_of (Err f) s x e = cc

-- and where it gives one, so does the first
first_ok : {A B : Type 0} (r : Result A MetadataFault) (s : Result B MetadataFault) (x : B) → r >>= (λ _. s) ≡ Ok x → (a : A) × (r ≡ Ok a)
first_ok (Ok a) s x e = (a, refl)
first_ok (Err f) s x e = cc

-- metadata of version 3 that are read as a node are read so at `zarr.json`
at_zarr_json : (d : Data) (m : NodeMetadata) → node_in Whole d ≡ Ok m → is_version_3 m ≡ true → zarr_json_in Whole d ≡ Ok (node_json m)
unfolding zarr_json_in node_in
at_zarr_json d m e v =
    let own = ok_of (document_of d) _ m e in
    let three : has_format 3 d ≡ true = three_by (has_format 3 d) (has_format 2 d) d m own v in
    let first = first_ok (document_of d) _ m e in
    ap (λ r. r >>= (λ _. if has_format 2 d then Ok Version2 else node_in Whole d >>= (λ x. Ok (node_json x)))) first.1
    ∙ ap (λ t. if t then Ok Version2 else node_in Whole d >>= (λ x. Ok (node_json x))) (three_not_two d three)
    ∙ ap (λ r. r >>= (λ x. Ok (node_json x))) e

-- so are bytes
tree_at : (numbers : Numbers) (o : Option Data) (m : NodeMetadata) → tree_or_fault o >>= node_in Whole ≡ Ok m → is_version_3 m ≡ true → tree_or_fault o >>= zarr_json_in numbers ≡ Ok (node_json m)
tree_at numbers None m e v = cc
tree_at numbers (Some d) m e v = zarr_json_too numbers d (node_json m) (at_zarr_json d m e v)

-- ---- meanings

module _ (T : Contents) (p : Path) (bytes : List ℕ) (m : NodeMetadata) (here : get T.values (p ++ zarr_json ∷ []) ≡ Some bytes) (reads : ReadsAs bytes m) (three : is_version_3 m ≡ true) where
  -- the document at `zarr.json` is that of the metadata
  document_is : document_at (of_bytes (zarr_json_in T.numbers)) T.values (p ++ zarr_json ∷ []) ≡ Ok (Some (node_json m))
  unfolding document_at
  document_is =
      ap (document_from (of_bytes (zarr_json_in T.numbers)) (p ++ zarr_json ∷ [])) here
      ∙ ap (document_or_fault (p ++ zarr_json ∷ [])) (tree_at T.numbers (json_of bytes) m reads three)

  -- so is what the path means
  pub set_v3 : meaning T V3 p ≡ node m
  set_v3 = v3_is T p ∙ zarr_json_line_is T p _ refl _ document_is nothing

  -- and by default
  pub set_default : meaning T Default p ≡ node m
  set_default = default_is T p ∙ zarr_json_line_is T p _ refl _ document_is _

-- a document of version 2 gives metadata of version 2
line_2 : {D : Type 0} (kind : D → NodeMetadata) → ((d : D) → is_version_3 (kind d) ≡ false) → (with : AttributesDocument → D → D) (r : Result (Option D) StorageError) (z : Result (Option AttributesDocument) StorageError)
    (after : Meaning) (m : NodeMetadata) → (after ≡ node m → is_version_3 m ≡ false) → version_2_line kind with r z after ≡ node m → is_version_3 m ≡ false
line_2 kind two with (Ok None) z after m h e = h e
line_2 kind two with (Ok (Some d)) (Ok None) after m h e = ap is_version_3 (sym (same_node (kind d) m e)) ∙ two d
line_2 kind two with (Ok (Some d)) (Ok (Some a)) after m h e = ap is_version_3 (sym (same_node (kind (with a d)) m e)) ∙ two (with a d)
line_2 kind two with (Ok (Some d)) (Err x) after m h e = cc
line_2 kind two with (Err x) z after m h e = cc

-- so do all documents of version 2
lines_2 : (s : Contents) (p : Path) (m : NodeMetadata) → zarray_line (in_bytes s.numbers) s.values p (zgroup_line (in_bytes s.numbers) s.values p nothing) ≡ node m → is_version_3 m ≡ false
lines_2 s p m e =
    line_2 (λ x. Array (array_v2 x)) (λ d. refl) array_with _ _ (zgroup_line (in_bytes s.numbers) s.values p nothing) m
    (λ g. line_2 (λ x. Group (group_v2 x)) (λ d. refl) group_with _ _ nothing m (λ n. cc) (sym (zgroup_line_is s p _ refl _ refl _ refl nothing) ∙ g))
    (sym (zarray_line_is s p _ refl _ refl _ refl (zgroup_line (in_bytes s.numbers) s.values p nothing)) ∙ e)

-- what `zarr.json` says where the other documents say nothing of version 3
line_3 : (r : Result (Option ZarrJson) StorageError) (after : Meaning) (m : NodeMetadata) → (after ≡ node m → is_version_3 m ≡ false) → is_version_3 m ≡ true → version_3_line r after ≡ node m → version_3_line r nothing ≡ node m
line_3 (Ok None) after m h v e = absurd (true≢false (sym v ∙ h e))
line_3 (Ok (Some (node_json x))) after m h v e = e
line_3 (Ok (Some Version2)) after m h v e = e
line_3 (Err x) after m h v e = e

-- where all documents together say nothing, it says nothing
line_nothing : (r : Result (Option ZarrJson) StorageError) (after : Meaning) → version_3_line r after ≡ nothing → version_3_line r nothing ≡ nothing
line_nothing (Ok None) after e = refl
line_nothing (Ok (Some (node_json x))) after e = e
line_nothing (Ok (Some Version2)) after e = e
line_nothing (Err x) after e = e

-- where all documents together are bad, it is bad with the same refusal or says nothing
line_bad : (r : Result (Option ZarrJson) StorageError) (after : Meaning) (x : NodeCreateError) → version_3_line r after ≡ bad x → (version_3_line r nothing ≡ bad x) ⊎ (version_3_line r nothing ≡ nothing)
line_bad (Ok None) after x e = inr refl
line_bad (Ok (Some (node_json m))) after x e = inl e
line_bad (Ok (Some Version2)) after x e = inl e
line_bad (Err y) after x e = inl e

module _ (s : Contents) (p : Path) where
  -- by default a path means metadata of version 3 by `zarr.json` alone
  pub three_alone : (m : NodeMetadata) → is_version_3 m ≡ true → meaning s Default p ≡ node m → meaning s V3 p ≡ node m
  three_alone m v e =
      v3_is s p ∙ zarr_json_line_is s p _ refl _ refl nothing
      ∙ line_3 _ (zarray_line (in_bytes s.numbers) s.values p (zgroup_line (in_bytes s.numbers) s.values p nothing)) m (lines_2 s p m) v (sym (zarr_json_line_is s p _ refl _ refl _) ∙ sym (default_is s p) ∙ e)

  -- what means nothing by default means nothing by version 3
  pub nothing_alone : meaning s Default p ≡ nothing → meaning s V3 p ≡ nothing
  nothing_alone e =
      v3_is s p ∙ zarr_json_line_is s p _ refl _ refl nothing
      ∙ line_nothing _ (zarray_line (in_bytes s.numbers) s.values p (zgroup_line (in_bytes s.numbers) s.values p nothing)) (sym (zarr_json_line_is s p _ refl _ refl _) ∙ sym (default_is s p) ∙ e)

  -- what is bad by default is bad by version 3 with the same refusal, or means nothing
  pub bad_alone : (x : NodeCreateError) → meaning s Default p ≡ bad x → (meaning s V3 p ≡ bad x) ⊎ (meaning s V3 p ≡ nothing)
  bad_alone x e = subst (λ y. (y ≡ bad x) ⊎ (y ≡ nothing)) (sym (v3_is s p ∙ zarr_json_line_is s p _ refl _ refl nothing))
      (line_bad _ (zarray_line (in_bytes s.numbers) s.values p (zgroup_line (in_bytes s.numbers) s.values p nothing)) x (sym (zarr_json_line_is s p _ refl _ refl _) ∙ sym (default_is s p) ∙ e))

-- ---- where `zarr.json` is there

-- a document that is there decides what a path means
decided : (k : Segments) (r : Result ZarrJson MetadataFault) (after other : Meaning) → version_3_line (document_or_fault k r) after ≡ version_3_line (document_or_fault k r) other
decided k (Ok (node_json m)) after other = refl
decided k (Ok Version2) after other = refl
decided k (Err x) after other = refl

-- what the documents of version 2 say
abbrev version_2_says : Contents → Path → Meaning
version_2_says s p = zarray_line (in_bytes s.numbers) s.values p (zgroup_line (in_bytes s.numbers) s.values p nothing)

-- the line of `zarr.json` where it is there
line_there : (s : Contents) (p : Path) (bytes : List ℕ) → get s.values (p ++ zarr_json ∷ []) ≡ Some bytes → (after : Meaning)
    → zarr_json_line (in_bytes s.numbers) s.values p after ≡ version_3_line (document_or_fault (p ++ zarr_json ∷ []) (of_bytes (zarr_json_in s.numbers) bytes)) after
unfolding document_at
line_there s p bytes here after = zarr_json_line_is s p _ refl _ (ap (document_from (of_bytes (zarr_json_in s.numbers)) (p ++ zarr_json ∷ [])) here) after

-- where `zarr.json` is there, and the same in both, it decides what the path means by default
pub by_zarr_json : (S T : Contents) (p : Path) (bytes : List ℕ) → T.numbers ≡ S.numbers → get T.values (p ++ zarr_json ∷ []) ≡ get S.values (p ++ zarr_json ∷ [])
    → get S.values (p ++ zarr_json ∷ []) ≡ Some bytes → meaning T Default p ≡ meaning S Default p
by_zarr_json S T p bytes alike own e =
    default_is T p ∙ line_there T p bytes (own ∙ e) (version_2_says T p)
    ∙ ap (λ n. version_3_line (document_or_fault (p ++ zarr_json ∷ []) (of_bytes (zarr_json_in n) bytes)) (version_2_says T p)) alike
    ∙ decided (p ++ zarr_json ∷ []) (of_bytes (zarr_json_in S.numbers) bytes) (version_2_says T p) (version_2_says S p)
    ∙ sym (line_there S p bytes e (version_2_says S p)) ∙ sym (default_is S p)
