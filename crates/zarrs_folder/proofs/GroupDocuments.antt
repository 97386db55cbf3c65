-- What the bytes of a group's document have in them, and what a path with a `.zarray` is.
use Rattle.std.proofs.Common.{◌≡◌, ◌⊎◌, inl, inr, ⊎_elim, ℕ, Bool, true, false, List, [], ◌∷◌, ◌++◌, length, drop, Option, Some, None, option_map, option_and_then, is_some, refl, sym, ap, subst, ◌∙◌, length-append, codes, bytes_eq, if◌then◌else◌, arith}
use Rattle.std.specs.Prelude.{◌≤◌, Result, Ok, Err, MatchOption}
use Rattle.std.specs.FinMap as map
use Rattle.std.specs.Result.{is_ok}
use Rattle.std.specs.Str.{is_utf8, IsUtf8}
use Rattle.std.specs.Str.Pattern.{FindsText, LacksTextAt}
use Rattle.std.proofs.Math.Seq.{drop-append_seam}
use Rattle.std.proofs.lemmas.Slice.Eq.{bytes_eq-Decides}
use Rattle.std.proofs.lemmas.Str.{IsUtf8-from_is_utf8}
use Rattle.json.specs.Ascii as ascii
use Rattle.serde_json.specs.Data.{Data, string, object, array, number, null, boolean, Members}
use Rattle.serde_json.specs.Find.{get, as_str}
use Rattle.serde_json.specs.Read.{read}
use Rattle.zarrs_fault.specs.declared.fault.MetadataFault.{MetadataFault}
use Rattle.zarrs_fault.specs.declared.fault.MetadataFault.TheVariants.{NotJson, WrongFormat, WrongNodeType}
use Rattle.zarrs_fault.specs.declared.numbers.Numbers.{Numbers}
use Rattle.zarrs_fault.specs.declared.numbers.Numbers.TheVariants.{Any}
use Rattle.zarrs_form.specs.Documents.{json_of, tree_or_fault, of_bytes, object_of, document_in, node_type_of, ◌>>=◌}
use Rattle.zarrs_store.specs.Segments.{Segments}
use Rattle.zarrs_store.specs.Contents.{Contents, Values}
use Rattle.zarrs_store.specs.declared.storage_error.StorageError.{StorageError}
use Rattle.zarrs_path.specs.Keys.{zarr_json, zarray}
use Rattle.zarrs_path.specs.Paths.{Path}
use Rattle.zarrs_meta.specs.ArrayV2.{array_v2_in}
use Rattle.zarrs_meta.specs.ArrayV3.{array_v3_in}
use Rattle.zarrs_meta.specs.GroupV3.{group_v3_in}
use Rattle.zarrs_meta.specs.Node.{has_format, has_type, node_v3_in, node_v2_in, node_in, zarr_json_in, array_with, is_group}
use Rattle.zarrs_meta.specs.NodeDocuments.{is_version_3}
use Rattle.zarrs_meta.specs.declared.array_v2.ArrayMetadataV2.{ArrayMetadataV2}
use Rattle.zarrs_meta.specs.declared.array_v3.ArrayMetadataV3.{ArrayMetadataV3}
use Rattle.zarrs_meta.specs.declared.group_v3.GroupMetadataV3.{GroupMetadataV3}
use Rattle.zarrs_meta.specs.declared.attributes.AttributesDocument.{AttributesDocument}
use Rattle.zarrs_meta.specs.declared.node.ArrayMetadata.TheVariants.{V2 as array_v2, V3 as array_v3}
use Rattle.zarrs_meta.specs.declared.node.GroupMetadata.TheVariants.{V3 as group_v3}
use Rattle.zarrs_meta.specs.declared.node.NodeMetadata.{NodeMetadata}
use Rattle.zarrs_meta.specs.declared.node.NodeMetadata.TheVariants.{Group, Array}
use Rattle.zarrs_meta.specs.declared.node.ZarrJson.{ZarrJson}
use Rattle.zarrs_meta.specs.declared.node.ZarrJson.TheVariants.{Node, Version2}
use Rattle.zarrs_config.specs.declared.version.MetadataRetrieveVersion.TheVariants.{Default}
use Rattle.zarrs_meaning.specs.DocumentsAtKeys.{in_bytes, document_or_fault, document_from, document_at, attributes_in}
use Rattle.zarrs_meaning.specs.Meaning.{Meaning, meaning, meaning_in, node, version_3_line, version_2_line, zarr_json_line, zarray_line, zgroup_line, nothing}
use Rattle.zarrs_folder.proofs.GroupTexts.{StandsIn, IsSpelt, read_spelt}

-- ---- the node type of a group's document

-- the text `group`
abbrev pub group_text : List ℕ
group_text = codes "group"

-- there is a text, and it is this one
abbrev is_this : List ℕ → Option (List ℕ) → Bool
is_this t None = false
is_this t (Some s) = bytes_eq s t

-- a member is a text where it is found to be
text_is : (t : List ℕ) (o : Option Data) → is_this t (option_and_then as_str o) ≡ true → o ≡ Some (string t)
text_is t None is = let no : false ≡ true = is in cc
text_is t (Some (string s)) is = ap (λ x. Some (string x)) ((bytes_eq-Decides s t).0 is)
text_is t (Some null) is = let no : false ≡ true = is in cc
text_is t (Some (boolean b)) is = let no : false ≡ true = is in cc
text_is t (Some (number n)) is = let no : false ≡ true = is in cc
text_is t (Some (array ds)) is = let no : false ≡ true = is in cc
text_is t (Some (object ms)) is = let no : false ≡ true = is in cc

-- so is the node type where the document has it
type_is : (t : List ℕ) (d : Data) → has_type t d ≡ true → get (codes "node_type") d ≡ Some (string t)
unfolding node_type_of
type_is t d is = text_is t (get (codes "node_type") d) (by (is_this t (option_and_then as_str (get (codes "node_type") d))) is)
  where
    by : (b : Bool) → is_ok {T = Unit {0}} {E = MetadataFault} (if b then Ok tt else Err WrongNodeType) ≡ true → b ≡ true
    by true h = refl
    by false h = let no : false ≡ true = h in cc

-- an array is what comes of its reading
array_read : (r : Result ArrayMetadataV3 MetadataFault) (m : NodeMetadata) → (r >>= λ a. Ok (Array (array_v3 a))) ≡ Ok m → is_group m ≡ false
array_read (Ok a) m is = let same : Array (array_v3 a) ≡ m = cc in subst (λ x. is_group x ≡ false) same refl
array_read (Err e) m is = let no : Err e ≡ Ok m = is in cc

-- a version 3 document that is a node is no group, or has that node type
v3_kind : (d : Data) (m : NodeMetadata) → node_v3_in Any d ≡ Ok m → (get (codes "node_type") d ≡ Some (string group_text)) ⊎ (is_group m ≡ false)
v3_kind d m is = by (has_type (codes "group") d) (has_type (codes "array") d) refl is
  where
    by : (g a : Bool) → has_type (codes "group") d ≡ g
        → (if g then group_v3_in Any d >>= (λ x. Ok (Group (group_v3 x))) else (if a then array_v3_in Any d >>= (λ x. Ok (Array (array_v3 x))) else Err WrongNodeType)) ≡ Ok m
        → (get (codes "node_type") d ≡ Some (string group_text)) ⊎ (is_group m ≡ false)
    by true a isg h = inl (type_is (codes "group") d isg)
    by false true isg h = inr (array_read (array_v3_in Any d) m h)
    by false false isg h = let no : Err WrongNodeType ≡ Ok m = h in cc

-- what becomes a document is the node that was read
node_read : (r : Result NodeMetadata MetadataFault) (m : NodeMetadata) → (r >>= λ x. Ok (Node x)) ≡ Ok (Node m) → r ≡ Ok m
node_read (Ok x) m is = let same : x ≡ m = cc in ap Ok same
node_read (Err e) m is = let no : Err e ≡ Ok (Node m) = is in cc

-- a group is what comes of its reading
group_read : (r : Result GroupMetadataV3 MetadataFault) (m : NodeMetadata) → (r >>= λ g. Ok (Group (group_v3 g))) ≡ Ok m → is_version_3 m ≡ true
group_read (Ok g) m is = let same : Group (group_v3 g) ≡ m = cc in subst (λ x. is_version_3 x ≡ true) same refl
group_read (Err e) m is = let no : Err e ≡ Ok m = is in cc

-- so is an array, and of its version
array_read_3 : (r : Result ArrayMetadataV3 MetadataFault) (m : NodeMetadata) → (r >>= λ a. Ok (Array (array_v3 a))) ≡ Ok m → is_version_3 m ≡ true
array_read_3 (Ok a) m is = let same : Array (array_v3 a) ≡ m = cc in subst (λ x. is_version_3 x ≡ true) same refl
array_read_3 (Err e) m is = let no : Err e ≡ Ok m = is in cc

-- a `zarr.json` that is a node is one of version 3
zarr_json_version : (numbers : Numbers) (d : Data) (m : NodeMetadata) → zarr_json_in numbers d ≡ Ok (Node m) → is_version_3 m ≡ true
unfolding zarr_json_in node_in
zarr_json_version numbers d m is = by (document_in numbers d) (has_format 2 d) (has_format 3 d) is
  where
    of_type : (g a : Bool) → (if g then group_v3_in numbers d >>= (λ x. Ok (Group (group_v3 x))) else (if a then array_v3_in numbers d >>= (λ x. Ok (Array (array_v3 x))) else Err WrongNodeType)) ≡ Ok m
        → is_version_3 m ≡ true
    of_type true a h = group_read (group_v3_in numbers d) m h
    of_type false true h = array_read_3 (array_v3_in numbers d) m h
    of_type false false h = let no : Err WrongNodeType ≡ Ok m = h in cc

    by : (o : Result Members MetadataFault) (two three : Bool)
        → (o >>= λ _. if two then Ok Version2 else ((o >>= λ _. if three then node_v3_in numbers d else (if two then node_v2_in numbers d else Err WrongFormat)) >>= (λ x. Ok (Node x)))) ≡ Ok (Node m)
        → is_version_3 m ≡ true
    by (Err e) two three h = let no : Err e ≡ Ok (Node m) = h in cc
    by (Ok ms) true three h = let no : Ok Version2 ≡ Ok (Node m) = h in cc
    by (Ok ms) false true h = of_type (has_type (codes "group") d) (has_type (codes "array") d) (node_read (node_v3_in numbers d) m h)
    by (Ok ms) false false h = let no : Err WrongFormat ≡ Ok (Node m) = h in cc

-- so are its bytes
pub document_version : (numbers : Numbers) (bytes : List ℕ) (m : NodeMetadata) → of_bytes (zarr_json_in numbers) bytes ≡ Ok (Node m) → is_version_3 m ≡ true
document_version numbers bytes m is = by (json_of bytes) is
  where
    by : (o : Option Data) → (tree_or_fault o >>= zarr_json_in numbers) ≡ Ok (Node m) → is_version_3 m ≡ true
    by None h = let no : Err NotJson ≡ Ok (Node m) = h in cc
    by (Some d) h = zarr_json_version numbers d m h

-- a `zarr.json` that is a node is no group, or has that node type
zarr_json_kind : (d : Data) (m : NodeMetadata) → zarr_json_in Any d ≡ Ok (Node m) → (get (codes "node_type") d ≡ Some (string group_text)) ⊎ (is_group m ≡ false)
unfolding zarr_json_in node_in
zarr_json_kind d m is = by (object_of d) (has_format 2 d) (has_format 3 d) is
  where
    by : (o : Result Members MetadataFault) (two three : Bool)
        → (o >>= λ _. if two then Ok Version2 else ((o >>= λ _. if three then node_v3_in Any d else (if two then node_v2_in Any d else Err WrongFormat)) >>= (λ x. Ok (Node x)))) ≡ Ok (Node m)
        → (get (codes "node_type") d ≡ Some (string group_text)) ⊎ (is_group m ≡ false)
    by (Err e) two three h = let no : Err e ≡ Ok (Node m) = h in cc
    by (Ok ms) true three h = let no : Ok Version2 ≡ Ok (Node m) = h in cc
    by (Ok ms) false true h = v3_kind d m (node_read (node_v3_in Any d) m h)
    by (Ok ms) false false h = let no : Err WrongFormat ≡ Ok (Node m) = h in cc

-- bytes that are a tree are UTF-8, and are read as it
tree_read : (bytes : List ℕ) (d : Data) → json_of bytes ≡ Some d → (is_utf8 bytes ≡ true) × (read bytes ≡ Some d)
unfolding json_of
tree_read bytes d is = by (is_utf8 bytes) refl is
  where
    by : (u : Bool) → is_utf8 bytes ≡ u → (if u then read bytes else None) ≡ Some d → (is_utf8 bytes ≡ true) × (read bytes ≡ Some d)
    by true isu h = (isu, h)
    by false isu h = let no : None ≡ Some d = h in cc

-- bytes that are a node's `zarr.json` are UTF-8, and are no group, or have its node type spelt in them
pub document_kind : (bytes : List ℕ) (m : NodeMetadata) → of_bytes (zarr_json_in Any) bytes ≡ Ok (Node m) → (is_utf8 bytes ≡ true) × (IsSpelt group_text bytes ⊎ (is_group m ≡ false))
document_kind bytes m is = by (json_of bytes) refl is
  where
    by : (o : Option Data) → json_of bytes ≡ o → (tree_or_fault o >>= zarr_json_in Any) ≡ Ok (Node m) → (is_utf8 bytes ≡ true) × (IsSpelt group_text bytes ⊎ (is_group m ≡ false))
    by None tree h = let no : Err NotJson ≡ Ok (Node m) = h in cc
    by (Some d) tree h =
        let w = tree_read bytes d tree in
        (w.0, ⊎_elim (λ has. inl (read_spelt bytes d (codes "node_type") group_text w.1 has)) inr (zarr_json_kind d m h))

-- ---- a text that is not found

-- what is not found in a text does not stand in it
not_found : (needle s : List ℕ) → ((i : ℕ) → i ≤ length s → LacksTextAt needle s i) → StandsIn needle s → ⊥
not_found needle s lacks (front, back, is) =
    let long = ap length is in
    let more = length-append front (needle ++ back) in
    lacks (length front) (omega (arith, long, more)) back (ap (drop (length front)) is ∙ drop-append_seam front (needle ++ back))

-- where neither the text between quotes nor a backslash is found, nothing is spelt
not_spelt : (s text : List ℕ) → FindsText (ascii.quote ∷ (s ++ ascii.quote ∷ [])) text None → FindsText (ascii.backslash ∷ []) text None → IsSpelt s text → ⊥
not_spelt s text lacks lacks' (inl h) = not_found (ascii.backslash ∷ []) text lacks' h
not_spelt s text lacks lacks' (inr h) = not_found (ascii.quote ∷ (s ++ ascii.quote ∷ [])) text lacks h

-- so bytes with a text in which neither is found are no group's document
pub not_a_group : (bytes text : List ℕ) → text ≡ bytes → FindsText (codes "\"group\"") text None → FindsText (codes "\\") text None
    → (m : NodeMetadata) → of_bytes (zarr_json_in Any) bytes ≡ Ok (Node m) → is_group m ≡ false
not_a_group bytes text same lacks lacks' m is =
    ⊎_elim (λ spelt. absurd (not_spelt group_text text lacks lacks' (subst (IsSpelt group_text) (sym same) spelt))) (λ kind. kind) (document_kind bytes m is).1

-- nor are those that are not UTF-8
pub not_a_document : (bytes : List ℕ) → (IsUtf8 bytes → ⊥) → (m : NodeMetadata) → of_bytes (zarr_json_in Any) bytes ≡ Ok (Node m) → is_group m ≡ false
not_a_document bytes none m is = absurd (none (IsUtf8-from_is_utf8 bytes (document_kind bytes m is).0))

-- what was not found
pub none_by : {A : Type 0} (P : Type 0) (Q : A → Type 0) (o : Option A) → is_some o ≡ false → MatchOption o P Q → P
none_by P Q None is h = h
none_by P Q (Some a) is h = let no : true ≡ false = is in cc

-- ---- what a path means by its documents

-- a path with a `zarr.json` means the node that this is
pub by_zarr_json : (S : Contents) (p : Path) (bytes : List ℕ) (m : NodeMetadata) → map.get S.values (p ++ zarr_json ∷ []) ≡ Some bytes → meaning S Default p ≡ node m
    → of_bytes (zarr_json_in S.numbers) bytes ≡ Ok (Node m)
unfolding meaning_in zarr_json_line document_at
by_zarr_json S p bytes m at is = by (of_bytes (zarr_json_in S.numbers) bytes) (subst (λ o. version_3_line (document_from (of_bytes (zarr_json_in S.numbers)) (p ++ zarr_json ∷ []) o) after ≡ node m) at is)
  where
    after : Meaning
    after = zarray_line (in_bytes S.numbers) S.values p (zgroup_line (in_bytes S.numbers) S.values p nothing)

    by : (r : Result ZarrJson MetadataFault) → version_3_line (document_or_fault (p ++ zarr_json ∷ []) r) after ≡ node m → r ≡ Ok (Node m)
    by (Ok (Node x)) h = let same : x ≡ m = cc in ap (λ y. Ok (Node y)) same
    by (Ok Version2) h = cc
    by (Err e) h = cc

-- a path without `zarr.json` and with a `.zarray` is no group
pub by_zarray : (S : Contents) (p : Path) (bytes : List ℕ) (m : NodeMetadata) → map.get S.values (p ++ zarr_json ∷ []) ≡ None → map.get S.values (p ++ zarray ∷ []) ≡ Some bytes → meaning S Default p ≡ node m
    → is_group m ≡ false
unfolding meaning_in zarr_json_line zarray_line document_at
by_zarray S p bytes m none at is = by (of_bytes (array_v2_in S.numbers) bytes) (attributes_in (in_bytes S.numbers) S.values p) (subst (λ o. line (document_from (of_bytes (array_v2_in S.numbers)) (p ++ zarray ∷ []) o) (attributes_in (in_bytes S.numbers) S.values p) ≡ node m) at
    (subst (λ o. version_3_line (document_from (of_bytes (zarr_json_in S.numbers)) (p ++ zarr_json ∷ []) o) (zarray_line (in_bytes S.numbers) S.values p after) ≡ node m) none is))
  where
    after : Meaning
    after = zgroup_line (in_bytes S.numbers) S.values p nothing

    line : Result (Option ArrayMetadataV2) StorageError → Result (Option AttributesDocument) StorageError → Meaning
    line r a = version_2_line (λ x. Array (array_v2 x)) array_with r a after

    by : (r : Result ArrayMetadataV2 MetadataFault) (a : Result (Option AttributesDocument) StorageError) → line (document_or_fault (p ++ zarray ∷ []) r) a ≡ node m → is_group m ≡ false
    by (Ok d) (Ok None) h = let same : Array (array_v2 d) ≡ m = cc in subst (λ x. is_group x ≡ false) same refl
    by (Ok d) (Ok (Some x)) h = let same : Array (array_v2 (array_with x d)) ≡ m = cc in subst (λ y. is_group y ≡ false) same refl
    by (Ok d) (Err e) h = cc
    by (Err e) a h = cc

-- ---- what was found at the key of a document

module _ {A : Type 0} (f : A → List ℕ) (V : Values) (p : Path) (file : List ℕ) (key : Segments) (found : Option A) (at : key ≡ p ++ file ∷ []) (is : option_map f found ≡ map.get V key) where
  -- something
  pub stands : (x : A) → found ≡ Some x → map.get V (p ++ file ∷ []) ≡ Some (f x)
  stands x some = subst (λ k. map.get V k ≡ Some (f x)) at (sym is ∙ ap (option_map f) some)

  -- nothing
  pub stands_not : found ≡ None → map.get V (p ++ file ∷ []) ≡ None
  stands_not none = subst (λ k. map.get V k ≡ None) at (sym is ∙ ap (option_map f) none)

  -- something, where what was found is something
  pub stands_some : is_some found ≡ true → (bytes : List ℕ) × (map.get V (p ++ file ∷ []) ≡ Some bytes)
  stands_some some = by found refl some
    where
      by : (o : Option A) → found ≡ o → is_some o ≡ true → (bytes : List ℕ) × (map.get V (p ++ file ∷ []) ≡ Some bytes)
      by None same h = let no : false ≡ true = h in cc
      by (Some x) same h = (f x, stands x same)
