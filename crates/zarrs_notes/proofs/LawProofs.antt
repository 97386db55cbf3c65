-- What holds of all that there is to tell of a node.
use Rattle.std.proofs.Common.{◌≡◌, ◌↔◌, ◌⊎◌, inl, inr, ⊎_elim, Bool, true, false, is_some, [], ◌∷◌, refl, sym, ap, ◌∙◌, Contains}
use Rattle.std.proofs.lemmas.List.Elements.{Contains-append_left, Contains-append_right}
use Rattle.zarrs_store.specs.Contents.{Contents}
use Rattle.zarrs_path.specs.Paths.{Path}
use Rattle.zarrs_form.specs.Fields.{must_understand}
use Rattle.zarrs_meta.specs.declared.node.ArrayMetadata.TheVariants.{V3 as array_v3, V2 as array_v2}
use Rattle.zarrs_meta.specs.declared.node.GroupMetadata.TheVariants.{V3 as group_v3, V2 as group_v2}
use Rattle.zarrs_meta.specs.declared.node.NodeMetadata.{NodeMetadata}
use Rattle.zarrs_meta.specs.declared.node.NodeMetadata.TheVariants.{Group, Array}
use Rattle.zarrs_notes.specs.BesideDocuments.{HasFile, HasMisplacedBlock, left_over, looked_at, passed_over}
use Rattle.zarrs_notes.specs.Demands.{field_finding}
use Rattle.zarrs_notes.specs.Laws.{HaveSameFiles, SameFilesTellSame, UntoldIsUnderstood}
use Rattle.zarrs_notes.specs.NodeFindings.{IsBesideFinding, IsLeftOverFinding, IsMisplacedFinding, IsNodeFinding}
use Rattle.zarrs_notes.specs.declared.file.NodeFile.{NodeFile}
use Rattle.zarrs_notes.specs.declared.file.NodeFile.TheVariants.{Zarray, Zgroup, Zattrs, Zmetadata, NewZarrJson}
use Rattle.zarrs_notes.specs.declared.finding.NodeFinding.{NodeFinding}
use Rattle.zarrs_notes.proofs.Parts.{first_in, later_in, none_in}

-- ---- what is looked at

-- a document that is passed over is looked at
passed_looked : (m : NodeMetadata) (file : NodeFile) → Contains (passed_over m) file → Contains (looked_at m) file
passed_looked (Group (group_v3 g)) file h = Contains-append_left (Zarray ∷ Zgroup ∷ Zattrs ∷ Zmetadata ∷ []) (NewZarrJson ∷ []) file h
passed_looked (Group (group_v2 g)) file h = absurd (none_in file h)
passed_looked (Array (array_v3 a)) file h = h
passed_looked (Array (array_v2 a)) file h = Contains-append_left (Zgroup ∷ []) (Zmetadata ∷ []) file h

-- and so is one that is left over
left_looked : (m : NodeMetadata) (file : NodeFile) → Contains (left_over m) file → Contains (looked_at m) file
left_looked (Group (group_v3 g)) file h = Contains-append_right (Zarray ∷ Zgroup ∷ Zattrs ∷ Zmetadata ∷ []) (NewZarrJson ∷ []) file h
left_looked (Group (group_v2 g)) file h = h
left_looked (Array a) file h = absurd (none_in file h)

-- ---- stores with the same files

-- a document that is looked at in the one stands in the other
same_file : (m : NodeMetadata) (s t : Contents) (p : Path) → HaveSameFiles s t p m → (file : NodeFile) → Contains (looked_at m) file → HasFile s p file → HasFile t p file
same_file m s t p same file looked h = ap is_some (sym (same file looked)) ∙ h

-- and so a misplaced block
same_block : (m : NodeMetadata) (s t : Contents) (p : Path) → HaveSameFiles s t p m → HasMisplacedBlock s p m → HasMisplacedBlock t p m
same_block (Group g) s t p same h = absurd h
same_block (Array (array_v3 a)) s t p same h = h
same_block (Array (array_v2 a)) s t p same h = same_file (Array (array_v2 a)) s t p same Zmetadata (later_in Zgroup (Zmetadata ∷ []) Zmetadata (first_in Zmetadata [])) h

module _ (m : NodeMetadata) (s t : Contents) (p : Path) (same : HaveSameFiles s t p m) where
  -- what there is to tell of documents in the one there is to tell in the other
  same_beside : (f : NodeFinding) → IsBesideFinding s p m f → IsBesideFinding t p m f
  same_beside f (file, passed, there, is) = (file, passed, same_file m s t p same file (passed_looked m file passed) there, is)

  -- and of what a run of writing left
  same_left : (f : NodeFinding) → IsLeftOverFinding s p m f → IsLeftOverFinding t p m f
  same_left f (file, left, there, is) = (file, left, same_file m s t p same file (left_looked m file left) there, is)

  -- and of documents and a misplaced block
  same_documents : (f : NodeFinding) → IsMisplacedFinding s p m f ⊎ IsBesideFinding s p m f ⊎ IsLeftOverFinding s p m f → IsMisplacedFinding t p m f ⊎ IsBesideFinding t p m f ⊎ IsLeftOverFinding t p m f
  same_documents f = ⊎_elim (λ e. inl (same_block m s t p same e.0, e.1)) (λ r. inr (⊎_elim (λ b. inl (same_beside f b)) (λ l. inr (same_left f l)) r))

  -- and in all
  same_told : (f : NodeFinding) → IsNodeFinding s p m f → IsNodeFinding t p m f
  same_told f = ⊎_elim inl (λ l. inr (⊎_elim inl (λ a. inr (⊎_elim inl (λ b. inr (⊎_elim inl (λ c. inr (⊎_elim inl (λ d. inr (⊎_elim inl (λ e. inr (⊎_elim inl (λ g. inr (same_documents f g)) e)) d)) c)) b)) a)) l))

-- of two stores that have the same at the documents of a node that are looked at, the same is told of it
pub notes_same : SameFilesTellSame
notes_same m s t p same =
    let back : HaveSameFiles t s p m = λ file looked. sym (same file looked) in
    let each : (f : NodeFinding) → IsNodeFinding s p m f ↔ IsNodeFinding t p m f = λ f. (same_told m s t p same f, same_told m t s p back f) in
    (each, λ found h. record { exact = λ f. (λ in'. (each f).0 ((h.exact f).0 in'), λ is. (h.exact f).1 ((each f).1 is)); ascend = h.ascend })

-- where no field is told, none must be understood
pub untold_is_understood : UntoldIsUnderstood
untold_is_understood s p m found h none name d held = by (must_understand d) refl
  where
    by : (b : Bool) → must_understand d ≡ b → must_understand d ≡ false
    by true is = absurd (none name ((h.exact (field_finding p name)).1 (inr (inr (inr (inr (inr (inr (inl (name, d, held, is, refl))))))))))
    by false is = is
