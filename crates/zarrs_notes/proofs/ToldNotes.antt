-- All that is told of a node is all that there is to tell of it.
use Rattle.std.proofs.Common.{◌≡◌, ◌↔◌, ◌⊎◌, inl, inr, ⊎_elim, List, [], ◌++◌, Some, None, sym, subst, append_assoc, lit≤}
use Rattle.zarrs_store.specs.Contents.{Contents}
use Rattle.zarrs_path.specs.Paths.{Path}
use Rattle.zarrs_meta.specs.declared.node.NodeMetadata.{NodeMetadata}
use Rattle.zarrs_notes.specs.BesideDocuments.{left_over, main_document, passed_over}
use Rattle.zarrs_notes.specs.Demands.{fields_of}
use Rattle.zarrs_notes.specs.NodeFindings.{AreNodeFindings, IsBesideFinding, IsCodecFinding, IsFieldFinding, IsFillFinding, IsGridFinding, IsLeftOverFinding, IsLengthsFinding, IsMisplacedFinding, IsNameFinding, IsNodeFinding, IsZeroFinding}
use Rattle.zarrs_notes.specs.StepsOfFindings.{FieldsAscend, field_findings, file_findings, is_misplaced, shape_findings, told_if, value_findings}
use Rattle.zarrs_notes.specs.declared.finding.NodeFinding.{NodeFinding}
use Rattle.zarrs_notes.specs.declared.finding.NodeFinding.TheVariants.{MisplacedBlock}
use Rattle.zarrs_notes.proofs.BesideParts.{beside_part, left_part, misplaced_part}
use Rattle.zarrs_notes.proofs.FieldParts.{field_part}
use Rattle.zarrs_notes.proofs.Parts.{IsPart, joined, said}
use Rattle.zarrs_notes.proofs.ShapeParts.{shape_part}
use Rattle.zarrs_notes.proofs.ValueParts.{value_part}

module _ (s : Contents) (p : Path) (m : NodeMetadata) where
  -- of the dimensions
  abbrev OfShape : NodeFinding → Type 0
  OfShape f = (IsLengthsFinding m f ⊎ (IsGridFinding m f ⊎ IsZeroFinding m f)) ⊎ IsNameFinding m f

  -- of documents
  abbrev OfFiles : NodeFinding → Type 0
  OfFiles f = IsBesideFinding s p m f ⊎ IsLeftOverFinding s p m f

  -- of documents, and of a misplaced block
  abbrev OfDocuments : NodeFinding → Type 0
  OfDocuments f = IsMisplacedFinding s p m f ⊎ OfFiles f

  -- of fields, of documents, and of a misplaced block
  abbrev OfRest : NodeFinding → Type 0
  OfRest f = IsFieldFinding p m f ⊎ OfDocuments f

  -- of the fill value and the codecs
  abbrev OfValues : NodeFinding → Type 0
  OfValues f = IsFillFinding m f ⊎ IsCodecFinding m f

  -- of all but the dimensions
  abbrev OfOthers : NodeFinding → Type 0
  OfOthers f = OfValues f ⊎ OfRest f

  -- the parts but the dimensions say what there is to tell behind them
  others_say : (f : NodeFinding) → OfOthers f ↔ (IsFillFinding m f ⊎ IsCodecFinding m f ⊎ OfRest f)
  others_say f = (⊎_elim (⊎_elim inl (λ c. inr (inl c))) (λ r. inr (inr r)), ⊎_elim (λ v. inl (inl v)) (⊎_elim (λ c. inl (inr c)) inr))

  -- the parts say what there is to tell
  parts_say : (f : NodeFinding) → (OfShape f ⊎ OfOthers f) ↔ IsNodeFinding s p m f
  parts_say f = (
    ⊎_elim (⊎_elim (⊎_elim inl (⊎_elim (λ g. inr (inl g)) (λ z. inr (inr (inl z))))) (λ n. inr (inr (inr (inl n))))) (λ rest. inr (inr (inr (inr ((others_say f).0 rest))))),
    ⊎_elim (λ l. inl (inl (inl l))) (⊎_elim (λ g. inl (inl (inr (inl g)))) (⊎_elim (λ z. inl (inl (inr (inr z)))) (⊎_elim (λ n. inl (inr n)) (λ rest. inr ((others_say f).1 rest))))),
  )

  -- what is told of documents that are not read
  abbrev of_passed : List NodeFinding
  of_passed = file_findings s p (Some (main_document m)) (passed_over m)

  -- and of what a run of writing left
  abbrev of_left : List NodeFinding
  of_left = file_findings s p None (left_over m)

  -- what is told of fields, of a misplaced block and of documents
  abbrev of_rest : List NodeFinding
  of_rest = field_findings p (fields_of m) ++ (told_if (is_misplaced s p m) MisplacedBlock ++ (of_passed ++ of_left))

  -- all parts in a row are what there is to tell
  pub all_told : FieldsAscend (fields_of m) → AreNodeFindings s p m (shape_findings m ++ (value_findings m ++ of_rest))
  all_told up =
      let files : IsPart 7 14 OfFiles (of_passed ++ of_left) = joined 7 12 14 (IsBesideFinding s p m) (IsLeftOverFinding s p m) _ _ (lit≤ tt) (lit≤ tt) (beside_part s p m) (left_part s p m) in
      let documents : IsPart 6 14 OfDocuments (told_if (is_misplaced s p m) MisplacedBlock ++ (of_passed ++ of_left)) =
      joined 6 7 14 (IsMisplacedFinding s p m) OfFiles _ _ (lit≤ tt) (lit≤ tt) (misplaced_part s p m) files in
      let rest : IsPart 5 14 OfRest of_rest = joined 5 6 14 (IsFieldFinding p m) OfDocuments _ _ (lit≤ tt) (lit≤ tt) (field_part p m up) documents in
      let others : IsPart 3 14 OfOthers (value_findings m ++ of_rest) = joined 3 5 14 OfValues OfRest _ _ (lit≤ tt) (lit≤ tt) (value_part m) rest in
      let all = said 0 14 (λ f. OfShape f ⊎ OfOthers f) (IsNodeFinding s p m) _ parts_say (joined 0 3 14 OfShape OfOthers _ _ (lit≤ tt) (lit≤ tt) (shape_part m) others) in
      record { exact = all.exact; ascend = all.ascend }

  -- parts that were put behind one another are what there is to tell
  pub told_in_turn : FieldsAscend (fields_of m) → (none one two three four five six : List NodeFinding) → none ≡ [] → one ≡ none ++ shape_findings m → two ≡ one ++ value_findings m
      → three ≡ two ++ field_findings p (fields_of m) → four ≡ three ++ told_if (is_misplaced s p m) MisplacedBlock → five ≡ four ++ of_passed → six ≡ five ++ of_left → AreNodeFindings s p m six
  told_in_turn up none one two three four five six a b c d e f g =
      let whole : six ≡ shape_findings m ++ (value_findings m ++ of_rest) = rw (g, f, e, d, c, b, a) (simp append_assoc) in
      subst (AreNodeFindings s p m) (sym whole) (all_told up)
