-- What is told of documents that are not read, and of what a run of writing left, is what there is to tell of them.
use Rattle.std.proofs.Common.{◌≡◌, ◌≢◌, ◌↔◌, ◌⊎◌, inl, ⊎_elim, ℕ, suc, ◌<◌, ◌≤◌, Bool, true, false, true≢false, ◌&&◌, not, is_some, List, [], ◌∷◌, ◌++◌, refl, sym, ap, subst, ◌∙◌, arith, Contains, AllPairs, Option, Some, None, lit≤}
use Rattle.serde_json.specs.Data.{Data, null, boolean, number, string, array, object}
use Rattle.serde_json.specs.Find.{get_member}
use Rattle.zarrs_form.specs.Documents.{is_null}
use Rattle.zarrs_store.specs.Contents.{Contents}
use Rattle.zarrs_path.specs.Paths.{Path}
use Rattle.zarrs_meta.specs.declared.node.ArrayMetadata.TheVariants.{V3 as array_v3, V2 as array_v2}
use Rattle.zarrs_meta.specs.declared.node.GroupMetadata.TheVariants.{V3 as group_v3, V2 as group_v2}
use Rattle.zarrs_meta.specs.declared.node.NodeMetadata.{NodeMetadata}
use Rattle.zarrs_meta.specs.declared.node.NodeMetadata.TheVariants.{Group, Array}
use Rattle.zarrs_notes.specs.BesideDocuments.{HasFile, HasMisplacedBlock, left_over, main_document, passed_over}
use Rattle.zarrs_notes.specs.Demands.{block_name}
use Rattle.zarrs_notes.specs.NodeFindings.{IsBesideFinding, IsLeftOverFinding, IsMisplacedFinding, ComesBefore, file_place, place_of}
use Rattle.zarrs_notes.specs.StepsOfFindings.{file_finding, file_findings, has_file, is_misplaced, told_if}
use Rattle.zarrs_notes.specs.declared.file.NodeFile.{NodeFile}
use Rattle.zarrs_notes.specs.declared.finding.NodeFinding.{NodeFinding}
use Rattle.zarrs_notes.specs.declared.finding.NodeFinding.TheVariants.{MisplacedBlock}
use Rattle.zarrs_notes.proofs.Parts.{IsPart, first_in, in_cases, later_in, none_in, pairs_append, said, told_part}

-- ---- a misplaced block

-- the test of a block: something was found, and it is not null
block_test : (o : Option Data) → ((is_some o && not (is_null o)) ≡ true) ↔ ((d : Data) × (o ≡ Some d) × (d ≢ null))
block_test None = (λ h. absurd (true≢false (sym h)), λ h. let e = h.1 in cc)
block_test (Some null) = (λ h. absurd (true≢false (sym h)), λ h. absurd (h.2 cc))
block_test (Some (boolean b)) = (λ h. (boolean b, refl, λ e. cc), λ h. refl)
block_test (Some (number n)) = (λ h. (number n, refl, λ e. cc), λ h. refl)
block_test (Some (string s)) = (λ h. (string s, refl, λ e. cc), λ h. refl)
block_test (Some (array ds)) = (λ h. (array ds, refl, λ e. cc), λ h. refl)
block_test (Some (object ms)) = (λ h. (object ms, refl, λ e. cc), λ h. refl)

-- the test of a misplaced block
misplaced_test : (s : Contents) (p : Path) (m : NodeMetadata) → (is_misplaced s p m ≡ true) ↔ HasMisplacedBlock s p m
misplaced_test s p (Group g) = (λ h. absurd (true≢false (sym h)), λ h. absurd h)
misplaced_test s p (Array (array_v3 a)) = block_test (get_member block_name a.additional_fields)
misplaced_test s p (Array (array_v2 a)) = (λ h. h, λ h. h)

-- what is told of a misplaced block
pub misplaced_part : (s : Contents) (p : Path) (m : NodeMetadata) → IsPart 6 7 (IsMisplacedFinding s p m) (told_if (is_misplaced s p m) MisplacedBlock)
misplaced_part s p m =
    said 6 7 (λ f. (is_misplaced s p m ≡ true) × (f ≡ MisplacedBlock)) (IsMisplacedFinding s p m) (told_if (is_misplaced s p m) MisplacedBlock)
    (λ f. (λ h. ((misplaced_test s p m).0 h.0, h.1), λ h. ((misplaced_test s p m).1 h.0, h.1)))
    (told_part 6 (is_misplaced s p m) MisplacedBlock refl)

-- ---- documents

-- the documents have ascending places, from lo on and before hi
FilesAscend : ℕ → ℕ → List NodeFile → Type 0
FilesAscend lo hi [] = lo ≤ hi
FilesAscend lo hi (file ∷ files) = (lo ≤ file_place file) × FilesAscend (suc (file_place file)) hi files

-- so there is room for them
files_room : (lo hi : ℕ) (files : List NodeFile) → FilesAscend lo hi files → lo ≤ hi
unfolding FilesAscend
files_room lo hi [] up = up
files_room lo hi (file ∷ files) up = let room = files_room (suc (file_place file)) hi files up.1 in omega (arith, up.0, room)

-- and the place of each of them is there
files_within : (lo hi : ℕ) (files : List NodeFile) → FilesAscend lo hi files → (file : NodeFile) → Contains files file → (lo ≤ file_place file) × (file_place file < hi)
unfolding FilesAscend
files_within lo hi [] up file h = absurd (none_in file h)
files_within lo hi (g ∷ files) up file h = ⊎_elim
    (λ same. subst (λ x. (lo ≤ file_place x) × (file_place x < hi)) same (up.0, files_room (suc (file_place g)) hi files up.1))
    (λ later. let w = files_within (suc (file_place g)) hi files up.1 file later in (omega (arith, up.0, w.0), w.1))
    (in_cases g files file h)

-- what is told of a document has the place of the document
finding_place : (d : Option NodeFile) (file : NodeFile) → place_of (file_finding d file) ≡ file_place file
finding_place (Some d) file = refl
finding_place None file = refl

module _ (s : Contents) (p : Path) (d : Option NodeFile) where
  -- what there is to tell of documents
  abbrev OfFiles : List NodeFile → NodeFinding → Type 0
  OfFiles files f = (file : NodeFile) × Contains files file × HasFile s p file × (f ≡ file_finding d file)

  -- what is told is told of a document
  told_in : (files : List NodeFile) (f : NodeFinding) → Contains (file_findings s p d files) f → OfFiles files f
  told_in [] f h = absurd (none_in f h)
  told_in (file ∷ files) f h = by (has_file s p file) refl (λ later. let w = told_in files f later in (w.0, later_in file files w.0 w.1, w.2, w.3)) h
    where
      by : (b : Bool) → has_file s p file ≡ b → (Contains (file_findings s p d files) f → OfFiles (file ∷ files) f) → Contains (told_if b (file_finding d file) ++ file_findings s p d files) f → OfFiles (file ∷ files) f
      by true is again h = ⊎_elim (λ same. (file, first_in file files, is, sym same)) again (in_cases (file_finding d file) (file_findings s p d files) f h)
      by false is again h = again h

  -- and of each document that stands there it is told
  told_out : (files : List NodeFile) (file : NodeFile) → Contains files file → HasFile s p file → Contains (file_findings s p d files) (file_finding d file)
  told_out [] file h there = absurd (none_in file h)
  told_out (g ∷ files) file h there = by (has_file s p g) refl (λ later. told_out files file later there) (in_cases g files file h)
    where
      by : (b : Bool) → has_file s p g ≡ b → (Contains files file → Contains (file_findings s p d files) (file_finding d file)) → (g ≡ file) ⊎ Contains files file
          → Contains (told_if b (file_finding d g) ++ file_findings s p d files) (file_finding d file)
      by true is again c = ⊎_elim
          (λ same. subst (λ x. Contains (file_finding d g ∷ file_findings s p d files) (file_finding d x)) same (first_in (file_finding d g) (file_findings s p d files)))
          (λ later. later_in (file_finding d g) (file_findings s p d files) (file_finding d file) (again later))
          c
      by false is again c = ⊎_elim (λ same. absurd (true≢false (sym there ∙ ap (has_file s p) (sym same) ∙ is))) again c

  -- the place of what is told of ascending documents
  told_place : (lo hi : ℕ) (files : List NodeFile) → FilesAscend lo hi files → (f : NodeFinding) → Contains (file_findings s p d files) f → (lo ≤ place_of f) × (place_of f < hi)
  told_place lo hi files up f h =
      let w = told_in files f h in
      subst (λ x. (lo ≤ x) × (x < hi)) (sym (ap place_of w.3 ∙ finding_place d w.0)) (files_within lo hi files up w.0 w.1)

  -- what is told of ascending documents ascends
  told_ascend : (lo hi : ℕ) (files : List NodeFile) → FilesAscend lo hi files → AllPairs ComesBefore (file_findings s p d files)
  unfolding FilesAscend
  told_ascend lo hi [] up = λ i j x l m. absurd (omega (arith, m))
  told_ascend lo hi (file ∷ files) up =
      let one = told_part (file_place file) (has_file s p file) (file_finding d file) (finding_place d file) in
      pairs_append ComesBefore (told_if (has_file s p file) (file_finding d file)) (file_findings s p d files)
      one.ascend
      (told_ascend (suc (file_place file)) hi files up.1)
      (λ f h hf hh.
      let first = (one.within f hf).1 in
      let later = (told_place (suc (file_place file)) hi files up.1 h hh).0 in
      inl (omega (arith, first, later)))

  -- what is told of ascending documents
  files_part : (lo hi : ℕ) (files : List NodeFile) → FilesAscend lo hi files → IsPart lo hi (OfFiles files) (file_findings s p d files)
  files_part lo hi files up = record {
    exact = λ f. (told_in files f, λ h. subst (Contains (file_findings s p d files)) (sym h.3) (told_out files h.0 h.1 h.2));
    ascend = told_ascend lo hi files up;
    within = told_place lo hi files up;
  }

-- the documents that are not read ascend
passed_ascend : (m : NodeMetadata) → FilesAscend 7 12 (passed_over m)
unfolding FilesAscend
passed_ascend (Group (group_v3 g)) = (lit≤ tt, (lit≤ tt, (lit≤ tt, (lit≤ tt, lit≤ tt))))
passed_ascend (Group (group_v2 g)) = lit≤ tt
passed_ascend (Array (array_v3 a)) = (lit≤ tt, (lit≤ tt, (lit≤ tt, (lit≤ tt, lit≤ tt))))
passed_ascend (Array (array_v2 a)) = (lit≤ tt, lit≤ tt)

-- what a run of writing leaves ascends
left_ascend : (m : NodeMetadata) → FilesAscend 12 14 (left_over m)
unfolding FilesAscend
left_ascend (Group (group_v3 g)) = (lit≤ tt, lit≤ tt)
left_ascend (Group (group_v2 g)) = (lit≤ tt, lit≤ tt)
left_ascend (Array a) = lit≤ tt

-- what is told of the documents that are not read
pub beside_part : (s : Contents) (p : Path) (m : NodeMetadata) → IsPart 7 12 (IsBesideFinding s p m) (file_findings s p (Some (main_document m)) (passed_over m))
beside_part s p m = files_part s p (Some (main_document m)) 7 12 (passed_over m) (passed_ascend m)

-- what is told of what a run of writing left
pub left_part : (s : Contents) (p : Path) (m : NodeMetadata) → IsPart 12 14 (IsLeftOverFinding s p m) (file_findings s p None (left_over m))
left_part s p m = files_part s p None 12 14 (left_over m) (left_ascend m)
