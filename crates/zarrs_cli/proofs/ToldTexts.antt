-- What the documents of one node tell has different remarks.
use Rattle.std.proofs.Common.{◌≡◌, ◌+◌, ◌-◌, ℕ, cond, List, [], ◌++◌, length, take, drop, refl, sym, ap, ◌∙◌, arith, codes, bytes_eq, length-append}
use Rattle.std.proofs.Math.Seq.{take-append_seam}
use Rattle.zarrs_notes.specs.Demands.{block_name}
use Rattle.zarrs_notes.specs.FindingTexts.{node_finding_text}
use Rattle.zarrs_notes.specs.NodeFindings.{place_of, field_of}
use Rattle.zarrs_notes.specs.declared.file.NodeFile.TheVariants.{ZarrJson, Zarray, Zgroup, Zattrs, Zmetadata, NewZarrJson, NewZmetadata}
use Rattle.zarrs_notes.specs.declared.finding.NodeFinding.{NodeFinding}
use Rattle.zarrs_notes.specs.declared.finding.NodeFinding.TheVariants.{NoLengths, GridRank, ZeroLength, NameCount, FillValue, NoCodecs, UnknownField, DemandingBlock, MisplacedBlock, Beside, LeftOver}

-- the place of the document whose name a text begins with, and a blank behind it
file_in : List ℕ → ℕ
file_in t =
    cond (bytes_eq (take 10 t) (codes "zarr.json ")) 7
    (cond (bytes_eq (take 8 t) (codes ".zarray ")) 8
    (cond (bytes_eq (take 8 t) (codes ".zgroup ")) 9
    (cond (bytes_eq (take 8 t) (codes ".zattrs ")) 10
    (cond (bytes_eq (take 11 t) (codes ".zmetadata ")) 11 (cond (bytes_eq (take 10 t) (codes "zarr.json.")) 12 13)))))

-- the place that a text tells
place_in : List ℕ → ℕ
place_in t =
    cond (bytes_eq (take 15 t) (codes "bad shape: a re")) 0
    (cond (bytes_eq (take 15 t) (codes "bad shape: the ")) 0
    (cond (bytes_eq (take 15 t) (codes "bad shape: a ch")) 1
    (cond (bytes_eq (take 15 t) (codes "bad shape: ther")) 2
    (cond (bytes_eq (take 8 t) (codes "bad fill")) 3
    (cond (bytes_eq (take 8 t) (codes "bad code")) 4
    (cond (bytes_eq (take 10 t) (codes "not opened")) 5
    (cond (bytes_eq (take 9 t) (codes "misplaced")) 6 (cond (bytes_eq (take 6 t) (codes "beside")) (file_in (drop 8 t)) (file_in (drop 11 t))))))))))

-- is that of what has the text
place_back : (f : NodeFinding) → place_in (node_finding_text f) ≡ place_of f
unfolding place_in file_in
place_back NoLengths = refl
place_back (GridRank lengths shape) = refl
place_back ZeroLength = refl
place_back (NameCount names shape) = refl
place_back (FillValue data_type) = refl
place_back NoCodecs = refl
place_back (UnknownField name) = refl
place_back (DemandingBlock group) = refl
place_back MisplacedBlock = refl
place_back (Beside ZarrJson document) = refl
place_back (Beside Zarray document) = refl
place_back (Beside Zgroup document) = refl
place_back (Beside Zattrs document) = refl
place_back (Beside Zmetadata document) = refl
place_back (Beside NewZarrJson document) = refl
place_back (Beside NewZmetadata document) = refl
place_back (LeftOver ZarrJson) = refl
place_back (LeftOver Zarray) = refl
place_back (LeftOver Zgroup) = refl
place_back (LeftOver Zattrs) = refl
place_back (LeftOver Zmetadata) = refl
place_back (LeftOver NewZarrJson) = refl
place_back (LeftOver NewZmetadata) = refl

-- the field that a text tells
field_in : List ℕ → List ℕ
field_in t = cond (bytes_eq (take 17 t) (codes "not opened: the f")) (take (length (drop 22 t) - 19) (drop 22 t)) (cond (bytes_eq (take 17 t) (codes "not opened: the b")) block_name [])

-- is that of what has the text
field_back : (f : NodeFinding) → field_in (node_finding_text f) ≡ field_of f
unfolding field_in
field_back NoLengths = refl
field_back (GridRank lengths shape) = refl
field_back ZeroLength = refl
field_back (NameCount names shape) = refl
field_back (FillValue data_type) = refl
field_back NoCodecs = refl
field_back (UnknownField name) =
    let rest : List ℕ = codes " must be understood" in
    let more : length (name ++ rest) ≡ length name + 19 = length-append name rest in
    let count : length (name ++ rest) - 19 ≡ length name = omega (arith, more) in
    ap (λ n. take n (name ++ rest)) count ∙ take-append_seam name rest
field_back (DemandingBlock group) = refl
field_back MisplacedBlock = refl
field_back (Beside ZarrJson document) = refl
field_back (Beside Zarray document) = refl
field_back (Beside Zgroup document) = refl
field_back (Beside Zattrs document) = refl
field_back (Beside Zmetadata document) = refl
field_back (Beside NewZarrJson document) = refl
field_back (Beside NewZmetadata document) = refl
field_back (LeftOver ZarrJson) = refl
field_back (LeftOver Zarray) = refl
field_back (LeftOver Zgroup) = refl
field_back (LeftOver Zattrs) = refl
field_back (LeftOver Zmetadata) = refl
field_back (LeftOver NewZarrJson) = refl
field_back (LeftOver NewZmetadata) = refl

-- what has one text has one place
pub places_same : (f h : NodeFinding) → node_finding_text f ≡ node_finding_text h → place_of f ≡ place_of h
places_same f h same = sym (place_back f) ∙ (ap place_in same ∙ place_back h)

-- and is of one field
pub fields_same : (f h : NodeFinding) → node_finding_text f ≡ node_finding_text h → field_of f ≡ field_of h
fields_same f h same = sym (field_back f) ∙ (ap field_in same ∙ field_back h)
