-- Zarr core specification 3.1, "Metadata documents" and "Extension points": what holds of all that there is to tell
-- of a node.
-- <https://zarr-specs.readthedocs.io/en/latest/v3/core/index.html#metadata>
-- <https://zarr-specs.readthedocs.io/en/latest/v3/core/index.html#extension-points>
use Rattle.std.specs.Prelude.{◌≡◌, ◌↔◌, ℕ, List, [], ◌∷◌, ◌++◌, Some, Contains, false}
use Rattle.std.specs.FinMap.{get}
use Rattle.serde_json.specs.Data.{Data}
use Rattle.serde_json.specs.Find.{get_member}
use Rattle.zarrs_store.specs.Contents.{Contents}
use Rattle.zarrs_path.specs.Paths.{Path}
use Rattle.zarrs_form.specs.Fields.{must_understand}
use Rattle.zarrs_meta.specs.declared.node.NodeMetadata.{NodeMetadata}
use Rattle.zarrs_notes.specs.BesideDocuments.{name_of_file, looked_at}
use Rattle.zarrs_notes.specs.Demands.{fields_of, field_finding}
use Rattle.zarrs_notes.specs.NodeFindings.{IsNodeFinding, AreNodeFindings}
use Rattle.zarrs_notes.specs.declared.file.NodeFile.{NodeFile}
use Rattle.zarrs_notes.specs.declared.finding.NodeFinding.{NodeFinding}

-- both stores have the same at each of the documents of p that are looked at
abbrev pub HaveSameFiles : Contents → Contents → Path → NodeMetadata → Type 0
HaveSameFiles s t p m =
    (file : NodeFile) → Contains (looked_at m) file
    → get s.values (p ++ name_of_file file ∷ []) ≡ get t.values (p ++ name_of_file file ∷ [])

-- Of two stores that have the same at the documents of a node that are looked at, there is the same to tell of it.
abbrev pub SameFilesTellSame : Type 0
SameFilesTellSame =
    (m : NodeMetadata) (s t : Contents) (p : Path) → HaveSameFiles s t p m
    → ((f : NodeFinding) → IsNodeFinding s p m f ↔ IsNodeFinding t p m f)
    × ((found : List NodeFinding) → AreNodeFindings s p m found → AreNodeFindings t p m found)

-- Where no field of a group is told, none of its additional fields must be understood.
abbrev pub UntoldIsUnderstood : Type 0
UntoldIsUnderstood =
    (s : Contents) (p : Path) (m : NodeMetadata) (found : List NodeFinding) → AreNodeFindings s p m found
    → ((name : List ℕ) → Contains found (field_finding p name) → ⊥)
    → (name : List ℕ) (d : Data) → get_member name (fields_of m) ≡ Some d → must_understand d ≡ false
