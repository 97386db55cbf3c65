-- What is taken out of a document member by member is what the document means.
use Rattle.std.proofs.Common.{◌≡◌, ℕ, List, [], ◌∷◌, ◌++◌, Bool, true, false, if◌then◌else◌, codes, take, Ok, refl}
use Rattle.serde_json.specs.Data.{object, Members}
use Rattle.serde_json.specs.Find.{get_member}
use Rattle.zarrs_form.specs.Documents.{document_in, format_of, node_type_of, no_member, is_own, is_null, besides}
use Rattle.zarrs_meta.specs.GroupV3.{group_v3_in}
use Rattle.zarrs_meta.specs.GroupV2.{group_v2_names, group_v2_in}
use Rattle.zarrs_meta.specs.ArrayV2.{array_v2_names, array_v2_in}
use Rattle.zarrs_meta.specs.ArrayV3.{array_v3_in}
use Rattle.zarrs_meta.specs.StepsOfReading.{node_names, group_v3_taken, group_v2_taken, array_v3_taken, array_v2_taken}
use Rattle.zarrs_form.proofs.LeftLaws.{left, get_left, left_besides, besides_both}
use Rattle.zarrs_fault.specs.declared.numbers.Numbers.{Numbers}

-- ---- the arrays

-- the members of the table of a version 3 array
abbrev array_v3_table : List (List ℕ)
array_v3_table =
    codes "shape" ∷ codes "data_type" ∷ codes "chunk_grid" ∷ codes "chunk_key_encoding" ∷ codes "fill_value" ∷ codes "codecs" ∷ codes "attributes"
    ∷ codes "storage_transformers" ∷ codes "dimension_names" ∷ []

-- what is taken out of the members is what the document means
pub array_v3_taken_is : (numbers : Numbers) (ms : Members) → document_in numbers (object ms) ≡ Ok ms → format_of 3 (object ms) ≡ Ok tt
    → node_type_of (codes "array") (object ms) ≡ Ok tt → array_v3_in numbers (object ms) ≡ array_v3_taken ms
unfolding array_v3_in array_v3_taken
array_v3_taken_is numbers ms is_document is_3 is_array =
    let at = λ (n : ℕ) (name : List ℕ) (other : is_own (take n array_v3_table) name ≡ false). get_left (take n array_v3_table) name ms other in
    rw (
      is_document,
      is_3,
      is_array,
      at 1 (codes "data_type") refl,
      at 2 (codes "chunk_grid") refl,
      at 3 (codes "chunk_key_encoding") refl,
      at 4 (codes "fill_value") refl,
      at 5 (codes "codecs") refl,
      at 6 (codes "attributes") refl,
      at 7 (codes "storage_transformers") refl,
      at 8 (codes "dimension_names") refl,
      left_besides array_v3_table ms,
      besides_both node_names array_v3_table ms,
    ) refl

-- what is taken out of the members beside `zarr_format` is what the document means
pub array_v2_taken_is : (numbers : Numbers) (ms : Members) → document_in numbers (object ms) ≡ Ok ms → format_of 2 (object ms) ≡ Ok tt
    → array_v2_in numbers (object ms) ≡ array_v2_taken (besides (codes "zarr_format" ∷ []) ms)
unfolding array_v2_in array_v2_taken
array_v2_taken_is numbers ms is_document is_2 =
    let at = λ (n : ℕ) (name : List ℕ) (other : is_own (take n array_v2_names) name ≡ false). get_left (take n array_v2_names) name ms other in
    rw (
      is_document,
      is_2,
      at 1 (codes "shape") refl,
      at 2 (codes "chunks") refl,
      at 3 (codes "dtype") refl,
      at 4 (codes "fill_value") refl,
      at 5 (codes "order") refl,
      at 6 (codes "compressor") refl,
      at 7 (codes "filters") refl,
      at 8 (codes "dimension_separator") refl,
      at 9 (codes "attributes") refl,
      left_besides array_v2_names ms,
    ) refl

-- ---- the groups

-- the members besides what a version 3 group takes and what it asks, where a `consolidated_metadata` is null and where not
read_besides : (is_absent : Bool) (ms : Members) → let taken = codes "attributes" ∷ [] in let absent = codes "attributes" ∷ codes "consolidated_metadata" ∷ [] in
    besides (if is_absent then node_names ++ absent else node_names ++ taken) ms ≡ besides node_names (if is_absent then left absent ms else left taken ms)
read_besides true ms = let absent = codes "attributes" ∷ codes "consolidated_metadata" ∷ [] in rw (left_besides absent ms, besides_both node_names absent ms) refl
read_besides false ms = let taken = codes "attributes" ∷ [] in rw (left_besides taken ms, besides_both node_names taken ms) refl

-- what is taken out of the members is what the document means
pub group_v3_taken_is : (numbers : Numbers) (ms : Members) → document_in numbers (object ms) ≡ Ok ms → format_of 3 (object ms) ≡ Ok tt
    → node_type_of (codes "group") (object ms) ≡ Ok tt → group_v3_in numbers (object ms) ≡ group_v3_taken ms
unfolding group_v3_in group_v3_taken
group_v3_taken_is numbers ms is_document is_3 is_group =
    let is_absent = is_null (get_member (codes "consolidated_metadata") ms) in
    rw (is_document, is_3, is_group, get_left (codes "attributes" ∷ []) (codes "consolidated_metadata") ms refl, read_besides is_absent ms) refl

-- what is taken out of the members beside `zarr_format` and `shape` is what the document means
pub group_v2_taken_is : (numbers : Numbers) (ms : Members) → document_in numbers (object ms) ≡ Ok ms → format_of 2 (object ms) ≡ Ok tt
    → no_member (codes "shape") (object ms) ≡ Ok tt → group_v2_in numbers (object ms) ≡ group_v2_taken (besides (codes "shape" ∷ []) (besides (codes "zarr_format" ∷ []) ms))
unfolding group_v2_in group_v2_taken
group_v2_taken_is numbers ms is_document is_2 no_shape =
    rw (is_document, is_2, no_shape, get_left (take 2 group_v2_names) (codes "attributes") ms refl, left_besides group_v2_names ms) refl
