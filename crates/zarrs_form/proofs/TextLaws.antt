-- What holds of the pieces of a text.
use Rattle.std.proofs.Common.{◌≡◌, ◌==◌, ℕ, List, [], ◌∷◌, ◌++◌, Bool, true, false, ◌||◌, ◌&&◌, true≢false, option_map, nat_lt, Option, Some, None, codes, Result, Ok, Err, is_ok, OnOk, if◌then◌else◌, arith, refl, ap, sym, ◌∙◌}
use Rattle.std.proofs.lemmas.Bool.{or_parts}
use Rattle.std.proofs.lemmas.Bool.Decides.{nat_tests}
use Rattle.std.specs.List.{list_any}
use Rattle.json.specs.Print.{escape, escape_byte, quoted}
use Rattle.serde_json.specs.Data.{Data, Members, no_members, member, string, boolean}
use Rattle.zarrs_form.specs.Documents.{is_empty}
use Rattle.zarrs_form.specs.Forms.{number_data, put_rows, unless}
use Rattle.zarrs_form.specs.StepsOfTexts.{has_escape}

-- a byte with no escape stands as itself
escape_byte_bare : (x : ℕ) → (x == 34) ≡ false → (x == 92) ≡ false → (x == 8) ≡ false → (x == 12) ≡ false → (x == 10) ≡ false → (x == 13) ≡ false → (x == 9) ≡ false → nat_lt x 32 ≡ false
    → escape_byte x ≡ x ∷ []
unfolding escape_byte
escape_byte_bare x a b c d e f g h = rw (a, b, c, d, e, f, g, h) refl

-- a number that is not below 32 is none below 32
above : (x n : ℕ) → nat_lt x 32 ≡ false → nat_lt n 32 ≡ true → (x == n) ≡ false
above x n h k = grind (arith, nat_tests)

-- a text whose bytes have no escape stands as it is
pub escape_bare : (s : List ℕ) → list_any has_escape s ≡ false → escape s ≡ s
escape_bare [] h = refl
escape_bare (x ∷ xs) h =
    let p = or_parts (has_escape x) (list_any has_escape xs) h in
    let q = or_parts (nat_lt x 32) ((x == 34) || (x == 92)) p.0 in
    let r = or_parts (x == 34) (x == 92) q.1 in
    rw (escape_byte_bare x r.0 r.1 (above x 8 q.0 refl) (above x 12 q.0 refl) (above x 10 q.0 refl) (above x 13 q.0 refl) (above x 9 q.0 refl) q.0, escape_bare xs p.1) refl

-- a text whose bytes have no escape stands between quotes as it is
pub quoted_bare : (s : List ℕ) → list_any has_escape s ≡ false → quoted s ≡ 34 ∷ (s ++ 34 ∷ [])
quoted_bare s h = ap (λ t. 34 ∷ (t ++ 34 ∷ [])) (escape_bare s h)

-- where a push went well, the piece stands at the end
pub on_ok_pushed : {A E : Type 0} (r : Result A E) (new old piece all : List ℕ) → new ≡ (if is_ok r then old ++ piece else old) → old ++ piece ≡ all → OnOk r (new ≡ all)
on_ok_pushed (Ok x) new old piece all e h = e ∙ h
on_ok_pushed (Err x) new old piece all e h = tt

-- ---- rows in the order of their names, before the last member

-- the member that a row is, before others, where it is one
abbrev pub row_before : List ℕ → Option Data → Members → Members
row_before name None ms = ms
row_before name (Some d) ms = member name d ms

-- the members that all rows are, before others
abbrev pub rows_before : List (List ℕ × Option Data) → Members → Members
rows_before [] ms = ms
rows_before (r ∷ rows) ms = row_before r.0 r.1 (rows_before rows ms)

-- ---- the tables, row by row in the order of the names

-- an extension's rows
pub extension_rows : (name : Data) (configuration must_understand : Option Data)
    → put_rows ((codes "name", Some name) ∷ (codes "configuration", configuration) ∷ (codes "must_understand", must_understand) ∷ []) no_members
    ≡ rows_before ((codes "configuration", configuration) ∷ (codes "must_understand", must_understand) ∷ []) (member (codes "name") name no_members)
extension_rows name None None = refl
extension_rows name None (Some m) = refl
extension_rows name (Some c) None = refl
extension_rows name (Some c) (Some m) = refl

-- a version 3 array's rows
module _ (shape data_type chunk_grid chunk_key_encoding fill_value codecs : Data) where
  -- its rows in the order of their names, but for the format
  abbrev pub array_v3_table : Option Data → Option Data → Option Data → List (List ℕ × Option Data)
  array_v3_table attributes transformers names =
      (codes "attributes", attributes) ∷ (codes "chunk_grid", Some chunk_grid) ∷ (codes "chunk_key_encoding", Some chunk_key_encoding) ∷ (codes "codecs", Some codecs)
      ∷ (codes "data_type", Some data_type) ∷ (codes "dimension_names", names) ∷ (codes "fill_value", Some fill_value) ∷ (codes "node_type", Some (string (codes "array")))
      ∷ (codes "shape", Some shape) ∷ (codes "storage_transformers", transformers) ∷ []

  -- the members that its rows put
  abbrev array_v3_put : Option Data → Option Data → Option Data → Members
  array_v3_put attributes transformers names =
      put_rows ((codes "zarr_format", Some (number_data 3)) ∷ (codes "node_type", Some (string (codes "array"))) ∷ (codes "shape", Some shape)
      ∷ (codes "data_type", Some data_type) ∷ (codes "chunk_grid", Some chunk_grid) ∷ (codes "chunk_key_encoding", Some chunk_key_encoding)
      ∷ (codes "fill_value", Some fill_value) ∷ (codes "codecs", Some codecs) ∷ (codes "attributes", attributes) ∷ (codes "storage_transformers", transformers)
      ∷ (codes "dimension_names", names) ∷ []) no_members

  -- these members are the rows in the order of their names, and then the format
  pub array_v3_sorted : (attributes transformers names : Option Data)
      → array_v3_put attributes transformers names ≡ rows_before (array_v3_table attributes transformers names) (member (codes "zarr_format") (number_data 3) no_members)
  array_v3_sorted None None None = refl
  array_v3_sorted None None (Some n) = refl
  array_v3_sorted None (Some t) None = refl
  array_v3_sorted None (Some t) (Some n) = refl
  array_v3_sorted (Some a) None None = refl
  array_v3_sorted (Some a) None (Some n) = refl
  array_v3_sorted (Some a) (Some t) None = refl
  array_v3_sorted (Some a) (Some t) (Some n) = refl

-- a version 2 array's rows
module _ (shape chunks dtype fill_value order compressor filters separator : Data) where
  -- its rows in the order of their names, but for the format
  abbrev pub array_v2_table : Option Data → List (List ℕ × Option Data)
  array_v2_table attributes =
      (codes "attributes", attributes) ∷ (codes "chunks", Some chunks) ∷ (codes "compressor", Some compressor) ∷ (codes "dimension_separator", Some separator)
      ∷ (codes "dtype", Some dtype) ∷ (codes "fill_value", Some fill_value) ∷ (codes "filters", Some filters) ∷ (codes "order", Some order) ∷ (codes "shape", Some shape) ∷ []

  -- the members that its rows put
  abbrev array_v2_put : Option Data → Members
  array_v2_put attributes =
      put_rows ((codes "zarr_format", Some (number_data 2)) ∷ (codes "shape", Some shape) ∷ (codes "chunks", Some chunks) ∷ (codes "dtype", Some dtype)
      ∷ (codes "fill_value", Some fill_value) ∷ (codes "order", Some order) ∷ (codes "compressor", Some compressor) ∷ (codes "filters", Some filters)
      ∷ (codes "dimension_separator", Some separator) ∷ (codes "attributes", attributes) ∷ []) no_members

  -- these members are the rows in the order of their names, and then the format
  pub array_v2_sorted : (attributes : Option Data) → array_v2_put attributes ≡ rows_before (array_v2_table attributes) (member (codes "zarr_format") (number_data 2) no_members)
  array_v2_sorted None = refl
  array_v2_sorted (Some a) = refl

-- a version 3 group's rows
pub group_v3_sorted : (attributes : Option Data)
    → put_rows ((codes "zarr_format", Some (number_data 3)) ∷ (codes "node_type", Some (string (codes "group"))) ∷ (codes "attributes", attributes) ∷ []) no_members
    ≡ rows_before ((codes "attributes", attributes) ∷ (codes "node_type", Some (string (codes "group"))) ∷ []) (member (codes "zarr_format") (number_data 3) no_members)
group_v3_sorted None = refl
group_v3_sorted (Some a) = refl

-- a version 2 group's rows
pub group_v2_sorted : (attributes : Option Data)
    → put_rows ((codes "zarr_format", Some (number_data 2)) ∷ (codes "attributes", attributes) ∷ []) no_members
    ≡ rows_before ((codes "attributes", attributes) ∷ []) (member (codes "zarr_format") (number_data 2) no_members)
group_v2_sorted None = refl
group_v2_sorted (Some a) = refl

-- what is written of a truth value that is not the usual one
pub refusal_written : (b : Bool) → option_map boolean (unless b false) ≡ unless b (boolean false)
refusal_written true = refl
refusal_written false = refl

-- `&&` is false where its second test is
pub and_false : (a b : Bool) → b ≡ false → (a && b) ≡ false
and_false true b e = e
and_false false b e = refl

-- members of which there is none
pub none_there : (ms : Members) → is_empty ms ≡ true → no_members ≡ ms
none_there no_members e = refl
none_there (member k d ms) e = absurd (true≢false (sym e))
