-- What stands at the keys of a small store, and what a path means in it, by look-ups among the members.
use Rattle.std.proofs.Common.{◌≡◌, ℕ, Bool, true, false, true≢false, cond, if◌then◌else◌, List, [], ◌∷◌, ◌++◌, map, Option, Some, None, Result, Ok, Err, Ordering, Less, Equal, Greater, is_eq, IsTrue, refl, sym, ap, append_assoc, ◌∙◌}
use Rattle.std.specs.FinMap.{get, find, get-from_entries}
use Rattle.std.specs.Ordering.{match_ordering, ordering_then}
use Rattle.std.specs.Result.{result_ok}
use Rattle.std.specs.Str.{bytes_eq}
use Rattle.std.proofs.lemmas.Bool.{false_from_ne_true}
use Rattle.std.proofs.lemmas.Cmp.{tied_itself, nat_list_cmp_total}
use Rattle.std.proofs.lemmas.Map.Text.{is_eq-slice_cmp}
use Rattle.std.proofs.lemmas.Slice.Eq.{bytes_eq-Decides}
use Rattle.std.proofs.lemmas.List.Splits.{join_with_byte-slice_split}
use Rattle.serde_json.specs.Data.{Data, Members, no_members, member}
use Rattle.serde_json.specs.Find.{get_member}
use Rattle.zarrs_store.specs.Segments.{Segments, bytes_cmp, key_cmp, key_text, has_no_slash, last_segment}
use Rattle.zarrs_fault.specs.declared.fault.MetadataFault.{MetadataFault}
use Rattle.zarrs_fault.specs.declared.numbers.Numbers.{Numbers}
use Rattle.zarrs_store.proofs.ChildLemmas.{key_cmp_total, key_cmp-IsAntisymmetric, last_segment-child}
use Rattle.zarrs_store.proofs.Cuts.{parts-append, parts_one}
use Rattle.zarrs_path.specs.Paths.{Path}
use Rattle.zarrs_path.specs.Keys.{zarray, zgroup, zattrs}
use Rattle.zarrs_form.specs.Documents as steps
use Rattle.zarrs_meta.specs.ArrayV2.{array_v2_in}
use Rattle.zarrs_meta.specs.GroupV2.{group_v2_in}
use Rattle.zarrs_meta.specs.Attributes.{attributes_document_in}
use Rattle.zarrs_meta.specs.Node.{array_with, group_with}
use Rattle.zarrs_meta.specs.declared.attributes.AttributesDocument.{AttributesDocument}
use Rattle.zarrs_meta.specs.declared.node.ArrayMetadata.TheVariants.{V2 as array_v2}
use Rattle.zarrs_meta.specs.declared.node.GroupMetadata.TheVariants.{V2 as group_v2}
use Rattle.zarrs_meta.specs.declared.node.NodeMetadata.{NodeMetadata}
use Rattle.zarrs_meta.specs.declared.node.NodeMetadata.TheVariants.{Group, Array}
use Rattle.zarrs_meaning.specs.DocumentsAtKeys.{document_or_fault, document_from, document_at}
use Rattle.zarrs_meaning.specs.Meaning.{Meaning, node, nothing, bad, version_2_line, zarray_line, zgroup_line, meaning_in}
use Rattle.zarrs_meaning.specs.Small.{SmallStore, small_meaning_in, is_document_v2, counted_members, small}
use Rattle.zarrs_store.specs.Segments.{stretches}
use Rattle.zarrs_block.specs.Zmetadata.{before_last}
use Rattle.zarrs_block.specs.StepsOfZmetadata.{read_with, read_documents, read_files, member_at}

-- ---- segments

-- without the segment behind them, some segments are themselves
pub before_last-child : (p : Segments) (f : List ℕ) → before_last (p ++ f ∷ []) ≡ p
before_last-child [] f = refl
before_last-child (s ∷ []) f = refl
before_last-child (s ∷ t ∷ ss) f = ap (λ p. s ∷ p) (before_last-child (t ∷ ss) f)

-- what is equal ties
tied : (o : Ordering) → is_eq o ≡ true → o ≡ Equal
tied Less e = absurd (true≢false (sym e))
tied Equal e = refl
tied Greater e = absurd (true≢false (sym e))

-- keys that tie are one
pub same_key : (j k : Segments) → is_eq (key_cmp j k) ≡ true → j ≡ k
same_key j k e = key_cmp-IsAntisymmetric j k (tied (key_cmp j k) e)

-- a key ties with itself
pub own_key : (k : Segments) → is_eq (key_cmp k k) ≡ true
own_key k = ap is_eq (tied_itself key_cmp_total k)

-- keys behind the same segments are in their own order
pub key_cmp-append : (b j k : Segments) → key_cmp (b ++ j) (b ++ k) ≡ key_cmp j k
key_cmp-append [] j k = refl
key_cmp-append (s ∷ b) j k = ap (λ r. ordering_then r (key_cmp (b ++ j) (b ++ k))) (tied_itself nat_list_cmp_total s) ∙ key_cmp-append b j k

-- ---- what stands at the keys of a small store

module _ (b k : Segments) where
  -- behind the base, documents are found as they are without it
  find_based : (es : List (Segments × Data)) → find key_cmp (b ++ k) (map (λ e. (b ++ e.0, e.1)) es) ≡ find key_cmp k es
  find_based [] = refl
  find_based (e ∷ es) =
      ap (λ o. cond (is_eq o) (Some e.1) (find key_cmp (b ++ k) (map (λ x. (b ++ x.0, x.1)) es))) (key_cmp-append b k e.0)
      ∙ ap (λ o. cond (is_eq (key_cmp k e.0)) (Some e.1) o) (find_based es)

  -- at a key behind the base stands what is found among the documents that count
  pub get_based : (ms : Members) → get (small b ms) (b ++ k) ≡ find key_cmp k (counted_members ms)
  get_based ms = get-from_entries key_cmp_total (map (λ e. (b ++ e.0, e.1)) (counted_members ms)) (b ++ k) ∙ find_based (counted_members ms)

-- another name is passed over
passed : (o : Ordering) (a b : Option Data) → is_eq o ≡ false → match_ordering o a b a ≡ a
passed Less a b e = refl
passed Equal a b e = absurd (true≢false e)
passed Greater a b e = refl

module _ (t f : List ℕ) (clean : IsTrue (has_no_slash f)) where
  -- a text with a slash and a name behind it has one part more
  pub parts_child : stretches (t ++ 47 ∷ f) ≡ stretches t ++ f ∷ []
  parts_child = parts-append t f ∙ ap (λ ps. stretches t ++ ps) (parts_one f clean)

  module _ (document : is_document_v2 f ≡ true) where
    -- what is found among the documents that count is the member of that name
    pub find_counted : (ms : Members) → find key_cmp (stretches t ++ f ∷ []) (counted_members ms) ≡ get_member (t ++ 47 ∷ f) ms
    find_counted no_members = refl
    find_counted (member u d ms) = by (bytes_eq (t ++ 47 ∷ f) u) refl (is_document_v2 (last_segment (stretches u))) refl (find_counted ms)
      where
        -- the name that is looked for is this one
        here : t ++ 47 ∷ f ≡ u → stretches t ++ f ∷ [] ≡ stretches u
        here same = sym parts_child ∙ ap stretches same

        -- where it is another its parts are others
        apart : bytes_eq (t ++ 47 ∷ f) u ≡ false → is_eq (key_cmp (stretches t ++ f ∷ []) (stretches u)) ≡ false
        apart other = false_from_ne_true (is_eq (key_cmp (stretches t ++ f ∷ []) (stretches u))) (λ at.
            let same : t ++ 47 ∷ f ≡ u = sym (join_with_byte-slice_split 47 (t ++ 47 ∷ f)) ∙ ap key_text (parts_child ∙ same_key (stretches t ++ f ∷ []) (stretches u) at) ∙ join_with_byte-slice_split 47 u in
            true≢false (sym ((bytes_eq-Decides (t ++ 47 ∷ f) u).1 same) ∙ other))

        -- and then the others are looked through
        skipped : bytes_eq (t ++ 47 ∷ f) u ≡ false → get_member (t ++ 47 ∷ f) ms ≡ get_member (t ++ 47 ∷ f) (member u d ms)
        skipped other = sym (passed (bytes_cmp (t ++ 47 ∷ f) u) (get_member (t ++ 47 ∷ f) ms) (Some d) (is_eq-slice_cmp (t ++ 47 ∷ f) u ∙ other))

        by : (x : Bool) → bytes_eq (t ++ 47 ∷ f) u ≡ x → (y : Bool) → is_document_v2 (last_segment (stretches u)) ≡ y → find key_cmp (stretches t ++ f ∷ []) (counted_members ms) ≡ get_member (t ++ 47 ∷ f) ms
            → find key_cmp (stretches t ++ f ∷ []) (if y then (stretches u, d) ∷ counted_members ms else counted_members ms) ≡ get_member (t ++ 47 ∷ f) (member u d ms)
        by true at true counts again =
            let same : t ++ 47 ∷ f ≡ u = (bytes_eq-Decides (t ++ 47 ∷ f) u).0 at in
            ap (λ j. cond (is_eq (key_cmp (stretches t ++ f ∷ []) j)) (Some d) (find key_cmp (stretches t ++ f ∷ []) (counted_members ms))) (sym (here same))
            ∙ ap (λ x. cond x (Some d) (find key_cmp (stretches t ++ f ∷ []) (counted_members ms))) (own_key (stretches t ++ f ∷ []))
            ∙ sym (ap (λ o. match_ordering o (get_member (t ++ 47 ∷ f) ms) (Some d) (get_member (t ++ 47 ∷ f) ms)) (ap (bytes_cmp (t ++ 47 ∷ f)) (sym same) ∙ tied_itself nat_list_cmp_total (t ++ 47 ∷ f)))
        by true at false fails again =
            let same : t ++ 47 ∷ f ≡ u = (bytes_eq-Decides (t ++ 47 ∷ f) u).0 at in
            absurd (true≢false (sym document ∙ ap is_document_v2 (sym (last_segment-child (stretches t) f)) ∙ ap (λ ss. is_document_v2 (last_segment ss)) (here same) ∙ fails))
        by false other true counts again = ap (λ x. cond x (Some d) (find key_cmp (stretches t ++ f ∷ []) (counted_members ms))) (apart other) ∙ again ∙ skipped other
        by false other false fails again = again ∙ skipped other

-- ---- what a path means

-- what a path means, but for why it is bad
abbrev pub as_read : Meaning → Option (Option NodeMetadata)
as_read (node m) = Some (Some m)
as_read nothing = Some None
as_read (bad e) = None

module _ {D : Type 0} (numbers : Numbers) (document : Numbers → Data → Result D MetadataFault) (kind : D → NodeMetadata) (with' : AttributesDocument → D → D) (k j : Segments) (after : Meaning) where
  -- without attributes beside it
  bare_line : (r : Result D MetadataFault) → as_read (version_2_line kind with' (document_or_fault k r) (Ok None) after) ≡ result_ok (steps.◌>>=◌ (steps.◌>>=◌ r λ m. Ok (kind m)) λ m. Ok (Some m))
  bare_line (Ok m) = refl
  bare_line (Err e) = refl

  -- with attributes beside it
  full_line : (r : Result D MetadataFault) (q : Result AttributesDocument MetadataFault)
      → as_read (version_2_line kind with' (document_or_fault k r) (document_or_fault j q) after) ≡ result_ok (steps.◌>>=◌ (steps.◌>>=◌ r λ m. steps.◌>>=◌ q λ x. Ok (kind (with' x m))) λ m. Ok (Some m))
  full_line (Ok m) (Ok x) = refl
  full_line (Ok m) (Err e) = refl
  full_line (Err e) (Ok x) = refl
  full_line (Err e) (Err f) = refl

  -- a document that is there says what it reads as, with the attributes beside it
  line_read : (d : Data) (o : Option Data) → as_read (version_2_line kind with' (document_from (document numbers) k (Some d)) (document_from (attributes_document_in numbers) j o) after)
      ≡ result_ok (steps.◌>>=◌ (read_with numbers document kind with' d o) λ m. Ok (Some m))
  line_read d None = bare_line (document numbers d)
  line_read d (Some a) = full_line (document numbers d) (attributes_document_in numbers a)

module _ (numbers : Numbers) (z : SmallStore) (p : Path) where
  -- `.zarray` and `.zgroup`, with `.zattrs` beside them
  both_lines : (a g t : Option Data)
      → as_read (version_2_line (λ m. Array (array_v2 m)) array_with (document_from (array_v2_in numbers) (p ++ zarray ∷ []) a) (document_from (attributes_document_in numbers) (p ++ zattrs ∷ []) t)
      (version_2_line (λ m. Group (group_v2 m)) group_with (document_from (group_v2_in numbers) (p ++ zgroup ∷ []) g) (document_from (attributes_document_in numbers) (p ++ zattrs ∷ []) t) nothing))
      ≡ result_ok (read_documents numbers a g t)
  both_lines (Some d) g t =
      line_read numbers array_v2_in (λ m. Array (array_v2 m)) array_with (p ++ zarray ∷ []) (p ++ zattrs ∷ [])
      (version_2_line (λ m. Group (group_v2 m)) group_with (document_from (group_v2_in numbers) (p ++ zgroup ∷ []) g) (document_from (attributes_document_in numbers) (p ++ zattrs ∷ []) t) nothing) d t
  both_lines None (Some d) t = line_read numbers group_v2_in (λ m. Group (group_v2 m)) group_with (p ++ zgroup ∷ []) (p ++ zattrs ∷ []) nothing d t
  both_lines None None t = refl

  -- a path means what the documents at its keys are read as
  pub small_read : as_read (small_meaning_in numbers z p) ≡ result_ok (read_documents numbers (get z (p ++ zarray ∷ [])) (get z (p ++ zgroup ∷ [])) (get z (p ++ zattrs ∷ [])))
  unfolding meaning_in zarray_line zgroup_line document_at
  small_read = both_lines (get z (p ++ zarray ∷ [])) (get z (p ++ zgroup ∷ [])) (get z (p ++ zattrs ∷ []))

-- what the documents of a path among those that count are read as
abbrev pub looked_up : Numbers → Members → Path → Result (Option NodeMetadata) MetadataFault
looked_up numbers ms q = read_documents numbers (find key_cmp (q ++ zarray ∷ []) (counted_members ms)) (find key_cmp (q ++ zgroup ∷ []) (counted_members ms)) (find key_cmp (q ++ zattrs ∷ []) (counted_members ms))

-- behind any base a path means what its documents are read as
pub based_read : (numbers : Numbers) (b q : Path) (ms : Members) → as_read (small_meaning_in numbers (small b ms) (b ++ q)) ≡ result_ok (looked_up numbers ms q)
based_read numbers b q ms = small_read numbers (small b ms) (b ++ q) ∙ (λ i. result_ok (read_documents numbers (at zarray i) (at zgroup i) (at zattrs i)))
  where
    at : (f : List ℕ) → get (small b ms) ((b ++ q) ++ f ∷ []) ≡ find key_cmp (q ++ f ∷ []) (counted_members ms)
    at f = ap (get (small b ms)) (append_assoc b q (f ∷ [])) ∙ get_based b (q ++ f ∷ []) ms

-- the parts of a text mean what the members have for it
pub text_read : (numbers : Numbers) (t : List ℕ) (ms : Members) → as_read (small_meaning_in numbers (small [] ms) (stretches t)) ≡ result_ok (read_files numbers (member_at ms t))
text_read numbers t ms = based_read numbers [] (stretches t) ms ∙ (λ i. result_ok (read_documents numbers (find_counted t zarray refl refl ms i) (find_counted t zgroup refl refl ms i) (find_counted t zattrs refl refl ms i)))
