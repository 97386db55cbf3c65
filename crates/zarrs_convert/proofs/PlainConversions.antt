-- Every array that is converted of a plain array is plain.
use Rattle.std.proofs.Common.{◌≡◌, ℕ, zero, suc, List, [], ◌∷◌, ◌++◌, ◌/◌, ◌%◌, ◌==◌, Bool, true, false, not, ◌&&◌, ◌||◌, if◌then◌else◌, Option, Some, None, Result, Ok, Err, IfOk, IsTrue, map, replicate, length, reverse, codes, true≢false, refl, ap, sym, ◌∙◌, subst}
use Rattle.std.specs.Prelude.{unwrap_or}
use Rattle.std.specs.List.{list_all, range_with_len}
use Rattle.std.proofs.lemmas.List.Folds.{list_all-append}
use Rattle.serde_json.specs.Data.{Data, array, object}
use Rattle.serde_json.specs.View.{items_of}
use Rattle.serde_json.specs.Written.{has_float, items_have_float}
use Rattle.zarrs_form.specs.Documents.{has_own}
use Rattle.zarrs_form.specs.Forms.{extension_fits_in, fits, none_or, list_data, number_data}
use Rattle.zarrs_form.specs.FormsV2.{codec_fits_in, data_type_fits_in, has_zero}
use Rattle.zarrs_form.specs.declared.extension.MetadataV3.{MetadataV3}
use Rattle.zarrs_form.specs.declared.codec.MetadataV2.{MetadataV2}
use Rattle.zarrs_form.specs.declared.data_type.DataTypeMetadataV2.{DataTypeMetadataV2}
use Rattle.zarrs_form.specs.declared.data_type.DataTypeMetadataV2.TheVariants.{Simple, Structured}
use Rattle.zarrs_form.specs.declared.data_type.Endianness.{Endianness}
use Rattle.zarrs_form.specs.declared.chunks.ArrayMetadataV2Order.{ArrayMetadataV2Order}
use Rattle.zarrs_form.specs.declared.chunks.ArrayMetadataV2Order.TheVariants.{C, F}
use Rattle.zarrs_form.specs.declared.chunks.ChunkKeySeparator.{ChunkKeySeparator}
use Rattle.zarrs_form.specs.declared.chunks.ChunkKeySeparator.TheVariants.{Dot, Slash}
use Rattle.zarrs_form.proofs.PlainForms.{both_true}
use Rattle.zarrs_meta.specs.ArrayV2 as v2
use Rattle.zarrs_meta.specs.ArrayV2.{is_plain_array_v2}
use Rattle.zarrs_meta.specs.ArrayV3.{is_plain_array_v3}
use Rattle.zarrs_meta.specs.declared.array_v2.ArrayMetadataV2.{ArrayMetadataV2}
use Rattle.zarrs_meta.specs.declared.array_v3.ArrayMetadataV3.{ArrayMetadataV3}
use Rattle.zarrs_convert.specs.Refusals.{◌>>=◌, Refusal}
use Rattle.zarrs_convert.specs.Tables.{with_configuration, first_row, fits_u64, is_among, number_behind, with_no_configuration}
use Rattle.zarrs_convert.specs.DataTypes.{byte_order, data_type_name, data_type_v3, data_type_of_name}
use Rattle.zarrs_convert.specs.FillValues.{fill_lines, fill_value_v3, zero_bytes, zero_value}
use Rattle.zarrs_convert.specs.Codecs.{array_to_bytes, codecs_v3, filter_v3, filters_v3, transposition, no_codec, vlen_names, without_compressor}
use Rattle.zarrs_convert.specs.Arrays.{array_v3, byte_order_refusal, regular_grid, v2_encoding}
use Rattle.zarrs_fault.specs.declared.numbers.Numbers.TheVariants.{Whole}

-- ---- steps that give a value or a refusal

-- a step whose value has P, and then one whose value has Q
then_ok : {A B : Type 0} (P : A → Type 0) (Q : B → Type 0) (r : Result A Refusal) (f : A → Result B Refusal) → IfOk r P → ((x : A) → P x → IfOk (f x) Q) → IfOk (r >>= f) Q
then_ok P Q (Ok x) f h g = g x h
then_ok P Q (Err e) f h g = tt

-- a step of whose value nothing is known, and then one whose value has Q
next_ok : {A B : Type 0} (Q : B → Type 0) (r : Result A Refusal) (f : A → Result B Refusal) → ((x : A) → IfOk (f x) Q) → IfOk (r >>= f) Q
next_ok Q (Ok x) f g = g x
next_ok Q (Err e) f g = tt

-- what holds of the value that there may be holds of that value
of_ok : {A : Type 0} (P : A → Type 0) (r : Result A Refusal) (x : A) → IfOk r P → r ≡ Ok x → P x
of_ok P (Ok y) x h e = let same : y ≡ x = cc in subst P same h
of_ok P (Err y) x h e = cc

-- ---- extensions

-- the numbers of an extension fit
abbrev ExtensionFits : MetadataV3 → Type 0
ExtensionFits m = extension_fits_in Whole m ≡ true

-- the numbers of all these extensions fit
abbrev CodecsFit : List MetadataV3 → Type 0
CodecsFit ms = list_all (extension_fits_in Whole) ms ≡ true

-- a list of whole numbers has no other number
numbers_fit : (ns : List ℕ) → items_have_float (items_of (map number_data ns)) ≡ false
numbers_fit [] = refl
numbers_fit (n ∷ ns) = numbers_fit ns

-- an extension with one member has the numbers of that member
configured_fits : (name key : List ℕ) (d : Data) → has_float d ≡ false → ExtensionFits (with_configuration name key d)
configured_fits name key d h = ap (λ b. not (b || false)) h

-- the encoding of version 2 has no number
encoding_fits : (s : ChunkKeySeparator) → ExtensionFits (v2_encoding s)
encoding_fits Dot = refl
encoding_fits Slash = refl

-- ---- data types

-- the numbers of a data type that is converted by its name fit
named_fits : (t : DataTypeMetadataV2) (name : Option (List ℕ)) → IfOk (data_type_of_name t name) ExtensionFits
named_fits t None = tt
named_fits t (Some name) = refl

-- a data type that is converted has no configuration
data_type_converted_fits : (t : DataTypeMetadataV2) → IfOk (data_type_v3 t) ExtensionFits
data_type_converted_fits (Simple text) = named_fits (Simple text) (data_type_name text)
data_type_converted_fits (Structured fields) = tt

-- ---- fill values

-- the numbers of a fill value fit
abbrev FillFits : Result Data Refusal → Type 0
FillFits r = IfOk r (λ d. fits d ≡ true)

-- a list of zeros has no number that is not whole
zeros_fit : (n : ℕ) → items_have_float (items_of (replicate n zero_value)) ≡ false
zeros_fit zero = refl
zeros_fit (suc n) = zeros_fit n

-- where the numbers of two fill values fit, those of the one that a test chooses do
either_fits : (b : Bool) (x y : Result Data Refusal) → FillFits x → FillFits y → FillFits (if b then x else y)
either_fits true x y h k = h
either_fits false x y h k = k

-- the numbers of a fill value of zero bytes fit
zero_bytes_fit : (bits : ℕ) → FillFits (zero_bytes bits)
zero_bytes_fit bits = either_fits (fits_u64 bits && (bits % 8 == 0)) (Ok (array (items_of (replicate (bits / 8) zero_value)))) _ (ap not (zeros_fit (bits / 8))) tt

-- all answers of the lines fit
abbrev AllFit : List (Bool × Result Data Refusal) → Type 0
AllFit [] = Unit {0}
AllFit (line ∷ lines) = FillFits line.1 × AllFit lines

-- where all answers of the lines fit, and the one for all else does, the first whose condition holds fits
lines_fit : (lines : List (Bool × Result Data Refusal)) (rest : Result Data Refusal) → AllFit lines → FillFits rest → FillFits (first_row lines rest)
lines_fit [] rest h k = k
lines_fit (line ∷ lines) rest h k = either_fits line.0 line.1 (first_row lines rest) h.0 (lines_fit lines rest h.1 k)

-- a fill value that is converted of one whose numbers fit
fill_value_fits : (d : Data) (name : List ℕ) → fits d ≡ true → FillFits (fill_value_v3 d name)
fill_value_fits d name h = lines_fit (fill_lines d name) (Ok d) (refl, (refl, (zero_bytes_fit (number_behind (codes "r") name), (refl, (refl, (refl, (refl, tt))))))) h

-- ---- codecs

-- the numbers of a transposition fit
transposition_fits : (order : ArrayMetadataV2Order) (n : ℕ) → CodecsFit (transposition order n)
transposition_fits C n = refl
transposition_fits F n = both_true _ true (configured_fits (codes "transpose") (codes "order") (list_data number_data (reverse (range_with_len 0 n))) (numbers_fit (reverse (range_with_len 0 n)))) refl

-- the numbers of a filter that is converted fit
filter_by : (b : Bool) (filter : MetadataV2) → IfOk (if b then Ok (with_no_configuration filter.id) else no_codec filter) ExtensionFits
filter_by true filter = refl
filter_by false filter = tt

-- the numbers of filters that are converted fit
filters_fit : (filters : List MetadataV2) → IfOk (filters_v3 filters) CodecsFit
filters_fit [] = refl
filters_fit (filter ∷ filters) =
    then_ok ExtensionFits CodecsFit (filter_v3 filter) _ (filter_by (is_among vlen_names filter.id) filter) (λ codec h.
    then_ok CodecsFit CodecsFit (filters_v3 filters) _ (filters_fit filters) (λ codecs k. both_true (extension_fits_in Whole codec) (list_all (extension_fits_in Whole) codecs) h k))

-- where the numbers of the codecs of filters fit, those of the one from arrays to bytes do
to_bytes_fit : (e : Option Endianness) (codecs : List MetadataV3) → CodecsFit codecs → IfOk (array_to_bytes e codecs) CodecsFit
to_bytes_fit e [] h = refl
to_bytes_fit e (codec ∷ []) h = h
to_bytes_fit e (codec ∷ another ∷ codecs) h = tt

-- the numbers of codecs that are taken without a compressor fit where they did
without_fits : (compressor : Option MetadataV2) (codecs : List MetadataV3) → CodecsFit codecs → IfOk (without_compressor compressor codecs) CodecsFit
without_fits None codecs h = h
without_fits (Some compressor) codecs h = tt

-- the codecs that are converted
codecs_fit : (order : ArrayMetadataV2Order) (n : ℕ) (e : Option Endianness) (filters : Option (List MetadataV2)) (compressor : Option MetadataV2) → IfOk (codecs_v3 order n e filters compressor) CodecsFit
codecs_fit order n e filters compressor =
    then_ok CodecsFit CodecsFit (filters_v3 (unwrap_or filters [])) _ (filters_fit (unwrap_or filters [])) (λ vlen h.
    then_ok CodecsFit CodecsFit (array_to_bytes e vlen) _ (to_bytes_fit e vlen h) (λ to_bytes k.
    without_fits compressor (transposition order n ++ to_bytes) (list_all-append (extension_fits_in Whole) (transposition order n) to_bytes ∙ both_true (list_all (extension_fits_in Whole) (transposition order n)) (list_all (extension_fits_in Whole) to_bytes) (transposition_fits order n) k)))

-- ---- arrays

-- where `&&` of two tests is true, both are
each_true : (a b : Bool) → (a && b) ≡ true → (a ≡ true) × (b ≡ true)
each_true true b h = (refl, h)
each_true false b h = absurd (true≢false (sym h))

-- of the tests of a plain array, that of the fill value and that of the attributes
two_of_eight : (a b c d e f g h : Bool) → (a && b && c && d && e && f && g && h) ≡ true → (c ≡ true) × (f ≡ true)
two_of_eight a b c d e f g h x =
    let p = each_true (a && b && c && d && e && f && g) h x in
    let q = each_true (a && b && c && d && e && f) g p.0 in
    let r = each_true (a && b && c && d && e) f q.0 in
    let s = each_true (a && b && c && d) e r.0 in
    let t = each_true (a && b && c) d s.0 in
    let u = each_true (a && b) c t.0 in
    (u.1, r.1)

-- a version 3 array could have come from a document
abbrev Plain : ArrayMetadataV3 → Type 0
Plain m = IsTrue (is_plain_array_v3 m)

-- where a plain version 2 array is converted, it becomes a plain version 3 array
array_converted : (m : ArrayMetadataV2) → IsTrue (is_plain_array_v2 m) → IfOk (array_v3 m) Plain
unfolding array_v3
array_converted m plain =
    let parts = two_of_eight (not (has_zero m.chunks)) (data_type_fits_in Whole m.dtype) (fits m.fill_value) (none_or (codec_fits_in Whole) m.compressor) (none_or (list_all (codec_fits_in Whole)) m.filters)
    (fits (object m.attributes)) (fits (object m.additional_fields)) (not (has_own v2.array_v2_names m.additional_fields)) plain in
    next_ok Plain (byte_order_refusal (byte_order m.dtype)) _ (λ endianness.
    then_ok ExtensionFits Plain (data_type_v3 m.dtype) _ (data_type_converted_fits m.dtype) (λ data_type a.
    then_ok (λ d. fits d ≡ true) Plain (fill_value_v3 m.fill_value data_type.name) _ (fill_value_fits m.fill_value data_type.name parts.0) (λ fill_value b.
    then_ok CodecsFit Plain (codecs_v3 m.order (length m.shape) endianness m.filters m.compressor) _ (codecs_fit m.order (length m.shape) endianness m.filters m.compressor) (λ codecs c.
    let grid = configured_fits (codes "regular") (codes "chunk_shape") (list_data number_data m.chunks) (numbers_fit m.chunks) in
    both_true _ _ (both_true _ _ (both_true _ _ (both_true _ _ (both_true _ _ (both_true _ _ (both_true _ _ (both_true _ _ a grid) (encoding_fits m.dimension_separator)) b) c) parts.1) refl) refl) refl))))

-- a plain version 2 array that is converted is a plain version 3 array
pub converted_array_is_plain : (m : ArrayMetadataV2) (converted : ArrayMetadataV3) → IsTrue (is_plain_array_v2 m) → array_v3 m ≡ Ok converted → IsTrue (is_plain_array_v3 converted)
converted_array_is_plain m converted plain e = of_ok Plain (array_v3 m) converted (array_converted m plain) e

-- what an array that is converted keeps
abbrev Keeps : ArrayMetadataV2 → ArrayMetadataV3 → Type 0
Keeps m converted =
    (converted.shape ≡ m.shape) × (converted.attributes ≡ m.attributes)
    × (converted.chunk_grid ≡ regular_grid m.chunks) × (converted.chunk_key_encoding ≡ v2_encoding m.dimension_separator)

-- an array keeps this where it is converted
array_keeps : (m : ArrayMetadataV2) → IfOk (array_v3 m) (Keeps m)
unfolding array_v3
array_keeps m =
    next_ok (Keeps m) (byte_order_refusal (byte_order m.dtype)) _ (λ endianness.
    next_ok (Keeps m) (data_type_v3 m.dtype) _ (λ data_type.
    next_ok (Keeps m) (fill_value_v3 m.fill_value data_type.name) _ (λ fill_value.
    next_ok (Keeps m) (codecs_v3 m.order (length m.shape) endianness m.filters m.compressor) _ (λ codecs. (refl, refl, refl, refl)))))

-- an array that is converted keeps its shape, its attributes, its chunk shape and its dimension separator
pub converted_array_keeps : (m : ArrayMetadataV2) (converted : ArrayMetadataV3) → array_v3 m ≡ Ok converted → Keeps m converted
converted_array_keeps m converted e = of_ok (Keeps m) (array_v3 m) converted (array_keeps m) e
