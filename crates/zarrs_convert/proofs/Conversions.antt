-- Lemmas on the conversion of an array.
use Rattle.std.proofs.Common.{◌≡◌, ℕ, List, Option, Result, Ok, Err, length, ap, sym, ◌∙◌}
use Rattle.serde_json.specs.Data.{Data, Members}
use Rattle.zarrs_form.specs.declared.extension.MetadataV3.{MetadataV3}
use Rattle.zarrs_form.specs.declared.data_type.Endianness.{Endianness}
use Rattle.zarrs_meta.specs.MadeArray.{made_array}
use Rattle.zarrs_meta.specs.declared.array_v2.ArrayMetadataV2.{ArrayMetadataV2}
use Rattle.zarrs_meta.specs.declared.array_v3.ArrayMetadataV3.{ArrayMetadataV3}
use Rattle.zarrs_convert.specs.declared.error.ArrayMetadataV2ToV3Error.TheVariants.{InvalidEndianness}
use Rattle.zarrs_convert.specs.declared.error.DataTypeMetadataV2EndiannessError.{DataTypeMetadataV2EndiannessError}
use Rattle.zarrs_convert.specs.declared.error.DataTypeMetadataV2EndiannessError.TheVariants.{Invalid, OutOfMemory}
use Rattle.zarrs_convert.specs.Refusals.{◌>>=◌, Refusal, GivesOrder, ShowsRefusal}
use Rattle.zarrs_convert.specs.DataTypes.{byte_order, data_type_v3}
use Rattle.zarrs_convert.specs.FillValues.{fill_value_v3}
use Rattle.zarrs_convert.specs.Codecs.{codecs_v3}
use Rattle.zarrs_convert.specs.Arrays.{array_v3, byte_order_refusal, regular_grid, v2_encoding}

-- a byte order that was given is the one that is asked
pub asked_ok : (order : Option Endianness) (r : Result (Option Endianness) (List ℕ)) → r ≡ Ok order → byte_order_refusal r ≡ Ok order
asked_ok order r h = ap byte_order_refusal h

-- an error of the byte order shows its refusal
pub asked_shows : (e : DataTypeMetadataV2EndiannessError) (r : Result (Option Endianness) (List ℕ)) → GivesOrder (Err e) r → ShowsRefusal (InvalidEndianness e) (byte_order_refusal r)
asked_shows (Invalid text) r h = ap byte_order_refusal h
asked_shows OutOfMemory r h = tt

-- the array of its parts
abbrev pub converted : ArrayMetadataV2 → MetadataV3 → Data → List MetadataV3 → ArrayMetadataV3
converted m data_type fill_value codecs =
    record (made_array m.shape (regular_grid m.chunks) data_type fill_value codecs) { attributes = m.attributes; chunk_key_encoding = v2_encoding m.dimension_separator }

-- where each step answers, the array is that of its parts
pub array_v3_is : (m : ArrayMetadataV2) (order : Option Endianness) (data_type : MetadataV3) (fill_value : Data) (n : ℕ) (codecs : List MetadataV3)
    → byte_order_refusal (byte_order m.dtype) ≡ Ok order → data_type_v3 m.dtype ≡ Ok data_type → fill_value_v3 m.fill_value data_type.name ≡ Ok fill_value
    → n ≡ length m.shape → codecs_v3 m.order n order m.filters m.compressor ≡ Ok codecs → array_v3 m ≡ Ok (converted m data_type fill_value codecs)
unfolding array_v3
array_v3_is m order data_type fill_value n codecs a b c e d =
    ap (λ (r : Result (Option Endianness) Refusal). r >>= λ o. data_type_v3 m.dtype >>= λ t. fill_value_v3 m.fill_value t.name >>= λ v. codecs_v3 m.order (length m.shape) o m.filters m.compressor >>= λ cs. Ok (converted m t v cs)) a
    ∙ ap (λ (r : Result MetadataV3 Refusal). r >>= λ t. fill_value_v3 m.fill_value t.name >>= λ v. codecs_v3 m.order (length m.shape) order m.filters m.compressor >>= λ cs. Ok (converted m t v cs)) b
    ∙ ap (λ (r : Result Data Refusal). r >>= λ v. codecs_v3 m.order (length m.shape) order m.filters m.compressor >>= λ cs. Ok (converted m data_type v cs)) c
    ∙ ap (λ (r : Result (List MetadataV3) Refusal). r >>= λ cs. Ok (converted m data_type fill_value cs)) (ap (λ (k : ℕ). codecs_v3 m.order k order m.filters m.compressor) (sym e) ∙ d)

-- an array that is made, and then given attributes and an encoding, is that of its parts
pub made_is : (m : ArrayMetadataV2) (data_type : MetadataV3) (fill_value : Data) (codecs : List MetadataV3)
    (shape : List ℕ) (grid encoding : MetadataV3) (attributes : Members) (all : List MetadataV3) (made given whole : ArrayMetadataV3)
    → shape ≡ m.shape → grid ≡ regular_grid m.chunks → encoding ≡ v2_encoding m.dimension_separator → attributes ≡ m.attributes → all ≡ codecs
    → made ≡ made_array shape grid data_type fill_value all → given ≡ record made { attributes = attributes } → whole ≡ record given { chunk_key_encoding = encoding }
    → whole ≡ converted m data_type fill_value codecs
made_is m data_type fill_value codecs shape grid encoding attributes all made given whole s g n t o x y z =
    z ∙ ap (λ (w : ArrayMetadataV3). record w { chunk_key_encoding = encoding }) y
    ∙ ap (λ (w : ArrayMetadataV3). record (record w { attributes = attributes }) { chunk_key_encoding = encoding }) x
    ∙ (λ i. record (made_array (s i) (g i) data_type fill_value (o i)) { attributes = t i; chunk_key_encoding = n i })
