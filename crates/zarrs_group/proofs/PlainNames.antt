-- Where documents may hold any number, metadata are plain by their names and lengths alone.
use Rattle.std.proofs.Common.{◌≡◌, Bool, true, false, not, ◌&&◌, List, [], ◌∷◌, Option, Some, None, refl}
use Rattle.std.specs.List.{list_all}
use Rattle.serde_json.specs.Data.{Data, Members, object}
use Rattle.zarrs_fault.specs.declared.numbers.Numbers.TheVariants.{Any}
use Rattle.zarrs_form.specs.Documents.{has_own}
use Rattle.zarrs_form.specs.Forms.{extension_fits_in, fits_in, none_or}
use Rattle.zarrs_form.specs.FormsV2.{codec_fits_in, data_type_fits_in, has_zero}
use Rattle.zarrs_form.specs.declared.extension.MetadataV3.{MetadataV3}
use Rattle.zarrs_form.specs.declared.data_type.DataTypeMetadataV2.{DataTypeMetadataV2}
use Rattle.zarrs_form.specs.declared.data_type.DataTypeMetadataV2.TheVariants.{Simple, Structured}
use Rattle.zarrs_meta.specs.ArrayV2.{array_v2_names, is_plain_array_v2_in}
use Rattle.zarrs_meta.specs.ArrayV3.{array_v3_names, is_plain_array_v3_in}
use Rattle.zarrs_meta.specs.declared.array_v2.ArrayMetadataV2.{ArrayMetadataV2}
use Rattle.zarrs_meta.specs.declared.array_v3.ArrayMetadataV3.{ArrayMetadataV3}

-- a configuration may have any number
any_extension : (m : MetadataV3) → extension_fits_in Any m ≡ true
any_extension m = at m.configuration
  where
    at : (o : Option Members) → none_or (λ ms. fits_in Any (object ms)) o ≡ true
    at None = refl
    at (Some ms) = refl

-- so may several
any_extensions : (ms : List MetadataV3) → list_all (extension_fits_in Any) ms ≡ true
any_extensions [] = refl
any_extensions (m ∷ ms) = rw (any_extension m, any_extensions ms) refl

-- and a data type
any_data_type : (m : DataTypeMetadataV2) → data_type_fits_in Any m ≡ true
any_data_type (Simple s) = refl
any_data_type (Structured ds) = at ds
  where
    at : (ds : List Data) → list_all (λ d. fits_in Any d) ds ≡ true
    at [] = refl
    at (d ∷ ds) = at ds

-- an array of version 3 is plain by the names of its fields
pub array_v3_fields : (m : ArrayMetadataV3) → not (has_own array_v3_names m.additional_fields) ≡ is_plain_array_v3_in Any m
array_v3_fields m =
    rw (any_extension m.data_type, any_extension m.chunk_grid, any_extension m.chunk_key_encoding, any_extensions m.codecs, any_extensions m.storage_transformers) refl

-- tests that always pass can be left out
left_out : (z d c f o : Bool) → d ≡ true → (z && c && f && o) ≡ (z && d && true && c && f && true && true && o)
left_out false d c f o e = refl
left_out true false c f o e = cc
left_out true true false f o e = refl
left_out true true true false o e = refl
left_out true true true true o e = refl

-- an array of version 2 is plain by its lengths, its codecs and the names of its fields
pub array_v2_parts : (m : ArrayMetadataV2) → (not (has_zero m.chunks) && none_or (codec_fits_in Any) m.compressor && none_or (list_all (codec_fits_in Any)) m.filters && not (has_own array_v2_names m.additional_fields)) ≡ is_plain_array_v2_in Any m
array_v2_parts m =
    left_out (not (has_zero m.chunks)) (data_type_fits_in Any m.dtype) (none_or (codec_fits_in Any) m.compressor) (none_or (list_all (codec_fits_in Any)) m.filters) (not (has_own array_v2_names m.additional_fields)) (any_data_type m.dtype)
