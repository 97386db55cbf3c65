-- What is written of a codec of version 2.
use Rattle.std.proofs.Common.{◌≡◌, true, false, not, codes, refl}
use Rattle.serde_json.specs.Data.{string, object}
use Rattle.serde_json.specs.Written.{has_float, members_have_float}
use Rattle.zarrs_form.specs.Documents.{has_own}
use Rattle.zarrs_form.specs.Forms.{fits}
use Rattle.zarrs_form.specs.FormsV2.{codec_names, codec_data, codec_fits_in}
use Rattle.zarrs_form.specs.declared.codec.MetadataV2.{MetadataV2}
use Rattle.zarrs_form.proofs.MemberLaws.{no_float-put}
use Rattle.zarrs_form.proofs.RowLaws.{both}
use Rattle.zarrs_form.proofs.AttributeLaws.{not_true}
use Rattle.zarrs_fault.specs.declared.numbers.Numbers.TheVariants.{Whole}

-- a codec whose numbers fit is written with numbers that fit
pub codec_no_float : (m : MetadataV2) → codec_fits_in Whole m ≡ true → has_float (codec_data m) ≡ false
codec_no_float m plain =
    let parts = both (fits (object m.configuration)) (not (has_own codec_names m.configuration)) plain in
    no_float-put (codes "id") (string m.id) m.configuration refl (not_true (members_have_float m.configuration) parts.0)
