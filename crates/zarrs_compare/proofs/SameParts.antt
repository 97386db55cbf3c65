-- Parts of metadata that pass the test of being the same are equal, and parts are the same as themselves.
use Rattle.std.proofs.Common.{◌≡◌, true, ◌&&◌, bytes_eq, refl, ap}
use Rattle.std.specs.Bool.{beq}
use Rattle.std.proofs.lemmas.Bool.{and_parts}
use Rattle.std.proofs.lemmas.Slice.Eq.{bytes_eq-Decides}
use Rattle.zarrs_form.specs.declared.extension.MetadataV3.{MetadataV3}
use Rattle.zarrs_form.specs.declared.codec.MetadataV2.{MetadataV2}
use Rattle.zarrs_form.specs.declared.data_type.DataTypeMetadataV2.{DataTypeMetadataV2}
use Rattle.zarrs_form.specs.declared.data_type.DataTypeMetadataV2.TheVariants.{Simple, Structured}
use Rattle.zarrs_form.specs.declared.chunks.ArrayMetadataV2Order.{ArrayMetadataV2Order}
use Rattle.zarrs_form.specs.declared.chunks.ArrayMetadataV2Order.TheVariants.{C, F}
use Rattle.zarrs_form.specs.declared.chunks.ChunkKeySeparator.{ChunkKeySeparator}
use Rattle.zarrs_form.specs.declared.chunks.ChunkKeySeparator.TheVariants.{Dot, Slash}
use Rattle.zarrs_form.proofs.PlainForms.{both_true}
use Rattle.zarrs_compare.specs.StepsOfSame.{same_codec, same_data, same_data_type, same_extension, same_members, same_option, same_order, same_separator}
use Rattle.zarrs_compare.proofs.SameData.{data_is, list_is, members_is, never, option_is, truth_is, data_itself, list_itself, members_itself, option_itself, text_itself, truth_itself}

-- ---- what is the same is equal

-- two extensions that are the same are equal
pub extension_is : (m n : MetadataV3) → same_extension m n ≡ true → m ≡ n
extension_is m n h =
    let parts = and_parts (bytes_eq m.name n.name && same_option same_members m.configuration n.configuration) (beq m.must_understand n.must_understand) h in
    let former = and_parts (bytes_eq m.name n.name) (same_option same_members m.configuration n.configuration) parts.0 in
    let name = (bytes_eq-Decides m.name n.name).0 former.0 in
    let configuration = option_is same_members members_is m.configuration n.configuration former.1 in
    let must_understand = truth_is m.must_understand n.must_understand parts.1 in
    λ i. record { name = name i; configuration = configuration i; must_understand = must_understand i }

-- two codecs that are the same are equal
pub codec_is : (m n : MetadataV2) → same_codec m n ≡ true → m ≡ n
codec_is m n h =
    let parts = and_parts (bytes_eq m.id n.id) (same_members m.configuration n.configuration) h in
    let id = (bytes_eq-Decides m.id n.id).0 parts.0 in
    let configuration = members_is m.configuration n.configuration parts.1 in
    λ i. record { id = id i; configuration = configuration i }

-- two data types that are the same are equal
pub data_type_is : (m n : DataTypeMetadataV2) → same_data_type m n ≡ true → m ≡ n
data_type_is (Simple s) (Simple t) h = ap Simple ((bytes_eq-Decides s t).0 h)
data_type_is (Structured ds) (Structured es) h = ap Structured (list_is same_data data_is ds es h)
data_type_is _ _ h = never h

-- two orders that are the same are equal
pub order_is : (m n : ArrayMetadataV2Order) → same_order m n ≡ true → m ≡ n
order_is C C h = refl
order_is F F h = refl
order_is _ _ h = never h

-- two separators that are the same are equal
pub separator_is : (m n : ChunkKeySeparator) → same_separator m n ≡ true → m ≡ n
separator_is Dot Dot h = refl
separator_is Slash Slash h = refl
separator_is _ _ h = never h

-- ---- what is itself is the same

-- an extension is the same as itself
pub extension_itself : (m : MetadataV3) → same_extension m m ≡ true
extension_itself m =
    both_true (bytes_eq m.name m.name && same_option same_members m.configuration m.configuration) (beq m.must_understand m.must_understand)
    (both_true (bytes_eq m.name m.name) (same_option same_members m.configuration m.configuration) (text_itself m.name) (option_itself same_members members_itself m.configuration))
    (truth_itself m.must_understand)

-- a codec is the same as itself
pub codec_itself : (m : MetadataV2) → same_codec m m ≡ true
codec_itself m = both_true (bytes_eq m.id m.id) (same_members m.configuration m.configuration) (text_itself m.id) (members_itself m.configuration)

-- a data type is the same as itself
pub data_type_itself : (m : DataTypeMetadataV2) → same_data_type m m ≡ true
data_type_itself (Simple s) = text_itself s
data_type_itself (Structured ds) = list_itself same_data data_itself ds

-- an order is the same as itself
pub order_itself : (m : ArrayMetadataV2Order) → same_order m m ≡ true
order_itself C = refl
order_itself F = refl

-- a separator is the same as itself
pub separator_itself : (m : ChunkKeySeparator) → same_separator m m ≡ true
separator_itself Dot = refl
separator_itself Slash = refl
