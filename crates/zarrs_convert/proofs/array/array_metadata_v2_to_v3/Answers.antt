use Rattle.std.proofs.Common.{Ok, length, ap, sym, ◌∙◌}
use Rattle.zarrs_convert.proofs.Conversions.{array_v3_is, made_is}
use Rattle.zarrs_convert.proofs.array.array_metadata_v2_to_v3.Goals as goal

pub returns : goal.returns
returns g c =
    let m = c.args.array.now in
    let data_type = c.in_ok-data_type.data_type in
    let fill_value = c.in_ok-fill_value.fill_value in
    let codecs = c.in_ok-codecs.codecs.items in
    let whole = c.with_chunk_key_encoding.result in
    array_v3_is m c.in_ok-endianness.endianness data_type fill_value (length c.as_slice.result.now) codecs c.in_ok-endianness.ensures c.in_ok-data_type.ensures c.in_ok-fill_value.ensures (ap length c.as_slice.ensures) c.in_ok-codecs.ensures
    ∙ ap Ok (sym (made_is m data_type fill_value codecs c.in_ok-shape.shape c.in_ok-grid.grid c.in_ok-encoding.encoding c.in_ok-attributes.attributes c.new.result c.in_ok-made.made c.with_attributes.result whole
    c.in_ok-shape.ensures c.in_ok-grid.ensures c.in_ok-encoding.ensures c.in_ok-attributes.ensures c.new.ensures c.in_ok-made.ensures c.with_attributes.ensures c.with_chunk_key_encoding.ensures))
