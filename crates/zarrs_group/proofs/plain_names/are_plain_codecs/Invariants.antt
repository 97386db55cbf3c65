use Rattle.std.proofs.Common.{◌≡◌, drop}
use Rattle.std.specs.List.{list_all}
use Rattle.zarrs_fault.specs.declared.numbers.Numbers.TheVariants.{Any}
use Rattle.zarrs_form.specs.FormsV2.{codec_fits_in}
use Rattle.zarrs_group.proofs.plain_names.are_plain_codecs.Given as goal

abbrev pub invariant-loop-codec : goal.invariant-loop-codec
invariant-loop-codec l = list_all (codec_fits_in Any) (drop l.codec-index l.codecs) ≡ list_all (codec_fits_in Any) l.codecs
