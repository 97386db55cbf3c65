use Rattle.std.proofs.Common.{◌≡◌, None, ap, sym, ◌∙◌}
use Rattle.std.specs.Str.Parse.{digits_value}
use Rattle.zarrs_convert.specs.DataTypes.{raw_size}
use Rattle.zarrs_convert.proofs.RawBits.{eightfold, size_none, size_some, eightfold_none, some_fits, eightfold_by}
use Rattle.zarrs_convert.proofs.data_type.raw_size.Goals as goal

pub returns-in_err-digits : goal.returns-in_err-digits
returns-in_err-digits c =
    let none : raw_size c.args.text.now ≡ None = size_none c.args.text.now (sym c.in_err-digits.ensures) in
    c.from_residual.ensures ∙ sym none

pub returns-in_err-bytes : goal.returns-in_err-bytes
returns-in_err-bytes c =
    let ds = c.in_ok-digits.digits.now in
    let none : raw_size c.args.text.now ≡ None = size_some c.args.text.now ds (sym c.in_ok-digits.ensures) ∙ eightfold_none (digits_value 10 ds) (sym c.in_err-bytes.ensures) in
    c.from_residual-in_err-bytes.ensures ∙ sym none

pub returns : goal.returns
returns c =
    let ds = c.in_ok-digits.digits.now in
    let bytes = c.in_ok-bytes.bytes in
    let same : bytes ≡ digits_value 10 ds = some_fits (digits_value 10 ds) bytes (sym c.in_ok-bytes.ensures) in
    eightfold_by c.checked_mul.result bytes c.checked_mul.ensures ∙ ap eightfold same ∙ sym (size_some c.args.text.now ds (sym c.in_ok-digits.ensures))
