use Rattle.std.proofs.Common.{◌≡◌, ℕ, List, Bor, option_map, true, sym, ap, ◌∙◌, refl}
use Rattle.zarrs_convert.specs.Tables.{is_decimal}
use Rattle.zarrs_convert.proofs.Numbers.{behind_none, behind_some}
use Rattle.zarrs_convert.proofs.number.digits_behind.Goals as goal

pub returns-in_err-digits : goal.returns-in_err-digits
returns-in_err-digits c = ap (option_map (λ (digits : Bor (List ℕ)). digits.now)) c.from_residual.ensures ∙ sym (behind_none c.args.start.now c.args.text.now c.in_err-digits.ensures.cases)

pub returns-then-is_decimal : goal.returns-then-is_decimal
returns-then-is_decimal c =
    let rest = c.in_ok-digits.digits.now in
    let decimal : is_decimal rest ≡ true = sym c.is_decimal.ensures ∙ c.if-is_decimal.true in
    rw (behind_some rest c.args.start.now c.args.text.now c.in_ok-digits.ensures.cases, decimal) refl
