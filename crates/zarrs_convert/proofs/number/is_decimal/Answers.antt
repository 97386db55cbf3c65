use Rattle.std.proofs.Common.{◌∙◌, rules}
use borrow.Author.Tests.{tests}
use Rattle.std.specs.Char.{is_ascii_digit}
use Rattle.std.proofs.lemmas.Iterator.Search.{all_from_yields_List}
use Rattle.std.proofs.lemmas.Iterator.Adapters.{YieldsList-from_bytes}
use Rattle.zarrs_convert.proofs.Numbers.{all_decimal}
use Rattle.zarrs_convert.proofs.number.is_decimal.Goals as goal

pub returns-then-not-is_empty : goal.returns-then-not-is_empty
returns-then-not-is_empty c =
    let bs = c.args.text.now in
    all_from_yields_List is_ascii_digit _ _ c.all.result c.all.ensures.ran (YieldsList-from_bytes bs cc) (λ x b q k. search (rules, tests)) ∙ all_decimal bs c.is_empty.result c.is_empty.ensures cc
