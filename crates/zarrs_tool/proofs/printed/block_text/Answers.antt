use Rattle.std.proofs.Common.{◌≡◌, Err, sym, ◌∙◌, rules}
use Rattle.zarrs_tool.proofs.Blocks.{block_written, listing_fault}
use Rattle.zarrs_tool.proofs.Fractions.{block_fraction_result}
use Rattle.zarrs_tool.proofs.printed.block_text.Goals as goal

pub returns-clause-ok : goal.returns-clause-ok
returns-clause-ok g c =
    block_written (g.S.Store.contents c.args.store.now) c.args.base.now c.in_ok-found.found c.in_ok-metadata.metadata c.in_ok-text.text.items c.numbers.result
    c.in_ok-found.ensures.ok (sym c.is_group.ensures ∙ c.if-not-is_group.false) c.in_ok-metadata.ensures.ascending c.in_ok-metadata.ensures.exact c.in_ok-metadata.ensures.clean
    c.numbers.ensures c.in_ok-check_numbers.ensures.ok c.in_ok-text.ensures.layout

pub returns-in_err-check_numbers-clause-err : goal.returns-in_err-check_numbers-clause-err
returns-in_err-check_numbers-clause-err g c =
    let is : c.from_residual-in_err-check_numbers.result ≡ Err c.in_err-check_numbers.field-0.0 = search rules in
    block_fraction_result (g.S.Store.contents c.args.store.now) c.args.base.now c.in_ok-metadata.metadata c.in_ok-metadata.ensures.ascending c.in_ok-metadata.ensures.exact
    (g.S.Store.can_fail c.args.store.now) _ c.in_err-check_numbers.field-0.0 is c.in_err-check_numbers.ensures.err

pub returns-in_err-metadata-clause-err : goal.returns-in_err-metadata-clause-err
returns-in_err-metadata-clause-err g c =
    listing_fault c.from_residual-in_err-metadata.result (g.S.Store.can_fail c.args.store.now) (g.S.Store.contents c.args.store.now) c.args.base.now c.in_ok-found.found c.in_err-metadata.field-0.0
    c.from_residual-in_err-metadata.ensures.1 c.as_str-valid.ensures.valid c.in_ok-found.ensures.ok (sym c.is_group.ensures ∙ c.if-not-is_group.false) c.in_err-metadata.ensures.refused
