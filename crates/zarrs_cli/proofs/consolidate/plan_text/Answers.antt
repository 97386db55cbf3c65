use Rattle.std.proofs.Common.{◌≡◌, ◌∙◌, true, false, true≢false, sym, rules}
use Rattle.zarrs_cli.proofs.Consolidations.{change_told, kept_told}
use Rattle.zarrs_cli.proofs.consolidate.plan_text.Goals as goal

pub returns-then-is_change : goal.returns-then-is_change
returns-then-is_change c =
    let yes : c.is_change.result ≡ true = search rules in
    change_told c.args.options c.args.plan.now c.change_text.result (c.is_change.ensures.0 yes) c.change_text.ensures

pub returns : goal.returns
returns c =
    let no : c.is_change.result ≡ false = search rules in
    kept_told c.args.options c.args.plan.now c.kept_text.result (λ change. true≢false (sym (c.is_change.ensures.1 change) ∙ no)) c.kept_text.ensures
