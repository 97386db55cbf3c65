-- Where there is no change nothing is asked; else the document is changed.
use Rattle.std.proofs.Common.{◌≡◌, ◌∙◌, inr, true, false, true≢false, refl, sym, rules}
use Rattle.zarrs_cli.proofs.Consolidations.{changed}
use Rattle.zarrs_cli.proofs.consolidate.carry_out.Goals as goal

pub returns-then-not-is_change-clause-asks : goal.returns-then-not-is_change-clause-asks
returns-then-not-is_change-clause-asks g c =
    let no : c.is_change.result ≡ false = search rules in
    inr (λ change. absurd (true≢false (sym (c.is_change.ensures.1 change) ∙ no)), refl)

pub returns-clause-asks : goal.returns-clause-asks
returns-clause-asks g c =
    let yes : c.is_change.result ≡ true = search rules in
    let wet : c.args.options.dry_run ≡ false = search rules in
    changed c.args.options c.args.plan.now _ _ c.in_ok-carry_out.field-0 (c.is_change.ensures.0 yes) wet c.in_ok-carry_out.ensures.ok c.in_ok-carry_out.ensures.same
