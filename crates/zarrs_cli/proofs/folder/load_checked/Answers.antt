use Rattle.std.proofs.Common.{◌≡◌, false, rules, sym, ◌∙◌}
use Rattle.zarrs_folder.specs.Folders.{in_any, values_of}
use Rattle.zarrs_cli.proofs.LoadedEnough.{whole_settled}
use Rattle.zarrs_cli.proofs.folder.load_checked.Goals as goal

pub returns-then-not-has_more-clause-ok : goal.returns-then-not-has_more-clause-ok
returns-then-not-has_more-clause-ok g c =
    let no : c.has_more.result ≡ false = search rules in
    λ V agrees. whole_settled (in_any V) (in_any (values_of c.in_ok-store.store.inner)) c.args.base.now c.in_ok-checked.checked (c.in_ok-store.ensures.loaded V agrees) (c.in_ok-store.ensures.above V agrees)
    c.in_ok-checked.ensures.ok (sym c.has_more.ensures ∙ no)

pub returns-clause-ok : goal.returns-clause-ok
returns-clause-ok g c = λ V agrees.
    let before = c.in_ok-store-2.ensures.before V agrees in
    c.in_ok-store-2.ensures.ok V agrees (c.in_ok-store.ensures.loaded V before) (c.in_ok-store.ensures.above V before) c.in_ok-checked.ensures.ok
