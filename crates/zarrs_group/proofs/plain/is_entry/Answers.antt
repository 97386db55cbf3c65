use Rattle.std.proofs.Common.{◌≡◌, ◌≢◌, ℕ, List, ◌∷◌, not, lit<, subst, ap, ◌∙◌}
use Rattle.std.specs.Option.{MatchOption}
use Rattle.std.proofs.lemmas.Str.Pattern.{strip_prefix_char}
use Rattle.zarrs_group.proofs.BlockPlain.{bare_entry, no_length}
use Rattle.zarrs_group.proofs.plain.is_entry.Goals as goal

pub returns-in-None : goal.returns-in-None
returns-in-None c =
    let t = c.args.key.now in
    let cases = strip_prefix_char 47 t c.strip_prefix.result c.strip_prefix.ensures.cases (lit< tt) in
    let bare = subst (λ o. MatchOption o ((rest : List ℕ) → t ≢ 47 ∷ rest) (λ x. t ≡ 47 ∷ x.now)) c.in-None.is cases in
    ap not (c.is_empty-in-None.ensures ∙ no_length t) ∙ bare_entry c.args.block.now t bare
