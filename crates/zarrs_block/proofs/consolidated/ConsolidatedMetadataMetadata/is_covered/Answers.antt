use Rattle.std.proofs.Common.{◌≡◌, ◌≢◌, ℕ, List, ◌∷◌, lit<, subst}
use Rattle.std.specs.Option.{MatchOption}
use Rattle.std.proofs.lemmas.Str.Pattern.{strip_prefix_char}
use Rattle.zarrs_block.proofs.KeyLaws.{no_slash}
use Rattle.zarrs_block.proofs.consolidated.ConsolidatedMetadataMetadata.is_covered.Goals as goal

pub returns-in-None : goal.returns-in-None
returns-in-None c =
    let t = c.args.key.now in
    let cases = strip_prefix_char 47 t c.strip_prefix.result c.strip_prefix.ensures.cases (lit< tt) in
    no_slash c.args.self.now t (subst (λ o. MatchOption o ((rest : List ℕ) → t ≢ 47 ∷ rest) (λ x. t ≡ 47 ∷ x.now)) c.in-None.is cases)
