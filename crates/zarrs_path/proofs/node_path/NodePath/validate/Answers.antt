use Rattle.std.proofs.Common.{◌≡◌, lit<, sym, ◌∷◌, Some, None, subst, ◌∙◌, is_none, ap, List, ℕ}
use Rattle.std.specs.List.{slice_split}
use Rattle.std.proofs.lemmas.Str.Pattern.{strip_prefix_char}
use Rattle.zarrs_store.specs.Segments.{is_slash}
use Rattle.zarrs_path.specs.Paths.{IsPathText, first_bad}
use Rattle.zarrs_path.proofs.ByteTests.{none_is, nonempty_from_test}
use Rattle.zarrs_path.proofs.PathTexts.{text_from_names, names_from_text, first_bad_none, none_first_bad, slash_from_text}
use Rattle.zarrs_path.proofs.node_path.NodePath.validate.Goals as goal

pub returns-else-is_empty : goal.returns-else-is_empty
returns-else-is_empty c =
    let rest : List ℕ = c.in-Some.names.now in
    let cut : c.args.path.now ≡ 47 ∷ rest = strip_prefix_char 47 c.args.path.now (Some c.in-Some.names) c.in-Some.ensures.cases (lit< tt) in
    let is : c.is_none.result ≡ is_none (first_bad (slice_split is_slash rest)) = none_is c.first_bad.result c.is_none.result _ c.is_none.ensures c.first_bad.ensures in (
      λ h. subst IsPathText (sym cut) (text_from_names rest (first_bad_none (slice_split is_slash rest) (sym is ∙ h))),
      λ t. is ∙ ap is_none (none_first_bad (slice_split is_slash rest) (names_from_text rest (subst IsPathText cut t) (nonempty_from_test rest (sym c.is_empty.ensures ∙ c.if-is_empty.false)))),
    )

pub returns-in-None : goal.returns-in-None
returns-in-None c = (λ h. cc, λ t. let s = slash_from_text c.args.path.now t in absurd (strip_prefix_char 47 c.args.path.now None c.in-None.ensures.cases (lit< tt) s.0 s.1))
