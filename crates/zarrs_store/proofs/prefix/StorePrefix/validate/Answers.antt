use Rattle.std.proofs.Common.{sym, ◌∙◌, ap, subst, Some, None, lit<, length}
use Rattle.std.specs.Prelude.{◌==◌}
use Rattle.std.proofs.lemmas.Str.Pattern.{strip_suffix_char}
use Rattle.zarrs_store.specs.Segments.{IsPrefixText}
use Rattle.zarrs_store.proofs.Cuts.{prefix_from_key, key_from_prefix, prefix_open, prefix_from_nothing, no_length}
use Rattle.zarrs_store.proofs.prefix.StorePrefix.validate.Goals as goal

pub returns-in-Some : goal.returns-in-Some
returns-in-Some c =
    let text = strip_suffix_char 47 _ (Some c.in-Some.inner) c.in-Some.ensures.cases (lit< tt) in (
      λ h. subst IsPrefixText (sym text) (prefix_from_key c.in-Some.inner.now (c.validate.ensures.0 h)),
      λ k. c.validate.ensures.1 (key_from_prefix c.in-Some.inner.now (subst IsPrefixText text k)),
    )

pub returns-in-None : goal.returns-in-None
returns-in-None c =
    let not_slash = strip_suffix_char 47 _ None c.in-None.ensures.cases (lit< tt) in (
      λ h. subst IsPrefixText (sym (no_length c.args.text.now (sym c.is_empty.ensures ∙ h))) prefix_from_nothing,
      λ k. c.is_empty.ensures ∙ ap (λ t. length t == 0) (prefix_open c.args.text.now k not_slash),
    )
