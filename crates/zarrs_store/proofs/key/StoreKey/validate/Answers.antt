use Rattle.std.proofs.Common.{rules, lit<, ◌≡◌, ◌∙◌, not, length, refl, sym}
use Rattle.std.specs.Prelude.{◌==◌}
use Rattle.std.specs.List.{list_all, slice_split}
use Rattle.std.proofs.lemmas.Iterator.Search.{all_from_yields_List}
use Rattle.std.proofs.lemmas.Iterator.Splits.{YieldsList-from_str_split}
use Rattle.zarrs_store.specs.Segments.{is_nonempty, is_slash}
use Rattle.zarrs_store.proofs.Cuts.{nonempty_is, key_from_passes, passes_from_key}
use Rattle.zarrs_store.proofs.key.StoreKey.validate.Goals as goal

pub returns : goal.returns
returns c =
    let tests : c.all.result ≡ list_all is_nonempty (slice_split is_slash c.args.text.now) =
    all_from_yields_List is_nonempty _ _ _ c.all.ensures.ran
    (YieldsList-from_str_split 47 c.args.text.now (lit< tt) c.split.ensures.text c.split.ensures.has_more c.split.ensures.pattern)
    (λ x b q k. let says : b ≡ not (length x.now == 0) = search rules in (refl, says ∙ nonempty_is x.now)) in
    (λ h. key_from_passes c.args.text.now (sym tests ∙ h), λ k. tests ∙ passes_from_key c.args.text.now k)
