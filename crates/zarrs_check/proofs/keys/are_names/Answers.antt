use Rattle.std.proofs.Common.{rules, lit<, ◌≡◌, not, ◌&&◌, length, refl, sym, ap, ◌∙◌}
use Rattle.std.specs.List.{list_all}
use Rattle.std.specs.Prelude.{◌==◌}
use Rattle.std.proofs.lemmas.Iterator.Search.{all_from_yields_List}
use Rattle.std.proofs.lemmas.Iterator.Splits.{YieldsList-from_str_split}
use Rattle.zarrs_path.specs.Names.{is_name, is_node_name}
use Rattle.zarrs_path.specs.Paths.{parts}
use Rattle.zarrs_block.proofs.ZmetadataSteps.{name_test}
use Rattle.zarrs_check.proofs.KeyFindings.{parts_split}
use Rattle.zarrs_check.proofs.keys.are_names.Goals as goal

pub returns-else-is_empty : goal.returns-else-is_empty
returns-else-is_empty c =
    let names = c.without_leading_slash-names.result.now in
    all_from_yields_List is_name _ _ _ c.all.ensures.ran
    (YieldsList-from_str_split 47 names (lit< tt) c.split.ensures.text c.split.ensures.has_more c.split.ensures.pattern)
    (λ x b q k. let says : b ≡ (not (length x.now == 0) && is_node_name x.now) = search rules in (refl, says ∙ name_test x.now))
    ∙ ap (list_all is_name) (parts_split names (sym c.is_empty.ensures ∙ c.if-is_empty.false) ∙ ap parts c.without_leading_slash-names.ensures)
