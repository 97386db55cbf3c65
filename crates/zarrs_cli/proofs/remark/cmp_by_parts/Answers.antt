use Rattle.std.proofs.Common.{◌≡◌, ap, ◌∙◌, refl, lit<}
use Rattle.std.specs.Ordering.{nat_cmp}
use Rattle.std.specs.Cmp.Lexicographic.{slice_cmp}
use Rattle.std.specs.Str.Iter.{split_text, split_has_more, split_pattern}
use Rattle.std.proofs.lemmas.Iterator.Search.{cmp_from_yields_List}
use Rattle.std.proofs.lemmas.Iterator.Splits.{YieldsList-from_str_split}
use Rattle.zarrs_cli.proofs.remark.cmp_by_parts.Goals as goal

pub returns : goal.returns
returns c =
    cmp_from_yields_List (λ s it. it ≡ s) c.split-2.result (slice_cmp nat_cmp) c.cmp.result c.cmp.ensures.ran (YieldsList-from_str_split 47 c.args.first.now (lit< tt) c.split.ensures.text c.split.ensures.has_more c.split.ensures.pattern)
    (λ it b. YieldsList-from_str_split 47 c.args.second.now (lit< tt) (ap split_text b ∙ c.split-2.ensures.text) (ap split_has_more b ∙ c.split-2.ensures.has_more) (ap split_pattern b ∙ c.split-2.ensures.pattern)) (λ x y. refl)
