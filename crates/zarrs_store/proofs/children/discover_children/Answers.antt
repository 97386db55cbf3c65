use Rattle.std.proofs.Common.{rules}
use Rattle.std.proofs.lemmas.Fn.{filter_same}
use Rattle.std.proofs.lemmas.List.Sorted.{ranks_by, answers_always}
use Rattle.std.proofs.lemmas.Cmp.{nat_list_cmp_total}
use Rattle.zarrs_store.specs.Segments.{last_segment}
use Rattle.zarrs_store.specs.StepsOfStores.{is_visible}
use Rattle.zarrs_store.proofs.ChildLemmas.{children_from_listed, name_lt}
use Rattle.zarrs_store.proofs.children.discover_children.Goals as goal

pub returns-clause-ok : goal.returns-clause-ok
returns-clause-ok g c =
    children_from_listed _ _ c.in_ok-children.children.items c.retain.new.self.items c.sort_unstable_by.new.self.items
    c.in_ok-children.ensures.prefixes
    (filter_same _ is_visible _ (λ x b f' k. search rules) _ _ c.retain.ensures.filtered)
    c.sort_unstable_by.ensures.permutation
    (c.sort_unstable_by.ensures.sorted name_lt (ranks_by nat_list_cmp_total last_segment) (answers_always _ _ _ (λ f a r f' k. search rules)))
