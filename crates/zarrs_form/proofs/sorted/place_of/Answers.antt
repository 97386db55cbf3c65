use Rattle.std.proofs.Common.{rules, string_bytes, nat_cmp}
use Rattle.std.proofs.lemmas.Fn.{always_returns_same}
use Rattle.std.specs.Cmp.Lexicographic.{slice_cmp}
use Rattle.zarrs_form.proofs.SortedLaws.{search_found, search_missed}
use Rattle.zarrs_form.proofs.sorted.place_of.Goals as goal

pub returns-clause-found : goal.returns-clause-found
returns-clause-found g c =
    let facts = c.binary_search_by.ensures in
    search_found _ c.args.name.now _ facts.bound (facts.position (λ e. slice_cmp nat_cmp (string_bytes e.0) c.args.name.now) (always_returns_same _ _ _ (λ a r h called. (search rules, search rules))))

pub returns-clause-absent : goal.returns-clause-absent
returns-clause-absent g c =
    let facts = c.binary_search_by.ensures in
    search_missed _ c.requires.ascending _ _ facts.bound (facts.position (λ e. slice_cmp nat_cmp (string_bytes e.0) c.args.name.now) (always_returns_same _ _ _ (λ a r h called. (search rules, search rules))))
