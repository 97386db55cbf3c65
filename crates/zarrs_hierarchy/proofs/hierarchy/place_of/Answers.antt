use Rattle.std.proofs.Common.{rules}
use Rattle.std.proofs.lemmas.Fn.{always_returns_same}
use Rattle.zarrs_path.specs.Paths.{path_cmp}
use Rattle.zarrs_hierarchy.proofs.Places.{search_found, search_missed}
use Rattle.zarrs_hierarchy.proofs.hierarchy.place_of.Goals as goal

pub returns-clause-found : goal.returns-clause-found
returns-clause-found c =
    let facts = c.binary_search_by.ensures in
    search_found _ c.args.path.now _ facts.bound (facts.position (λ e. path_cmp e.0 c.args.path.now) (always_returns_same _ _ _ (λ a r h called. (search rules, search rules))))

pub returns-clause-absent : goal.returns-clause-absent
returns-clause-absent c =
    let facts = c.binary_search_by.ensures in
    search_missed _ c.requires.ascending _ _ facts.bound (facts.position (λ e. path_cmp e.0 c.args.path.now) (always_returns_same _ _ _ (λ a r h called. (search rules, search rules))))
