use Rattle.std.proofs.Common.{◌≡◌, rules}
use Rattle.std.proofs.lemmas.Fn.{always_returns_same}
use Rattle.zarrs_store.specs.Places.{text_cmp}
use Rattle.zarrs_examples.proofs.OwnStores.{search_found, search_missed}
use Rattle.zarrs_examples.proofs.own_store.place_of.Goals as goal

pub returns-clause-found : goal.returns-clause-found
returns-clause-found c =
    let facts = c.binary_search_by.ensures in
    let key = c.args.key.now in
    search_found c.args.entries.now c.requires.ascending key c.requires.valid c.binary_search_by.result facts.bound
    (facts.position (λ e. text_cmp e.0 key) (always_returns_same _ (λ a r. r ≡ text_cmp a.0.now.0 key) _ (λ a r f' called. search rules)))

pub returns-clause-absent : goal.returns-clause-absent
returns-clause-absent c =
    let facts = c.binary_search_by.ensures in
    let key = c.args.key.now in
    search_missed c.args.entries.now c.requires.ascending key c.requires.valid c.binary_search_by.result facts.bound
    (facts.position (λ e. text_cmp e.0 key) (always_returns_same _ (λ a r. r ≡ text_cmp a.0.now.0 key) _ (λ a r f' called. search rules)))
