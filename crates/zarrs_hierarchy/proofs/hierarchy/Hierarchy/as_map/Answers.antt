use Rattle.std.proofs.Common.{◌≡◌, ◌∙◌, ◌∷◌, ◌+◌, ◌++◌, drop, refl, sym, ap, subst, arith, append-nil}
use Rattle.std.proofs.lemmas.List.{drop_more, drop_all}
use Rattle.std.specs.List.Sorted.{IsStrictlySortedBy}
use Rattle.std.specs.Map.{keys_of}
use Rattle.zarrs_path.specs.Paths.{path_cmp}
use Rattle.zarrs_node.specs.Order.{Ascend}
use Rattle.zarrs_hierarchy.proofs.Maps.{put_next, sorted}
use Rattle.zarrs_hierarchy.proofs.hierarchy.Hierarchy.as_map.Goals as goal

pub loop-path-init : goal.loop-path-init
loop-path-init c =
    let xs = c.deref-path-items.result.now in
    let up = subst Ascend (sym c.deref-path-items.ensures.value) c.self.invariant in
    subst (λ es. IsStrictlySortedBy path_cmp (keys_of (es ++ drop 0 xs)) × (es ++ drop 0 xs ≡ xs)) (sym c.new-map.ensures.empty) (sorted xs up, refl)

pub loop-path-preserved : goal.loop-path-preserved
loop-path-preserved c =
    let xs = c.deref-path-items.result.now in
    let x = c.loop-path-item.result in
    let i = c.loop-path.path-index in
    let here : drop i xs ≡ x ∷ drop (i + 1) xs = drop_more xs i x (omega arith) ∙ ap (λ y. y ∷ drop (i + 1) xs) (sym c.loop-path-item.is) in
    put_next c.loop-path.map.entries c.insert.new.self.entries xs (drop i xs) x (drop (i + 1) xs) c.in_ok-path.path c.in_ok-try_clone.field-0
    here c.in_ok-path.ensures.ok c.in_ok-try_clone.ensures c.in_ok-insert.ensures.entries c.loop-path.invariant

pub returns-clause-pairs : goal.returns-clause-pairs
returns-clause-pairs c =
    let xs = c.deref-path-items.result.now in
    sym (append-nil c.loop-path.map.entries) ∙ ap (λ r. c.loop-path.map.entries ++ r) (sym (drop_all c.loop-path.path-index xs (omega arith))) ∙ c.loop-path.invariant.1 ∙ c.deref-path-items.ensures.value ∙ c.self.view_is
