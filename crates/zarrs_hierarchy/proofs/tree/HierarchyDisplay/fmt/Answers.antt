use Rattle.std.proofs.Common.{◌≡◌, ◌∙◌, ◌∷◌, ◌+◌, ◌++◌, ◌-◌, [], drop, length, codes, sym, ap, arith, true≢false, rules}
use Rattle.std.proofs.Output.{has_written_append, has_written_of_eq}
use Rattle.std.proofs.lemmas.List.{drop_more, drop_all}
use Rattle.zarrs_node.specs.Lines.{line}
use Rattle.zarrs_hierarchy.proofs.Below.{shown_skip, shown_next, lines_end}
use Rattle.zarrs_hierarchy.proofs.tree.HierarchyDisplay.fmt.Goals as goal

pub loop-path-preserved-then-is_root : goal.loop-path-preserved-then-is_root
loop-path-preserved-then-is_root g c = λ plain.
    let w = c.loop-path.invariant plain in
    let xs = c.deref-path-items.result.now in
    let x = c.loop-path-item.result in
    let i = c.loop-path.path-index in
    let here : drop i xs ≡ x ∷ drop (i + 1) xs = drop_more xs i x (omega arith) ∙ ap (λ y. y ∷ drop (i + 1) xs) (sym c.loop-path-item.is) in
    (w.0, shown_skip x.0 x.1 (drop (i + 1) xs) (drop i xs) w.0 _ here w.1 (c.is_root.ensures.0 c.if-is_root.true), w.2)

pub loop-path-preserved : goal.loop-path-preserved
loop-path-preserved g c = λ plain.
    let w = c.loop-path.invariant plain in
    let xs = c.deref-path-items.result.now in
    let x = c.loop-path-item.result in
    let i = c.loop-path.path-index in
    let here : drop i xs ≡ x ∷ drop (i + 1) xs = drop_more xs i x (omega arith) ∙ ap (λ y. y ∷ drop (i + 1) xs) (sym c.loop-path-item.is) in (
      w.0 ++ line (length x.0 - 0) x.0 x.1,
      shown_next x.0 x.1 (drop (i + 1) xs) (drop i xs) w.0 _ here w.1 (λ root. true≢false (sym (c.is_root.ensures.1 root) ∙ c.if-is_root.false)),
      has_written_append _ _ _ _ _ _ w.2 (c.in_ok-write.ensures.writes w.2.plain (search rules)),
    )

pub returns-clause-writes : goal.returns-clause-writes
returns-clause-writes g c = λ plain ok.
    let first = c.in_ok-write_str.ensures.writes plain (search rules) in
    let w = c.loop-path.invariant first.plain in
    let xs = c.deref-path-items.result.now in
    has_written_of_eq _ _ _ _ _ (ap (λ x. codes "/\n" ++ x) (lines_end [] (drop c.loop-path.path-index xs) w.0 _ (drop_all c.loop-path.path-index xs (omega arith)) w.1)) (has_written_append _ _ _ _ _ _ first w.2)
