use Rattle.std.proofs.Common.{◌≡◌, ◌∙◌, ◌∷◌, ◌+◌, ◌++◌, ◌-◌, drop, length, string_bytes, sym, ap, arith, true≢false}
use Rattle.std.proofs.lemmas.List.{drop_more, drop_all}
use Rattle.zarrs_node.specs.Lines.{line}
use Rattle.zarrs_hierarchy.proofs.Below.{lines_start, lines_next, lines_stop, lines_end}
use Rattle.zarrs_hierarchy.proofs.hierarchy.Hierarchy.push_below.Goals as goal

-- what is walked is what stands behind the base, and it ascends
pub loop-path-init : goal.loop-path-init
loop-path-init c =
    lines_start c.args.base.now c.args.self.now c.behind-path-items.result.now (string_bytes c.args.text.now) c.behind-path-items.ensures.ordered c.behind-path-items.ensures.behind

pub loop-path-preserved : goal.loop-path-preserved
loop-path-preserved c =
    let xs = c.behind-path-items.result.now in
    let x = c.loop-path-item.result in
    let i = c.loop-path.path-index in
    let here : drop i xs ≡ x ∷ drop (i + 1) xs = drop_more xs i x (omega arith) ∙ ap (λ y. y ∷ drop (i + 1) xs) (sym c.loop-path-item.is) in
    lines_next c.args.base.now x.0 x.1 (drop (i + 1) xs) (drop i xs) (string_bytes c.loop-path.text) _ here c.loop-path.invariant
    (string_bytes c.write.new.self) (c.is_below.ensures.below.0 c.if-not-is_below.false)
    (c.in_ok-write.ensures.bytes ∙ ap (λ n. string_bytes c.loop-path.text ++ line (length x.0 - n) x.0 x.1) c.depth-above.ensures)

pub returns-then-not-is_below-clause-lines : goal.returns-then-not-is_below-clause-lines
returns-then-not-is_below-clause-lines c =
    let xs = c.behind-path-items.result.now in
    let x = c.loop-path-item.result in
    let i = c.loop-path.path-index in
    let here : drop i xs ≡ x ∷ drop (i + 1) xs = drop_more xs i x (omega arith) ∙ ap (λ y. y ∷ drop (i + 1) xs) (sym c.loop-path-item.is) in
    lines_stop c.args.base.now x.0 x.1 (drop (i + 1) xs) (drop i xs) (string_bytes c.loop-path.text) _ here c.loop-path.invariant
    (λ low. true≢false (sym (c.is_below.ensures.below.1 low) ∙ c.if-not-is_below.true))

pub returns-clause-lines : goal.returns-clause-lines
returns-clause-lines c =
    let xs = c.behind-path-items.result.now in
    lines_end c.args.base.now (drop c.loop-path.path-index xs) (string_bytes c.loop-path.text) _ (drop_all c.loop-path.path-index xs (omega arith)) c.loop-path.invariant.1
