use Rattle.std.proofs.Common.{◌≡◌, ◌∙◌, ◌+◌, ◌++◌, ◌∷◌, [], drop, inl, refl, sym, ap, subst, append_assoc, append-nil, true≢false, Contains, Less}
use Rattle.std.proofs.lemmas.List.{drop_all}
use Rattle.zarrs_store.proofs.Ranges.{left_at}
use Rattle.zarrs_path.specs.Paths.{path_cmp}
use Rattle.zarrs_node.specs.Order.{Ascend}
use Rattle.zarrs_node.proofs.ForestsBeside.{Contains-first}
use Rattle.std.proofs.lemmas.List.Elements.{Contains-append_right}
use Rattle.zarrs_check.specs.StepsOfComparisons.{IsNextOf}
use Rattle.zarrs_check.proofs.NodeRuns.{none_behind, back_ascends}
use Rattle.zarrs_check.proofs.UnderWay.{next_more, next_rest}
use Rattle.zarrs_check.proofs.comparison.Comparison.take_first.Goals as goal

pub loop-path-init : goal.loop-path-init
loop-path-init c = (refl, [], refl, refl)

pub loop-path-preserved : goal.loop-path-preserved
loop-path-preserved c =
    let xs = c.args.nodes.now in
    let x = c.loop-path-item.result in
    let i = c.loop-path.path-index in
    let was = c.loop-path.self in
    let h = c.loop-path.invariant in
    let next = c.in_ok-take.ensures in
    let here : drop i xs ≡ x ∷ drop (i + 1) xs = left_at i xs x c.loop-path-test.true c.loop-path-item.is in (
      next.one.group ∙ h.0,
      h.1 ++ x ∷ [],
      h.2 ∙ ap (λ ys. h.1 ++ ys) here ∙ sym (append_assoc h.1 (x ∷ []) (drop (i + 1) xs)),
      next_more c.args.self.now h.1 was x c.take.new.self h.3 (inl (c.is_above.ensures.0 c.if-not-is_above.false, next)),
    )

pub returns-then-not-is_above : goal.returns-then-not-is_above
returns-then-not-is_above c =
    let xs = c.args.nodes.now in
    let x = c.loop-path-item.result in
    let i = c.loop-path.path-index in
    let was = c.loop-path.self in
    let h = c.loop-path.invariant in
    let here : drop i xs ≡ x ∷ drop (i + 1) xs = left_at i xs x c.loop-path-test.true c.loop-path-item.is in
    let parts : xs ≡ h.1 ++ x ∷ drop (i + 1) xs = h.2 ∙ ap (λ ys. h.1 ++ ys) here in
    let in' : Contains xs x = subst (λ ys. Contains ys x) (sym parts) (Contains-append_right h.1 (x ∷ drop (i + 1) xs) x (Contains-first x (drop (i + 1) xs))) in
    subst (λ ys. IsNextOf c.args.self.now ys was) (sym parts)
    (next_rest c.args.self.now h.1 was (x ∷ drop (i + 1) xs) h.3
    (λ e rest low. none_behind was.group x (drop (i + 1) xs) (back_ascends h.1 (x ∷ drop (i + 1) xs) (subst Ascend parts c.requires.ascending))
    (subst (λ g. path_cmp g x.0 ≡ Less) (sym h.0) (c.requires.behind x in'))
    (λ under. true≢false (sym (c.is_above.ensures.1 under) ∙ c.if-not-is_above.true)) e rest low))

pub returns : goal.returns
returns c =
    let xs = c.args.nodes.now in
    let h = c.loop-path.invariant in
    let parts : xs ≡ h.1 = h.2 ∙ ap (λ ys. h.1 ++ ys) (drop_all c.loop-path.path-index xs c.loop-path-test.false) ∙ append-nil h.1 in
    subst (λ ys. IsNextOf c.args.self.now ys c.loop-path.self) (sym parts) h.3
