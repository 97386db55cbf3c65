use Rattle.std.proofs.Common.{◌≡◌, ℕ, List, [], ◌∷◌, ◌++◌, ◌∙◌, sym, ap, subst, take, arith, string_bytes, lit<}
use Rattle.std.proofs.lemmas.Bool.{iff_false}
use Rattle.std.proofs.lemmas.Grind.{common_steps}
use Rattle.std.proofs.lemmas.Str.Pattern.{rfind_char}
use Rattle.zarrs_store.specs.Segments.{segments_of}
use Rattle.zarrs_path.specs.Paths.{IsPath, IsPathText}
use Rattle.zarrs_path.proofs.PathTexts.{IsCutAt}
use Rattle.zarrs_path.proofs.Parents.{take_some, path_some, parent_cut, root_parent, upper_text, upper_parent, upper_valid}
use Rattle.zarrs_path.proofs.node_path.NodePath.parent.Goals as goal

pub returns-then-end-eq0-clause-ok : goal.returns-then-end-eq0-clause-ok
returns-then-end-eq0-clause-ok c =
    let text : List ℕ = c.as_str-text.result.now in
    let cut : IsCutAt c.args.self.now (take c.unwrap_or-end.result text) = parent_cut (string_bytes c.self.inside.text) text c.args.self.now c.rfind.result c.unwrap_or-end.result c.self.invariant c.as_str-text.ensures.value c.self.view_is (iff_false c.is_root.ensures c.if-is_root.false) (rfind_char 47 text c.rfind.result c.rfind.ensures.cases (lit< tt)) c.unwrap_or-end.ensures in
    root_parent c.args.self.now c.in_ok-root.field-0 (take c.unwrap_or-end.result text) cut (ap (λ n. take n text) c.if-end-eq0.true) c.in_ok-root.ensures.ok

pub invariant_of-result : goal.invariant_of-result
invariant_of-result c =
    let text : List ℕ = c.as_str-text.result.now in
    let cut : IsCutAt c.args.self.now (take c.unwrap_or-end.result text) = parent_cut (string_bytes c.self.inside.text) text c.args.self.now c.rfind.result c.unwrap_or-end.result c.self.invariant c.as_str-text.ensures.value c.self.view_is (iff_false c.is_root.ensures c.if-is_root.false) (rfind_char 47 text c.rfind.result c.rfind.ensures.cases (lit< tt)) c.unwrap_or-end.ensures in
    let kept : string_bytes c.in_ok-parent.parent ≡ take c.unwrap_or-end.result text = grind (arith, common_steps) in
    rw kept (upper_text c.args.self.now (take c.unwrap_or-end.result text) cut (take_some c.unwrap_or-end.result text c.if-end-eq0.false (path_some text (subst IsPathText (sym c.as_str-text.ensures.value) c.self.invariant))))

pub returns-clause-ok : goal.returns-clause-ok
returns-clause-ok c =
    let text : List ℕ = c.as_str-text.result.now in
    let cut : IsCutAt c.args.self.now (take c.unwrap_or-end.result text) = parent_cut (string_bytes c.self.inside.text) text c.args.self.now c.rfind.result c.unwrap_or-end.result c.self.invariant c.as_str-text.ensures.value c.self.view_is (iff_false c.is_root.ensures c.if-is_root.false) (rfind_char 47 text c.rfind.result c.rfind.ensures.cases (lit< tt)) c.unwrap_or-end.ensures in
    let kept : string_bytes c.in_ok-parent.parent ≡ take c.unwrap_or-end.result text = grind (arith, common_steps) in
    let above = upper_parent c.args.self.now (take c.unwrap_or-end.result text) cut in
    (above.0, above.1 ∙ ap (λ b. segments_of b ++ above.0 ∷ []) (sym kept))

pub returns-clause-above : goal.returns-clause-above
returns-clause-above c =
    let text : List ℕ = c.as_str-text.result.now in
    let cut : IsCutAt c.args.self.now (take c.unwrap_or-end.result text) = parent_cut (string_bytes c.self.inside.text) text c.args.self.now c.rfind.result c.unwrap_or-end.result c.self.invariant c.as_str-text.ensures.value c.self.view_is (iff_false c.is_root.ensures c.if-is_root.false) (rfind_char 47 text c.rfind.result c.rfind.ensures.cases (lit< tt)) c.unwrap_or-end.ensures in
    let kept : string_bytes c.in_ok-parent.parent ≡ take c.unwrap_or-end.result text = grind (arith, common_steps) in
    subst IsPath (ap segments_of (sym kept)) (upper_valid c.args.self.now (take c.unwrap_or-end.result text) cut)
