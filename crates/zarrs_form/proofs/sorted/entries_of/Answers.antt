use Rattle.std.proofs.Common.{◌∷◌, [], ◌++◌, sym, ap, ◌∙◌, append_assoc}
use Rattle.zarrs_form.proofs.sorted.entries_of.Goals as goal

pub loop-name-preserved : goal.loop-name-preserved
loop-name-preserved g c =
    let done = c.loop-name.entries.items in
    let left = c.next.new.self in
    ap (λ es. es ++ left) c.in_ok-push.ensures.items ∙ append_assoc done ((c.in-Some.name, c.in-Some.value) ∷ []) left
    ∙ ap (λ es. done ++ es) (sym c.in-Some.ensures.steps) ∙ c.loop-name.invariant
