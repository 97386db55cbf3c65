use Rattle.std.proofs.Common.{[], ◌∷◌, ◌++◌, ap, sym, ◌∙◌, append-nil, append_assoc, map}
use Rattle.std.specs.Vec.Iter.{into_iter_items}
use Rattle.zarrs_check.proofs.SurveyFaults.{none_left}
use Rattle.zarrs_cli.proofs.folder.paths_of.Goals as goal

pub loop-finding-preserved : goal.loop-finding-preserved
loop-finding-preserved c =
    let l = c.loop-finding in
    let x = c.in-Some.finding in
    let rest = into_iter_items c.next.new.self in
    ap (λ ps. ps ++ map (λ f. f.path) rest) c.in_ok-push.ensures.items
    ∙ append_assoc l.paths.items (x.path ∷ []) (map (λ f. f.path) rest)
    ∙ ap (λ fs. l.paths.items ++ map (λ f. f.path) fs) (sym c.in-Some.ensures.steps.0)
    ∙ l.invariant

pub returns : goal.returns
returns c =
    let l = c.loop-finding in
    let empty = none_left _ _ l.finding-iterator.rest.ok.0 c.in-None.ensures.steps.0 in
    sym (append-nil l.paths.items) ∙ ap (λ fs. l.paths.items ++ map (λ f. f.path) fs) (sym empty) ∙ l.invariant
