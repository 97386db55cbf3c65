use Rattle.std.proofs.Common.{◌≡◌, ◌∷◌, [], ◌++◌, sym, ap, subst, ◌∙◌, append_assoc}
use Rattle.std.specs.Vec.Iter.{into_iter_items}
use Rattle.zarrs_form.specs.SortedMembers.{NamesAscend}
use Rattle.zarrs_form.proofs.SortedLaws.{put_behind_all}
use Rattle.zarrs_form.proofs.sorted.map_of.Goals as goal

pub loop-name-preserved : goal.loop-name-preserved
loop-name-preserved g c =
    let done = c.loop-name.map.entries in
    let left = into_iter_items c.next.new.self in
    let all : done ++ (c.in-Some.name, c.in-Some.value) ∷ left ≡ c.args.entries.items = ap (λ es. done ++ es) (sym c.in-Some.ensures.steps.0) ∙ c.loop-name.invariant in
    ap (λ es. es ++ left) (c.in_ok-insert.ensures.entries ∙ put_behind_all done (c.in-Some.name, c.in-Some.value) left (subst NamesAscend (sym all) c.requires.ascending))
    ∙ append_assoc done ((c.in-Some.name, c.in-Some.value) ∷ []) left ∙ all
