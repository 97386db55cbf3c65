use Rattle.std.proofs.Common.{Some, ap, sym, subst, ◌∙◌}
use Rattle.zarrs_form.specs.SortedMembers.{NamesAscend}
use Rattle.zarrs_form.specs.StepsOfMembers.{IsNameAt, IsNameGap}
use Rattle.zarrs_form.proofs.SortedLaws.{ascending_taken, kept_missing, lookup_missing, lookup_there, removed_there}
use Rattle.zarrs_form.proofs.sorted.take_entry.Goals as goal

-- the entry at the name is taken away
pub returns-in-Ok-clause-found : goal.returns-in-Ok-clause-found
returns-in-Ok-clause-found g c =
    let at = subst (λ es. IsNameAt es c.args.name.now c.in-Ok.place) c.as_slice.ensures.value c.in-Ok.ensures.found in
    ap (λ e. Some e.1) c.remove-name.ensures.value ∙ sym (lookup_there _ _ _ c.remove-name.result c.requires.ascending at)

pub returns-in-Ok-clause-left : goal.returns-in-Ok-clause-left
returns-in-Ok-clause-left g c =
    let at = subst (λ es. IsNameAt es c.args.name.now c.in-Ok.place) c.as_slice.ensures.value c.in-Ok.ensures.found in
    c.remove-name.ensures.items ∙ removed_there _ _ _ c.requires.ascending at

pub returns-in-Ok-clause-ascending : goal.returns-in-Ok-clause-ascending
returns-in-Ok-clause-ascending g c =
    let at = subst (λ es. IsNameAt es c.args.name.now c.in-Ok.place) c.as_slice.ensures.value c.in-Ok.ensures.found in
    subst NamesAscend (sym (c.remove-name.ensures.items ∙ removed_there _ _ _ c.requires.ascending at)) (ascending_taken _ _ c.requires.ascending)

-- there is nothing to take away
pub returns-in-Err-clause-found : goal.returns-in-Err-clause-found
returns-in-Err-clause-found g c =
    let gap = subst (λ es. IsNameGap es c.args.name.now c.in-Err._gap) c.as_slice.ensures.value c.in-Err.ensures.absent in
    sym (lookup_missing _ _ _ gap)

pub returns-in-Err-clause-left : goal.returns-in-Err-clause-left
returns-in-Err-clause-left g c =
    let gap = subst (λ es. IsNameGap es c.args.name.now c.in-Err._gap) c.as_slice.ensures.value c.in-Err.ensures.absent in
    kept_missing _ _ (lookup_missing _ _ _ gap)
