use Rattle.std.proofs.Common.{Some, ap, sym, subst, ◌∙◌, string_bytes, string_cmp}
use Rattle.std.specs.BTreeMap.{insert_entry}
use Rattle.zarrs_form.specs.SortedMembers.{NamesAscend}
use Rattle.zarrs_form.specs.StepsOfMembers.{IsNameAt, IsNameGap}
use Rattle.zarrs_form.proofs.SortedLaws.{ascending_put, lookup_missing, lookup_there, put_in_gap, put_there}
use Rattle.zarrs_form.proofs.sorted.put_entry.Goals as goal

-- the value at the name is replaced
pub returns-in-Ok-clause-before : goal.returns-in-Ok-clause-before
returns-in-Ok-clause-before g c =
    let at = subst (λ es. IsNameAt es (string_bytes c.args.name) c.in-Ok.place) c.as_slice.ensures.value (subst (λ n. IsNameAt c.as_slice.result.now n c.in-Ok.place) c.as_str.ensures.value c.in-Ok.ensures.found) in
    ap Some (c.replace.ensures.value ∙ ap (λ e. e.1) c.index_mut.ensures.value) ∙ sym (lookup_there _ _ _ c.index_mut.result.now c.requires.ascending at)

pub returns-in-Ok-clause-ok : goal.returns-in-Ok-clause-ok
returns-in-Ok-clause-ok g c =
    let at = subst (λ es. IsNameAt es (string_bytes c.args.name) c.in-Ok.place) c.as_slice.ensures.value (subst (λ n. IsNameAt c.as_slice.result.now n c.in-Ok.place) c.as_str.ensures.value c.in-Ok.ensures.found) in
    put_there _ c.args.name c.replace.new.dest _ c.index_mut.result.now c.index_mut.ensures.value c.requires.ascending at
    ∙ ap (insert_entry string_cmp c.args.entries.now.items c.args.name) c.replace.ensures.after

pub returns-in-Ok-clause-ascending : goal.returns-in-Ok-clause-ascending
returns-in-Ok-clause-ascending g c =
    let at = subst (λ es. IsNameAt es (string_bytes c.args.name) c.in-Ok.place) c.as_slice.ensures.value (subst (λ n. IsNameAt c.as_slice.result.now n c.in-Ok.place) c.as_str.ensures.value c.in-Ok.ensures.found) in
    subst NamesAscend (sym (put_there _ c.args.name c.replace.new.dest _ c.index_mut.result.now c.index_mut.ensures.value c.requires.ascending at)) (ascending_put _ c.args.name c.replace.new.dest c.requires.ascending)

-- the name and the value are put where the name would stand
pub returns-in_ok-insert-in-Err-clause-before : goal.returns-in_ok-insert-in-Err-clause-before
returns-in_ok-insert-in-Err-clause-before g c =
    let gap = subst (λ es. IsNameGap es (string_bytes c.args.name) c.in-Err.gap) c.as_slice.ensures.value (subst (λ n. IsNameGap c.as_slice.result.now n c.in-Err.gap) c.as_str.ensures.value c.in-Err.ensures.absent) in
    sym (lookup_missing _ _ _ gap)

pub returns-in_ok-insert-in-Err-clause-ok : goal.returns-in_ok-insert-in-Err-clause-ok
returns-in_ok-insert-in-Err-clause-ok g c =
    let gap = subst (λ es. IsNameGap es (string_bytes c.args.name) c.in-Err.gap) c.as_slice.ensures.value (subst (λ n. IsNameGap c.as_slice.result.now n c.in-Err.gap) c.as_str.ensures.value c.in-Err.ensures.absent) in
    c.in_ok-insert-in-Err.ensures.items ∙ put_in_gap _ c.args.name c.args.value _ gap

pub returns-in_ok-insert-in-Err-clause-ascending : goal.returns-in_ok-insert-in-Err-clause-ascending
returns-in_ok-insert-in-Err-clause-ascending g c =
    let gap = subst (λ es. IsNameGap es (string_bytes c.args.name) c.in-Err.gap) c.as_slice.ensures.value (subst (λ n. IsNameGap c.as_slice.result.now n c.in-Err.gap) c.as_str.ensures.value c.in-Err.ensures.absent) in
    subst NamesAscend (sym (c.in_ok-insert-in-Err.ensures.items ∙ put_in_gap _ c.args.name c.args.value _ gap)) (ascending_put _ c.args.name c.args.value c.requires.ascending)
