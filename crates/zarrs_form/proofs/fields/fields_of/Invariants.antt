use Rattle.std.proofs.Common.{◌≡◌, ◌++◌, map}
use Rattle.zarrs_form.proofs.SortedLaws.{kept}
use Rattle.zarrs_form.proofs.fields.fields_of.Given as goal

-- the fields that were kept and those that will be are those of all members
abbrev pub invariant-loop-name : goal.invariant-loop-name
invariant-loop-name l =
    let names = map (λ name. name.now) l.own_names in
    l.entries.items ++ kept names l.name-iterator ≡ kept names l.fn.members.entries
