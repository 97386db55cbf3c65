-- What a group ends as, where it is lent on in a struct: a step of the call that lends it bare.
use Rattle.std.specs.Prelude.{◌≡◌, Result, Ok, Err}
use Rattle.std.specs.Borrow.{MutBor, Fml, RestsIfErr}
use Rattle.zarrs_group.specs.contracts.group.Group.{the_row as group_row}
use Rattle.zarrs_group.specs.declared.consolidated.LentGroup.{LentGroup}
use Rattle.zarrs_group.specs.Groups.{GroupState}

-- after a refusal the group is what it was, and else it ends as what was last written through the borrow in the struct
abbrev pub RestsLent : {E : Type 0} → MutBor GroupState → Result LentGroup E → Fml
RestsLent g r = RestsIfErr group_row g (λ lent. lent.group.ghost_name) r (λ end. end ≡ g.now)

-- the group that is lent in the struct, or the refusal
abbrev pub group_lent : {E : Type 0} → Result LentGroup E → Result (MutBor GroupState) E
group_lent (Ok lent) = Ok lent.group
group_lent (Err e) = Err e
