-- What a group ends as, where a call that changes it lends it on.
-- <https://zarr-specs.readthedocs.io/en/latest/v3/core/index.html#group-metadata>
use Rattle.std.specs.Prelude.{◌≡◌, Result}
use Rattle.std.specs.Borrow.{MutBor, Fml, RestsIfErr}
use Rattle.zarrs_group.specs.contracts.group.Group.{the_row as group_row}
use Rattle.zarrs_group.specs.Groups.{GroupState}

-- after a refusal the group is what it was, and else it ends as what was last written through the borrow that is lent
abbrev pub Rests : {E : Type 0} → MutBor GroupState → Result (MutBor GroupState) E → Fml
Rests g r = RestsIfErr group_row g (λ lent. lent.ghost_name) r (λ end. end ≡ g.now)
