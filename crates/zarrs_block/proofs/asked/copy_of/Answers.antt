use Rattle.zarrs_form.proofs.MemberLists.{members_view-clone}
use Rattle.zarrs_block.proofs.asked.copy_of.Goals as goal

pub returns : goal.returns
returns c = members_view-clone _ _ c.in_ok-copy.ensures.cases
