use Rattle.serde_json.specs.View.{members_view}
use Rattle.zarrs_load.proofs.Loads.{refused_members_result}
use Rattle.zarrs_load.proofs.image.load_image.Goals as goal

pub returns-clause-err : goal.returns-clause-err
returns-clause-err g c =
    refused_members_result _ _ (members_view c.in_ok-members.members.entries) c.store_of.result c.in_ok-members.ensures.end c.in_ok-members.ensures.ok c.in_ok-members.ensures.bound c.store_of.ensures.err
