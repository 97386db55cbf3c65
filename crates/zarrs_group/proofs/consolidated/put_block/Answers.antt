use Rattle.std.proofs.Common.{◌∙◌, ap}
use Rattle.serde_json.specs.Data.{put}
use Rattle.zarrs_group.proofs.consolidated.put_block.Goals as goal

pub returns-clause-ok : goal.returns-clause-ok
returns-clause-ok c = c.in_ok-insert.ensures.ok ∙ ap (λ name. put name c.args.field c.args.fields.now) c.in_ok-name.ensures.ok
