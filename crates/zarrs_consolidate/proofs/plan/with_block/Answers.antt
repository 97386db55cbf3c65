use Rattle.std.proofs.Common.{◌≡◌, rules}
use Rattle.zarrs_config.specs.Settings.{default_settings}
use Rattle.zarrs_block.specs.Policy.{as_block}
use Rattle.zarrs_group.specs.Children.{group_at}
use Rattle.zarrs_consolidate.proofs.Plans.{deep_document}
use Rattle.zarrs_consolidate.proofs.plan.with_block.Goals as goal

pub returns-in-Ok-None-clause-err : goal.returns-in-Ok-None-clause-err
returns-in-Ok-None-clause-err c =
    let is : c.at-group.result ≡ group_at default_settings c.args.base.now c.args.metadata = search rules in
    deep_document c.args.base.now c.args.metadata (as_block c.args.block) c.at-group.result c.requires is (c.in-Ok-None.ensures.none c.in-Ok-None.field-0-is)
