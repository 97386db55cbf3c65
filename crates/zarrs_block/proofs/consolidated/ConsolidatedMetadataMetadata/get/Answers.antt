use Rattle.std.proofs.Common.{◌∙◌, ap}
use Rattle.zarrs_block.specs.Block.{node_at_key}
use Rattle.zarrs_block.proofs.BlockLaws.{found_shown}
use Rattle.zarrs_block.proofs.consolidated.ConsolidatedMetadataMetadata.get.Goals as goal

pub returns : goal.returns
returns c = c.get.ensures.value ∙ found_shown c.args.key.now c.self.inside.entries.entries ∙ ap (λ B. node_at_key B c.args.key.now) c.self.view_is
