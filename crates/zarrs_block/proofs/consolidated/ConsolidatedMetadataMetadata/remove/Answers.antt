use Rattle.std.proofs.Common.{◌∙◌, ap, sym}
use Rattle.zarrs_block.specs.Block.{node_at_key}
use Rattle.zarrs_block.proofs.BlockLaws.{shown, found_shown}
use Rattle.zarrs_block.proofs.Expansion.{map_ascends}
use Rattle.zarrs_block.proofs.CutOut.{others_kept}
use Rattle.zarrs_block.proofs.consolidated.ConsolidatedMetadataMetadata.remove.Goals as goal

pub returns-clause-value : goal.returns-clause-value
returns-clause-value c = c.remove.ensures.value ∙ found_shown c.args.key.now c.self.inside.entries.entries ∙ ap (λ B. node_at_key B c.args.key.now) c.self.view_is

pub returns-clause-gone : goal.returns-clause-gone
returns-clause-gone c = sym (found_shown c.args.key.now c.remove.new.self.entries) ∙ c.remove.ensures.updates.1

pub returns-clause-others : goal.returns-clause-others
returns-clause-others c t other =
    ap (λ es. node_at_key (shown es) t) c.remove.ensures.entries ∙ others_kept c.args.key.now t c.self.inside.entries.entries other ∙ ap (λ B. node_at_key B t) c.self.view_is

-- the keys of what is left ascend
pub returns-clause-ascending : goal.returns-clause-ascending
returns-clause-ascending c = map_ascends (shown c.remove.new.self.entries) c.remove.new.self.entries (λ i. shown c.remove.new.self.entries) c.remove.ensures.ordered
