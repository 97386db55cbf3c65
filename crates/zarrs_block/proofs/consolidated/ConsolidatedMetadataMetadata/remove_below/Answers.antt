use Rattle.std.proofs.Common.{◌∙◌}
use Rattle.zarrs_block.proofs.CutOut.{cut_twice}
use Rattle.zarrs_block.proofs.consolidated.ConsolidatedMetadataMetadata.remove_below.Goals as goal

pub returns-clause-without : goal.returns-clause-without
returns-clause-without c =
    cut_twice c.args.key.now c.deref.result.now c.args.self.now c.cut.new.block c.cut-2.new.block (c.deref.ensures ∙ c.in_ok-rooted.ensures.ok) c.in_ok-cut.ensures.cut c.in_ok-cut-2.ensures.cut
