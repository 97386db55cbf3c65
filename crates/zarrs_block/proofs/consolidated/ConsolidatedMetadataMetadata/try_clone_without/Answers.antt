use Rattle.std.proofs.Common.{subst}
use Rattle.zarrs_block.specs.KeysAboutAPath.{IsWithout}
use Rattle.zarrs_block.proofs.consolidated.ConsolidatedMetadataMetadata.try_clone_without.Goals as goal

pub returns-clause-without : goal.returns-clause-without
returns-clause-without c = subst (λ B. IsWithout c.args.key.now B c.remove_below.new.self) c.in_ok-copy.ensures c.in_ok-remove_below.ensures.without
