use Rattle.std.proofs.Common.{subst}
use Rattle.std.specs.Prelude.{IfErr}
use Rattle.zarrs_block.specs.Zmetadata.{RefusesZmetadata}
use Rattle.zarrs_block.proofs.consolidated.ConsolidatedMetadata.to_zmetadata.Goals as goal

pub returns-clause-err : goal.returns-clause-err
returns-clause-err c = subst (λ b. IfErr c.into_zmetadata.result (RefusesZmetadata b.metadata)) c.in_ok-block.ensures c.into_zmetadata.ensures.err
