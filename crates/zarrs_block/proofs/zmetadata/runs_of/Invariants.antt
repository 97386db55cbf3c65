use Rattle.serde_json.specs.View.{members_view}
use Rattle.zarrs_block.specs.StepsOfZmetadata.{gathered_at}
use Rattle.zarrs_block.proofs.ZmetadataSteps.{IsGathered}
use Rattle.zarrs_block.proofs.zmetadata.runs_of.Given as goal

-- the first members are gathered at the texts of their paths, and the others are left
abbrev pub invariant-loop-key : goal.invariant-loop-key
invariant-loop-key l = IsGathered (members_view l.fn.documents.entries) (gathered_at l.runs.items l.run) l.key-iterator
