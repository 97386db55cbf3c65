use Rattle.std.proofs.Common.{vec_len}
use Rattle.serde_json.specs.View.{members_view}
use Rattle.zarrs_block.proofs.ZmetadataWritten.{IsDocumented}
use Rattle.zarrs_block.proofs.zmetadata_written.documents_of.Given as goal

-- the documents of the last nodes are put, and the other nodes are left
abbrev pub invariant-loop-path : goal.invariant-loop-path
invariant-loop-path l = IsDocumented l.fn.nodes.items l.nodes.items (members_view l.documents.entries)

-- with each node fewer are left
abbrev pub decreases-loop-path : goal.decreases-loop-path
decreases-loop-path l = vec_len l.nodes
