use Rattle.serde_json.specs.View.{members_view}
use Rattle.zarrs_group.proofs.FullDocuments.{Written}
use Rattle.zarrs_group.proofs.full_block.full_documents.Given as goal

-- the first entries are written, and the others are left
abbrev pub invariant-loop-key : goal.invariant-loop-key
invariant-loop-key l = Written (members_view l.members.entries) l.fn.metadata l.key-iterator
