use Rattle.std.proofs.Common.{ap, subst}
use Rattle.zarrs_group.specs.Edits.{set}
use Rattle.zarrs_group.specs.StoredTexts.{IsStoredText}
use Rattle.zarrs_group.proofs.stored.edit_of_block.Goals as goal

pub returns-clause-ok : goal.returns-clause-ok
returns-clause-ok c = (
  c.in_ok-bytes.bytes.items,
  ap (λ k. set k c.in_ok-bytes.bytes.items) c.in_ok-key.ensures,
  subst (IsStoredText c.in_ok-bytes.bytes.items) c.in_ok-written.ensures c.in_ok-bytes.ensures,
)
