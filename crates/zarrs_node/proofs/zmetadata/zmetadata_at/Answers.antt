use Rattle.std.proofs.Common.{rules, ◌≡◌, Some, sym}
use Rattle.zarrs_node.specs.BlocksBelow.{zmetadata_at}
use Rattle.zarrs_node.proofs.HeldStores.{holds_zmetadata}
use Rattle.zarrs_node.proofs.zmetadata.zmetadata_at.Goals as goal

pub returns-in-Ok-clause-store : goal.returns-in-Ok-clause-store
returns-in-Ok-clause-store g c =
    let s = g.S.Store.contents c.args.storage.now in
    let same : Some c.in-Ok.block.metadata ≡ zmetadata_at s c.args.path.now = search rules in
    holds_zmetadata s c.args.path.now c.in-Ok.block.metadata (sym same)
