use Rattle.std.proofs.Common.{◌≡◌, sym, subst}
use Rattle.std.proofs.lemmas.Result.{IfOk-weaker}
use Rattle.zarrs_meta.specs.declared.node.GroupMetadata.TheVariants.{V2}
use Rattle.zarrs_block.specs.Policy.{as_block}
use Rattle.zarrs_node.specs.BlocksBelow.{zmetadata_at}
use Rattle.zarrs_group.specs.BlocksBeside.{IsBeside}
use Rattle.zarrs_group.proofs.Beside.{beside_read}
use Rattle.zarrs_group.proofs.open.find_block.Goals as goal

pub returns-in-V2-clause-fits : goal.returns-in-V2-clause-fits
returns-in-V2-clause-fits g c =
    let s = g.S.Store.contents c.args.storage.now in
    let p = c.args.path.now in
    IfOk-weaker c.zmetadata_at.result (λ block. as_block block ≡ zmetadata_at s p) (λ block. IsBeside (as_block block)) (λ block is. subst IsBeside (sym is) (beside_read s p (V2 c.in-V2.field-0))) c.zmetadata_at.ensures.ok
