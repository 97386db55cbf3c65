use Rattle.std.proofs.Common.{◌∙◌, sym, true≢false}
use Rattle.zarrs_hierarchy.proofs.Depths.{depth_of}
use Rattle.zarrs_hierarchy.proofs.tree.depth.Goals as goal

pub returns : goal.returns
returns c =
    depth_of c.args.path.now c.as_bytes.result.now c.slashes.result c.as_str.ensures.valid (c.as_bytes.ensures.value ∙ c.as_str.ensures.value) c.slashes.ensures
    (λ root. true≢false (sym (c.is_root.ensures.1 root) ∙ c.if-is_root.false))
