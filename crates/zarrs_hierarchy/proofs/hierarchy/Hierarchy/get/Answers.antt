use Rattle.std.proofs.Common.{Some, sym, ap, subst, ◌∙◌}
use Rattle.zarrs_path.specs.Paths.{Path}
use Rattle.zarrs_meta.specs.declared.node.NodeMetadata.{NodeMetadata}
use Rattle.zarrs_hierarchy.specs.PairsOfHierarchies.{metadata_at}
use Rattle.zarrs_hierarchy.specs.StepsOfHierarchies.{IsPathAt, IsPathGap}
use Rattle.zarrs_hierarchy.proofs.Places.{lookup_there, lookup_missing}
use Rattle.zarrs_hierarchy.proofs.hierarchy.Hierarchy.get.Goals as goal

pub returns-in-Ok : goal.returns-in-Ok
returns-in-Ok c =
    let es = c.self.inside.nodes.items in
    let p = c.args.path.now in
    let at = subst (λ xs. IsPathAt xs p c.in-Ok.place) c.deref.ensures.value c.in-Ok.ensures.found in
    ap (λ (e : Path × NodeMetadata). Some e.1) c.index.ensures ∙ sym (lookup_there es p c.in-Ok.place c.index.result.now c.self.invariant at) ∙ ap (λ h. metadata_at h p) c.self.view_is

pub returns-in-Err : goal.returns-in-Err
returns-in-Err c =
    let es = c.self.inside.nodes.items in
    let p = c.args.path.now in
    let gap = subst (λ xs. IsPathGap xs p c.in-Err._gap) c.deref.ensures.value c.in-Err.ensures.absent in
    sym (lookup_missing es p c.in-Err._gap gap) ∙ ap (λ h. metadata_at h p) c.self.view_is
