use Rattle.std.proofs.Common.{[], ◌∷◌, ◌++◌, option_map, subst, sym}
use Rattle.zarrs_path.specs.Keys.{zarr_json}
use Rattle.zarrs_config.specs.declared.version.MetadataRetrieveVersion.TheVariants.{V3}
use Rattle.zarrs_group.specs.Edits.{AgreesOutsideKey}
use Rattle.zarrs_examples.proofs.Catalogues.{edited, outside}
use Rattle.zarrs_examples.proofs.catalogue.Catalogue.apply.Goals as goal

pub returns-clause-current : goal.returns-clause-current
returns-clause-current g c was =
    let S = g.S.Store.contents c.args.storage.now in
    let T = g.S.Store.contents c.write.new.storage in
    let p = c.args.change.now.path in
    let key = p ++ zarr_json ∷ [] in
    let others = subst (AgreesOutsideKey key S) (sym c.in_ok-write.ensures.ok) (edited c.edit_keeps_others.ensures S key (option_map (λ v. v.items) c.args.change.now.document)) in
    c.fresh_is_listed.ensures S T V3 c.args.self.now.path p c.args.self.now.block c.in_ok-block.block c.is_below.ensures.valid.0 (c.is_below.ensures.below.0 c.if-not-is_below.false)
    (outside S T p others) was c.in_ok-block.ensures.fresh c.in_ok-block.ensures.ascending c.in_ok-block.ensures.clean
