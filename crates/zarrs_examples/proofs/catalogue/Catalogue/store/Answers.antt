use Rattle.zarrs_config.specs.declared.version.MetadataRetrieveVersion.TheVariants.{V3}
use Rattle.zarrs_examples.proofs.Catalogues.{is_stored, others_refused, others_stored, outside}
use Rattle.zarrs_examples.proofs.catalogue.Catalogue.store.Goals as goal

pub returns-in_err-store_metadata-clause-others : goal.returns-in_err-store_metadata-clause-others
returns-in_err-store_metadata-clause-others g c =
    others_refused c.means_version_3.ensures _ _ c.args.self.now c.in_ok-group.group c.in_ok-group.ensures.set c.storing_keeps_others.ensures _ _ c.in_err-store_metadata.ensures.err

pub returns-in_err-store_metadata-clause-current : goal.returns-in_err-store_metadata-clause-current
returns-in_err-store_metadata-clause-current g c =
    let others = others_refused c.means_version_3.ensures _ _ c.args.self.now c.in_ok-group.group c.in_ok-group.ensures.set c.storing_keeps_others.ensures _ _ c.in_err-store_metadata.ensures.err in
    c.listed_block_stays.ensures _ _ V3 c.args.self.now.path c.args.self.now.block (outside _ _ _ others)

pub returns-clause-others : goal.returns-clause-others
returns-clause-others g c = others_stored c.means_version_3.ensures _ _ c.args.self.now c.in_ok-group.group c.in_ok-group.ensures.set c.storing_keeps_others.ensures c.in_ok-store_metadata.ensures.ok

pub returns-clause-current : goal.returns-clause-current
returns-clause-current g c =
    let others = others_stored c.means_version_3.ensures _ _ c.args.self.now c.in_ok-group.group c.in_ok-group.ensures.set c.storing_keeps_others.ensures c.in_ok-store_metadata.ensures.ok in
    c.listed_block_stays.ensures _ _ V3 c.args.self.now.path c.args.self.now.block (outside _ _ _ others)

pub returns-clause-stored : goal.returns-clause-stored
returns-clause-stored g c was =
    let others = others_stored c.means_version_3.ensures _ _ c.args.self.now c.in_ok-group.group c.in_ok-group.ensures.set c.storing_keeps_others.ensures c.in_ok-store_metadata.ensures.ok in
    let current = c.listed_block_stays.ensures _ _ V3 c.args.self.now.path c.args.self.now.block (outside _ _ _ others) was in
    is_stored c.means_version_3.ensures _ _ c.args.self.now c.in_ok-group.group c.in_ok-group.ensures.set c.listed_block_opens.ensures current c.in_ok-store_metadata.ensures.means
    (c.in_ok-is_shallow.ensures.0 c.if-not-branch.false)
