use Rattle.std.proofs.Common.{◌≡◌, ap, sym, subst, map, None}
use Rattle.zarrs_block.specs.Policy.{as_block}
use Rattle.zarrs_group.specs.Groups.{GroupState, metadata_by_version}
use Rattle.zarrs_group.specs.StoringGroups.{AreEditsOf, store_changes, stored_fault_in}
use Rattle.zarrs_group.specs.StepsOfGroups.{edit_of}
use Rattle.zarrs_group.proofs.Storing.{of_parts, stores_exactly, stores_meaning, stores_block}
use Rattle.zarrs_group.proofs.group.Group.store_metadata_opt.Goals as goal

pub returns-clause-exact : goal.returns-clause-exact
returns-clause-exact g c =
    let S = g.S.Store.contents c.args.storage.now in
    let m = metadata_by_version c.args.options.now c.args.self.now.metadata in
    let es = map edit_of c.as_slice.result.now in
    let at : c.self.inside.path ≡ c.args.self.now.path = ap (λ (s : GroupState). s.path) c.self.view_is in
    let beside : as_block c.self.inside.block ≡ c.args.self.now.block = ap (λ (s : GroupState). s.block) c.self.view_is in
    let made : AreEditsOf (store_changes c.self.inside.path c.in_ok-metadata.metadata (as_block c.self.inside.block)) es =
    subst (AreEditsOf (store_changes c.self.inside.path c.in_ok-metadata.metadata (as_block c.self.inside.block))) (sym (ap (map edit_of) c.as_slice.ensures.value)) c.in_ok-edits.ensures.ok in
    let are : AreEditsOf (store_changes c.args.self.now.path m c.args.self.now.block) es =
    of_parts (λ p k b. AreEditsOf (store_changes p k b) es) _ _ _ _ _ _ at c.in_ok-metadata.ensures beside made in
    let asked : stored_fault_in S.numbers c.self.inside.path c.in_ok-metadata.metadata (as_block c.self.inside.block) ≡ None =
    subst (λ n. stored_fault_in n c.self.inside.path c.in_ok-metadata.metadata (as_block c.self.inside.block) ≡ None) c.numbers.ensures c.in_ok-edits.ensures.plain in
    let plain : stored_fault_in S.numbers c.args.self.now.path m c.args.self.now.block ≡ None =
    of_parts (λ p k b. stored_fault_in S.numbers p k b ≡ None) _ _ _ _ _ _ at c.in_ok-metadata.ensures beside asked in
    stores_exactly S (g.S.Store.contents c.apply_all.new.storage) c.args.self.now.path m c.args.self.now.block es plain are c.apply_all.result c.apply_all.ensures.ok

pub returns-clause-means : goal.returns-clause-means
returns-clause-means g c =
    let S = g.S.Store.contents c.args.storage.now in
    let m = metadata_by_version c.args.options.now c.args.self.now.metadata in
    let es = map edit_of c.as_slice.result.now in
    let at : c.self.inside.path ≡ c.args.self.now.path = ap (λ (s : GroupState). s.path) c.self.view_is in
    let beside : as_block c.self.inside.block ≡ c.args.self.now.block = ap (λ (s : GroupState). s.block) c.self.view_is in
    let made : AreEditsOf (store_changes c.self.inside.path c.in_ok-metadata.metadata (as_block c.self.inside.block)) es =
    subst (AreEditsOf (store_changes c.self.inside.path c.in_ok-metadata.metadata (as_block c.self.inside.block))) (sym (ap (map edit_of) c.as_slice.ensures.value)) c.in_ok-edits.ensures.ok in
    let are : AreEditsOf (store_changes c.args.self.now.path m c.args.self.now.block) es =
    of_parts (λ p k b. AreEditsOf (store_changes p k b) es) _ _ _ _ _ _ at c.in_ok-metadata.ensures beside made in
    let asked : stored_fault_in S.numbers c.self.inside.path c.in_ok-metadata.metadata (as_block c.self.inside.block) ≡ None =
    subst (λ n. stored_fault_in n c.self.inside.path c.in_ok-metadata.metadata (as_block c.self.inside.block) ≡ None) c.numbers.ensures c.in_ok-edits.ensures.plain in
    let plain : stored_fault_in S.numbers c.args.self.now.path m c.args.self.now.block ≡ None =
    of_parts (λ p k b. stored_fault_in S.numbers p k b ≡ None) _ _ _ _ _ _ at c.in_ok-metadata.ensures beside asked in
    stores_meaning S (g.S.Store.contents c.apply_all.new.storage) c.args.self.now.path m c.args.self.now.block es plain are c.apply_all.result c.apply_all.ensures.ok

pub returns-clause-block_reads : goal.returns-clause-block_reads
returns-clause-block_reads g c =
    let S = g.S.Store.contents c.args.storage.now in
    let m = metadata_by_version c.args.options.now c.args.self.now.metadata in
    let es = map edit_of c.as_slice.result.now in
    let at : c.self.inside.path ≡ c.args.self.now.path = ap (λ (s : GroupState). s.path) c.self.view_is in
    let beside : as_block c.self.inside.block ≡ c.args.self.now.block = ap (λ (s : GroupState). s.block) c.self.view_is in
    let made : AreEditsOf (store_changes c.self.inside.path c.in_ok-metadata.metadata (as_block c.self.inside.block)) es =
    subst (AreEditsOf (store_changes c.self.inside.path c.in_ok-metadata.metadata (as_block c.self.inside.block))) (sym (ap (map edit_of) c.as_slice.ensures.value)) c.in_ok-edits.ensures.ok in
    let are : AreEditsOf (store_changes c.args.self.now.path m c.args.self.now.block) es =
    of_parts (λ p k b. AreEditsOf (store_changes p k b) es) _ _ _ _ _ _ at c.in_ok-metadata.ensures beside made in
    let asked : stored_fault_in S.numbers c.self.inside.path c.in_ok-metadata.metadata (as_block c.self.inside.block) ≡ None =
    subst (λ n. stored_fault_in n c.self.inside.path c.in_ok-metadata.metadata (as_block c.self.inside.block) ≡ None) c.numbers.ensures c.in_ok-edits.ensures.plain in
    let plain : stored_fault_in S.numbers c.args.self.now.path m c.args.self.now.block ≡ None =
    of_parts (λ p k b. stored_fault_in S.numbers p k b ≡ None) _ _ _ _ _ _ at c.in_ok-metadata.ensures beside asked in
    stores_block S (g.S.Store.contents c.apply_all.new.storage) c.args.self.now.path m c.args.self.now.block es plain are c.apply_all.result c.apply_all.ensures.ok
