use Rattle.std.proofs.Common.{◌∙◌}
use Rattle.zarrs_config.specs.declared.version.MetadataRetrieveVersion.TheVariants.{V3}
use Rattle.zarrs_node.specs.Nodes.{NodesFrom}
use Rattle.zarrs_examples.proofs.ConvertedNodes.{in_slice, erased_absent, erased_shows, others_beside}
use Rattle.zarrs_examples.proofs.converter.erase_version_2.Goals as goal

pub returns-in_err-erase_all-clause-means : goal.returns-in_err-erase_all-clause-means
returns-in_err-erase_all-clause-means g c =
    let S = g.S.Store.contents c.args.storage.now in
    let same = in_slice (NodesFrom S V3 c.args.base.now) c.in_ok-nodes.nodes.items c.deref.result.now c.deref.ensures.value c.in_ok-nodes.ensures.nodes in
    c.beside_means_same.ensures S (g.S.Store.contents c.erase_all.new.storage) c.erase_all.ensures.numbers (others_beside S (g.S.Store.contents c.erase_all.new.storage) c.args.base.now c.deref.result.now c.deref-2.result.now same (c.deref-2.ensures.value ∙ c.in_ok-keys.ensures) c.keys_stand_beside.ensures c.erase_all.ensures.others)

pub returns-in_err-erase_all-clause-others : goal.returns-in_err-erase_all-clause-others
returns-in_err-erase_all-clause-others g c =
    let S = g.S.Store.contents c.args.storage.now in
    let same = in_slice (NodesFrom S V3 c.args.base.now) c.in_ok-nodes.nodes.items c.deref.result.now c.deref.ensures.value c.in_ok-nodes.ensures.nodes in
    others_beside S (g.S.Store.contents c.erase_all.new.storage) c.args.base.now c.deref.result.now c.deref-2.result.now same (c.deref-2.ensures.value ∙ c.in_ok-keys.ensures) c.keys_stand_beside.ensures c.erase_all.ensures.others

pub returns-clause-means : goal.returns-clause-means
returns-clause-means g c =
    let S = g.S.Store.contents c.args.storage.now in
    let same = in_slice (NodesFrom S V3 c.args.base.now) c.in_ok-nodes.nodes.items c.deref.result.now c.deref.ensures.value c.in_ok-nodes.ensures.nodes in
    c.beside_means_same.ensures S (g.S.Store.contents c.erase_all.new.storage) c.erase_all.ensures.numbers (others_beside S (g.S.Store.contents c.erase_all.new.storage) c.args.base.now c.deref.result.now c.deref-2.result.now same (c.deref-2.ensures.value ∙ c.in_ok-keys.ensures) c.keys_stand_beside.ensures c.erase_all.ensures.others)

pub returns-clause-others : goal.returns-clause-others
returns-clause-others g c =
    let S = g.S.Store.contents c.args.storage.now in
    let same = in_slice (NodesFrom S V3 c.args.base.now) c.in_ok-nodes.nodes.items c.deref.result.now c.deref.ensures.value c.in_ok-nodes.ensures.nodes in
    others_beside S (g.S.Store.contents c.erase_all.new.storage) c.args.base.now c.deref.result.now c.deref-2.result.now same (c.deref-2.ensures.value ∙ c.in_ok-keys.ensures) c.keys_stand_beside.ensures c.erase_all.ensures.others

pub returns-clause-shows : goal.returns-clause-shows
returns-clause-shows g c =
    let S = g.S.Store.contents c.args.storage.now in
    let same = in_slice (NodesFrom S V3 c.args.base.now) c.in_ok-nodes.nodes.items c.deref.result.now c.deref.ensures.value c.in_ok-nodes.ensures.nodes in
    erased_shows S (g.S.Store.contents c.erase_all.new.storage) c.args.base.now c.deref.result.now c.deref-2.result.now same (c.deref-2.ensures.value ∙ c.in_ok-keys.ensures) c.keys_stand_beside.ensures c.erased_show_same.ensures c.in_ok-erase_all.ensures.erased

pub returns-clause-erased : goal.returns-clause-erased
returns-clause-erased g c =
    let S = g.S.Store.contents c.args.storage.now in
    let same = in_slice (NodesFrom S V3 c.args.base.now) c.in_ok-nodes.nodes.items c.deref.result.now c.deref.ensures.value c.in_ok-nodes.ensures.nodes in
    erased_absent S (g.S.Store.contents c.erase_all.new.storage) c.args.base.now c.deref.result.now c.deref-2.result.now same (c.deref-2.ensures.value ∙ c.in_ok-keys.ensures) c.erased_are_absent.ensures c.in_ok-erase_all.ensures.erased
