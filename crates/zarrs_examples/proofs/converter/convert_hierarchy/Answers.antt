use Rattle.std.proofs.Common.{rules, ap, ◌∙◌}
use Rattle.zarrs_config.specs.declared.version.MetadataRetrieveVersion.TheVariants.{Default, V3}
use Rattle.zarrs_node.specs.Nodes.{NodesFrom}
use Rattle.zarrs_examples.specs.MapsOfNodes.{with_documents}
use Rattle.zarrs_examples.specs.Conversions.{node_v3}
use Rattle.zarrs_examples.proofs.ConvertedNodes.{in_slice, documents_from, refused_from, keeps_others, converted_shows}
use Rattle.zarrs_examples.proofs.converter.convert_hierarchy.Goals as goal

pub returns-in_err-documents-clause-refused : goal.returns-in_err-documents-clause-refused
returns-in_err-documents-clause-refused g c =
    let S = g.S.Store.contents c.args.storage.now in
    let same = in_slice (NodesFrom S Default c.args.base.now) c.in_ok-nodes.nodes.items c.deref.result.now c.deref.ensures.value c.in_ok-nodes.ensures.nodes in
    let refused = refused_from S c.args.base.now c.deref.result.now same (g.S.Store.can_fail c.args.storage.now) c.in_err-documents.field-0.0 c.in_err-documents.ensures.refused in
    search (rules, refused)

pub returns-in_err-set_all-clause-others : goal.returns-in_err-set_all-clause-others
returns-in_err-set_all-clause-others g c =
    let S = g.S.Store.contents c.args.storage.now in
    let same = in_slice (NodesFrom S Default c.args.base.now) c.in_ok-nodes.nodes.items c.deref.result.now c.deref.ensures.value c.in_ok-nodes.ensures.nodes in
    keeps_others S c.args.base.now c.deref.result.now same (g.S.Store.contents c.set_all.new.storage) c.in_ok-documents.documents.items c.deref-2.result.now c.deref-2.ensures.value c.in_ok-documents.ensures.documents c.set_all.ensures.numbers c.set_all.ensures.others

pub returns-clause-others : goal.returns-clause-others
returns-clause-others g c =
    let S = g.S.Store.contents c.args.storage.now in
    let same = in_slice (NodesFrom S Default c.args.base.now) c.in_ok-nodes.nodes.items c.deref.result.now c.deref.ensures.value c.in_ok-nodes.ensures.nodes in
    keeps_others S c.args.base.now c.deref.result.now same (g.S.Store.contents c.set_all.new.storage) c.in_ok-documents.documents.items c.deref-2.result.now c.deref-2.ensures.value c.in_ok-documents.ensures.documents c.set_all.ensures.numbers c.set_all.ensures.others

pub returns-clause-version_3 : goal.returns-clause-version_3
returns-clause-version_3 g c =
    let S = g.S.Store.contents c.args.storage.now in
    let same = in_slice (NodesFrom S Default c.args.base.now) c.in_ok-nodes.nodes.items c.deref.result.now c.deref.ensures.value c.in_ok-nodes.ensures.nodes in
    (converted_shows S c.args.base.now c.deref.result.now same (g.S.Store.contents c.set_all.new.storage) c.in_ok-documents.documents.items c.deref-2.result.now c.deref-2.ensures.value c.in_ok-documents.ensures.documents c.documents_are_shown.ensures c.in_ok-nodes.ensures.clean c.in_ok-set_all.ensures.set).0

pub returns-clause-default : goal.returns-clause-default
returns-clause-default g c =
    let S = g.S.Store.contents c.args.storage.now in
    let same = in_slice (NodesFrom S Default c.args.base.now) c.in_ok-nodes.nodes.items c.deref.result.now c.deref.ensures.value c.in_ok-nodes.ensures.nodes in
    (converted_shows S c.args.base.now c.deref.result.now same (g.S.Store.contents c.set_all.new.storage) c.in_ok-documents.documents.items c.deref-2.result.now c.deref-2.ensures.value c.in_ok-documents.ensures.documents c.documents_are_shown.ensures c.in_ok-nodes.ensures.clean c.in_ok-set_all.ensures.set).1

pub returns-clause-version_2 : goal.returns-clause-version_2
returns-clause-version_2 g c none =
    let S = g.S.Store.contents c.args.storage.now in
    let same = in_slice (NodesFrom S Default c.args.base.now) c.in_ok-nodes.nodes.items c.deref.result.now c.deref.ensures.value c.in_ok-nodes.ensures.nodes in
    c.default_is_version_2.ensures node_v3 c.args.base.now S (g.S.Store.contents c.set_all.new.storage) V3 none
    (converted_shows S c.args.base.now c.deref.result.now same (g.S.Store.contents c.set_all.new.storage) c.in_ok-documents.documents.items c.deref-2.result.now c.deref-2.ensures.value c.in_ok-documents.ensures.documents c.documents_are_shown.ensures c.in_ok-nodes.ensures.clean c.in_ok-set_all.ensures.set).0

pub returns-clause-documents : goal.returns-clause-documents
returns-clause-documents g c =
    let S = g.S.Store.contents c.args.storage.now in
    let same = in_slice (NodesFrom S Default c.args.base.now) c.in_ok-nodes.nodes.items c.deref.result.now c.deref.ensures.value c.in_ok-nodes.ensures.nodes in (
      c.in_ok-documents.documents.items,
      documents_from S c.args.base.now c.deref.result.now same c.in_ok-documents.documents.items c.in_ok-documents.ensures.documents,
      c.in_ok-set_all.ensures.set ∙ ap (with_documents S) c.deref-2.ensures.value,
    )
