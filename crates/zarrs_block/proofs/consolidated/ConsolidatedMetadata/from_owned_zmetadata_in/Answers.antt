use Rattle.serde_json.specs.View.{view, members_view}
use Rattle.zarrs_block.specs.Zmetadata.{zmetadata_in}
use Rattle.zarrs_block.specs.declared.consolidated.ConsolidatedMetadata.{ConsolidatedMetadata}
use Rattle.zarrs_block.proofs.ZmetadataSteps.{gives_document, gives_fault, gives_store, gives_ascending, gives_refused, refused_document}
use Rattle.zarrs_block.proofs.consolidated.ConsolidatedMetadata.from_owned_zmetadata_in.Goals as goal

pub returns-in_err-document_in-clause-gives : goal.returns-in_err-document_in-clause-gives
returns-in_err-document_in-clause-gives c =
    let d = view c.args.value in
    let fault = c.in_err-document_in.field-0.0 in
    gives_refused (λ (block : ConsolidatedMetadata). block.metadata) c.from_residual.result fault (zmetadata_in c.args.numbers d) c.from_residual.ensures.1 (refused_document c.args.numbers d fault c.in_err-document_in.ensures.gives)

pub returns-clause-gives : goal.returns-clause-gives
returns-clause-gives c =
    let read = c.in_ok-document_in in
    gives_document c.args.numbers (view c.args.value) (members_view read.field-0.entries) c.block_of.result read.ensures.gives read.ensures.whole c.block_of.ensures

pub returns-clause-store : goal.returns-clause-store
returns-clause-store c =
    let read = c.in_ok-document_in in
    let d = view c.args.value in
    gives_store c.args.numbers d c.block_of.result (gives_document c.args.numbers d (members_view read.field-0.entries) c.block_of.result read.ensures.gives read.ensures.whole c.block_of.ensures)

pub returns-clause-ascending : goal.returns-clause-ascending
returns-clause-ascending c =
    let read = c.in_ok-document_in in
    let d = view c.args.value in
    gives_ascending c.args.numbers d c.block_of.result (gives_document c.args.numbers d (members_view read.field-0.entries) c.block_of.result read.ensures.gives read.ensures.whole c.block_of.ensures)

pub returns-in_err-document_in-clause-refused : goal.returns-in_err-document_in-clause-refused
returns-in_err-document_in-clause-refused c =
    let d = view c.args.value in
    let fault = c.in_err-document_in.field-0.0 in
    gives_fault c.args.numbers d c.from_residual.result
    (gives_refused (λ (block : ConsolidatedMetadata). block.metadata) c.from_residual.result fault (zmetadata_in c.args.numbers d) c.from_residual.ensures.1 (refused_document c.args.numbers d fault c.in_err-document_in.ensures.gives))

pub returns-clause-refused : goal.returns-clause-refused
returns-clause-refused c =
    let read = c.in_ok-document_in in
    let d = view c.args.value in
    gives_fault c.args.numbers d c.block_of.result (gives_document c.args.numbers d (members_view read.field-0.entries) c.block_of.result read.ensures.gives read.ensures.whole c.block_of.ensures)
