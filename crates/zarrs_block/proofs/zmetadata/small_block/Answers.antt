use Rattle.std.proofs.Common.{◌∙◌}
use Rattle.serde_json.specs.View.{members_view}
use Rattle.zarrs_block.specs.Block.{Block}
use Rattle.zarrs_block.specs.Zmetadata.{small_block_in}
use Rattle.zarrs_block.specs.StepsOfZmetadata.{tree_among}
use Rattle.zarrs_block.proofs.ZmetadataSteps.{gives_names, gives_nodes, gives_refused, members_fit}
use Rattle.zarrs_block.proofs.zmetadata.small_block.Goals as goal

pub returns-in_err-runs : goal.returns-in_err-runs
returns-in_err-runs c =
    let ms = members_view c.args.documents.entries in
    let fault = c.in_err-runs.field-0.0 in
    gives_refused (λ (B : Block). B) c.from_residual.result fault (small_block_in c.args.numbers ms) c.from_residual.ensures.1 (gives_names c.args.numbers ms fault c.in_err-runs.ensures.err)

pub returns : goal.returns
returns c =
    gives_nodes c.args.numbers (members_view c.args.documents.entries) (tree_among c.in_ok-joined.field-0.items)
    (λ t file. c.in_ok-joined.ensures.same t file ∙ c.in_ok-sorted.ensures.same t file ∙ c.in_ok-runs.ensures.all t file) c.in_ok-runs.ensures.named c.nodes_of.result c.nodes_of.ensures.nodes
    c.nodes_of.ensures.ascending c.nodes_of.ensures.err

pub nodes_of-requires-clause-fit : goal.nodes_of-requires-clause-fit
nodes_of-requires-clause-fit c =
    members_fit c.args.numbers (members_view c.args.documents.entries) c.requires (tree_among c.in_ok-joined.field-0.items)
    (λ t file. c.in_ok-joined.ensures.same t file ∙ c.in_ok-sorted.ensures.same t file ∙ c.in_ok-runs.ensures.all t file)
