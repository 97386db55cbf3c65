use Rattle.serde_json.specs.View.{view}
use Rattle.zarrs_check.proofs.OwnAttributes.{compared}
use Rattle.zarrs_check.proofs.check.compared_block_of_bytes.Goals as goal

pub returns : goal.returns
returns c =
    let store = c.in_ok-block.ensures.store in
    compared c.args.numbers c.args.attributes c.args.bytes.now (view c.in_ok-document.document) c.in_ok-block.block.metadata c.in_ok-other.other store.0
    c.in_ok-document.ensures c.in_ok-block.ensures.gives store.1 (c.in_ok-other.ensures store.0 store.1)
