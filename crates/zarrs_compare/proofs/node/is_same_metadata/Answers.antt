use Rattle.std.proofs.Common.{sym, ◌∙◌}
use Rattle.zarrs_compare.proofs.SameNodes.{same_from_test, test_from_same}
use Rattle.zarrs_compare.proofs.node.is_same_metadata.Goals as goal

pub returns : goal.returns
returns c =
    let m = c.args.first.now in
    let n = c.args.second.now in
    record {
      same = (λ h. same_from_test m n (sym c.is_same_node.ensures ∙ h), λ s. c.is_same_node.ensures ∙ test_from_same m n s);
    }
