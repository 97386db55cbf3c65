use Rattle.std.proofs.Common.{◌∙◌, ◌++◌, string_bytes, ap}
use Rattle.zarrs_hierarchy.proofs.LawProofs.{written_tree}
use Rattle.zarrs_hierarchy.proofs.hierarchy.Hierarchy.tree_of.Goals as goal

pub returns-clause-tree : goal.returns-clause-tree
unfolding lib.Utf8.encode
returns-clause-tree c =
    written_tree c.args.self.now c.args.path.now (string_bytes c.new-text.result) (string_bytes c.push_str.new.self) (string_bytes c.push.new.self) (string_bytes c.push_below.new.text) c.push_below.ensures.ordered
    c.new-text.ensures.bytes
    (c.in_ok-push_str.ensures.bytes ∙ ap (λ t. string_bytes c.new-text.result ++ t) c.as_str.ensures.value)
    c.in_ok-push.ensures.bytes
    c.in_ok-push_below.ensures.lines
