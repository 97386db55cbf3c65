use Rattle.std.proofs.Common.{string_bytes}
use Rattle.zarrs_hierarchy.proofs.LawProofs.{shown_tree}
use Rattle.zarrs_hierarchy.proofs.hierarchy.Hierarchy.tree.Goals as goal

pub returns-clause-tree : goal.returns-clause-tree
returns-clause-tree c = shown_tree c.args.self.now (string_bytes c.in_ok-text.text) c.nodes-ordered.ensures.ordered c.in_ok-text.ensures.ok
