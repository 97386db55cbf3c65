use Rattle.zarrs_cli.specs.NodeLines.{line_at}
use Rattle.zarrs_cli.proofs.Lines.{line_made}
use Rattle.zarrs_cli.proofs.shown.line_at.Goals as goal

pub returns : goal.returns
returns c =
    c.drop_newline.ensures (line_at c.args.level (c.args.path.now, c.args.metadata.now))
    (line_made c.args.level c.args.path.now c.args.metadata.now _ _ _ _ _ c.new-text.ensures.bytes c.in_ok-push_indent.ensures c.node_line-line.ensures.name c.node_line-line.ensures.metadata c.in_ok-push_node.ensures)
