use Rattle.std.proofs.Common.{◌∙◌, ap, string_bytes, lit<}
use Rattle.std.specs.List.{insert_slice}
use Rattle.zarrs_path.proofs.Prefixes.{slash_moved}
use Rattle.zarrs_path.proofs.node_path.NodePath.text_of.Goals as goal

pub returns-clause-ok : goal.returns-clause-ok
returns-clause-ok c =
    let rest = string_bytes c.pop.new.self in
    c.in_ok-insert.ensures.bytes ∙ ap (insert_slice rest 0) (c.in_ok-insert.ensures.ascii (lit< tt))
    ∙ slash_moved c.args.prefix (string_bytes c.into_string-text.result) rest _ _ c.into_string-text.ensures.text c.into_string-text.result.bytes.ok.0 c.pop.new.self.bytes.ok.0 c.pop.ensures.bound c.pop.ensures.ascii_bytes
