use Rattle.std.proofs.Common.{Some, None}
use Rattle.std.proofs.lemmas.Bool.{iff_false}
use Rattle.zarrs_block.proofs.LastSlash.{split_of}
use Rattle.zarrs_check.proofs.DocumentCounts.{ok_over, uncut_key, other_key, node_key}
use Rattle.zarrs_check.proofs.orphans.node_path_of.Goals as goal

pub returns-in_default : goal.returns-in_default
returns-in_default c = uncut_key c.args.key.now c.as_str.result.now c.as_str.ensures.text c.as_str.ensures.valid (split_of c.as_str.result.now None c.in_default.ensures.cases)

pub returns-then-is_node_file : goal.returns-then-is_node_file
returns-then-is_node_file c =
    let cut = split_of c.as_str.result.now (Some (c.in-Some.names, c.in-Some.file)) c.in-Some.ensures.cases in
    ok_over c.path_joined.result
    (node_key c.args.key.now c.as_str.result.now c.as_str.ensures.text c.as_str.ensures.valid c.in-Some.names.now c.in-Some.file.now cut (c.is_node_file.ensures.0 c.if-is_node_file.true))
    c.path_joined.ensures

pub returns-else-is_node_file : goal.returns-else-is_node_file
returns-else-is_node_file c =
    let cut = split_of c.as_str.result.now (Some (c.in-Some.names, c.in-Some.file)) c.in-Some.ensures.cases in
    other_key c.args.key.now c.as_str.result.now c.as_str.ensures.text c.as_str.ensures.valid c.in-Some.names.now c.in-Some.file.now cut (iff_false c.is_node_file.ensures c.if-is_node_file.false)
