use Rattle.std.proofs.Common.{Some, rules}
use Rattle.zarrs_group.proofs.stored.edits_with_block.Goals as goal

pub returns-in_err-ask_plain-clause-err : goal.returns-in_err-ask_plain-clause-err
returns-in_err-ask_plain-clause-err c = let refused = c.in_err-ask_plain.ensures.err (Some c.args.block.now.metadata) in search (rules, refused)
