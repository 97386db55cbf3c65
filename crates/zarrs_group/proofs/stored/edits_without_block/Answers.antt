use Rattle.std.proofs.Common.{None, rules}
use Rattle.zarrs_group.proofs.stored.edits_without_block.Goals as goal

pub returns-in_err-ask_plain-clause-err : goal.returns-in_err-ask_plain-clause-err
returns-in_err-ask_plain-clause-err c = let refused = c.in_err-ask_plain.ensures.err None in search (rules, refused)
