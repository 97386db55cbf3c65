use Rattle.std.proofs.Common.{drop}
use Rattle.zarrs_check.proofs.KeysRid.{IsLeft}
use Rattle.zarrs_check.proofs.keys.without_bad_keys.Given as goal

-- the bad keys among the findings that are left are still to be taken out
abbrev pub invariant-loop-finding : goal.invariant-loop-finding
invariant-loop-finding l = IsLeft l.found l.initial.block (drop l.finding-index l.found) l.block
