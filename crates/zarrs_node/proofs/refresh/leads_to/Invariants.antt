use denote.Shadow.{shadow}
use denote.Text.{Utf8}
use Rattle.std.proofs.Common.{length}
use Rattle.zarrs_node.proofs.blocks.Leads.{IsOnTheWay}
use Rattle.zarrs_node.proofs.refresh.leads_to.Given as goal

-- the names that are left lead to the path
abbrev pub invariant-loop-above : goal.invariant-loop-above
invariant-loop-above l = record { way : IsOnTheWay l.block l.base l.path l.left; text : shadow (Utf8 l.left) }

-- the text that is left
abbrev pub decreases-loop-above : goal.decreases-loop-above
decreases-loop-above l = length l.left
