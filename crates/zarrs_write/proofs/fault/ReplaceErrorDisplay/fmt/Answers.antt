-- The text of a folder that was not synced is what was written.
use Rattle.zarrs_write.proofs.fault.ReplaceErrorDisplay.fmt.Goals as goal

pub returns-in-Unsettled-clause-writes : goal.returns-in-Unsettled-clause-writes
returns-in-Unsettled-clause-writes g c = rw c.in-Unsettled.is c.write-in-Unsettled.ensures.writes
