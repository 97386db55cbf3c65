-- POSIX.1-2017, `rename`, `unlink` and `fsync`: the calls by which a plan is carried out.
-- <https://pubs.opengroup.org/onlinepubs/9699919799/functions/rename.html>
-- <https://pubs.opengroup.org/onlinepubs/9699919799/functions/unlink.html>
-- <https://pubs.opengroup.org/onlinepubs/9699919799/functions/fsync.html>
--     asked_of_plan plan done      the calls of a plan that is carried out
--     IsPlanBrokenOff e plan asked      the calls of one that ends with this error
use Rattle.std.specs.Prelude.{List, Option, Some, None}
use Rattle.zarrs_write.specs.Calls.{Bytes, Name, Asked}
use Rattle.zarrs_write.specs.RemovingDocuments.{asked_of_removal, IsRemovalBrokenOff}
use Rattle.zarrs_write.specs.ReplacingDocuments.{asked_for, bytes_in, temporary, IsBrokenOff}
use Rattle.zarrs_write.specs.declared.fault.ReplaceError.{ReplaceError}
use Rattle.zarrs_write.specs.declared.remove.Removed.TheVariants.{Absent, Gone}
use Rattle.zarrs_write.specs.declared.replace.Replaced.TheVariants as replaced
use Rattle.zarrs_consolidate.specs.declared.carry_out.Outcome.{Outcome}
use Rattle.zarrs_consolidate.specs.declared.carry_out.Outcome.TheVariants.{Unchanged, Changed}
use Rattle.zarrs_consolidate.specs.declared.plan.Plan.{Plan}

-- the calls by which a document comes to hold what is to stand there, or goes: it is replaced, or removed
abbrev pub asked_to_stand : Outcome → Option Bytes → Name → Option Bytes → List Asked
asked_to_stand Unchanged old name (Some bytes) = asked_for replaced.Unchanged old (temporary name) name bytes
asked_to_stand Changed old name (Some bytes) = asked_for replaced.Written old (temporary name) name bytes
asked_to_stand Unchanged old name None = asked_of_removal Absent old name
asked_to_stand Changed old name None = asked_of_removal Gone old name

-- the calls of a plan that is carried out
abbrev pub asked_of_plan : Plan → Outcome → List Asked
asked_of_plan plan done = asked_to_stand done (bytes_in plan.old) plan.name.now (bytes_in plan.new)

-- the calls of a replacement, or of a removal, that ends with this error
abbrev pub IsStandingBrokenOff : ReplaceError → Option Bytes → Name → Option Bytes → List Asked → Type 0
IsStandingBrokenOff e old name (Some bytes) asked = IsBrokenOff e old (temporary name) name bytes asked
IsStandingBrokenOff e old name None asked = IsRemovalBrokenOff e old name asked

-- the calls of a plan that ends with this error
abbrev pub IsPlanBrokenOff : ReplaceError → Plan → List Asked → Type 0
IsPlanBrokenOff e plan asked = IsStandingBrokenOff e (bytes_in plan.old) plan.name.now (bytes_in plan.new) asked
