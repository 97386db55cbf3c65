-- POSIX.1-2017, `rename`, `fsync` and `unlink`: what no crash can harm of a plan that is carried out.
-- <https://pubs.opengroup.org/onlinepubs/9699919799/functions/rename.html>
-- <https://pubs.opengroup.org/onlinepubs/9699919799/functions/fsync.html>
-- <https://pubs.opengroup.org/onlinepubs/9699919799/functions/unlink.html>
--     CarriedOutIsWhole      at each point what stood there, or what is to stand there, is found, whole
use Rattle.std.specs.Prelude.{◌≡◌, ◌≢◌, ◌⊎◌, List, Option}
use Rattle.zarrs_write.specs.Calls.{Name, Bytes, Asked}
use Rattle.zarrs_write.specs.Crashes.{first_folder, FindsEither, FindsOnly, AtEachPoint}
use Rattle.zarrs_write.specs.ReplacingDocuments.{bytes_in, temporary}
use Rattle.zarrs_write.specs.declared.fault.ReplaceError.{ReplaceError}
use Rattle.zarrs_consolidate.specs.CarryingOut.{asked_of_plan, IsPlanBrokenOff}
use Rattle.zarrs_consolidate.specs.declared.carry_out.Outcome.{Outcome}
use Rattle.zarrs_consolidate.specs.declared.plan.Plan.{Plan}

-- the calls of a plan, however it ends
abbrev pub AreCallsOf : Plan → List Asked → Type 0
AreCallsOf plan asked =
    ((done : Outcome) × (asked ≡ asked_of_plan plan done)) ⊎ ((e : ReplaceError) × IsPlanBrokenOff e plan asked)

-- At each point of a plan that is carried out in a folder, in the midst of a call too, what stood at the document, or
-- what is to stand there, is found there, whole, by a reader then and after a crash then. At each other name, except
-- for that of the temporary file, what stood there is found.
abbrev pub CarriedOutIsWhole : Type 0
CarriedOutIsWhole = (F : Name → Option Bytes) (plan : Plan) (asked : List Asked)
    → F plan.name.now ≡ bytes_in plan.old → AreCallsOf plan asked
    → AtEachPoint (λ s. FindsEither s plan.name.now (bytes_in plan.old) (bytes_in plan.new)
    × ((n : Name) → n ≢ plan.name.now → n ≢ temporary plan.name.now → FindsOnly s n (F n))) (first_folder F) asked
