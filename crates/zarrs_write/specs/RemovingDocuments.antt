-- POSIX.1-2017, `unlink` and `fsync`: the calls by which a document of a folder is removed.
-- <https://pubs.opengroup.org/onlinepubs/9699919799/functions/unlink.html>
-- <https://pubs.opengroup.org/onlinepubs/9699919799/functions/fsync.html>
--     asked_of_removal done old name      the calls of a removal that ends well
--     IsRemovalBrokenOff e old name asked      the calls of one that ends with this error
use Rattle.std.specs.Prelude.{◌≡◌, ◌≢◌, ◌⊎◌, List, [], ◌∷◌, Option}
use Rattle.zarrs_write.specs.Calls.{Name, Bytes, found, settled, removed, Asked, did, failed, unread}
use Rattle.zarrs_write.specs.declared.remove.Removed.{Removed}
use Rattle.zarrs_write.specs.declared.remove.Removed.TheVariants.{Absent, Gone}
use Rattle.zarrs_write.specs.declared.fault.Step.{Step}
use Rattle.zarrs_write.specs.declared.fault.Step.TheVariants.{Reading, Removing}
use Rattle.zarrs_write.specs.declared.fault.ReplaceError.{ReplaceError}
use Rattle.zarrs_write.specs.declared.fault.ReplaceError.TheVariants.{LeftOver, Changed, Failed, Unsettled, OutOfMemory}

-- the calls of a removal that ends well: where no document is, that is only looked at
abbrev pub asked_of_removal : Removed → Option Bytes → Name → List Asked
asked_of_removal Absent old name = did (found name old) ∷ []
asked_of_removal Gone old name = did (found name old) ∷ did (removed name) ∷ did settled ∷ []

-- the calls of a removal whose step fails
abbrev pub IsRemovalBrokenOffAt : Step → Option Bytes → Name → List Asked → Type 0
IsRemovalBrokenOffAt Reading old name asked = asked ≡ unread name ∷ []
IsRemovalBrokenOffAt Removing old name asked = asked ≡ did (found name old) ∷ failed (removed name) ∷ []
IsRemovalBrokenOffAt _ old name asked = ⊥

-- the calls of a removal that ends with an error; memory may run out before anything is asked
abbrev pub IsRemovalBrokenOff : ReplaceError → Option Bytes → Name → List Asked → Type 0
IsRemovalBrokenOff (LeftOver n) old name asked = ⊥
IsRemovalBrokenOff (Changed n) old name asked =
    (other : Option Bytes) × (other ≢ old) × (asked ≡ did (found name other) ∷ [])
IsRemovalBrokenOff (Failed step n why) old name asked = IsRemovalBrokenOffAt step old name asked
IsRemovalBrokenOff (Unsettled n why) old name asked =
    asked ≡ did (found name old) ∷ did (removed name) ∷ failed settled ∷ []
IsRemovalBrokenOff OutOfMemory old name asked =
    (asked ≡ []) ⊎ ((step : Step) × IsRemovalBrokenOffAt step old name asked)
