-- How a replacement and a removal are put together (POSIX.1-2017, `rename`).
-- <https://pubs.opengroup.org/onlinepubs/9699919799/functions/rename.html>
use Rattle.std.specs.Prelude.{◌≡◌, ◌≢◌, List, [], ◌∷◌, ◌++◌, Option}
use Rattle.zarrs_write.specs.Calls.{Name, Bytes, found, stood, kept, wrote, synced, renamed, settled, removed, Asked}
use Rattle.zarrs_write.specs.Calls.{did, failed, unread, all_done}
use Rattle.zarrs_write.specs.ReplacingDocuments.{preparing, IsBrokenOffAt, FindsOther, IsBrokenOff}
use Rattle.zarrs_write.specs.RemovingDocuments.{IsRemovalBrokenOffAt, IsRemovalBrokenOff}
use Rattle.zarrs_write.specs.declared.fault.ReplaceError.{ReplaceError}
use Rattle.zarrs_write.specs.declared.fault.Step.{Step}
use Rattle.zarrs_write.specs.declared.fault.Step.TheVariants.{Keeping, Writing, Syncing, ReadingAgain, Renaming}
use Rattle.zarrs_write.specs.declared.stop.Stop.{Stop}
use Rattle.zarrs_write.specs.declared.stop.Stop.TheVariants.{LeftOver, Changed, Failed, Unsettled}

-- the calls of a replacement that stops
abbrev pub IsStopped : Stop → Option Bytes → Name → Name → Bytes → List Asked → Type 0
IsStopped LeftOver old temp name bytes asked = asked ≡ did (found name old) ∷ did (stood temp) ∷ []
IsStopped Changed old temp name bytes asked = FindsOther old temp name bytes asked
IsStopped (Failed step why) old temp name bytes asked = IsBrokenOffAt step old temp name bytes asked
IsStopped (Unsettled why) old temp name bytes asked =
    asked ≡ all_done (preparing old temp name bytes) ++ did (renamed temp name) ∷ failed settled ∷ []

-- the calls of a removal that stops
abbrev pub IsRemovalStopped : Stop → Option Bytes → Name → List Asked → Type 0
IsRemovalStopped LeftOver old name asked = ⊥
IsRemovalStopped Changed old name asked = (other : Option Bytes) × (other ≢ old) × (asked ≡ did (found name other) ∷ [])
IsRemovalStopped (Failed step why) old name asked = IsRemovalBrokenOffAt step old name asked
IsRemovalStopped (Unsettled why) old name asked =
    asked ≡ did (found name old) ∷ did (removed name) ∷ failed settled ∷ []

-- the calls of a reading that stops: it failed at this step, or found something else
abbrev pub IsUnexpected : Stop → Step → Option Bytes → Name → List Asked → Type 0
IsUnexpected LeftOver at old name asked = ⊥
IsUnexpected Changed at old name asked = (other : Option Bytes) × (other ≢ old) × (asked ≡ did (found name other) ∷ [])
IsUnexpected (Failed step why) at old name asked = (step ≡ at) × (asked ≡ unread name ∷ [])
IsUnexpected (Unsettled why) at old name asked = ⊥

-- the calls of a step between the making of the temporary file and its removal that fails
abbrev pub IsUnfilledAt : Step → Option Bytes → Name → Name → Bytes → List Asked → Type 0
IsUnfilledAt Keeping old temp name bytes asked = asked ≡ failed (kept name) ∷ []
IsUnfilledAt Writing old temp name bytes asked = asked ≡ did (kept name) ∷ failed (wrote bytes) ∷ []
IsUnfilledAt Syncing old temp name bytes asked = asked ≡ did (kept name) ∷ did (wrote bytes) ∷ failed synced ∷ []
IsUnfilledAt ReadingAgain old temp name bytes asked =
    asked ≡ did (kept name) ∷ did (wrote bytes) ∷ did synced ∷ unread name ∷ []
IsUnfilledAt Renaming old temp name bytes asked =
    asked ≡ did (kept name) ∷ did (wrote bytes) ∷ did synced ∷ did (found name old) ∷ failed (renamed temp name) ∷ []
IsUnfilledAt _ old temp name bytes asked = ⊥

-- the calls between the making of the temporary file and its removal, where they stop
abbrev pub IsUnfilled : Stop → Option Bytes → Name → Name → Bytes → List Asked → Type 0
IsUnfilled LeftOver old temp name bytes asked = ⊥
IsUnfilled Changed old temp name bytes asked = (other : Option Bytes) × (other ≢ old) ×
    (asked ≡ did (kept name) ∷ did (wrote bytes) ∷ did synced ∷ did (found name other) ∷ [])
IsUnfilled (Failed step why) old temp name bytes asked = IsUnfilledAt step old temp name bytes asked
IsUnfilled (Unsettled why) old temp name bytes asked = ⊥

-- the error tells this stop of a replacement
abbrev pub TellsStop : ReplaceError → Stop → Type 0
TellsStop error stop = (old : Option Bytes) (temp name : Name) (bytes : Bytes) (asked : List Asked)
    → IsStopped stop old temp name bytes asked → IsBrokenOff error old temp name bytes asked

-- the error tells this stop of a removal
abbrev pub TellsRemovalStop : ReplaceError → Stop → Type 0
TellsRemovalStop error stop = (old : Option Bytes) (name : Name) (asked : List Asked)
    → IsRemovalStopped stop old name asked → IsRemovalBrokenOff error old name asked
