-- POSIX.1-2017, `rename`, `fsync` and `unlink`: what no crash can harm.
-- <https://pubs.opengroup.org/onlinepubs/9699919799/functions/rename.html>
-- <https://pubs.opengroup.org/onlinepubs/9699919799/functions/fsync.html>
-- <https://pubs.opengroup.org/onlinepubs/9699919799/functions/unlink.html>
--     ReplacedIsWhole      at each point of a replacement the old document stands at its name, or the new one, whole
--     RemovedIsWhole      at each point of a removal the old document stands at its name, or none
--     UnsyncedMayBeAnything      a renaming before the sync is not safe from a crash
use Rattle.std.specs.Prelude.{◌≡◌, ◌≢◌, ◌⊎◌, List, Option, Some, None}
use Rattle.zarrs_write.specs.Calls.{Name, Bytes, created, wrote, renamed, Asked}
use Rattle.zarrs_write.specs.Crashes.{Folder, first_folder, after_done, MayFindAfterCrash, FindsEither, FindsOnly}
use Rattle.zarrs_write.specs.Crashes.{AtEachPoint}
use Rattle.zarrs_write.specs.ReplacingDocuments.{temporary, asked_for, IsBrokenOff}
use Rattle.zarrs_write.specs.RemovingDocuments.{asked_of_removal, IsRemovalBrokenOff}
use Rattle.zarrs_write.specs.declared.fault.ReplaceError.{ReplaceError}
use Rattle.zarrs_write.specs.declared.replace.Replaced.{Replaced}
use Rattle.zarrs_write.specs.declared.remove.Removed.{Removed}

-- the calls of a replacement, however it ends
abbrev pub IsReplacement : Option Bytes → Name → Name → Bytes → List Asked → Type 0
IsReplacement old temp name bytes asked = ((done : Replaced) × (asked ≡ asked_for done old temp name bytes))
    ⊎ ((e : ReplaceError) × IsBrokenOff e old temp name bytes asked)

-- the calls of a removal, however it ends
abbrev pub IsRemoval : Option Bytes → Name → List Asked → Type 0
IsRemoval old name asked = ((done : Removed) × (asked ≡ asked_of_removal done old name))
    ⊎ ((e : ReplaceError) × IsRemovalBrokenOff e old name asked)

-- At each point of a replacement, in the midst of a call too, the old document or the new one, whole, is found at the
-- name, by a reader then and after a crash then. At each other name, except for that of the temporary file, what stood
-- there is found.
abbrev pub ReplacedIsWhole : Type 0
ReplacedIsWhole = (F : Name → Option Bytes) (name : Name) (bytes : Bytes) (asked : List Asked)
    → IsReplacement (F name) (temporary name) name bytes asked
    → AtEachPoint (λ s. FindsEither s name (F name) (Some bytes)
    × ((n : Name) → n ≢ name → n ≢ temporary name → FindsOnly s n (F n))) (first_folder F) asked

-- At each point of a removal, in the midst of a call too, the old document, whole, or none is found at the name, by a
-- reader then and after a crash then. At each other name what stood there is found.
abbrev pub RemovedIsWhole : Type 0
RemovedIsWhole = (F : Name → Option Bytes) (name : Name) (asked : List Asked) → IsRemoval (F name) name asked
    → AtEachPoint (λ s. FindsEither s name (F name) None
    × ((n : Name) → n ≢ name → FindsOnly s n (F n))) (first_folder F) asked

-- the folder in which the temporary file was made, written and renamed, and nothing was synced
abbrev pub unsynced_folder : (Name → Option Bytes) → Name → Bytes → Folder
unsynced_folder F name bytes = after_done (after_done (after_done (first_folder F)
    (created (temporary name))) (wrote bytes)) (renamed (temporary name) name)

-- Where the temporary file is renamed before it is synced, anything may be found at the name after a crash.
abbrev pub UnsyncedMayBeAnything : Type 0
UnsyncedMayBeAnything = (F : Name → Option Bytes) (name : Name) (bytes b : Bytes)
    → MayFindAfterCrash (unsynced_folder F name bytes) name (Some b)
