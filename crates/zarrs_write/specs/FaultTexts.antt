-- The texts of why a document was not replaced or not removed, as they print themselves (POSIX.1-2017, `rename`).
-- <https://pubs.opengroup.org/onlinepubs/9699919799/functions/rename.html>
-- <https://pubs.opengroup.org/onlinepubs/9699919799/functions/fsync.html>
use Rattle.std.specs.Prelude.{ℕ, List, ◌++◌, codes, string_bytes}
use Rattle.zarrs_write.specs.declared.fault.Step.{Step}
use Rattle.zarrs_write.specs.declared.fault.Step.TheVariants.{Reading, Making, Keeping, Writing, Syncing, ReadingAgain}
use Rattle.zarrs_write.specs.declared.fault.Step.TheVariants.{Renaming, Removing}
use Rattle.zarrs_write.specs.declared.fault.PlaceFault.{PlaceFault}
use Rattle.zarrs_write.specs.declared.fault.PlaceFault.TheVariants.{Refused, OutOfMemory as NoMemory}
use Rattle.zarrs_write.specs.declared.fault.ReplaceError.{ReplaceError}
use Rattle.zarrs_write.specs.declared.fault.ReplaceError.TheVariants.{LeftOver, Changed, Failed, Unsettled, OutOfMemory}

-- why a call on a folder failed
abbrev pub place_fault_text : PlaceFault → List ℕ
place_fault_text (Refused why) = string_bytes why
place_fault_text NoMemory = codes "out of memory"

-- what was not done with a file
abbrev pub step_text : Step → List ℕ
step_text Reading = codes "was not read"
step_text Making = codes "was not made"
step_text Keeping = codes "was not given the document's mode and owner"
step_text Writing = codes "was not written"
step_text Syncing = codes "was not synced"
step_text ReadingAgain = codes "was not read again"
step_text Renaming = codes "was not renamed"
step_text Removing = codes "was not removed"

-- why a document was not replaced or not removed
abbrev pub replace_error_text : ReplaceError → List ℕ
replace_error_text (LeftOver n) = string_bytes n ++ codes " is left over from a run that was broken off: remove it"
replace_error_text (Changed n) = string_bytes n ++ codes " was changed meanwhile"
replace_error_text (Failed step n why) = string_bytes n ++ codes " " ++ step_text step ++ codes ": " ++ string_bytes why
replace_error_text (Unsettled n why) =
    string_bytes n ++ (codes ": done, but the folder was not synced: " ++ place_fault_text why)
replace_error_text OutOfMemory = codes "out of memory"
