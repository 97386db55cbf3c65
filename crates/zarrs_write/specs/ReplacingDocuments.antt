-- POSIX.1-2017, `rename` and `fsync`: the calls by which a document of a folder is replaced.
-- <https://pubs.opengroup.org/onlinepubs/9699919799/functions/rename.html>
-- <https://pubs.opengroup.org/onlinepubs/9699919799/functions/fsync.html>
--     temporary name      the name of the file that is written in the place of the document
--     preparing old temp name bytes, replacing old temp name bytes      the calls before the renaming; all calls
--     asked_for done old temp name bytes      the calls of a replacement that ends well
--     IsBrokenOff e old temp name bytes asked      the calls of one that ends with this error
--     NamesFile e temp name      the error names this document, or its temporary file
use Rattle.std.specs.Prelude.{◌≡◌, ◌≢◌, ◌⊎◌, ℕ, Bool, true, false, if◌then◌else◌, List, [], ◌∷◌, ◌++◌, Option, ⊤, codes}
use Rattle.std.specs.Prelude.{string_bytes, option_map}
use Rattle.std.specs.Global.{Vec}
use Rattle.zarrs_write.specs.Calls.{Name, Bytes, Call, found, created, stood, kept, wrote, synced, renamed, settled}
use Rattle.zarrs_write.specs.Calls.{removed, Asked, did, failed, unread, all_done}
use Rattle.zarrs_write.specs.declared.replace.Replaced.{Replaced}
use Rattle.zarrs_write.specs.declared.replace.Replaced.TheVariants.{Unchanged, Written}
use Rattle.zarrs_write.specs.declared.fault.Step.{Step}
use Rattle.zarrs_write.specs.declared.fault.Step.TheVariants.{Reading, Making, Keeping, Writing, Syncing, ReadingAgain}
use Rattle.zarrs_write.specs.declared.fault.Step.TheVariants.{Renaming, Removing}
use Rattle.zarrs_write.specs.declared.fault.ReplaceError.{ReplaceError}
use Rattle.zarrs_write.specs.declared.fault.ReplaceError.TheVariants.{LeftOver, Changed, Failed, Unsettled, OutOfMemory}

-- what a document holds, where there is one
abbrev pub bytes_in : Option (Vec ℕ) → Option Bytes
bytes_in document = option_map (λ v. v.items) document

-- the name of the temporary file, which is written in the place of the document
abbrev pub temporary : Name → Name
temporary name = name ++ codes ".zarrs_new"

-- the calls before the renaming: the document is read at first and at last; between, the temporary file is written
abbrev pub preparing : Option Bytes → Name → Name → Bytes → List Call
preparing old temp name bytes = found name old ∷ created temp ∷ kept name ∷ wrote bytes ∷ synced ∷ found name old ∷ []

-- the calls that replace a document
abbrev pub replacing : Option Bytes → Name → Name → Bytes → List Call
replacing old temp name bytes = preparing old temp name bytes ++ renamed temp name ∷ settled ∷ []

-- the calls of a replacement that ends well: a document that holds the bytes already is only read
abbrev pub asked_for : Replaced → Option Bytes → Name → Name → Bytes → List Asked
asked_for Unchanged old temp name bytes = did (found name old) ∷ []
asked_for Written old temp name bytes = all_done (replacing old temp name bytes)

-- these calls, and behind them the removal of the temporary file, which was done or failed
abbrev pub IsCleared : Name → List Asked → List Asked → Type 0
IsCleared temp before asked =
    (asked ≡ before ++ did (removed temp) ∷ []) ⊎ (asked ≡ before ++ failed (removed temp) ∷ [])

-- The calls of a replacement whose step fails. Once the temporary file was made, it is removed again.
abbrev pub IsBrokenOffAt : Step → Option Bytes → Name → Name → Bytes → List Asked → Type 0
IsBrokenOffAt Reading old temp name bytes asked = asked ≡ unread name ∷ []
IsBrokenOffAt Making old temp name bytes asked = asked ≡ did (found name old) ∷ failed (created temp) ∷ []
IsBrokenOffAt Keeping old temp name bytes asked =
    IsCleared temp (did (found name old) ∷ did (created temp) ∷ failed (kept name) ∷ []) asked
IsBrokenOffAt Writing old temp name bytes asked =
    IsCleared temp (did (found name old) ∷ did (created temp) ∷ did (kept name) ∷ failed (wrote bytes) ∷ []) asked
IsBrokenOffAt Syncing old temp name bytes asked =
    IsCleared temp
    (did (found name old) ∷ did (created temp) ∷ did (kept name) ∷ did (wrote bytes) ∷ failed synced ∷ []) asked
IsBrokenOffAt ReadingAgain old temp name bytes asked =
    IsCleared temp (did (found name old) ∷ did (created temp) ∷ did (kept name) ∷ did (wrote bytes) ∷ did synced
    ∷ unread name ∷ []) asked
IsBrokenOffAt Renaming old temp name bytes asked =
    IsCleared temp (all_done (preparing old temp name bytes) ++ failed (renamed temp name) ∷ []) asked
IsBrokenOffAt Removing old temp name bytes asked = ⊥

-- The calls of a replacement that finds something else at the name: at once, or when it reads again. Then the temporary
-- file is removed again.
abbrev pub FindsOther : Option Bytes → Name → Name → Bytes → List Asked → Type 0
FindsOther old temp name bytes asked = (other : Option Bytes) × (other ≢ old) ×
    ((asked ≡ did (found name other) ∷ []) ⊎ IsCleared temp (did (found name old) ∷ did (created temp) ∷ did (kept name)
    ∷ did (wrote bytes) ∷ did synced ∷ did (found name other) ∷ []) asked)

-- The calls of a replacement that ends with an error. Where something stood at the temporary file's name, it is left
-- as it is. Memory may run out before anything is asked.
abbrev pub IsBrokenOff : ReplaceError → Option Bytes → Name → Name → Bytes → List Asked → Type 0
IsBrokenOff (LeftOver n) old temp name bytes asked = asked ≡ did (found name old) ∷ did (stood temp) ∷ []
IsBrokenOff (Changed n) old temp name bytes asked = FindsOther old temp name bytes asked
IsBrokenOff (Failed step n why) old temp name bytes asked = IsBrokenOffAt step old temp name bytes asked
IsBrokenOff (Unsettled n why) old temp name bytes asked =
    asked ≡ all_done (preparing old temp name bytes) ++ did (renamed temp name) ∷ failed settled ∷ []
IsBrokenOff OutOfMemory old temp name bytes asked =
    (asked ≡ []) ⊎ ((step : Step) × IsBrokenOffAt step old temp name bytes asked)

-- the step is about the document, and not about its temporary file
abbrev pub is_about_document : Step → Bool
is_about_document Reading = true
is_about_document Making = false
is_about_document Keeping = false
is_about_document Writing = false
is_about_document Syncing = false
is_about_document ReadingAgain = true
is_about_document Renaming = false
is_about_document Removing = true

-- the error names this document, or where it is about the temporary file, that one
abbrev pub NamesFile : ReplaceError → Name → Name → Type 0
NamesFile (LeftOver n) temp name = string_bytes n ≡ temp
NamesFile (Changed n) temp name = string_bytes n ≡ name
NamesFile (Failed step n why) temp name = string_bytes n ≡ (if is_about_document step then name else temp)
NamesFile (Unsettled n why) temp name = string_bytes n ≡ name
NamesFile OutOfMemory temp name = ⊤
