-- POSIX.1-2017, `rename`, `fsync` and `unlink`: what is asked of a folder, one call after another.
-- <https://pubs.opengroup.org/onlinepubs/9699919799/functions/rename.html>
-- <https://pubs.opengroup.org/onlinepubs/9699919799/functions/fsync.html>
-- <https://pubs.opengroup.org/onlinepubs/9699919799/functions/unlink.html>
--     Call, Asked      a call; a call that was done, or that failed
--     unread name      a reading that failed
--     all_done calls      these calls, each of them done
--     Adds before after more      where the calls so far are known, these came behind them
--     AddsSome before after P      where the calls so far are known, some came behind them, of which this holds
use Rattle.std.specs.Prelude.{◌≡◌, ℕ, List, [], ◌∷◌, ◌++◌, Option, Some, None, IfSome}

-- the name of a file in the folder
abbrev pub Name : Type 0
Name = List ℕ

-- what a file holds
abbrev pub Bytes : Type 0
Bytes = List ℕ

-- a call
pub data Call : Type 0 where
  -- it was read what stands at this name: a file with these bytes, or no file
  found : Name → Option Bytes → Call
  -- a file with this name was made, where nothing stood
  created : Name → Call
  -- a file with this name was to be made, and something stood there: nothing was made
  stood : Name → Call
  -- the file that was made last got the mode and the owner of the file with this name, where there is one
  kept : Name → Call
  -- these bytes were written to the file that was made last, behind those that it had
  wrote : Bytes → Call
  -- the file that was made last was synced: it holds after a crash what it holds now
  synced : Call
  -- the file with the first name has the second from now on, in the place of the file that had it
  renamed : Name → Name → Call
  -- the folder was synced: the files have after a crash the names that they have now
  settled : Call
  -- the file with this name was removed
  removed : Name → Call

-- A call that was asked: it was done; or it failed or was broken off. Then it may be done, done in part, or not at all.
pub data Asked : Type 0 where
  did : Call → Asked
  failed : Call → Asked

-- what stands at this name was to be read, and that failed: whatever stands there, it is noted as no file
abbrev pub unread : Name → Asked
unread name = failed (found name None)

-- these calls, each of them done
abbrev pub all_done : List Call → List Asked
all_done [] = []
all_done (call ∷ calls) = did call ∷ all_done calls

-- where the calls so far are known, these came behind them
abbrev pub Adds : Option (List Asked) → Option (List Asked) → List Asked → Type 0
Adds before after more = IfSome before (λ asked. after ≡ Some (asked ++ more))

-- where the calls so far are known, some came behind them, of which this holds
abbrev pub AddsSome : Option (List Asked) → Option (List Asked) → (List Asked → Type 0) → Type 0
AddsSome before after P = IfSome before (λ asked. (more : List Asked) × (after ≡ Some (asked ++ more)) × P more)
