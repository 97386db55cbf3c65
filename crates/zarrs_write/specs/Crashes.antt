-- POSIX.1-2017, `rename`, `fsync` and `unlink`: what may be found at a name after some calls, now or after a crash.
-- <https://pubs.opengroup.org/onlinepubs/9699919799/functions/rename.html>
-- <https://pubs.opengroup.org/onlinepubs/9699919799/functions/fsync.html>
-- <https://pubs.opengroup.org/onlinepubs/9699919799/functions/unlink.html>
--     first_folder F      a folder, all of it synced, in which these files stand, and which nobody else changes
--     after_done s call, after_failed s call      the folder after a call that was done, or that failed
--     MayFind s n seen, MayFindAfterCrash s n seen      what may be found at a name now, or after a crash
--     FindsOnly s n x      nothing else is found at the name, now or after a crash
--     FindsEither s n x y      nothing else than these two is found at the name, now or after a crash
--     AtEachPoint P s asked      this holds before each of the calls, in the midst of each, and after the last
use Rattle.std.specs.Prelude.{◌≡◌, ◌≢◌, ◌⊎◌, ℕ, ◌+◌, List, [], ◌∷◌, ◌++◌, Option, Some, None}
use Rattle.zarrs_write.specs.Calls.{Name, Bytes, Call, found, created, stood, kept, wrote, synced, renamed, settled}
use Rattle.zarrs_write.specs.Calls.{removed, Asked, did, failed}

-- a file: the one that stood at this name at first; or the one that was made as the first, the second, and so on
pub data File : Type 0 where
  first : Name → File
  made : ℕ → File

-- A folder, as far as it is known: which file, or none, may stand at a name, now or after a crash; which bytes a file
-- may hold, now or after a crash; and how many files were made.
pub record Folder : Type 1 where
  pub stands : Name → Option File → Type 0
  pub stays : Name → Option File → Type 0
  pub holds : File → Bytes → Type 0
  pub keeps : File → Bytes → Type 0
  pub count : ℕ

-- the file that stood at a name at first, or none
abbrev pub first_file : Name → Option Bytes → Option File
first_file n None = None
first_file n (Some b) = Some (first n)

-- what a file held at first: nothing is in one that was not yet made
abbrev pub HeldAtFirst : (Name → Option Bytes) → File → Bytes → Type 0
HeldAtFirst F (first n) b = F n ≡ Some b
HeldAtFirst F (made k) b = ⊥

-- a folder, all of it synced, in which these files stand
abbrev pub first_folder : (Name → Option Bytes) → Folder
first_folder F = record {
  stands = λ n f. f ≡ first_file n (F n);
  stays = λ n f. f ≡ first_file n (F n);
  holds = HeldAtFirst F;
  keeps = HeldAtFirst F;
  count = 0;
}

-- the same sets, except that this key has this one
abbrev pub but_at : {K V : Type 0} → K → (V → Type 0) → (K → V → Type 0) → K → V → Type 0
but_at key set sets k v = ((k ≡ key) × set v) ⊎ ((k ≢ key) × sets k v)

-- the same sets, except that this key has the members of this one too
abbrev pub also_at : {K V : Type 0} → K → (V → Type 0) → (K → V → Type 0) → K → V → Type 0
also_at key set sets k v = ((k ≡ key) × set v) ⊎ sets k v

-- anything
abbrev pub Anything : Bytes → Type 0
Anything b = Unit {0}

-- no file
abbrev pub NoFile : Option File → Type 0
NoFile f = f ≡ None

-- this file
abbrev pub Only : File → Option File → Type 0
Only file f = f ≡ Some file

-- what a file holds once these bytes were written behind those that it had
abbrev pub Behind : (Bytes → Type 0) → Bytes → Bytes → Type 0
Behind held bytes b = (a : Bytes) × held a × (b ≡ a ++ bytes)

-- The folder after a call that was done. A reading and a change of the mode leave bytes and names as they are. What was
-- written is safe from a crash once the file is synced, and a name once the folder is. Before that a file may hold
-- anything after a crash, and what stood at a name before may stand there.
abbrev pub after_done : Folder → Call → Folder
after_done s (found n b) = s
after_done s (created n) = record s {
  stands = but_at n (Only (made (s.count + 1))) s.stands;
  stays = also_at n (Only (made (s.count + 1))) s.stays;
  holds = but_at (made (s.count + 1)) (λ b. b ≡ []) s.holds;
  keeps = but_at (made (s.count + 1)) Anything s.keeps;
  count = s.count + 1;
}
after_done s (stood n) = s
after_done s (kept n) = s
after_done s (wrote bytes) = record s {
  holds = but_at (made s.count) (Behind (s.holds (made s.count)) bytes) s.holds;
  keeps = but_at (made s.count) Anything s.keeps;
}
after_done s synced = record s { keeps = but_at (made s.count) (s.holds (made s.count)) s.keeps }
after_done s (renamed from to) = record s {
  stands = but_at to (s.stands from) (but_at from NoFile s.stands);
  stays = also_at to (s.stands from) (also_at from NoFile s.stays);
}
after_done s settled = record s { stays = s.stands }
after_done s (removed n) = record s { stands = but_at n NoFile s.stands; stays = also_at n NoFile s.stays }

-- The folder after a call that failed or was broken off: it may be done, done in part, or not done at all.
abbrev pub after_failed : Folder → Call → Folder
after_failed s (found n b) = s
after_failed s (created n) = record s {
  stands = also_at n (Only (made (s.count + 1))) s.stands;
  stays = also_at n (Only (made (s.count + 1))) s.stays;
  holds = but_at (made (s.count + 1)) (λ b. b ≡ []) s.holds;
  keeps = but_at (made (s.count + 1)) Anything s.keeps;
  count = s.count + 1;
}
after_failed s (stood n) = s
after_failed s (kept n) = s
after_failed s (wrote bytes) = record s {
  holds = but_at (made s.count) Anything s.holds;
  keeps = but_at (made s.count) Anything s.keeps;
}
after_failed s synced = s
after_failed s (renamed from to) = record s {
  stands = also_at to (s.stands from) (also_at from NoFile s.stands);
  stays = also_at to (s.stands from) (also_at from NoFile s.stays);
}
after_failed s settled = s
after_failed s (removed n) = record s { stands = also_at n NoFile s.stands; stays = also_at n NoFile s.stays }

-- what is found where this file, or none, stands
abbrev pub IsIn : (File → Bytes → Type 0) → Option File → Option Bytes → Type 0
IsIn sets None seen = seen ≡ None
IsIn sets (Some f) seen = (b : Bytes) × (seen ≡ Some b) × sets f b

-- what a reader may find at a name: a file with these bytes, or no file
abbrev pub MayFind : Folder → Name → Option Bytes → Type 0
MayFind s n seen = (f : Option File) × s.stands n f × IsIn s.holds f seen

-- what may be found at a name after a crash
abbrev pub MayFindAfterCrash : Folder → Name → Option Bytes → Type 0
MayFindAfterCrash s n seen = (f : Option File) × s.stays n f × IsIn s.keeps f seen

-- nothing else than these two is found at the name, by a reader now, or after a crash
abbrev pub FindsEither : Folder → Name → Option Bytes → Option Bytes → Type 0
FindsEither s n x y =
    (seen : Option Bytes) → (MayFind s n seen ⊎ MayFindAfterCrash s n seen) → (seen ≡ x) ⊎ (seen ≡ y)

-- nothing else than this is found at the name, by a reader now, or after a crash
abbrev pub FindsOnly : Folder → Name → Option Bytes → Type 0
FindsOnly s n x = (seen : Option Bytes) → (MayFind s n seen ⊎ MayFindAfterCrash s n seen) → seen ≡ x

-- this holds before each of the calls, in the midst of each, and after the last
abbrev pub AtEachPoint : (Folder → Type 0) → Folder → List Asked → Type 0
AtEachPoint P s [] = P s
AtEachPoint P s (did call ∷ rest) = P s × P (after_failed s call) × AtEachPoint P (after_done s call) rest
AtEachPoint P s (failed call ∷ rest) = P s × AtEachPoint P (after_failed s call) rest
