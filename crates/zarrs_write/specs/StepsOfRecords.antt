-- How a place in memory notes a call (POSIX.1-2017, `rename`).
-- <https://pubs.opengroup.org/onlinepubs/9699919799/functions/rename.html>
use Rattle.std.specs.Prelude.{ℕ, List, slice_index, ◌==◌, if◌then◌else◌, Some, None, Result, Ok, Err}
use Rattle.zarrs_write.specs.Calls.{Call, found, created, stood, kept, wrote, synced, renamed, settled, removed}
use Rattle.zarrs_write.specs.Calls.{Asked, did, failed}

-- a call by its number, a name or bytes, and another name or bytes
abbrev pub call_of : ℕ → List ℕ → List ℕ → Call
call_of number one other = if number == 0 then found one None
    else if number == 1 then found one (Some other)
    else if number == 2 then created one
    else if number == 3 then kept one
    else if number == 4 then wrote one
    else if number == 5 then synced
    else if number == 6 then renamed one other
    else if number == 7 then settled
    else if number == 8 then removed one
    else stood one

-- the call with a number, which is done where the number behind it is 1
abbrev pub asked_by : List ℕ → List ℕ → List ℕ → Asked
asked_by numbers one other = if slice_index numbers 1 == 1
    then did (call_of (slice_index numbers 0) one other)
    else failed (call_of (slice_index numbers 0) one other)

-- the call as its answer has it
abbrev pub asked_as : {T E : Type 0} → Result T E → Call → Asked
asked_as (Ok x) call = did call
asked_as (Err e) call = failed call
