use Rattle.std.proofs.Common.{sym}
use Rattle.zarrs_form.proofs.SortedLaws.{lookup_there, lookup_missing}
use Rattle.zarrs_form.proofs.sorted.find.Goals as goal

pub returns-in-Ok : goal.returns-in-Ok
returns-in-Ok g c = sym (lookup_there _ _ _ c.index-entries-place.result c.requires.ascending c.in-Ok.ensures.found)

pub returns-in-Err : goal.returns-in-Err
returns-in-Err g c = sym (lookup_missing _ _ _ c.in-Err.ensures.absent)
