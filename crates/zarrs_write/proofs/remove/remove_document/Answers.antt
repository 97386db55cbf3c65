-- The error tells the stop; without memory for the names nothing is asked.
use Rattle.std.proofs.Common.{refl, inl}
use Rattle.zarrs_write.proofs.AddedCalls.{nothing_asked, some_become}
use Rattle.zarrs_write.proofs.remove.remove_document.Goals as goal

pub returns-in_default-clause-err : goal.returns-in_default-clause-err
returns-in_default-clause-err g c = nothing_asked _ _ (inl refl)

pub returns-in-Err-clause-err : goal.returns-in-Err-clause-err
returns-in-Err-clause-err g c = some_become _ _ _ _ c.in-Err.ensures.err (c.named.ensures.removed _ _)
