-- The error tells the stop, by names that are those of the document; without memory for them nothing is asked.
use Rattle.std.proofs.Common.{refl, inl}
use Rattle.zarrs_write.proofs.AddedCalls.{nothing_asked}
use Rattle.zarrs_write.proofs.replace.replace_document.Goals as goal

pub returns-in_default-clause-err : goal.returns-in_default-clause-err
returns-in_default-clause-err g c = nothing_asked _ _ (inl refl)
