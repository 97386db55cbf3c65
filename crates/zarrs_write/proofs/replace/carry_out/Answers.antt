-- A filling that stops, with the calls before it and the removal behind it.
use Rattle.zarrs_write.proofs.AddedCalls.{stopped, either_way, where_true}
use Rattle.zarrs_write.proofs.replace.carry_out.Goals as goal

pub returns-in-Err-fill-clause-err : goal.returns-in-Err-fill-clause-err
returns-in-Err-fill-clause-err g c =
    stopped _ _ _ _ _ _ _ _ _ c.in-Err-fill.stop c.in_ok-expect.ensures.ok
    (where_true _ _ _ _ _ c.in-Ok-true.field-0-test c.in-Ok-true.ensures.ok) c.in-Err-fill.ensures.err
    (either_way c.remove.result c.remove.ensures.ok c.remove.ensures.err)
