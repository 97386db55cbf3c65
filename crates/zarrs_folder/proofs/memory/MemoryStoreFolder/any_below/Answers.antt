use Rattle.std.proofs.Common.{arith, subst, sym}
use Rattle.zarrs_folder.specs.Folders.{values_of, NoneIsBelow}
use Rattle.zarrs_folder.proofs.LoadingSteps.{none_below}
use Rattle.zarrs_folder.proofs.memory.MemoryStoreFolder.any_below.Goals as goal

pub returns-in-Ok-clause-none : goal.returns-in-Ok-clause-none
returns-in-Ok-clause-none c V is =
    let long = c.in-Ok.keys.ok.0 in
    subst (λ W. NoneIsBelow W c.args.prefix.now c.pop.result) (sym is)
    (none_below (values_of c.args.self.now) c.args.prefix.now c.in-Ok.keys.items c.pop.result c.in-Ok.ensures.ok (λ more. c.pop.ensures.variant.1 (omega (arith, long, more))))
