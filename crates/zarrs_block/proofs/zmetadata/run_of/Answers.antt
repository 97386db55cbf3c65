use Rattle.zarrs_block.proofs.Runs.{run_begun}
use Rattle.zarrs_block.proofs.zmetadata.run_of.Goals as goal

pub returns-clause-same : goal.returns-clause-same
returns-clause-same c =
    run_begun c.args.runs.now.items c.push.new.self.items c.args.run (record { path = c.in_ok-from_str.field-0; documents = c.none.result }) c.in_ok-push.ensures.items c.none.ensures
