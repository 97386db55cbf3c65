use Rattle.std.proofs.lemmas.Result.{on_ok_weaker}
use Rattle.zarrs_check.proofs.UnderWay.{lone_passed}
use Rattle.zarrs_check.proofs.comparison.Comparison.tell_lone.Goals as goal

pub returns : goal.returns
returns c = on_ok_weaker c.tell_entry.result (lone_passed c.args.self.now c.tell_entry.new.self c.args.entry) c.tell_entry.ensures
