use Rattle.std.proofs.Common.{rules}
use Rattle.std.proofs.lemmas.Result.{on_ok_weaker}
use Rattle.zarrs_cli.proofs.Order.{sorted_by, sorted_result}
use Rattle.zarrs_cli.proofs.report.sort_remarks.Goals as goal

pub returns : goal.returns
returns c = sorted_result c.sort_by.result _ _ c.sort_by.ensures.permutation (on_ok_weaker c.sort_by.result (sorted_by (λ f a r q k. search rules) _) c.sort_by.ensures.sorted)
