use Rattle.zarrs_tool.proofs.Status.{any_status, one_refused, zero_ok, zero_gives, two_usage, usage_two}
use Rattle.zarrs_tool.proofs.respond.Goals as goal

pub returns-clause-ok : goal.returns-clause-ok
returns-clause-ok g c = λ z. zero_gives c.run_image-outcome.result c.finish.result c.finish.ensures.status z c.run_image-outcome.ensures.ok

pub returns-clause-usage : goal.returns-clause-usage
returns-clause-usage g c =
    let outcome = c.run_image-outcome.result in
    let says = c.finish.ensures.status in
    (λ two. c.run_image-outcome.ensures.usage.0 (two_usage outcome c.finish.result says two), λ none. usage_two outcome c.finish.result says (c.run_image-outcome.ensures.usage.1 none))

pub returns-clause-silent : goal.returns-clause-silent
returns-clause-silent g c = λ z. c.finish.ensures.silent (zero_ok c.run_image-outcome.result c.finish.result c.finish.ensures.status z)

pub returns-clause-refused : goal.returns-clause-refused
returns-clause-refused g c = λ one. one_refused c.run_image-outcome.result _ _ c.finish.result c.finish.ensures.status one c.run_image-outcome.ensures.refused c.run_image-outcome.ensures.silent

pub returns-clause-status : goal.returns-clause-status
returns-clause-status g c = any_status c.run_image-outcome.result c.finish.result c.finish.ensures.status
