use Rattle.zarrs_tool.proofs.Folders.{not_words}
use Rattle.zarrs_tool.proofs.Status.{any_status, one_refused, zero_ok, zero_gives, two_usage}
use Rattle.zarrs_tool.proofs.respond_folder.Goals as goal

pub returns-clause-ok : goal.returns-clause-ok
returns-clause-ok g c = λ z. zero_gives c.run_folder-shown.result c.finish.result c.finish.ensures.status z c.run_folder-shown.ensures.ok

pub returns-clause-usage : goal.returns-clause-usage
returns-clause-usage g c =
    let shown = c.run_folder-shown.result in
    λ two. not_words _ shown (two_usage shown c.finish.result c.finish.ensures.status two) c.run_folder-shown.ensures.refused

pub returns-clause-silent : goal.returns-clause-silent
returns-clause-silent g c = λ z. c.finish.ensures.silent (zero_ok c.run_folder-shown.result c.finish.result c.finish.ensures.status z)

pub returns-clause-refused : goal.returns-clause-refused
returns-clause-refused g c = λ one. one_refused c.run_folder-shown.result _ _ c.finish.result c.finish.ensures.status one c.run_folder-shown.ensures.refused c.run_folder-shown.ensures.silent

pub returns-clause-status : goal.returns-clause-status
returns-clause-status g c = any_status c.run_folder-shown.result c.finish.result c.finish.ensures.status
