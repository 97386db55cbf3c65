use Rattle.zarrs_tool.proofs.Folders.{folder_answered, folder_refused, image_refused}
use Rattle.zarrs_tool.proofs.answer.Goals as goal

pub returns-in-Some-clause-ok : goal.returns-in-Some-clause-ok
returns-in-Some-clause-ok g c = λ z. folder_answered _ _ _ _ _ _ c.in-Some.ensures.some (c.respond_folder.ensures.ok z)

pub returns-in-Some-clause-refused : goal.returns-in-Some-clause-refused
returns-in-Some-clause-refused g c = λ one. folder_refused _ _ _ _ _ _ c.in-Some.ensures.some (c.respond_folder.ensures.refused one)

pub returns-in-None-clause-refused : goal.returns-in-None-clause-refused
returns-in-None-clause-refused g c = λ one. image_refused _ _ _ _ c.in-None.ensures.none (c.respond.ensures.refused one)
