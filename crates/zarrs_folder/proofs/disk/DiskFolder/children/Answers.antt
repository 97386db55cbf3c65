use Rattle.zarrs_folder.proofs.MoreAnswers.{children_noted}
use Rattle.zarrs_folder.proofs.disk.DiskFolder.children.Goals as goal

pub returns-clause-before : goal.returns-clause-before
returns-clause-before g c V has = (children_noted _ _ _ V _ _ _ c.with-self.ensures has).0

pub returns-clause-complete : goal.returns-clause-complete
returns-clause-complete g c V has = (children_noted _ _ _ V _ _ _ c.with-self.ensures has).1
