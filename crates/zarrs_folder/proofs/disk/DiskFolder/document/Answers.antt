use Rattle.zarrs_folder.proofs.MoreAnswers.{document_noted}
use Rattle.zarrs_folder.proofs.disk.DiskFolder.document.Goals as goal

pub returns-clause-before : goal.returns-clause-before
returns-clause-before g c V has = (document_noted _ _ _ V _ _ _ c.with-self.ensures has).0

pub returns-clause-ok : goal.returns-clause-ok
returns-clause-ok g c V has = (document_noted _ _ _ V _ _ _ c.with-self.ensures has).1
