use Rattle.std.proofs.Common.{subst}
use Rattle.zarrs_check.specs.Apart.{AreApart}
use Rattle.zarrs_check.proofs.bad_documents.BadDocuments.as_slice.Goals as goal

pub returns-clause-apart : goal.returns-clause-apart
returns-clause-apart c = subst AreApart c.self.view_is c.self.invariant
