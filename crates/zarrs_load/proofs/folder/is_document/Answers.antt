use Rattle.std.proofs.Common.{sym, subst, refl, Contains, arith}
use Rattle.zarrs_load.specs.Folder.{document_names}
use Rattle.zarrs_load.proofs.folder.is_document.Goals as goal

pub returns-in-text-3 : goal.returns-in-text-3
returns-in-text-3 c = (λ yes. subst (Contains document_names) (sym c.in-text.is-text-3) (2, omega arith, refl), λ yes. refl)

pub returns-in-text-4 : goal.returns-in-text-4
returns-in-text-4 c = (λ yes. subst (Contains document_names) (sym c.in-text.is-text-4) (3, omega arith, refl), λ yes. refl)
