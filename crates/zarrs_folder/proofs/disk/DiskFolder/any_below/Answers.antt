use Rattle.std.specs.Prelude.{Option, Some, None, IfSome}
use Rattle.zarrs_folder.proofs.MoreAnswers.{search_noted}
use Rattle.zarrs_folder.proofs.disk.DiskFolder.any_below.Goals as goal

-- what holds of what was found in each case holds of it in all
module _ {X Y : Type 0} (P : X → Type 0) (Q : X → Y → Type 0) where
  some_each : (found : Option Y) → ((x : X) → P x → IfSome found (Q x)) → IfSome found (λ y. (x : X) → P x → Q x y)
  some_each (Some y) each = each
  some_each None each = tt

pub returns-clause-before : goal.returns-clause-before
returns-clause-before g c V has = (search_noted _ _ _ V _ _ _ c.with-self.ensures has).0

pub returns-clause-some : goal.returns-clause-some
returns-clause-some g c = some_each _ _ c.in_ok-found.found (λ V has. (search_noted _ _ _ V _ _ _ c.with-self.ensures has).1.0)

pub returns-clause-none : goal.returns-clause-none
returns-clause-none g c V has = (search_noted _ _ _ V _ _ _ c.with-self.ensures has).1.1
