-- What no crash can harm of a plan that is carried out.
use Rattle.std.proofs.Common.{◌≡◌, ◌≢◌, ◌⊎◌, inl, inr, subst, List, [], ◌∷◌, Option, Some, None}
use Rattle.zarrs_write.specs.Calls.{Name, Bytes, Asked, did, failed}
use Rattle.zarrs_write.specs.Crashes.{Folder, first_folder, FindsEither, FindsOnly, AtEachPoint}
use Rattle.zarrs_write.specs.ReplacingDocuments.{bytes_in, temporary}
use Rattle.zarrs_write.specs.declared.fault.ReplaceError.{ReplaceError}
use Rattle.zarrs_write.specs.declared.remove.Removed.TheVariants.{Absent, Gone}
use Rattle.zarrs_write.specs.declared.replace.Replaced.TheVariants as ended
use Rattle.zarrs_write.specs.Laws.{IsReplacement, IsRemoval, RemovedIsWhole, ReplacedIsWhole}
use Rattle.zarrs_consolidate.specs.CarryingOut.{asked_to_stand, IsStandingBrokenOff}
use Rattle.zarrs_consolidate.specs.Laws.{CarriedOutIsWhole}
use Rattle.zarrs_consolidate.specs.declared.carry_out.Outcome.{Outcome}
use Rattle.zarrs_consolidate.specs.declared.carry_out.Outcome.TheVariants.{Unchanged, Changed}

-- the calls by which a document comes to hold what is to stand there, however they end
abbrev Standing : Option Bytes → Name → Option Bytes → List Asked → Type 0
Standing old name new asked =
    ((done : Outcome) × (asked ≡ asked_to_stand done old name new)) ⊎ ((e : ReplaceError) × IsStandingBrokenOff e old name new asked)

-- where bytes are to stand there they are those of a replacement
replaces : (old : Option Bytes) (name : Name) (bytes : Bytes) (asked : List Asked) → Standing old name (Some bytes) asked → IsReplacement old (temporary name) name bytes asked
replaces old name bytes asked (inl (Unchanged, is)) = inl (ended.Unchanged, is)
replaces old name bytes asked (inl (Changed, is)) = inl (ended.Written, is)
replaces old name bytes asked (inr (e, h)) = inr (e, h)

-- where nothing is to stand there they are those of a removal
removes : (old : Option Bytes) (name : Name) (asked : List Asked) → Standing old name None asked → IsRemoval old name asked
removes old name asked (inl (Unchanged, is)) = inl (Absent, is)
removes old name asked (inl (Changed, is)) = inl (Gone, is)
removes old name asked (inr (e, h)) = inr (e, h)

-- what holds at each point does so in a weaker form
weaker : (P Q : Folder → Type 0) → ((s : Folder) → P s → Q s) → (asked : List Asked) (s : Folder) → AtEachPoint P s asked → AtEachPoint Q s asked
weaker P Q f [] s h = f s h
weaker P Q f (did call ∷ rest) s h = (f s h.0, f _ h.1, weaker P Q f rest _ h.2)
weaker P Q f (failed call ∷ rest) s h = (f s h.0, weaker P Q f rest _ h.1)

-- the document is found as it was or as it is to be, and at each other name but that of the temporary file what stood there
abbrev IsWhole : (Name → Option Bytes) → Name → Option Bytes → Option Bytes → Folder → Type 0
IsWhole F name old new s = FindsEither s name old new × ((n : Name) → n ≢ name → n ≢ temporary name → FindsOnly s n (F n))

-- so it is at each point of the calls by which it comes to be so
stands : ReplacedIsWhole → RemovedIsWhole → (F : Name → Option Bytes) (name : Name) (old new : Option Bytes) (asked : List Asked) → F name ≡ old → Standing old name new asked
    → AtEachPoint (IsWhole F name old new) (first_folder F) asked
stands replaced removed F name old (Some bytes) asked is =
    subst (λ o. Standing o name (Some bytes) asked → AtEachPoint (IsWhole F name o (Some bytes)) (first_folder F) asked) is (λ h. replaced F name bytes asked (replaces (F name) name bytes asked h))
stands replaced removed F name old None asked is =
    subst (λ o. Standing o name None asked → AtEachPoint (IsWhole F name o None) (first_folder F) asked) is
    (λ h. weaker (λ s. FindsEither s name (F name) None × ((n : Name) → n ≢ name → FindsOnly s n (F n))) (IsWhole F name (F name) None)
    (λ s w. (w.0, λ n differs _. w.1 n differs)) asked (first_folder F) (removed F name asked (removes (F name) name asked h)))

-- and so at each point of a plan that is carried out
pub carried_out_is_whole : ReplacedIsWhole → RemovedIsWhole → CarriedOutIsWhole
carried_out_is_whole replaced removed F plan asked is calls = stands replaced removed F plan.name.now (bytes_in plan.old) (bytes_in plan.new) asked is calls
