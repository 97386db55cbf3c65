-- Steps of a run that writes the block of a group back: the plan with its line, and why there is none; and the folder
-- in which the document stands.
use Rattle.std.specs.Prelude.{◌≡◌, ◌≢◌, ◌⊎◌, ⊤, ℕ, List, ◌++◌, codes, String, string_bytes}
use Rattle.std.specs.declared.alloc.Global.{Global}
use Rattle.zarrs_store.specs.Contents.{Contents, Values}
use Rattle.zarrs_path.specs.Paths.{Path}
use Rattle.zarrs_folder.specs.Folders.{in_any}
use Rattle.zarrs_consolidate.specs.Plans.{IsPlan}
use Rattle.zarrs_consolidate.specs.Refusals.{RefusesPlanOfEach, RefusesPlanOfSome}
use Rattle.zarrs_consolidate.specs.declared.plan.Plan.{Plan}
use Rattle.zarrs_cli.specs.Consolidations.{IsConsolidationLine, task_of}
use Rattle.zarrs_cli.specs.RefusalLines.{IsFolderName}
use Rattle.zarrs_cli.specs.declared.fault.ZarrsFault.{ZarrsFault}
use Rattle.zarrs_cli.specs.declared.fault.ZarrsFault.TheVariants.{Consolidate, OutOfMemory}
use Rattle.zarrs_cli.specs.declared.words.ConsolidateOptions.{ConsolidateOptions}

-- the plan is what becomes of the block of the group at b, and the line tells it
abbrev pub IsPlanTold : Contents → ConsolidateOptions → Path → Plan × String Global → Type 0
IsPlanTold s options b made =
    IsPlan s (task_of options) b made.0 × IsConsolidationLine options made.0 (string_bytes made.1)

-- the same of some store
abbrev pub IsPlanToldOfSome : ConsolidateOptions → Path → Plan × String Global → Type 0
IsPlanToldOfSome options b made = (V : Values) × IsPlanTold (in_any V) options b made

-- the same of each store that holds what P says
abbrev pub IsPlanToldOfEach : ConsolidateOptions → Path → (Values → Type 0) → Plan × String Global → Type 0
IsPlanToldOfEach options b P made = (V : Values) → P V → IsPlanTold (in_any V) options b made

-- something was not read, or it is not known over some store what becomes of the block; or out of memory
abbrev pub IsPlanFaultOfSome : ConsolidateOptions → Path → ZarrsFault → Type 0
IsPlanFaultOfSome options b (Consolidate e) = RefusesPlanOfSome (task_of options) b e
IsPlanFaultOfSome options b OutOfMemory = ⊤
IsPlanFaultOfSome options b _ = ⊥

-- the same over each store that holds what P says
abbrev pub IsPlanFaultOfEach : ConsolidateOptions → Path → (Values → Type 0) → ZarrsFault → Type 0
IsPlanFaultOfEach options b P (Consolidate e) = RefusesPlanOfEach P (task_of options) b e
IsPlanFaultOfEach options b P OutOfMemory = ⊤
IsPlanFaultOfEach options b P _ = ⊥

-- the folder of the node at a path of the store in a folder: that folder for the root, else its name and the path
abbrev pub IsNodeFolder : List ℕ → List ℕ → List ℕ → Type 0
IsNodeFolder folder path place =
    ((path ≡ codes "/") × (place ≡ folder))
    ⊎ ((path ≢ codes "/") × ((name : List ℕ) × IsFolderName folder name × (place ≡ name ++ path)))
