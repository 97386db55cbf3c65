-- Zarr core specification 3.1, "Group metadata", with zarr-python's field `consolidated_metadata`: why a run is refused
-- that writes the block of a group back, or removes it.
-- <https://zarr-specs.readthedocs.io/en/latest/v3/core/index.html#group-metadata>
-- <https://zarr.readthedocs.io/en/stable/user-guide/consolidated_metadata/>
--     RefusesConsolidation s options path before after fault      why it is over a store, and what was then asked of
-- the folder of the document
use Rattle.std.specs.Prelude.{◌≡◌, ◌⊎◌, ℕ, false, List, Option}
use Rattle.zarrs_store.specs.Contents.{Contents, Values}
use Rattle.zarrs_path.specs.Paths.{Path, IsPath, path_text}
use Rattle.zarrs_folder.specs.Folders.{in_any}
use Rattle.zarrs_program.specs.Words.{RefusesPathText}
use Rattle.zarrs_write.specs.Calls.{AddsSome, Asked}
use Rattle.zarrs_consolidate.specs.CarryingOut.{IsPlanBrokenOff}
use Rattle.zarrs_consolidate.specs.Plans.{IsPlan}
use Rattle.zarrs_consolidate.specs.Refusals.{IsUnread, RefusesPlan}
use Rattle.zarrs_consolidate.specs.declared.plan.Plan.{Plan}
use Rattle.zarrs_cli.specs.Consolidations.{AsksPlace, IsChange, task_of}
use Rattle.zarrs_cli.specs.declared.fault.ZarrsFault.{ZarrsFault}
use Rattle.zarrs_cli.specs.declared.fault.ZarrsFault.TheVariants.{Node, Consolidate, Replace}
use Rattle.zarrs_cli.specs.declared.fault.ZarrsFault.TheVariants.{Write, Closed, OutOfMemory}
use Rattle.zarrs_cli.specs.declared.words.ConsolidateOptions.{ConsolidateOptions}

-- the text is that of a path of which this holds
abbrev pub HoldsAtPath : List ℕ → (Path → Type 0) → Type 0
HoldsAtPath path P = (base : Path) × IsPath base × (path_text base ≡ path) × P base

-- the text is that of a path, and of what becomes of the block of the group there this holds
abbrev pub HoldsOfPlan : Contents → ConsolidateOptions → List ℕ → (Plan → Type 0) → Type 0
HoldsOfPlan s options path P =
    HoldsAtPath path (λ base. (plan : Plan) × IsPlan s (task_of options) base plan × P plan)

-- The run over a store is refused. The text is no path, or it is not known what becomes of the block, or out of memory:
-- then nothing was asked of the folder. Or a plan was broken off; or it was carried out, and the writer failed, or
-- nobody reads what it writes.
abbrev pub RefusesConsolidation : Contents → ConsolidateOptions → List ℕ → Option (List Asked) → Option (List Asked)
    → ZarrsFault → Type 0
RefusesConsolidation s options path before after (Node e) = (after ≡ before) × RefusesPathText path e
RefusesConsolidation s options path before after (Consolidate e) =
    (after ≡ before) × (IsUnread e ⊎ HoldsAtPath path (λ base. RefusesPlan false s (task_of options) base e))
RefusesConsolidation s options path before after (Replace e) =
    HoldsOfPlan s options path (λ plan. (IsChange plan × (options.dry_run ≡ false))
    × AddsSome before after (IsPlanBrokenOff e plan))
RefusesConsolidation s options path before after Write =
    HoldsOfPlan s options path (λ plan. AsksPlace options plan before after)
RefusesConsolidation s options path before after Closed =
    HoldsOfPlan s options path (λ plan. AsksPlace options plan before after)
RefusesConsolidation s options path before after OutOfMemory = after ≡ before
RefusesConsolidation s options path before after _ = ⊥

-- the run over a store with any numbers is refused
abbrev pub RefusesConsolidationOfSome : ConsolidateOptions → List ℕ → Option (List Asked) → Option (List Asked)
    → ZarrsFault → Type 0
RefusesConsolidationOfSome options path before after fault =
    (V : Values) × RefusesConsolidation (in_any V) options path before after fault

-- the run over each store that holds what P says is refused
abbrev pub RefusesConsolidationOfEach : ConsolidateOptions → List ℕ → (Values → Type 0) → Option (List Asked)
    → Option (List Asked) → ZarrsFault → Type 0
RefusesConsolidationOfEach options path P before after fault =
    (V : Values) → P V → RefusesConsolidation (in_any V) options path before after fault
