-- Zarr core specification 3.1, "Group metadata", with zarr-python's field `consolidated_metadata` and document
-- `.zmetadata` of version 2: what a run does that writes the block of a group back, or removes it.
-- <https://zarr-specs.readthedocs.io/en/latest/v3/core/index.html#group-metadata>
-- <https://zarr.readthedocs.io/en/stable/user-guide/consolidated_metadata/>
--     IsConsolidationLine options plan line      the line that tells what was done, or would be
--     AsksPlace options plan before after      what was asked of the folder of the document
--     IsEndOf options plan end      how the run ends
--     IsConsolidation s options path before after old new end      the run over a store
use Rattle.std.specs.Prelude.{◌≡◌, ◌≢◌, ◌⊎◌, ◌==◌, ℕ, Bool, true, false, cond, if◌then◌else◌, List, ◌++◌, Option, codes}
use Rattle.std.specs.Prelude.{decimal}
use Rattle.std.specs.Io.KnownBytes.{Appends}
use Rattle.zarrs_store.specs.Contents.{Contents, Values}
use Rattle.zarrs_store.specs.Segments.{key_text}
use Rattle.zarrs_path.specs.Paths.{Path, IsPath, path_text}
use Rattle.zarrs_folder.specs.Folders.{in_any}
use Rattle.zarrs_write.specs.Calls.{Adds, Asked}
use Rattle.zarrs_write.specs.ReplacingDocuments.{bytes_in}
use Rattle.zarrs_consolidate.specs.CarryingOut.{asked_of_plan}
use Rattle.zarrs_consolidate.specs.Plans.{IsPlan}
use Rattle.zarrs_consolidate.specs.declared.carry_out.Outcome.TheVariants.{Changed}
use Rattle.zarrs_consolidate.specs.declared.plan.Plan.{Plan}
use Rattle.zarrs_consolidate.specs.declared.plan.Task.{Task}
use Rattle.zarrs_consolidate.specs.declared.plan.Task.TheVariants as task
use Rattle.zarrs_cli.specs.Escapes.{escaped_line}
use Rattle.zarrs_cli.specs.declared.consolidate.Consolidated.{Consolidated}
use Rattle.zarrs_cli.specs.declared.consolidate.Consolidated.TheVariants.{Complete, Due}
use Rattle.zarrs_cli.specs.declared.words.ConsolidateOptions.{ConsolidateOptions}

-- what is to become of the block
abbrev pub task_of : ConsolidateOptions → Task
task_of options = cond options.remove task.Remove task.Write

-- something else is to stand there than what does
abbrev pub IsChange : Plan → Type 0
IsChange plan = bytes_in plan.new ≢ bytes_in plan.old

-- what so many nodes are called
abbrev pub noun : ℕ → List ℕ
noun n = if n == 1 then codes "node" else codes "nodes"

-- the number of nodes of the block
abbrev pub nodes_text : Plan → List ℕ
nodes_text plan = decimal plan.nodes ++ (codes " " ++ noun plan.nodes)

-- that a block was removed, or would be by any run but a dry one
abbrev pub removal_text : Bool → List ℕ → List ℕ
removal_text dry_run key =
    cond dry_run (codes "would remove the block of " ++ key) (codes "removed the block of " ++ key)

-- that a block was written, or would be by any run but a dry one
abbrev pub writing_text : Bool → List ℕ → List ℕ → List ℕ
writing_text dry_run key nodes =
    cond dry_run (codes "would write " ++ (key ++ (codes ": the block of " ++ nodes)))
    (codes "wrote " ++ (key ++ (codes ": the block of " ++ nodes)))

-- what is told of a change
abbrev pub change_text : ConsolidateOptions → Plan → List ℕ
change_text options plan =
    cond options.remove (removal_text options.dry_run (key_text plan.key))
    (writing_text options.dry_run (key_text plan.key) (nodes_text plan))

-- that there is no block
abbrev pub absent_text : List ℕ → List ℕ
absent_text key = key ++ codes " has no block"

-- that the block is current
abbrev pub current_text : List ℕ → List ℕ → List ℕ
current_text key nodes = key ++ (codes " is current: the block of " ++ nodes)

-- what is told where there is no change
abbrev pub kept_text : ConsolidateOptions → Plan → List ℕ
kept_text options plan =
    cond options.remove (absent_text (key_text plan.key)) (current_text (key_text plan.key) (nodes_text plan))

-- the text tells the change, or that there is none
abbrev pub IsPlanText : ConsolidateOptions → Plan → List ℕ → Type 0
IsPlanText options plan text =
    (IsChange plan × (text ≡ change_text options plan))
    ⊎ ((IsChange plan → ⊥) × (text ≡ kept_text options plan))

-- the line is such a text, escaped, with a line end
abbrev pub IsConsolidationLine : ConsolidateOptions → Plan → List ℕ → Type 0
IsConsolidationLine options plan line =
    (text : List ℕ) × IsPlanText options plan text × (line ≡ escaped_line text)

-- of the folder in which the document stands the calls are asked by which it is changed; by a dry run, or where there
-- is no change, nothing is asked
abbrev pub AsksPlace : ConsolidateOptions → Plan → Option (List Asked) → Option (List Asked) → Type 0
AsksPlace options plan before after =
    (IsChange plan × (options.dry_run ≡ false) × Adds before after (asked_of_plan plan Changed))
    ⊎ ((IsChange plan → options.dry_run ≡ true) × (after ≡ before))

-- a dry run ends with what is due where there is a change; each other run ends with the document as it is to be
abbrev pub IsEndOf : ConsolidateOptions → Plan → Consolidated → Type 0
IsEndOf options plan Due = IsChange plan × (options.dry_run ≡ true)
IsEndOf options plan Complete = IsChange plan → options.dry_run ≡ false

-- The run over a store: its text is that of a path, and the plan is what becomes of the block of the group there. The
-- line of the plan was appended to what the writer held, and the plan was carried out, but by a dry run.
pub record IsConsolidation (s : Contents) (options : ConsolidateOptions) (path : List ℕ)
    (before after : Option (List Asked)) (old new : Option (List ℕ)) (end : Consolidated) : Type 0 where
  pub base : Path
  pub valid : IsPath base
  pub text : path_text base ≡ path
  pub plan : Plan
  pub planned : IsPlan s (task_of options) base plan
  pub line : List ℕ
  pub tells : IsConsolidationLine options plan line
  pub writes : Appends old new line
  pub asks : AsksPlace options plan before after
  pub ends : IsEndOf options plan end

-- the run over a store with any numbers
abbrev pub IsConsolidationOfSome : ConsolidateOptions → List ℕ → Option (List Asked) → Option (List Asked)
    → Option (List ℕ) → Option (List ℕ) → Consolidated → Type 0
IsConsolidationOfSome options path before after old new end =
    (V : Values) × IsConsolidation (in_any V) options path before after old new end

-- the run over each store that holds what P says
abbrev pub IsConsolidationOfEach : ConsolidateOptions → List ℕ → (Values → Type 0) → Option (List Asked)
    → Option (List Asked) → Option (List ℕ) → Option (List ℕ) → Consolidated → Type 0
IsConsolidationOfEach options path P before after old new end =
    (V : Values) → P V → IsConsolidation (in_any V) options path before after old new end
