-- From a plan with its line to the answer of a run that writes a block back, and from its refusal to that of the run.
use Rattle.std.proofs.Common.{◌≡◌, ◌↔◌, inl, inr, ⊎_elim, false, refl, subst, ℕ, List, [], Option, String, Global, string_bytes}
use Rattle.std.specs.Prelude.{Result, Ok, Err, IfOk}
use Rattle.std.specs.Io.KnownBytes.{Appends}
use Rattle.zarrs_store.specs.Contents.{Contents, Values}
use Rattle.zarrs_path.specs.Paths.{Path, IsPath, path_text}
use Rattle.zarrs_folder.specs.Folders.{in_any, values_of}
use Rattle.zarrs_meaning.specs.declared.node_create_error.NodeCreateError.{NodeCreateError}
use Rattle.zarrs_program.specs.Words.{RefusesPathText}
use Rattle.zarrs_write.specs.Calls.{Adds, AddsSome, Asked}
use Rattle.zarrs_write.specs.ReplacingDocuments.{bytes_in}
use Rattle.zarrs_write.specs.declared.fault.ReplaceError.{ReplaceError}
use Rattle.zarrs_consolidate.specs.CarryingOut.{asked_of_plan, IsPlanBrokenOff}
use Rattle.zarrs_consolidate.specs.Plans.{IsPlan}
use Rattle.zarrs_consolidate.specs.Refusals.{RefusesPlanOfSome}
use Rattle.zarrs_consolidate.specs.declared.carry_out.Outcome.{Outcome}
use Rattle.zarrs_consolidate.specs.declared.carry_out.Outcome.TheVariants.{Unchanged, Changed}
use Rattle.zarrs_consolidate.specs.declared.fault.ConsolidateError.{ConsolidateError}
use Rattle.zarrs_consolidate.specs.declared.plan.Plan.{Plan}
use Rattle.zarrs_consolidate.specs.declared.plan.Task.{Task}
use Rattle.zarrs_cli.specs.ConsolidationRefusals.{RefusesConsolidation, RefusesConsolidationOfEach, RefusesConsolidationOfSome}
use Rattle.zarrs_cli.specs.Consolidations.{AsksPlace, IsChange, IsConsolidation, IsConsolidationLine, IsConsolidationOfEach, IsConsolidationOfSome, IsEndOf, IsPlanText, change_text, kept_text, task_of}
use Rattle.zarrs_cli.specs.StepsOfConsolidations.{IsPlanFaultOfEach, IsPlanFaultOfSome, IsPlanTold, IsPlanToldOfEach, IsPlanToldOfSome}
use Rattle.zarrs_cli.specs.declared.consolidate.Consolidated.{Consolidated}
use Rattle.zarrs_cli.specs.declared.fault.ZarrsFault.{ZarrsFault}
use Rattle.zarrs_cli.specs.declared.fault.ZarrsFault.TheVariants.{Usage, Load, Folder, Node, TooDeep, Consolidate, Replace, Write, Closed, OutOfMemory}
use Rattle.zarrs_cli.specs.declared.words.ConsolidateOptions.{ConsolidateOptions}
use Rattle.zarrs_cli.specs.Refusals.{IsOfWriter}
use Rattle.zarrs_cli.proofs.Runs.{of_writer}

module _ (options : ConsolidateOptions) (path : List ℕ) where
  -- a text that is no path refuses the run over any store, and nothing was asked
  pub path_of_some : (asked : Option (List Asked)) (e : NodeCreateError) → RefusesPathText path e → RefusesConsolidationOfSome options path asked asked (Node e)
  path_of_some asked e refused = (values_of [], (refl, refused))

  -- and over each
  pub path_of_each : (P : Values → Type 0) (asked : Option (List Asked)) (e : NodeCreateError) → RefusesPathText path e → RefusesConsolidationOfEach options path P asked asked (Node e)
  path_of_each P asked e refused = λ V p. (refl, refused)

  module _ (b : Path) (valid : IsPath b) (same : path_text b ≡ path) where
    -- why it is not known over some store what becomes of the block is why the run is refused, and nothing was asked
    pub plan_of_some : (asked : Option (List Asked)) (fault : ZarrsFault) → IsPlanFaultOfSome options b fault → RefusesConsolidationOfSome options path asked asked fault
    plan_of_some asked (Consolidate e) h = ⊎_elim (λ unread. (values_of [], (refl, inl unread))) (λ r. (r.0, (refl, inr (b, valid, same, r.1)))) h
    plan_of_some asked OutOfMemory h = (values_of [], refl)
    plan_of_some asked Usage h = absurd h
    plan_of_some asked (Load e) h = absurd h
    plan_of_some asked (Folder e) h = absurd h
    plan_of_some asked (Node e) h = absurd h
    plan_of_some asked TooDeep h = absurd h
    plan_of_some asked (Replace e) h = absurd h
    plan_of_some asked Write h = absurd h
    plan_of_some asked Closed h = absurd h

    -- over each
    pub plan_of_each : (P : Values → Type 0) (asked : Option (List Asked)) (fault : ZarrsFault) → IsPlanFaultOfEach options b P fault → RefusesConsolidationOfEach options path P asked asked fault
    plan_of_each P asked (Consolidate e) h = λ V p. (refl, ⊎_elim inl (λ r. inr (b, valid, same, r V p)) h)
    plan_of_each P asked OutOfMemory h = λ V p. refl
    plan_of_each P asked Usage h = absurd h
    plan_of_each P asked (Load e) h = absurd h
    plan_of_each P asked (Folder e) h = absurd h
    plan_of_each P asked (Node e) h = absurd h
    plan_of_each P asked TooDeep h = absurd h
    plan_of_each P asked (Replace e) h = absurd h
    plan_of_each P asked Write h = absurd h
    plan_of_each P asked Closed h = absurd h

    module _ (made : Plan × String Global) (before after : Option (List Asked)) where
      -- a plan that is broken off refuses the run
      broken_off : (s : Contents) (e : ReplaceError) → IsChange made.0 × (options.dry_run ≡ false) → AddsSome before after (IsPlanBrokenOff e made.0) → IsPlanTold s options b made
          → RefusesConsolidation s options path before after (Replace e)
      broken_off s e change asked told = (b, valid, same, (made.0, told.0, (change, asked)))

      pub broken_of_some : (e : ReplaceError) → IsChange made.0 × (options.dry_run ≡ false) → AddsSome before after (IsPlanBrokenOff e made.0) → IsPlanToldOfSome options b made
          → RefusesConsolidationOfSome options path before after (Replace e)
      broken_of_some e change asked (V, told) = (V, broken_off (in_any V) e change asked told)

      pub broken_of_each : (P : Values → Type 0) (e : ReplaceError) → IsChange made.0 × (options.dry_run ≡ false) → AddsSome before after (IsPlanBrokenOff e made.0)
          → IsPlanToldOfEach options b P made → RefusesConsolidationOfEach options path P before after (Replace e)
      broken_of_each P e change asked told = λ V p. broken_off (in_any V) e change asked (told V p)

      -- so does a writer that fails, or that nobody reads, once the plan was carried out
      pub unwritten_of_some : (fault : ZarrsFault) → IsOfWriter fault → AsksPlace options made.0 before after → IsPlanToldOfSome options b made
          → RefusesConsolidationOfSome options path before after fault
      unwritten_of_some fault failed asks (V, told) =
          (V, of_writer (RefusesConsolidation (in_any V) options path before after) fault (b, valid, same, (made.0, told.0, asks)) (b, valid, same, (made.0, told.0, asks)) failed)

      pub unwritten_of_each : (P : Values → Type 0) (fault : ZarrsFault) → IsOfWriter fault → AsksPlace options made.0 before after → IsPlanToldOfEach options b P made
          → RefusesConsolidationOfEach options path P before after fault
      unwritten_of_each P fault failed asks told =
          λ V p. of_writer (RefusesConsolidation (in_any V) options path before after) fault (b, valid, same, (made.0, (told V p).0, asks)) (b, valid, same, (made.0, (told V p).0, asks)) failed

      module _ (old new : Option (List ℕ)) (end : Consolidated) (asks : AsksPlace options made.0 before after) (ends : IsEndOf options made.0 end)
          (writes : Appends old new (string_bytes made.1)) where
        -- a plan that is carried out, and whose line is written, is the run over a store
        done : (s : Contents) → IsPlanTold s options b made → IsConsolidation s options path before after old new end
        done s told = record {
          base = b;
          valid = valid;
          text = same;
          plan = made.0;
          planned = told.0;
          line = string_bytes made.1;
          tells = told.1;
          writes = writes;
          asks = asks;
          ends = ends;
        }

        pub done_of_some : IsPlanToldOfSome options b made → IsConsolidationOfSome options path before after old new end
        done_of_some (V, told) = (V, done (in_any V) told)

        pub done_of_each : (P : Values → Type 0) → IsPlanToldOfEach options b P made → IsConsolidationOfEach options path P before after old new end
        done_of_each P told = λ V p. done (in_any V) (told V p)

-- ---- the calls

-- a plan that is a change, once carried out, changed the document
pub changed : (options : ConsolidateOptions) (plan : Plan) (before after : Option (List Asked)) (done : Outcome) → IsChange plan → options.dry_run ≡ false
    → Adds before after (asked_of_plan plan done) → ((done ≡ Unchanged) ↔ (bytes_in plan.new ≡ bytes_in plan.old)) → AsksPlace options plan before after
changed options plan before after Changed change wet adds same = inl (change, wet, adds)
changed options plan before after Unchanged change wet adds same = absurd (change (same.0 refl))

-- ---- the plan with its line

module _ (options : ConsolidateOptions) (b : Path) (task : Task) (is : task ≡ task_of options) (plan : Plan) (line : String Global)
    (tells : IsConsolidationLine options plan (string_bytes line)) where
  -- a plan over some store with its line
  pub told_of_some : (V : Values) × IsPlan (in_any V) task b plan → IsPlanToldOfSome options b (plan, line)
  told_of_some (V, planned) = (V, (subst (λ t. IsPlan (in_any V) t b plan) is planned, tells))

-- why there is no plan is the fault
module _ (options : ConsolidateOptions) (b : Path) (task : Task) (is : task ≡ task_of options) (e : ConsolidateError) where
  pub unplanned_of_some : RefusesPlanOfSome task b e → IsPlanFaultOfSome options b (Consolidate e)
  unplanned_of_some = subst (λ t. RefusesPlanOfSome t b e) is

-- ---- the line

module _ (options : ConsolidateOptions) (plan : Plan) {E : Type 0} where
  -- what is told of a change
  pub change_told : (r : Result (String Global) E) → IsChange plan → IfOk r (λ text. string_bytes text ≡ change_text options plan) → IfOk r (λ text. IsPlanText options plan (string_bytes text))
  change_told (Ok text) change is = inl (change, is)
  change_told (Err e) change is = tt

  -- what is told where there is none
  pub kept_told : (r : Result (String Global) E) → (IsChange plan → ⊥) → IfOk r (λ text. string_bytes text ≡ kept_text options plan) → IfOk r (λ text. IsPlanText options plan (string_bytes text))
  kept_told (Ok text) none is = inr (none, is)
  kept_told (Err e) none is = tt
