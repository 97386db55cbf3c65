use Rattle.std.proofs.Common.{◌≡◌, Bool, [], List, Result, Ok, Err, IfOk, IsFalse}
use Rattle.zarrs_path.specs.Paths.{Path}
use Rattle.zarrs_store.specs.Contents.{Contents, Lists}
use Rattle.zarrs_config.specs.declared.version.MetadataRetrieveVersion.{MetadataRetrieveVersion}
use Rattle.zarrs_node.specs.Faults.{Faults}
use Rattle.zarrs_node.specs.Nodes.{HasNothingBad}
use Rattle.zarrs_node.proofs.walk.WalkSteps.{PathFault, nothing_bad}
use Rattle.zarrs_node.proofs.descent.walk_nodes.Goals as goal

-- an answer with no fault is clean
clean_of : {A E : Type 0} (s : Contents) (v : MetadataRetrieveVersion) (r : Bool) (b : Path) (fs : List PathFault) (goes_on : Bool) (o : Result A E) → IsFalse goes_on
    → IfOk o (λ _. Lists (Faults s v r b) fs) → IfOk o (λ _. IsFalse goes_on → fs ≡ []) → IfOk o (λ _. HasNothingBad s v r b)
clean_of s v r b fs goes_on (Ok x) stays lists empty = nothing_bad s v r b fs lists (empty stays)
clean_of s v r b fs goes_on (Err e) stays lists empty = tt

pub returns-clause-clean : goal.returns-clause-clean
returns-clause-clean g c =
    clean_of (g.S.Store.contents c.args.storage.now) c.args.version.now c.args.recursive c.args.path.now _ _ c.walk-walked.result c.new-notes.ensures.goes_on c.walk-walked.ensures.faults c.walk-walked.ensures.none
