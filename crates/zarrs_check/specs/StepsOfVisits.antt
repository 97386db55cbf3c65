-- Steps of what a check does with nodes, one after another; no public contract rests on them.
use Rattle.std.specs.Prelude.{◌≡◌, Bool, List, [], ◌∷◌, ◌++◌, map, Ok}
use Rattle.zarrs_store.specs.Contents.{Contents}
use Rattle.zarrs_path.specs.Paths.{Path}
use Rattle.zarrs_notes.specs.NodeFindings.{AreNodeFindings}
use Rattle.zarrs_notes.specs.declared.finding.NodeFinding.{NodeFinding}
use Rattle.zarrs_meaning.specs.Meaning.{Pair}
use Rattle.zarrs_check.specs.StepsOfTaking.{Takes}
use Rattle.zarrs_check.specs.declared.visits.Visits.{Visits}

-- what there is to tell of p, each with the path
abbrev pub named_findings : Path → List NodeFinding → List (Path × NodeFinding)
named_findings p fs = map (λ f. (p, f)) fs

-- what there is to tell of a node was put behind what was told of others
abbrev pub TellsNode : Contents → List (Path × NodeFinding) → Pair → List (Path × NodeFinding) → Type 0
TellsNode s old e new =
    (found : List NodeFinding) × AreNodeFindings s e.0 e.1 found × (new ≡ old ++ named_findings e.0 found)

module _ {S : Type 0} where
  -- a node was compared, and unless the store had failed or did it was told what there is to tell of it, and its path
  -- was kept
  pub record TakesVisit (contents : S → Contents) (can_fail : S → Bool) (old : Visits S) (e : Pair)
      (new : Visits S) : Type 0 where
    pub compared : Takes contents can_fail old.comparisons e new.comparisons
    pub tells : new.comparisons.outcome ≡ Ok tt
        → TellsNode (contents old.comparisons.storage.now) old.told.items e new.told.items
    pub named : new.comparisons.outcome ≡ Ok tt → new.paths.items ≡ old.paths.items ++ e.0 ∷ []
