-- Steps of a comparison of the block of a group with the nodes below it, one after another; no public contract rests
-- on them.
use Rattle.std.specs.Prelude.{◌≡◌, ◌⊎◌, ◌↔◌, ◌∷◌, [], ◌++◌, List, Contains, Option, Some, None, Bool, IsTrue}
use Rattle.std.specs.Prelude.{if◌then◌else◌}
use Rattle.std.specs.Prelude.{◌&&◌}
use Rattle.std.specs.declared.cmp.Ordering.TheVariants.{Less}
use Rattle.zarrs_path.specs.Paths.{Path, path_cmp, IsBelow}
use Rattle.zarrs_meta.specs.Node.{is_group}
use Rattle.zarrs_meta.specs.declared.node.NodeMetadata.{NodeMetadata}
use Rattle.zarrs_block.specs.Block.{Block, Entries, IsAscending}
use Rattle.zarrs_meaning.specs.declared.node_create_error.NodeCreateError.{NodeCreateError}
use Rattle.zarrs_node.specs.Order.{Ascend}
use Rattle.zarrs_check.specs.Findings.{IsSpoilt}
use Rattle.zarrs_meaning.specs.Meaning.{Pair}
use Rattle.zarrs_check.specs.StepsOfChecks.{HasBad}
use Rattle.zarrs_check.specs.StepsOfComparing.{ArePathFindings, AreBelow, HangsFrom, IsBeforeFirst, cut_kind}
use Rattle.zarrs_check.specs.StepsOfComparing.{findings_at, own_findings}
use Rattle.zarrs_check.specs.StepsOfMerging.{HoldsUpTo}
use Rattle.zarrs_check.specs.declared.comparison.Comparison.{Comparison}
use Rattle.zarrs_check.specs.declared.comparison.Turn.{Turn}
use Rattle.zarrs_check.specs.declared.comparison.Turn.TheVariants.{Before, At, Behind}
use Rattle.zarrs_check.specs.declared.finding.Finding.{Finding}
use Rattle.zarrs_check.specs.declared.finding.FindingKind.{FindingKind}
use Rattle.zarrs_check.specs.declared.finding.FindingKind.TheVariants.{Stale, Unreached}

-- no document is bad
abbrev pub NoneBad : Path → Type 0
NoneBad q = ⊥

-- the store has no document
abbrev pub NoDocument : Path → Type 0
NoDocument q = ⊥

-- what was told of the entries `all` beside `nodes`, of which es and ns are left, is what there is to tell up to there
pub record IsUnderWay (all nodes es ns : List Pair) (c : Comparison) : Type 0 where
  pub low : AreBelow c.group all
  pub under : AreBelow c.group nodes
  pub holds : HoldsUpTo (Contains all) (Contains nodes) NoneBad NoDocument c.group es ns c.last c.found.items

-- nothing of the block B of g was compared yet, whose document has other attributes of g or has not
pub record IsStart (B : Block) (other : Bool) (g : Path) (c : Comparison) : Type 0 where
  pub group : c.group ≡ g
  pub last : c.last ≡ g
  pub of_block : c.of_block.items ≡ own_findings g B other
  pub found : c.found.items ≡ []
  pub ascending : IsAscending B
  pub entries : (d : Pair) → Contains c.entries.items d ↔ Entries B g d
  pub ascend : Ascend c.entries.items

-- there is the finding alone to tell
pub record IsOnly (f : Finding) (c : Comparison) : Type 0 where
  pub group : c.group ≡ f.group
  pub last : c.last ≡ f.group
  pub of_block : c.of_block.items ≡ f ∷ []
  pub entries : c.entries.items ≡ []
  pub found : c.found.items ≡ []

-- ---- turns

-- both are of one group, and of one block
pub record IsOneBlock (old new : Comparison) : Type 0 where
  pub group : new.group ≡ old.group
  pub of_block : new.of_block.items ≡ old.of_block.items

-- nothing was told between, and no group was reached
pub record IsUnmoved (old new : Comparison) : Type 0 where
  pub one : IsOneBlock old new
  pub last : new.last ≡ old.last
  pub found : new.found.items ≡ old.found.items

-- what comes first: an entry before p, or the entry at p, which was taken; or neither
abbrev pub IsTurnAt : Path → Comparison → Turn → Comparison → Type 0
IsTurnAt p old (Before e) new = (old.entries.items ≡ e ∷ new.entries.items) × (path_cmp e.0 p ≡ Less)
IsTurnAt p old (At e) new = (old.entries.items ≡ e ∷ new.entries.items) × (e.0 ≡ p)
IsTurnAt p old Behind new = (new.entries.items ≡ old.entries.items) × IsBeforeFirst p old.entries.items

-- an entry was passed, and told are whether it hangs from the last group that was reached, and a kind
pub record PassesWith (old : Comparison) (e : Pair) (kind : Option FindingKind) (new : Comparison) : Type 0 where
  pub one : IsOneBlock old new
  pub entries : new.entries.items ≡ old.entries.items
  pub reached : Bool
  pub hangs : IsTrue reached ↔ HangsFrom old.last e.0
  pub found : new.found.items
      ≡ old.found.items ++ (findings_at old.group e.0 (cut_kind reached) ++ findings_at old.group e.0 kind)
  pub last : new.last ≡ (if reached && is_group e.1 then e.0 else old.last)

-- an entry without a node was told and passed
pub record PassesLone (old : Comparison) (e : Pair) (new : Comparison) : Type 0 where
  pub one : IsOneBlock old new
  pub entries : new.entries.items ≡ old.entries.items
  pub told : (all nodes ns : List Pair) → IsBeforeFirst e.0 ns → IsUnderWay all nodes (e ∷ old.entries.items) ns old
      → IsUnderWay all nodes old.entries.items ns new

-- an entry beside a node with the metadata n was told and passed
pub record PassesPair (old : Comparison) (e : Pair) (n : NodeMetadata) (new : Comparison) : Type 0 where
  pub one : IsOneBlock old new
  pub entries : new.entries.items ≡ old.entries.items
  pub told : (all nodes ns : List Pair) → IsUnderWay all nodes (e ∷ old.entries.items) ((e.0, n) ∷ ns) old
      → IsUnderWay all nodes old.entries.items ns new

-- the entry was passed, and is the last group that was reached if it is a group and was reached
pub record Passes (old : Comparison) (reached : Bool) (e : Pair) (new : Comparison) : Type 0 where
  pub one : IsOneBlock old new
  pub entries : new.entries.items ≡ old.entries.items
  pub found : new.found.items ≡ old.found.items
  pub last : new.last ≡ (if reached && is_group e.1 then e.0 else old.last)

-- a node was compared
pub record IsNext (old : Comparison) (e : Pair) (new : Comparison) : Type 0 where
  pub one : IsOneBlock old new
  pub told : (all nodes ns : List Pair) → IsUnderWay all nodes old.entries.items (e ∷ ns) old
      → IsUnderWay all nodes new.entries.items ns new

-- a node below the group was compared, and one that is not below it changes nothing
abbrev pub IsNextBelow : Comparison → Pair → Comparison → Type 0
IsNextBelow old e new = (IsBelow old.group e.0 × IsNext old e new) ⊎ ((IsBelow old.group e.0 → ⊥) × (new ≡ old))

-- nodes were compared one after another, each where it is below the group
abbrev pub IsNextOf : Comparison → List Pair → Comparison → Type 0
IsNextOf old [] new = new ≡ old
IsNextOf old (e ∷ es) new = (mid : Comparison) × IsNextBelow old e mid × IsNextOf mid es new

-- ---- the end

-- the entries that were left were told and passed, where no nodes are left
pub record IsAtEnd (old new : Comparison) : Type 0 where
  pub one : IsOneBlock old new
  pub told : (all nodes : List Pair) → IsUnderWay all nodes old.entries.items [] old → IsUnderWay all nodes [] [] new

-- What becomes of a finding, once the bad documents F and all documents D are known: of an entry without a node
-- nothing where F spoils it, and else it is
-- unreached where D has it. Others stay as they are.
abbrev pub IsSettled : (Path → Type 0) → (Path → Type 0) → Finding → Option Finding → Type 0
IsSettled F D f None = (f.kind ≡ Stale) × IsSpoilt F f.path
IsSettled F D f (Some h) =
    ((f.kind ≡ Stale → ⊥) × (h ≡ f))
    ⊎ ((f.kind ≡ Stale) × (IsSpoilt F f.path → ⊥) × (h.group ≡ f.group) × (h.path ≡ f.path)
    × (((D f.path) × (h.kind ≡ Unreached)) ⊎ ((D f.path → ⊥) × (h.kind ≡ Stale))))

-- the finding, if there is one
abbrev pub if_some : Option Finding → List Finding
if_some None = []
if_some (Some h) = h ∷ []

-- what becomes of findings, one after another
abbrev pub AreSettled : (Path → Type 0) → (Path → Type 0) → List Finding → List Finding → Type 0
AreSettled F D [] settled = settled ≡ []
AreSettled F D (f ∷ found) settled =
    (o : Option Finding) × (rest : List Finding) × (settled ≡ if_some o ++ rest) × IsSettled F D f o
    × AreSettled F D found rest

-- what becomes of the findings was put behind others
abbrev pub PutsSettled : (Path → Type 0) → (Path → Type 0) → List Finding → List Finding → List Finding → Type 0
PutsSettled F D told found whole = (settled : List Finding) × (whole ≡ told ++ settled) × AreSettled F D found settled

-- all that is told where no nodes are left
abbrev pub IsEnd : (Path → Type 0) → Comparison → List (Path × NodeCreateError) → List Finding → Type 0
IsEnd D c bad whole =
    (all nodes : List Pair) → IsUnderWay all nodes c.entries.items [] c
    → (told : List Finding) × (whole ≡ c.of_block.items ++ told)
    × ArePathFindings (Contains all) (Contains nodes) (HasBad bad) D c.group told
