-- Steps of comparing: what is told of entries beside nodes, and of keys; no public contract rests on them.
use Rattle.std.specs.Prelude.{◌≡◌, ◌≤◌, ◌↔◌, ℕ, length, Bool, true, false, Option, Some, None, List, [], ◌∷◌, ◌++◌}
use Rattle.std.specs.Prelude.{Contains, AllPairs, ◌⊎◌, if◌then◌else◌}
use Rattle.std.specs.List.{AllWithin, list_all}
use Rattle.std.specs.declared.cmp.Ordering.TheVariants.{Less}
use Rattle.zarrs_path.specs.Names.{is_name}
use Rattle.zarrs_path.specs.Paths.{Path, path_cmp, IsBelow, relative_names, without_leading_slash}
use Rattle.zarrs_form.specs.Forms.{is_nil}
use Rattle.zarrs_meta.specs.declared.node.NodeMetadata.{NodeMetadata}
use Rattle.zarrs_block.specs.Block.{Block, node_at_key}
use Rattle.zarrs_block.specs.BlockExpansion.{is_covered}
use Rattle.zarrs_compare.specs.Same.{IsSame}
use Rattle.zarrs_check.specs.Findings.{IsPathFinding, IsAtOrAbove, Precedes}
use Rattle.zarrs_meaning.specs.Meaning.{Pair}
use Rattle.zarrs_check.specs.declared.finding.Finding.{Finding}
use Rattle.zarrs_check.specs.declared.finding.FindingKind.{FindingKind}
use Rattle.zarrs_check.specs.declared.finding.FindingKind.TheVariants.{BadKey, Shadowed, OwnKey, OwnAttributes}
use Rattle.zarrs_check.specs.declared.finding.FindingKind.TheVariants.{Unreachable, Differs}

-- the findings are exactly those of the paths of entries and nodes, all of the group g, each once, in the order of
-- paths and kinds
pub record ArePathFindings (E N : Pair → Type 0) (F D : Path → Type 0) (g : Path) (found : List Finding) : Type 0 where
  pub exact : (f : Finding) → Contains found f ↔ ((f.group ≡ g) × IsPathFinding E N F D g f.path f.kind)
  pub ascend : AllPairs Precedes found

-- each pair is below g
abbrev pub AreBelow : Path → List Pair → Type 0
AreBelow g es = (e : Pair) → Contains es e → IsBelow g e.0

-- p without its last name is g or above it
abbrev pub HangsFrom : Path → Path → Type 0
HangsFrom g p = (r : Path) × (n : List ℕ) × (p ≡ r ++ n ∷ []) × IsAtOrAbove r g

-- p stands before the first of the pairs
abbrev pub IsBeforeFirst : Path → List Pair → Type 0
IsBeforeFirst p [] = Unit {0}
IsBeforeFirst p (e ∷ es) = path_cmp p e.0 ≡ Less

-- each of the pairs stands behind p in the order of paths
abbrev pub StandBehind : Path → List Pair → Type 0
StandBehind p es = (e : Pair) → Contains es e → path_cmp p e.0 ≡ Less

-- n is the place behind p among pairs in the order of paths: no pair before it stands behind p, and each from there
-- on does
pub record IsPlaceBehind (es : List Pair) (p : Path) (n : ℕ) : Type 0 where
  pub inside : n ≤ length es
  pub before : AllWithin (λ e. path_cmp p e.0 ≡ Less → ⊥) es 0 n
  pub behind : AllWithin (λ e. path_cmp p e.0 ≡ Less) es n (length es)

-- what is to be told of an entry that is reachable or not
abbrev pub cut_kind : Bool → Option FindingKind
cut_kind false = Some Unreachable
cut_kind true = None

-- what is to be told of an entry with these metadata beside a node with others
abbrev pub IsPairKind : NodeMetadata → NodeMetadata → Option FindingKind → Type 0
IsPairKind m n None = IsSame m n
IsPairKind m n (Some k) = (k ≡ Differs) × (IsSame m n → ⊥)

-- what is to be told of a block whose document has other attributes of its group or has not
abbrev pub own_kind : Bool → Option FindingKind
own_kind false = None
own_kind true = Some OwnAttributes

-- the finding, if there is one
abbrev pub findings_at : Path → Path → Option FindingKind → List Finding
findings_at g p None = []
findings_at g p (Some k) = record { group = g; path = p; kind = k } ∷ []

-- ---- keys

-- what is to be told of a key
abbrev pub key_kind : Block → List ℕ → Option FindingKind
key_kind B t =
    if is_nil (without_leading_slash t) then Some (OwnKey t) else
    if list_all is_name (relative_names t) then (if is_covered B t then Some (Shadowed t) else None)
    else Some (BadKey t)

-- what is to be told of the keys of these entries of a block
abbrev pub key_findings : Path → Block → Block → List Finding
key_findings g B [] = []
key_findings g B (e ∷ es) = findings_at g g (key_kind B e.0) ++ key_findings g B es

-- what is to be told of the block B of g itself: of its keys, and behind that of its own attributes, where its
-- document has others
abbrev pub own_findings : Path → Block → Bool → List Finding
own_findings g B other = key_findings g B B ++ findings_at g g (own_kind other)

-- the text is that of a bad key among the findings
abbrev pub IsBadAmong : List Finding → List ℕ → Type 0
IsBadAmong [] t = ⊥
IsBadAmong (f ∷ fs) t = (f.kind ≡ BadKey t) ⊎ IsBadAmong fs t

-- C has what B has at the keys that are not bad among the findings, and nothing else
abbrev pub IsRidOf : List Finding → Block → Block → Type 0
IsRidOf fs B C =
    (t : List ℕ) (m : NodeMetadata) → (node_at_key C t ≡ Some m) ↔ ((IsBadAmong fs t → ⊥) × (node_at_key B t ≡ Some m))
