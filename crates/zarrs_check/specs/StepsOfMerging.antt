-- Steps of going over the entries of a block and over nodes, both in the order of their paths: what is left of them,
-- and what was told of the paths before; no public contract rests on them.
use Rattle.std.specs.Prelude.{◌≡◌, ◌⊎◌, List, Contains, AllPairs}
use Rattle.std.specs.declared.cmp.Ordering.{Ordering}
use Rattle.std.specs.declared.cmp.Ordering.TheVariants.{Less}
use Rattle.zarrs_path.specs.Paths.{Path, path_cmp, IsBelow}
use Rattle.zarrs_node.specs.Reach.{HasGroup}
use Rattle.zarrs_check.specs.Findings.{HasPath, IsAtOrAbove, IsPathFinding, Precedes}
use Rattle.zarrs_meaning.specs.Meaning.{Pair}
use Rattle.zarrs_check.specs.declared.finding.Finding.{Finding}

-- some pair has the key
abbrev pub HasPairAt : {K M : Type 0} → (K × M → Type 0) → K → Type 0
HasPairAt {K} {M} N k = (m : M) × N (k, m)

-- some pair of one of the lists has the key
abbrev pub IsLeft : {K M : Type 0} → List (K × M) → List (K × M) → K → Type 0
IsLeft es ns k = HasPairAt (Contains es) k ⊎ HasPairAt (Contains ns) k

-- k stands before all that is left
abbrev pub IsPast : {K : Type 0} → (K → K → Ordering) → (K → Type 0) → K → Type 0
IsPast {K} cmp Left k = (l : K) → Left l → cmp k l ≡ Less

-- es are the pairs of E that are left
pub record IsRest {K M : Type 0} (cmp : K → K → Ordering) (Left : K → Type 0) (E : K × M → Type 0)
    (es : List (K × M)) : Type 0 where
  pub ascend : AllPairs (λ d e. cmp d.0 e.0 ≡ Less) es
  pub sound : (e : K × M) → Contains es e → E e
  pub complete : (e : K × M) → E e → Contains es e ⊎ IsPast cmp Left e.0

-- what was told is what there is to tell of keys that are past, in the order R
pub record IsToldUpTo {K A : Type 0} (cmp : K → K → Ordering) (key : A → K) (R : A → A → Type 0) (Left : K → Type 0)
    (F : A → Type 0) (told : List A) : Type 0 where
  pub ascend : AllPairs R told
  pub sound : (f : A) → Contains told f → F f
  pub past : (f : A) → Contains told f → IsPast cmp Left (key f)
  pub complete : (f : A) → F f → Contains told f ⊎ Left (key f)

-- p stands before each of the pairs
abbrev pub IsBeforeAll : List Pair → Path → Type 0
IsBeforeAll es p = (l : Path) → HasPath (Contains es) l → path_cmp p l ≡ Less

-- each path strictly between g and p is a group of E
abbrev pub IsReachable : (Pair → Type 0) → Path → Path → Type 0
IsReachable E g p = (q : Path) → IsBelow g q → IsBelow q p → HasGroup E q

-- of the entries E below b, with es left: g and each path between b and g is a group, and a reached group with
-- something below it left is g or above it
pub record IsLastGroup (E : Pair → Type 0) (b : Path) (es : List Pair) (g : Path) : Type 0 where
  pub groups : (q : Path) → IsBelow b q → IsAtOrAbove q g → HasGroup E q
  pub base : IsAtOrAbove b g
  pub waits : (q : Path) → HasGroup E q → IsReachable E b q → IsBeforeAll es q → (d : Path) → HasPath (Contains es) d
      → IsBelow q d → IsAtOrAbove q g

-- a finding is there to tell
abbrev pub IsToTell : (Pair → Type 0) → (Pair → Type 0) → (Path → Type 0) → (Path → Type 0) → Path → Finding → Type 0
IsToTell E N F D b f = (f.group ≡ b) × IsPathFinding E N F D b f.path f.kind

-- the findings of the paths before those that are left, es of E and ns of N, were told, and g is the last group that
-- was reached
pub record HoldsUpTo (E N : Pair → Type 0) (F D : Path → Type 0) (b : Path) (es ns : List Pair) (g : Path)
    (found : List Finding) : Type 0 where
  pub entries : IsRest path_cmp (IsLeft es ns) E es
  pub nodes : IsRest path_cmp (IsLeft es ns) N ns
  pub last : IsLastGroup E b es g
  pub told : IsToldUpTo path_cmp (λ f. f.path) Precedes (IsLeft es ns) (IsToTell E N F D b) found
