-- Steps of counting the paths with documents below a path; no public contract rests on them.
use Rattle.std.specs.Prelude.{◌≡◌, ◌≢◌, ◌↔◌, ◌⊎◌, ℕ, List, [], ◌∷◌, ◌++◌, AllPairs, Contains, Option, Some, None}
use Rattle.std.specs.declared.cmp.Ordering.TheVariants.{Less}
use Rattle.zarrs_store.specs.Contents.{Contents}
use Rattle.zarrs_store.specs.Segments.{Segments, key_text}
use Rattle.zarrs_path.specs.Keys.{zarr_json, zarray, zgroup}
use Rattle.zarrs_path.specs.Paths.{Path, IsPath, IsBelow, path_cmp}
use Rattle.zarrs_node.specs.Faults.{PathsAscend}
use Rattle.zarrs_check.specs.Orphans.{IsCountBelow}

-- the name is that of a document of a node
abbrev pub IsNodeFile : List ℕ → Type 0
IsNodeFile file = (file ≡ zarr_json) ⊎ (file ≡ zarray) ⊎ (file ≡ zgroup)

-- the key is that of a document of a node at the path p
abbrev pub IsNodeKey : Segments → Path → Type 0
IsNodeKey key p = IsPath p × ((file : List ℕ) × IsNodeFile file × (key ≡ p ++ file ∷ []))

-- the key is that of a document of a node at this path, or of none at any path but the root
abbrev pub IsNodePathOf : Segments → Option Path → Type 0
IsNodePathOf key (Some p) = IsNodeKey key p
IsNodePathOf key None = (p : Path) → p ≢ [] → IsNodeKey key p → ⊥

-- a text joined by slashes is that of this path, or of none
abbrev pub IsPathJoined : List ℕ → Option Path → Type 0
IsPathJoined text (Some p) = IsPath p × (text ≡ key_text p)
IsPathJoined text None = (p : Path) → IsPath p → text ≡ key_text p → ⊥

-- the key is that of a document of a node at this path, which is below p, or of none at any path below p
abbrev pub IsKeyedPath : Path → Segments → Option Path → Type 0
IsKeyedPath p key (Some q) = IsBelow p q × IsNodeKey key q
IsKeyedPath p key None = (q : Path) → IsBelow p q → IsNodeKey key q → ⊥

-- q is a path below p, and one of the keys is that of a document of a node at it
abbrev pub IsKeyedBelow : List Segments → Path → Path → Type 0
IsKeyedBelow keys p q = IsBelow p q × ((key : Segments) × Contains keys key × IsNodeKey key q)

-- the list has exactly the paths below p at which a document of a node is among the keys
abbrev pub AreKeyedBelow : List Segments → Path → List Path → Type 0
AreKeyedBelow keys p qs = (q : Path) → Contains qs q ↔ IsKeyedBelow keys p q

-- these are exactly the paths among ps below which paths have a document of a node, each with their number, in the
-- order of ps
pub record AreOrphansAmong (s : Contents) (ps : List Path) (os : List (Path × ℕ)) : Type 0 where
  pub exact : (o : Path × ℕ) → Contains os o ↔ (Contains ps o.0 × IsCountBelow s o.0 o.1 × (o.1 ≢ 0))
  pub ascend : PathsAscend ps → AllPairs (λ o u. path_cmp o.0 u.0 ≡ Less) os
