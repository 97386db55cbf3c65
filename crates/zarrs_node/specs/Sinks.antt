-- Zarr core specification 3.1, "Hierarchy": what a sink took of the nodes that a walk found.
-- <https://zarr-specs.readthedocs.io/en/latest/v3/core/index.html#hierarchy>
--     TakesAll R a es z      z came of a by taking es one after another
--     TakesForest R a z b N      z came of a by taking the nodes N below b in their order
--     KeepsPath, KeepsPair      how a list of paths, and one of pairs, takes a node
use Rattle.std.specs.Prelude.{◌≡◌, List, [], ◌∷◌, ◌++◌}
use Rattle.std.specs.Global.{Vec}
use Rattle.zarrs_path.specs.Paths.{Path}
use Rattle.zarrs_node.specs.Forest.{Forest, Shows, pairs}
use Rattle.zarrs_meaning.specs.Meaning.{Pair}

-- z came of a by taking each of es in their order, where R x e y says that y came of x by taking e
abbrev pub TakesAll : {S A : Type 0} → (S → A → S → Type 0) → S → List A → S → Type 0
TakesAll R a [] z = z ≡ a
TakesAll {S} R a (e ∷ es) z = (m : S) × R a e m × TakesAll R m es z

-- z came of a by taking the pairs of a forest that shows N below b, parents before children, siblings ascending
pub record TakesForest {S : Type 0} (R : S → Pair → S → Type 0) (a z : S) (b : Path) (N : Pair → Type 0) : Type 0 where
  pub trees : Forest
  pub shows : Shows trees b N
  pub took : TakesAll R a (pairs trees) z

-- the path of the node was put behind the others
abbrev pub KeepsPath : Vec Path → Pair → Vec Path → Type 0
KeepsPath old e new = new.items ≡ old.items ++ e.0 ∷ []

-- the node was put behind the others
abbrev pub KeepsPair : Vec Pair → Pair → Vec Pair → Type 0
KeepsPair old e new = new.items ≡ old.items ++ e ∷ []
