-- What the meaning and the name of a child say.
use Rattle.std.proofs.Common.{◌≡◌, ◌==◌, ℕ, ⊎_elim, Bool, List, [], ◌∷◌, refl, sym, ap, subst, ◌∙◌, arith, Contains, IsTrue, IsFalse}
use Rattle.std.proofs.lemmas.Bool.{eqb-true}
use Rattle.std.proofs.lemmas.List.Elements.{Contains-push_cases}
use Rattle.std.specs.Cmp.{first_so}
use Rattle.zarrs_path.specs.Paths.{Path}
use Rattle.zarrs_path.specs.Names.{is_all_periods, is_reserved}
use Rattle.zarrs_store.specs.Contents.{Contents}
use Rattle.zarrs_meta.specs.declared.node.NodeMetadata.{NodeMetadata}
use Rattle.zarrs_config.specs.declared.version.MetadataRetrieveVersion.{MetadataRetrieveVersion}
use Rattle.zarrs_meaning.specs.Meaning.{Meaning, meaning, node, nothing, bad}
use Rattle.zarrs_node.specs.Reach.{Opens}
use Rattle.zarrs_node.specs.Nodes.{MeansNode}

-- which of the three a meaning is
abbrev pub IsNode : Meaning → Type 0
IsNode (node m) = Unit {0}
IsNode nothing = ⊥
IsNode (bad e) = ⊥

-- a meaning is bad
abbrev pub IsBad : Meaning → Type 0
IsBad (node m) = ⊥
IsBad nothing = ⊥
IsBad (bad e) = Unit {0}

-- the metadata of a meaning that is a node
abbrev metadata_or : NodeMetadata → Meaning → NodeMetadata
metadata_or d (node m) = m
metadata_or d nothing = d
metadata_or d (bad e) = d

-- one node has one metadata
pub node_same : (m k : NodeMetadata) → node m ≡ node k → m ≡ k
node_same m k e = ap (metadata_or m) e

-- a list of one item has that item alone
pub contains_one : {A : Type 0} (x y : A) → Contains (x ∷ []) y → x ≡ y
contains_one x y h = ⊎_elim (λ in'. absurd (omega (arith, in'.1))) (λ e. e) (Contains-push_cases [] x y h)

-- what means nothing is not listed
pub not_open : (s : Contents) (v : MetadataRetrieveVersion) (r : Bool) (c : Path) → meaning s v c ≡ nothing → Opens (MeansNode s v) r c → ⊥
not_open s v r c is o = subst IsNode (sym o.1.1 ∙ is) tt

-- periods only do not begin with `__`
pub not_reserved : (n : List ℕ) → IsTrue (is_all_periods n) → IsFalse (is_reserved n)
not_reserved [] h = refl
not_reserved (c ∷ []) h =
    let same = eqb-true c 46 (first_so (c == 46) _ h) in
    subst (λ x. IsFalse (is_reserved (x ∷ []))) (sym same) refl
not_reserved (c ∷ d ∷ n) h =
    let same = eqb-true c 46 (first_so (c == 46) _ h) in
    subst (λ x. IsFalse (is_reserved (x ∷ d ∷ n))) (sym same) refl
