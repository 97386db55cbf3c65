-- A node in front of those below it, and the order of paths in ascending lists.
use Rattle.std.proofs.Common.{◌≡◌, inl, inr, ⊎_elim, List, [], ◌∷◌, ◌++◌, refl, sym, ap, subst, ◌∙◌, arith, Contains, AllPairs, Less, Equal}
use Rattle.std.proofs.lemmas.List.Elements.{Contains-append_cases}
use Rattle.std.specs.Cmp.{tied_itself}
use Rattle.zarrs_store.proofs.ChildLemmas.{key_cmp_total}
use Rattle.zarrs_path.specs.Paths.{Path, path_cmp}
use Rattle.zarrs_meta.specs.declared.node.NodeMetadata.{NodeMetadata}
use Rattle.zarrs_meaning.specs.Meaning.{meaning, node}
use Rattle.zarrs_node.specs.Nodes.{NodesFrom}
use Rattle.zarrs_examples.specs.MapsOfNodes.{BaseInFront, EarlierStandsBefore}
use Rattle.zarrs_node.proofs.ListedItems.{listed_each, all_pairs_tail, all_pairs_first, all_pairs_append}
use Rattle.zarrs_node.proofs.ForestsBeside.{Contains-first, Contains-cons}
use Rattle.zarrs_node.proofs.Order.{contains_cases, one_ascends, below_less}
use Rattle.zarrs_meaning.proofs.Meanings.{same_node}

-- that the path of the first is before that of the second
abbrev IsBefore : Path × NodeMetadata → Path × NodeMetadata → Type 0
IsBefore d e = path_cmp d.0 e.0 ≡ Less

-- no path is before itself
not_before_itself : {A : Type 0} (p : Path) → path_cmp p p ≡ Less → A
not_before_itself p less = let level : path_cmp p p ≡ Equal = tied_itself key_cmp_total p in cc

-- a node in front of the nodes below it
pub base_in_front : BaseInFront
base_in_front s v b m es means lists ascends = (
  λ e. (
    λ in'. ⊎_elim
        (λ same. subst (NodesFrom s v b) same (inl refl, means))
        (λ rest. let w = (listed_each lists e).0 rest in (inr w.0, w.1))
        (contains_cases (b, m) es e in'),
    λ h. ⊎_elim
        (λ at. subst (Contains ((b, m) ∷ es)) (pair e at h.1) (Contains-first (b, m) es))
        (λ r. Contains-cons (b, m) es e ((listed_each lists e).1 (r, h.1)))
        h.0,
  ),
  all_pairs_append IsBefore ((b, m) ∷ []) es (one_ascends (b, m)) ascends (λ x y hx hy. ⊎_elim
      (λ same. subst (λ z. path_cmp z.0 y.0 ≡ Less) same (let r = ((listed_each lists y).0 hy).0.below in below_less b y.0 (record { name = r.0; rest = r.1; is = r.2 })))
      (λ none. absurd (omega (arith, none.1)))
      (contains_cases (b, m) [] x hx)),
)
  where
    pair : (e : Path × NodeMetadata) → e.0 ≡ b → meaning s v e.0 ≡ node e.1 → (b, m) ≡ e
    pair e at is i = (sym at i, same_node m e.1 (sym means ∙ ap (meaning s v) (sym at) ∙ is) i)

-- what holds between the items of a list holds between those of its end
all_pairs_end : {A : Type 0} (R : A → A → Type 0) (xs ys : List A) → AllPairs R (xs ++ ys) → AllPairs R ys
all_pairs_end R [] ys h = h
all_pairs_end R (x ∷ xs) ys h = all_pairs_end R xs ys (all_pairs_tail R x (xs ++ ys) h)

-- of what ascends a pair with an earlier path stands before
pub earlier_stands_before : EarlierStandsBefore
earlier_stands_before before after x e ascends in' less = ⊎_elim
    (λ h. h)
    (λ h. ⊎_elim
    (λ same. not_before_itself x.0 (subst (λ d. path_cmp d.0 x.0 ≡ Less) (sym same) less))
    (λ later. not_before_itself e.0 (key_cmp_total.trans e.0 x.0 e.0 less (all_pairs_first IsBefore x after (all_pairs_end IsBefore before (x ∷ after) ascends) e later)))
    (contains_cases x after e h))
    (Contains-append_cases before (x ∷ after) e in')
