-- Of the pairs with one path the last, in a list that grows at its end.
use Rattle.std.proofs.Common.{◌≡◌, ◌≢◌, ◌⊎◌, inl, inr, ⊎_elim, Bool, true, false, cond, List, [], ◌∷◌, ◌++◌, length, refl, sym, ap, subst, ◌∙◌, append-nil, length-append, arith, Contains, AllPairs}
use Rattle.std.specs.List.{filter}
use Rattle.std.proofs.lemmas.List.{same_from_push}
use Rattle.std.proofs.lemmas.List.Elements.{Contains-push, filter-append}
use Rattle.zarrs_path.specs.Paths.{Path, path_eq}
use Rattle.zarrs_path.specs.PathOrder.{path_decides}
use Rattle.zarrs_meta.specs.declared.node.NodeMetadata.{NodeMetadata}
use Rattle.zarrs_node.specs.LastOfEqualPaths.{IsLatest}
use Rattle.zarrs_node.proofs.ListedItems.{all_pairs_first, all_pairs_tail}
use Rattle.zarrs_node.proofs.ForestsBeside.{Contains-first, Contains-cons}
use Rattle.zarrs_node.proofs.Order.{contains_cases}

-- the pairs with a path, of a list with one pair more
filter_more : (done : List (Path × NodeMetadata)) (e d : Path × NodeMetadata) → filter (λ x. path_eq x.0 d.0) (done ++ e ∷ []) ≡ filter (λ x. path_eq x.0 d.0) done ++ cond (path_eq e.0 d.0) (e ∷ []) []
filter_more done e d = filter-append (λ x. path_eq x.0 d.0) done (e ∷ [])

-- a list is not empty with an item behind it
pub no_push : {A : Type 0} (xs : List A) (x : A) → [] ≡ xs ++ x ∷ [] → ⊥
no_push xs x e = let l = ap (λ y. length y) e in let m = length-append xs (x ∷ []) in omega (arith, l, m)

-- the pair at the end is the last with its path
pub latest_last : (done : List (Path × NodeMetadata)) (e : Path × NodeMetadata) → IsLatest (done ++ e ∷ []) e
latest_last done e =
    (filter (λ x. path_eq x.0 e.0) done, filter_more done e e ∙ ap (λ t. filter (λ x. path_eq x.0 e.0) done ++ cond t (e ∷ []) []) ((path_decides e.0 e.0).1 refl))

-- the last with another path stays the last
pub latest_keep : (done : List (Path × NodeMetadata)) (e d : Path × NodeMetadata) → path_eq e.0 d.0 ≡ false → IsLatest done d → IsLatest (done ++ e ∷ []) d
latest_keep done e d other h =
    (h.0, filter_more done e d ∙ ap (λ t. filter (λ x. path_eq x.0 d.0) done ++ cond t (e ∷ []) []) other ∙ append-nil (filter (λ x. path_eq x.0 d.0) done) ∙ h.1)

-- the last is the pair at the end, or has another path and was the last
pub latest_push : (done : List (Path × NodeMetadata)) (e d : Path × NodeMetadata) → IsLatest (done ++ e ∷ []) d → (e ≡ d) ⊎ ((path_eq e.0 d.0 ≡ false) × IsLatest done d)
latest_push done e d h =
    let kept : List (Path × NodeMetadata) = filter (λ x. path_eq x.0 d.0) done in
    elim (path_eq e.0 d.0) as (λ t. path_eq e.0 d.0 ≡ t → kept ++ cond t (e ∷ []) [] ≡ h.0 ++ d ∷ [] → (e ≡ d) ⊎ ((path_eq e.0 d.0 ≡ false) × IsLatest done d)) [
      | true ↦ λ is same. inl (same_from_push kept h.0 e d same).1
      | false ↦ λ is same. inr (is, (h.0, sym (append-nil kept) ∙ same))
    ] refl (sym (filter_more done e d) ∙ h.1)

-- an item that a filter keeps is in the list
pub contains_filtered : {A : Type 0} (p : A → Bool) (xs : List A) (x : A) → Contains (filter p xs) x → Contains xs x
contains_filtered p [] x h = h
contains_filtered p (y ∷ xs) x h =
    elim (p y) as (λ t. Contains (cond t (y ∷ filter p xs) (filter p xs)) x → Contains (y ∷ xs) x) [
      | true ↦ λ k. ⊎_elim (λ e. subst (Contains (y ∷ xs)) e (Contains-first y xs)) (λ l. Contains-cons y xs x (contains_filtered p xs x l)) (contains_cases y (filter p xs) x k)
      | false ↦ λ k. Contains-cons y xs x (contains_filtered p xs x k)
    ] h

-- the last with its path is one of the pairs
pub latest_in : (done : List (Path × NodeMetadata)) (d : Path × NodeMetadata) → IsLatest done d → Contains done d
latest_in done d h = contains_filtered (λ x. path_eq x.0 d.0) done d (subst (λ l. Contains l d) (sym h.1) (Contains-push h.0 d))

-- other paths are told apart
pub path_other : (p q : Path) → p ≢ q → path_eq p q ≡ false
path_other p q apart = elim (path_eq p q) as (λ t. path_eq p q ≡ t → t ≡ false) [
  | true ↦ λ is. absurd (apart ((path_decides p q).0 is))
  | false ↦ λ is. refl
] refl

-- no pair is kept where none has the path
none_filtered : (p : Path) (xs : List (Path × NodeMetadata)) → ((d : Path × NodeMetadata) → Contains xs d → d.0 ≢ p) → filter (λ x. path_eq x.0 p) xs ≡ []
none_filtered p [] other = refl
none_filtered p (x ∷ xs) other =
    ap (λ t. cond t (x ∷ filter (λ x. path_eq x.0 p) xs) (filter (λ x. path_eq x.0 p) xs)) (path_other x.0 p (other x (Contains-first x xs)))
    ∙ none_filtered p xs (λ d h. other d (Contains-cons x xs d h))

-- of pairs whose paths differ each is the last with its path
pub own_latest : (xs : List (Path × NodeMetadata)) → AllPairs (λ d e. d.0 ≢ e.0) xs → (e : Path × NodeMetadata) → Contains xs e → IsLatest xs e
own_latest [] apart e h = absurd (omega (arith, h.1))
own_latest (x ∷ xs) apart e h = ⊎_elim
    (λ same. subst (IsLatest (x ∷ xs)) same (
      [],
      ap (λ t. cond t (x ∷ filter (λ d. path_eq d.0 x.0) xs) (filter (λ d. path_eq d.0 x.0) xs)) ((path_decides x.0 x.0).1 refl)
          ∙ ap (λ l. x ∷ l) (none_filtered x.0 xs (λ d k is. all_pairs_first (λ d e. d.0 ≢ e.0) x xs apart d k (sym is))),
    ))
    (λ l.
    let w = own_latest xs (all_pairs_tail (λ d e. d.0 ≢ e.0) x xs apart) e l in
    (w.0, ap (λ t. cond t (x ∷ filter (λ d. path_eq d.0 e.0) xs) (filter (λ d. path_eq d.0 e.0) xs)) (path_other x.0 e.0 (all_pairs_first (λ d e. d.0 ≢ e.0) x xs apart e l)) ∙ w.1))
    (contains_cases x xs e h)
