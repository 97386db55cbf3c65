-- The laws of surveys.
use Rattle.std.proofs.Common.{◌≡◌, ◌⊎◌, inl, inr, ⊎_elim, ℕ, true, length, List, [], ◌∷◌, ◌++◌, refl, sym, ap, subst, ◌∙◌, arith, append_assoc, Contains, Less}
use Rattle.std.proofs.lemmas.List.{append_cancel_left}
use Rattle.zarrs_store.specs.Contents.{Lists}
use Rattle.zarrs_path.specs.Paths.{Path, IsPath, IsBelow, path_cmp}
use Rattle.zarrs_path.specs.PathOrder.{path_total}
use Rattle.zarrs_path.proofs.PathTexts.{IsPath-append, IsPath-parts}
use Rattle.zarrs_node.specs.Forest.{pairs}
use Rattle.zarrs_node.specs.Nodes.{MeansNode}
use Rattle.zarrs_node.specs.Reach.{Kept}
use Rattle.zarrs_node.proofs.ListedItems.{listed_each}
use Rattle.zarrs_node.proofs.ForestsBeside.{Contains-first}
use Rattle.zarrs_node.proofs.KeptOfLists.{below_trans}
use Rattle.zarrs_node.proofs.Order.{shown_ascend}
use Rattle.zarrs_node.proofs.Unique.{names_irrefl}
use Rattle.zarrs_meaning.specs.Meaning.{Pair}
use Rattle.zarrs_check.specs.Laws.{NothingBadIsTold, RefusalsAreTold, ListingIsSurveyed, GroupsAreSurveyed}
use Rattle.zarrs_check.proofs.MergedPairs.{same_list}

-- an empty list has nothing
nothing_in : {A : Type 0} (xs : List A) (x : A) → xs ≡ [] → Contains xs x → ⊥
nothing_in xs x is in' = let none : Contains [] x = subst (λ ys. Contains ys x) is in' in omega (arith, none.1)

-- a list of nothing is empty
none_listed : {A : Type 0} (P : A → Type 0) (xs : List A) → Lists P xs → ((x : A) → P x → ⊥) → xs ≡ []
none_listed P [] h none = refl
none_listed P (x ∷ xs) h none = absurd (none x ((listed_each h x).0 (Contains-first x xs)))

-- nothing bad is told exactly where nothing is bad
pub nothing_bad_is_told : NothingBadIsTold
nothing_bad_is_told s v b survey h = (
  λ empty. ⊎_elim
      (λ w. nothing_in survey.bad_documents (w.1.0, w.0) empty.0 ((listed_each h.bad_documents (w.1.0, w.0)).1 (w.1.1, w.1.2)))
      (λ w. nothing_in survey.bad_names.items w.0 empty.1 ((listed_each h.bad_names w.0).1 w.1)),
  λ clean. (
    none_listed _ survey.bad_documents h.bad_documents (λ d is. clean (inl (d.1, (d.0, is.0, is.1)))),
    none_listed _ survey.bad_names.items h.bad_names (λ p is. clean (inr (p, is))),
  ),
)

-- what refuses a listing is told
pub refusals_are_told : RefusalsAreTold
refusals_are_told s v b survey h e shows = ⊎_elim
    (λ w. (w.0, inl ((listed_each h.bad_documents (w.0, e)).1 (w.1, w.2))))
    (λ w. (w.0, inr ((listed_each h.bad_names w.0).1 w.1, w.2)))
    shows

-- a listing shows the nodes
pub listing_is_surveyed : ListingIsSurveyed
listing_is_surveyed s v b survey h f shows =
    same_list (λ (d e : Pair). path_cmp d.0 e.0 ≡ Less) (λ d less. names_irrefl d.0 less) (λ d e g less more. path_total.trans d.0 e.0 g.0 less more)
    (pairs f) survey.nodes.items (shown_ascend b _ f shows) h.nodes_ascend
    (λ d. (λ in'. (listed_each h.nodes d).1 ((listed_each shows.shown d).0 in'), λ in'. (listed_each shows.shown d).1 ((listed_each h.nodes d).0 in')))

-- the first name of a path, and the others
abbrev head_or : List ℕ → Path → List ℕ
head_or d [] = d
head_or d (n ∷ p) = n

-- the names behind the first of a path, or others where it has none
abbrev tail_or : Path → Path → Path
tail_or d [] = d
tail_or d (n ∷ p) = p

-- of two paths above one, one is the other or above it
two_above : (q g p : Path) → IsBelow q p → IsBelow g p → (q ≡ g) ⊎ (IsBelow q g ⊎ IsBelow g q)
two_above [] [] p h k = inl refl
two_above [] (x ∷ g) p h k = inr (inl (x, g, refl))
two_above (y ∷ q) [] p h k = inr (inr (y, q, refl))
two_above (y ∷ q) (x ∷ g) [] h k = absurd (let l = ap length h.2 in omega (arith, l))
two_above (y ∷ q) (x ∷ g) (z ∷ p) h k =
    let first : y ≡ x = sym (ap (head_or z) h.2) ∙ ap (head_or z) k.2 in
    ⊎_elim
    (λ same. inl (ap (λ l. y ∷ l) same ∙ ap (λ n. n ∷ g) first))
    (⊎_elim
    (λ low. inr (inl (low.0, low.1, ap (λ n. n ∷ g) (sym first) ∙ ap (λ l. y ∷ l) low.2)))
    (λ low. inr (inr (low.0, low.1, ap (λ l. y ∷ l) low.2 ∙ ap (λ n. n ∷ (g ++ low.0 ∷ low.1)) first))))
    (two_above q g p (h.0, h.1, ap (tail_or p) h.2) (k.0, k.1, ap (tail_or p) k.2))

-- the nodes of a group are those below it
pub groups_are_surveyed : GroupsAreSurveyed
groups_are_surveyed s v b survey h g m in' group e = (
  λ kept. let whole = outer kept in ((listed_each h.nodes e).1 whole, (kept.0.below.0, kept.0.below.1, kept.0.below.2)),
  λ both. inner ((listed_each h.nodes e).0 both.0) both.1,
)
  where
    N : Pair → Type 0
    N = MeansNode s v

    at : Kept N true b (g, m)
    at = (listed_each h.nodes (g, m)).0 in'

    -- what is kept below the group is kept below the base
    outer : Kept N true g e → Kept N true b e
    outer kept = (
      record {
        below =
            let x = at.0.below in
            let y = kept.0.below in
            (x.0, x.1 ++ y.0 ∷ y.1, y.2 ∙ ap (λ p. p ++ y.0 ∷ y.1) x.2 ∙ append_assoc b (x.0 ∷ x.1) (y.0 ∷ y.1), IsPath-append (x.0 ∷ x.1) (y.0 ∷ y.1) x.3 y.3);
        between = λ q above below. ⊎_elim
            (λ same. (refl, (m, subst (λ p. N (p, m)) (sym same) at.1, group)))
            (⊎_elim (λ high. at.0.between q above high) (λ low. kept.0.between q low below))
            (two_above q g e.0 below (kept.0.below.0, kept.0.below.1, kept.0.below.2));
      },
      kept.1,
    )

    -- and the other way round
    inner : Kept N true b e → IsBelow g e.0 → Kept N true g e
    inner kept low = (
      record {
        below =
            let x = at.0.below in
            let y = kept.0.below in
            let names : y.0 ∷ y.1 ≡ (x.0 ∷ x.1) ++ low.0 ∷ low.1 =
            append_cancel_left b (y.0 ∷ y.1) ((x.0 ∷ x.1) ++ low.0 ∷ low.1) (sym y.2 ∙ low.2 ∙ ap (λ p. p ++ low.0 ∷ low.1) x.2 ∙ append_assoc b (x.0 ∷ x.1) (low.0 ∷ low.1)) in
            (low.0, low.1, low.2, (IsPath-parts (x.0 ∷ x.1) (low.0 ∷ low.1) (subst IsPath names y.3)).1);
        between = λ q above below. kept.0.between q (below_trans b g q (at.0.below.0, at.0.below.1, at.0.below.2) above) below;
      },
      kept.1,
    )
