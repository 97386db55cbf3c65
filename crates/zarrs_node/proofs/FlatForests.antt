-- The forest of a flat list, and the number of its steps.
use Rattle.std.proofs.Common.{◌≡◌, ◌≢◌, ℕ, ◌+◌, ⊎_elim, ◌↔◌, Bool, true, false, cond, List, [], ◌∷◌, map, length, refl, sym, ap, subst, ◌∙◌, arith, Contains, AllPairs, Less, true≢false, Result, Ok, Err, IfOk}
use Rattle.std.specs.List.{filter}
use Rattle.std.proofs.lemmas.List.Elements.{Contains-push}
use Rattle.std.proofs.lemmas.List.{length-map}
use Rattle.zarrs_path.specs.Paths.{Path, path_cmp, path_eq}
use Rattle.zarrs_path.specs.PathOrder.{path_decides}
use Rattle.zarrs_node.specs.Forest.{Forest, pairs, Shows}
use Rattle.zarrs_node.specs.Reach.{Kept}
use Rattle.zarrs_node.proofs.Unique.{Pair}
use Rattle.zarrs_node.proofs.KeptPairs.{kept_same}
use Rattle.zarrs_node.specs.LastOfEqualPaths.{IsLatest, groups, CountsSteps}
use Rattle.zarrs_node.specs.Order.{Ascend}
use Rattle.zarrs_node.proofs.ForestsBeside.{Contains-first, Contains-cons}
use Rattle.zarrs_node.proofs.ListedItems.{all_pairs_append, all_pairs_tail, all_pairs_first, listed_each, lists_from}
use Rattle.zarrs_node.proofs.walk.Child.{contains_one}
use Rattle.zarrs_node.proofs.Order.{contains_cases}
use Rattle.zarrs_node.proofs.Unique.{names_irrefl}
use Rattle.zarrs_node.proofs.Lasts.{snoc_cases, latest_in}

-- a forest that shows some pairs shows the same pairs
pub shows_same : (f : Forest) (b : Path) (N M : Pair → Type 0) → ((e : Pair) → N e ↔ M e) → Shows f b N → Shows f b M
shows_same f b N M same h = record {
  shown = lists_from (pairs f) (λ e. (λ in'. (same e).0 ((listed_each h.shown e).0 in'), λ m. (listed_each h.shown e).1 ((same e).1 m))) h.shown.each_once;
  placed = h.placed;
}

-- a mapped list has what the items map to
pub contains_map : {A B : Type 0} (f : A → B) (xs : List A) (x : A) → Contains xs x → Contains (map f xs) (f x)
contains_map f [] x h = absurd (omega (arith, h.1))
contains_map f (y ∷ xs) x h = ⊎_elim (λ e. subst (λ z. Contains (map f (y ∷ xs)) (f z)) e (Contains-first (f y) (map f xs))) (λ l. Contains-cons (f y) (map f xs) (f x) (contains_map f xs x l)) (contains_cases y xs x h)

-- and that alone
pub contains_mapped : {A B : Type 0} (f : A → B) (xs : List A) (y : B) → Contains (map f xs) y → (x : A) × Contains xs x × (f x ≡ y)
contains_mapped f [] y h = absurd (omega (arith, h.1))
contains_mapped f (x ∷ xs) y h = ⊎_elim (λ e. (x, Contains-first x xs, e)) (λ l. let w = contains_mapped f xs y l in (w.0, Contains-cons x xs w.0 w.1, w.2)) (contains_cases (f x) (map f xs) y h)

-- the paths of ascending pairs differ
paths_apart : (xs : List Pair) → Ascend xs → AllPairs (λ p q. p ≢ q) (map (λ e. e.0) xs)
paths_apart [] up = λ i j d l m. absurd (omega (arith, m))
paths_apart (x ∷ xs) up = all_pairs_append (λ p q. p ≢ q) (x.0 ∷ []) (map (λ e. e.0) xs) (λ i j d l m. absurd (omega (arith, l, m))) (paths_apart xs (all_pairs_tail (λ d e. path_cmp d.0 e.0 ≡ Less) x xs up))
    (λ p q hp hq same.
    let w = contains_mapped (λ e. e.0) xs q hq in
    let less = all_pairs_first (λ d e. path_cmp d.0 e.0 ≡ Less) x xs up w.0 w.1 in
    names_irrefl x.0 (ap (path_cmp x.0) (contains_one x.0 p hp ∙ same ∙ sym w.2) ∙ less))

-- what a filter keeps passes the test
pub filter_holds : {A : Type 0} (p : A → Bool) (xs : List A) (x : A) → Contains (filter p xs) x → p x ≡ true
filter_holds p [] x h = absurd (omega (arith, h.1))
filter_holds p (y ∷ xs) x h = elim (p y) as (λ t. p y ≡ t → Contains (cond t (y ∷ filter p xs) (filter p xs)) x → p x ≡ true) [
  | true ↦ λ is k. ⊎_elim (λ e. subst (λ z. p z ≡ true) e is) (λ l. filter_holds p xs x l) (contains_cases y (filter p xs) x k)
  | false ↦ λ is k. filter_holds p xs x k
] refl h

-- what passes the test is kept
pub filter_keeps : {A : Type 0} (p : A → Bool) (xs : List A) (x : A) → p x ≡ true → Contains xs x → Contains (filter p xs) x
filter_keeps p [] x is h = h
filter_keeps p (y ∷ xs) x is h = elim (p y) as (λ t. p y ≡ t → Contains (cond t (y ∷ filter p xs) (filter p xs)) x) [
  | true ↦ λ py. ⊎_elim (λ e. subst (Contains (y ∷ filter p xs)) e (Contains-first y (filter p xs))) (λ l. Contains-cons y (filter p xs) x (filter_keeps p xs x is l)) (contains_cases y xs x h)
  | false ↦ λ py. ⊎_elim (λ e. absurd (true≢false (sym is ∙ ap p (sym e) ∙ py))) (λ l. filter_keeps p xs x is l) (contains_cases y xs x h)
] refl

-- some pair with that path is the last
pub latest_of : (xs : List Pair) (e : Pair) → Contains xs e → (d : Pair) × IsLatest xs d × (d.0 ≡ e.0)
latest_of xs e h =
    let kept : List Pair = filter (λ d. path_eq d.0 e.0) xs in
    let inside = filter_keeps (λ d. path_eq d.0 e.0) xs e ((path_decides e.0 e.0).1 refl) h in
    ⊎_elim
    (λ empty. let none = subst (λ l. Contains l e) empty inside in absurd (omega (arith, none.1)))
    (λ s.
    let last = subst (λ l. Contains l s.1) (sym s.2) (Contains-push s.0 s.1) in
    let same = (path_decides s.1.0 e.0).0 (filter_holds (λ d. path_eq d.0 e.0) xs s.1 last) in
    (s.1, (s.0, ap (λ p. filter (λ d. path_eq d.0 p) xs) same ∙ s.2), same))
    (snoc_cases kept)

-- the steps over the last pairs of each path are the steps over all pairs
pub counts_steps : (flat xs : List Pair) (f : Forest) (steps : ℕ) → Ascend xs → ((e : Pair) → Contains xs e ↔ IsLatest flat e) → steps ≡ length xs + groups f → CountsSteps flat f steps
counts_steps flat xs f steps up same is = (
  map (λ e. e.0) xs,
  lists_from (map (λ e. e.0) xs)
      (λ p. (
        λ h. let w = contains_mapped (λ e. e.0) xs p h in (w.0.1, subst (λ q. Contains flat (q, w.0.1)) w.2 (latest_in flat w.0 ((same w.0).0 w.1))),
        λ h. let w = latest_of flat (p, h.0) h.1 in subst (Contains (map (λ e. e.0) xs)) w.2 (contains_map (λ e. e.0) xs w.0 ((same w.0).1 w.1)),
      ))
      (paths_apart xs up),
  is ∙ ap (λ n. n + groups f) (sym (length-map xs (λ e. e.0))),
)

module _ {R E : Type 0} (forest_of : R → Forest) (steps_of : R → ℕ) (flat xs : List Pair) (b : Path) (up : Ascend xs) (same : (e : Pair) → Contains xs e ↔ IsLatest flat e) where
  -- what the pass shows of the last pairs is what is shown of all
  pub counted_shows : (r : Result R E) → IfOk r (λ r. Shows (forest_of r) b (Kept (Contains xs) true b)) → IfOk r (λ r. Shows (forest_of r) b (Kept (IsLatest flat) true b))
  counted_shows (Ok r) h = shows_same (forest_of r) b (Kept (Contains xs) true b) (Kept (IsLatest flat) true b) (kept_same (Contains xs) (IsLatest flat) true b (λ e low. same e)) h
  counted_shows (Err e) h = h

  -- and its steps likewise
  pub counted_steps : (r : Result R E) → IfOk r (λ r. steps_of r ≡ length xs + groups (forest_of r)) → IfOk r (λ r. CountsSteps flat (forest_of r) (steps_of r))
  counted_steps (Ok r) h = counts_steps flat xs (forest_of r) (steps_of r) up same h
  counted_steps (Err e) h = h
