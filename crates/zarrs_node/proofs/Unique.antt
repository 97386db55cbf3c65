-- Two placed forests with the same pairs are one.
use Rattle.std.proofs.Common.{append_assoc, ◌≡◌, ℕ, ◌↔◌, ⊎_elim, List, [], ◌∷◌, ◌++◌, length, drop, get_or, refl, sym, ap, subst, ◌∙◌, arith, Contains, Less, true≢false, is_eq}
use Rattle.std.specs.Cmp.{IsTotalOrder, tied_itself}
use Rattle.std.specs.Cmp.Lexicographic.{nat_list_cmp_total, lists_total}
use Rattle.zarrs_path.specs.Paths.{Path, path_cmp}
use Rattle.zarrs_store.specs.Segments.{bytes_cmp}
use Rattle.zarrs_meta.specs.declared.node.NodeMetadata.{NodeMetadata}
use Rattle.zarrs_node.specs.Forest.{Forest, none, tree, pairs, IsBefore, IsPlaced}
use Rattle.zarrs_node.specs.Order.{Ascend}
use Rattle.zarrs_node.proofs.ForestsBeside.{Contains-first, Contains-cons, head_name}
use Rattle.zarrs_node.proofs.ListedItems.{all_pairs_tail, all_pairs_first}
use Rattle.zarrs_node.proofs.Order.{contains_cases, Begins, all_below, all_after, pairs_ascend}

-- the order of paths is total
pub names_total : IsTotalOrder path_cmp
names_total = lists_total nat_list_cmp_total

-- no path is before itself
pub names_irrefl : (p : Path) → path_cmp p p ≡ Less → ⊥
names_irrefl p h = true≢false (sym (ap is_eq (tied_itself names_total p)) ∙ ap is_eq h)

-- a path and its metadata
abbrev pub Pair : Type 0
Pair = Path × NodeMetadata

-- the path of the one pair is before that of the other
abbrev pub Lt : Pair → Pair → Type 0
Lt d e = path_cmp d.0 e.0 ≡ Less

-- no pair is before itself
pub lt_irrefl : (e : Pair) → Lt e e → ⊥
lt_irrefl e h = names_irrefl e.0 h

-- the first of each is the least of the same set
same_first : (x y : Pair) (xs ys : List Pair) → Ascend (x ∷ xs) → Ascend (y ∷ ys) → ((e : Pair) → Contains (x ∷ xs) e ↔ Contains (y ∷ ys) e) → x ≡ y
same_first x y xs ys p q same = ⊎_elim
    (λ e. sym e)
    (λ x_later. ⊎_elim
    (λ e. e)
    (λ y_later. absurd (lt_irrefl x (names_total.trans x.0 y.0 x.0 (all_pairs_first Lt x xs p y y_later) (all_pairs_first Lt y ys q x x_later))))
    (contains_cases x xs y ((same y).1 (Contains-first y ys))))
    (contains_cases y ys x ((same x).0 (Contains-first x xs)))

-- behind equal first pairs the one list has what the other has
rest_of : (x y : Pair) (xs ys : List Pair) → Ascend (x ∷ xs) → x ≡ y → ((e : Pair) → Contains (x ∷ xs) e → Contains (y ∷ ys) e) → (e : Pair) → Contains xs e → Contains ys e
rest_of x y xs ys p is same e h = ⊎_elim
    (λ f. absurd (lt_irrefl e (subst (λ z. Lt z e) (is ∙ f) (all_pairs_first Lt x xs p e h))))
    (λ l. l)
    (contains_cases y ys e (same e (Contains-cons x xs e h)))

-- two ascending lists of the same pairs are one
pub sorted_unique : (xs ys : List Pair) → Ascend xs → Ascend ys → ((e : Pair) → Contains xs e ↔ Contains ys e) → xs ≡ ys
sorted_unique [] [] p q same = refl
sorted_unique [] (y ∷ ys) p q same = absurd (omega (arith, ((same y).1 (Contains-first y ys)).1))
sorted_unique (x ∷ xs) [] p q same = absurd (omega (arith, ((same x).0 (Contains-first x xs)).1))
sorted_unique (x ∷ xs) (y ∷ ys) p q same =
    let is = same_first x y xs ys p q same in
    let rest = sorted_unique xs ys (all_pairs_tail Lt x xs p) (all_pairs_tail Lt y ys q)
    (λ e. (rest_of x y xs ys p is (λ d h. (same d).0 h) e, rest_of y x ys xs q (sym is) (λ d h. (same d).1 h) e)) in
    λ i. is i ∷ rest i

-- a list is cut in one way into a part where P holds and a part where it does not
pub cut_unique : (P : Pair → Type 0) (xs ys us vs : List Pair) → ((e : Pair) → Contains xs e → P e) → ((e : Pair) → Contains ys e → P e → ⊥) → ((e : Pair) → Contains us e → P e) → ((e : Pair) → Contains vs e → P e → ⊥)
    → xs ++ ys ≡ us ++ vs → (xs ≡ us) × (ys ≡ vs)
cut_unique P [] ys [] vs a b c d e = (refl, e)
cut_unique P [] ys (u ∷ us) vs a b c d e = absurd (b u (subst (λ l. Contains l u) (sym e) (Contains-first u (us ++ vs))) (c u (Contains-first u us)))
cut_unique P (x ∷ xs) ys [] vs a b c d e = absurd (d x (subst (λ l. Contains l x) e (Contains-first x (xs ++ ys))) (a x (Contains-first x xs)))
cut_unique P (x ∷ xs) ys (u ∷ us) vs a b c d e =
    let head = ap (λ l. get_or l 0 x) e in
    let rest = cut_unique P xs ys us vs (λ f h. a f (Contains-cons x xs f h)) b (λ f h. c f (Contains-cons u us f h)) d (ap (drop 1) e) in
    (λ i. head i ∷ rest.0 i, rest.1)

-- no path after the tree of p is below p
not_below_after : (b p : Path) (n : List ℕ) (after : Forest) → p ≡ b ++ n ∷ [] → IsPlaced b after → IsBefore p after → (e : Pair) → Contains (pairs after) e → Begins p e.0 → ⊥
not_below_after b p n after root placed first e in' low =
    let v = all_after b n after placed (subst (λ x. IsBefore x after) root first) e in' in
    let same = head_name b v.begins.name n v.begins.rest (low.name ∷ low.rest) (sym v.begins.is ∙ low.is ∙ ap (λ x. x ++ low.name ∷ low.rest) root ∙ append_assoc b (n ∷ []) (low.name ∷ low.rest)) in
    true≢false (sym (ap is_eq (tied_itself nat_list_cmp_total n)) ∙ ap is_eq (subst (λ x. bytes_cmp n x ≡ Less) same v.later))

-- two placed forests with one list of pairs are one
pub one_forest_of_pairs : (b : Path) (f g : Forest) → IsPlaced b f → IsPlaced b g → pairs f ≡ pairs g → f ≡ g
one_forest_of_pairs b none none h k e = refl
one_forest_of_pairs b none (tree q l under next) h k e = absurd (omega (arith, ap length e))
one_forest_of_pairs b (tree p m below after) none h k e = absurd (omega (arith, ap length e))
one_forest_of_pairs b (tree p m below after) (tree q l under next) h k e =
    let head : ◌≡◌ {A = Pair} (p, m) (q, l) = ap (λ x. get_or x 0 (p, m)) e in
    let path : p ≡ q = ap (λ x. x.0) head in
    let data' : m ≡ l = ap (λ x. x.1) head in
    let P : Pair → Type 0 = λ d. Begins p d.0 in
    let cut = cut_unique P (pairs below) (pairs after) (pairs under) (pairs next)
    (λ d in'. all_below p below h.2 d in')
    (λ d in' low. not_below_after b p h.0.0 after h.0.1 h.4 h.3 d in' low)
    (λ d in'. subst (λ x. Begins x d.0) (sym path) (all_below q under k.2 d in'))
    (λ d in' low. not_below_after b q k.0.0 next k.0.1 k.4 k.3 d in' (subst (λ x. Begins x d.0) path low))
    (ap (drop 1) e) in
    let inner = one_forest_of_pairs p below under h.2 (subst (λ x. IsPlaced x under) (sym path) k.2) cut.0 in
    let beside = one_forest_of_pairs b after next h.4 k.4 cut.1 in
    λ i. tree (path i) (data' i) (inner i) (beside i)

-- two placed forests with the same pairs are one, whatever the order of the pairs
pub one_forest : (b : Path) (f g : Forest) → IsPlaced b f → IsPlaced b g → ((e : Pair) → Contains (pairs f) e ↔ Contains (pairs g) e) → f ≡ g
one_forest b f g h k same = one_forest_of_pairs b f g h k (sorted_unique (pairs f) (pairs g) (pairs_ascend b f h) (pairs_ascend b g k) same)
