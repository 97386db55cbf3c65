-- Which pairs of an ascending list are kept.
use Rattle.std.proofs.Common.{◌≡◌, ℕ, ◌⊎◌, inl, inr, ⊎_elim, List, [], ◌∷◌, ◌++◌, length, get_or, drop, refl, sym, ap, subst, ◌∙◌, append_assoc, append-nil, arith, length-append, Contains, AllPairs, Less, Equal, Greater, IsTrue, true, true≢false, is_eq}
use Rattle.std.proofs.lemmas.List.Elements.{Contains-append_left, Contains-append_right, Contains-push, Contains-push_cases}
use Rattle.std.proofs.lemmas.List.{append_cancel_left}
use Rattle.std.specs.Ordering.{ordering_then, is_lt}
use Rattle.std.specs.FinMap.{slice_cmp-IsAntisymmetric, nat_cmp-IsAntisymmetric, IsAntisymmetric}
use Rattle.std.specs.Cmp.{tied_itself}
use Rattle.std.specs.Cmp.Lexicographic.{nat_list_cmp_total}
use Rattle.zarrs_path.specs.Paths.{Path, IsPath, IsBelow, path_cmp}
use Rattle.zarrs_path.specs.PathOrder.{path_total}
use Rattle.zarrs_store.specs.Segments.{bytes_cmp}
use Rattle.zarrs_meta.specs.Node.{is_group}
use Rattle.zarrs_node.specs.Forest.{IsChildOf}
use Rattle.zarrs_node.specs.Reach.{HasGroup, Kept}
use Rattle.zarrs_path.proofs.PathTexts.{IsPath-parts}
use Rattle.zarrs_node.proofs.Unique.{Pair}
use Rattle.zarrs_node.specs.StepsOfTrees.{top}
use Rattle.zarrs_node.proofs.ListedItems.{all_pairs_tail, all_pairs_first}
use Rattle.zarrs_node.proofs.ForestsBeside.{Contains-first, Contains-cons, path_cmp-append}
use Rattle.zarrs_node.proofs.Order.{contains_cases}
use Rattle.zarrs_node.proofs.Unique.{names_irrefl}
use Rattle.zarrs_node.proofs.OpenForests.{IsChain, AreGroups}

-- e is of N and below b, and every path strictly between is a group of N
pub record Hangs (N : Pair → Type 0) (b : Path) (e : Pair) : Type 0 where
  pub member : N e
  pub below : IsBelow b e.0
  pub between : (q : Path) → IsBelow b q → IsBelow q e.0 → HasGroup N q

-- a path that hangs together is kept
pub hangs_kept : (N : Pair → Type 0) (b : Path) (e : Pair) → IsPath e.0 → Hangs N b e → Kept N true b e
hangs_kept N b e valid h = (
  record {
    below = (h.below.0, h.below.1, h.below.2, (IsPath-parts b (h.below.0 ∷ h.below.1) (subst IsPath h.below.2 valid)).1);
    between = λ q low up. (refl, h.between q low up);
  },
  h.member,
)

-- what is kept hangs together
pub kept_hangs : (N : Pair → Type 0) (b : Path) (e : Pair) → Kept N true b e → Hangs N b e
kept_hangs N b e k = record {
  member = k.1;
  below = (k.0.below.0, k.0.below.1, k.0.below.2);
  between = λ q low up. (k.0.between q low up).1;
}

-- what holds between the items of two lists in a row holds from the one to the other
pub all_pairs_across : {A : Type 0} (R : A → A → Type 0) (xs ys : List A) → AllPairs R (xs ++ ys) → (x y : A) → Contains xs x → Contains ys y → R x y
all_pairs_across R [] ys q x y hx hy = absurd (omega (arith, hx.1))
all_pairs_across R (z ∷ xs) ys q x y hx hy = ⊎_elim
    (λ e. subst (λ w. R w y) e (all_pairs_first R z (xs ++ ys) q y (Contains-append_right xs ys y hy)))
    (λ l. all_pairs_across R xs ys (all_pairs_tail R z (xs ++ ys) q) x y l hy)
    (contains_cases z xs x hx)

-- names that are level are equal
names_same : IsAntisymmetric bytes_cmp
names_same = slice_cmp-IsAntisymmetric nat_cmp-IsAntisymmetric

-- no name is before itself
name_irrefl : (n : List ℕ) → bytes_cmp n n ≡ Less → ⊥
name_irrefl n h = true≢false (sym (ap is_eq (tied_itself nat_list_cmp_total n)) ∙ ap is_eq h)

-- a path after g and before one below g is below g
pub between_below : (g p d : Path) → path_cmp g p ≡ Less → path_cmp p d ≡ Less → IsBelow g d → IsBelow g p
between_below [] [] d a b h = absurd (true≢false (ap is_eq a))
between_below [] (y ∷ p) d a b h = (y, p, refl)
between_below (x ∷ g) [] d a b h = absurd (true≢false (sym (ap is_lt a)))
between_below (x ∷ g) (y ∷ p) d a b h =
    let tail : Path = g ++ h.0 ∷ h.1 in
    let b' : ordering_then (bytes_cmp y x) (path_cmp p tail) ≡ Less = ap (λ z. path_cmp (y ∷ p) z) (sym h.2) ∙ b in
    elim (bytes_cmp x y) as (λ o. bytes_cmp x y ≡ o → ordering_then o (path_cmp g p) ≡ Less → IsBelow (x ∷ g) (y ∷ p)) [
      | Less ↦ λ e _. elim (bytes_cmp y x) as (λ r. bytes_cmp y x ≡ r → ordering_then r (path_cmp p tail) ≡ Less → IsBelow (x ∷ g) (y ∷ p)) [
        | Less ↦ λ f _. absurd (name_irrefl x (nat_list_cmp_total.trans x y x e f))
        | Equal ↦ λ f _. absurd (name_irrefl x (ap (bytes_cmp x) (sym (names_same y x f)) ∙ e))
        | Greater ↦ λ f c. absurd (true≢false (sym (ap is_lt c)))
      ] refl b'
      | Equal ↦ λ e c.
          let same = names_same x y e in
          let b'' : path_cmp p tail ≡ Less = sym (ap (λ o. ordering_then o (path_cmp p tail)) (ap (bytes_cmp y) same ∙ tied_itself nat_list_cmp_total y)) ∙ b' in
          let w = between_below g p tail c b'' (h.0, h.1, refl) in
          (w.0, w.1, ap (λ z. z ∷ p) (sym same) ∙ ap (λ l. x ∷ l) w.2)
      | Greater ↦ λ e c. absurd (true≢false (sym (ap is_lt c)))
    ] refl a

-- a path is before each path below it
pub below_later : (q p : Path) → IsBelow q p → path_cmp q p ≡ Less
below_later q p h = ap (path_cmp q) h.2 ∙ ap (λ x. path_cmp x (q ++ h.0 ∷ h.1)) (sym (append-nil q)) ∙ path_cmp-append q [] (h.0 ∷ h.1)

-- what is below what is below is below
pub below_trans : (b q p : Path) → IsBelow b q → IsBelow q p → IsBelow b p
below_trans b q p h k = (h.0, h.1 ++ k.0 ∷ k.1, k.2 ∙ ap (λ x. x ++ k.0 ∷ k.1) h.2 ∙ append_assoc b (h.0 ∷ h.1) (k.0 ∷ k.1))

-- no path is below itself
pub not_below_itself : (p : Path) → IsBelow p p → ⊥
not_below_itself p h = names_irrefl p (below_later p p h)

-- what is above a child of h is h or above h
pub above_child : (q h : Path) (n : List ℕ) → IsBelow q (h ++ n ∷ []) → (q ≡ h) ⊎ IsBelow q h
above_child [] [] n k = inl refl
above_child [] (x ∷ h) n k = inr (x, h, refl)
above_child (y ∷ q) [] n k =
    let l = ap length k.2 in
    let m = length-append q (k.0 ∷ k.1) in
    absurd (omega (arith, l, m))
above_child (y ∷ q) (x ∷ h) n k =
    let same : x ≡ y = ap (λ l. get_or l 0 x) k.2 in
    let rest : h ++ n ∷ [] ≡ q ++ k.0 ∷ k.1 = ap (λ l. drop 1 l) k.2 in
    ⊎_elim
    (λ e. inl (ap (λ z. z ∷ q) (sym same) ∙ ap (λ l. x ∷ l) e))
    (λ w. inr (w.0, w.1, ap (λ z. z ∷ h) same ∙ ap (λ l. y ∷ l) w.2))
    (above_child q h n (k.0, k.1, rest))

-- between b and its child stands nothing
pub none_between : (b q : Path) (n : List ℕ) → IsBelow b q → IsBelow q (b ++ n ∷ []) → ⊥
none_between b q n h k = ⊎_elim (λ e. not_below_itself b (subst (IsBelow b) e h)) (λ w. not_below_itself b (below_trans b q b h w)) (above_child q b n k)

-- names and a last one
last_split : (n : List ℕ) (ns : Path) → (xs : Path) × (l : List ℕ) × (n ∷ ns ≡ xs ++ l ∷ [])
last_split n [] = ([], n, refl)
last_split n (m ∷ ns) = let w = last_split m ns in (n ∷ w.0, w.1, ap (λ l. n ∷ l) w.2)

-- the last of a chain is below each of it
top_down : (b : Path) (hs : List Pair) → IsChain b hs → (xs : Path) × (top b hs ≡ b ++ xs)
top_down b [] h = ([], sym (append-nil b))
top_down b (g ∷ hs) h =
    let w = top_down g.0 hs h.1 in
    (h.0.0 ∷ w.0, w.1 ∙ ap (λ x. x ++ w.0) h.0.1 ∙ append_assoc b (h.0.0 ∷ []) w.0)

-- the last of a chain begins with each of it
top_from : (b : Path) (hs : List Pair) → IsChain b hs → (h : Pair) → Contains hs h → (xs : Path) × (top b hs ≡ h.0 ++ xs)
top_from b [] c h in' = absurd (omega (arith, in'.1))
top_from b (g ∷ hs) c h in' = ⊎_elim
    (λ e. subst (λ z. (xs : Path) × (top g.0 hs ≡ z.0 ++ xs)) e (top_down g.0 hs c.1))
    (λ l. top_from g.0 hs c.1 h l)
    (contains_cases g hs h in')

-- the last path is the base, or that of a member of the chain
pub top_cases : (b : Path) (hs : List Pair) → (top b hs ≡ b) ⊎ ((h : Pair) × Contains hs h × (top b hs ≡ h.0))
top_cases b [] = inl refl
top_cases b (g ∷ hs) = ⊎_elim (λ e. inr (g, Contains-first g hs, e)) (λ w. inr (w.0, Contains-cons g hs w.0 w.1, w.2)) (top_cases g.0 hs)

-- each of the open groups is a group
pub group_in : (hs : List Pair) → AreGroups hs → (h : Pair) → Contains hs h → IsTrue (is_group h.1)
group_in [] a h in' = absurd (omega (arith, in'.1))
group_in (g ∷ hs) a h in' = ⊎_elim (λ e. subst (λ z. IsTrue (is_group z.1)) e a.0) (λ l. group_in hs a.1 h l) (contains_cases g hs h in')

-- what hangs together hangs together in more pairs
pub hangs_more : (N M : Pair → Type 0) (b : Path) → ((e : Pair) → N e → M e) → (e : Pair) → Hangs N b e → Hangs M b e
hangs_more N M b more e k = record {
  member = more e k.member;
  below = k.below;
  between = λ q low up. let w = k.between q low up in (w.0, more (q, w.0) w.1, w.2);
}

-- a list of pairs, and a later one
module _ (b : Path) (done : List Pair) (e : Pair) (later : (d : Pair) → Contains done d → path_cmp d.0 e.0 ≡ Less) where
  -- a group above a path that is not after e is an earlier one
  earlier : (q p : Path) → (IsBelow e.0 p → ⊥) → IsBelow q p → HasGroup (Contains (done ++ e ∷ [])) q → HasGroup (Contains done) q
  earlier q p not_after up w = ⊎_elim
      (λ in'. (w.0, in', w.2))
      (λ same. absurd (not_after (subst (λ z. IsBelow z.0 p) (sym same) up)))
      (Contains-push_cases done e (q, w.0) w.1)

  -- an earlier pair hangs together in the earlier pairs alone
  pub hangs_earlier : (d : Pair) → Contains done d → Hangs (Contains (done ++ e ∷ [])) b d → Hangs (Contains done) b d
  hangs_earlier d in' k = record {
    member = in';
    below = k.below;
    between = λ q low up. earlier q d.0 (λ h. names_irrefl d.0 (path_total.trans d.0 e.0 d.0 (later d in') (below_later e.0 d.0 h))) up (k.between q low up);
  }

  module _ (hs : List Pair) (chain : IsChain b hs) (groups : AreGroups hs) (members : (h : Pair) → Contains hs h → Hangs (Contains done) b h) where
    -- a child of the last open group is kept
    pub child_hangs : IsChildOf (top b hs) e.0 → Hangs (Contains (done ++ e ∷ [])) b e
    child_hangs child = ⊎_elim
        (λ at.
        let is : e.0 ≡ b ++ child.0 ∷ [] = child.1 ∙ ap (λ x. x ++ child.0 ∷ []) at in
        record {
          member = Contains-push done e;
          below = (child.0, [], is);
          between = λ q low up. absurd (none_between b q child.0 low (subst (IsBelow q) is up));
        })
        (λ w.
        let is : e.0 ≡ w.0.0 ++ child.0 ∷ [] = child.1 ∙ ap (λ x. x ++ child.0 ∷ []) w.2 in
        let k = members w.0 w.1 in
        let k' = hangs_more (Contains done) (Contains (done ++ e ∷ [])) b (λ d in'. Contains-append_left done (e ∷ []) d in') w.0 k in
        record {
          member = Contains-push done e;
          below = below_trans b w.0.0 e.0 k.below (child.0, [], is);
          between = λ q low up. ⊎_elim
              (λ same. (w.0.1, subst (λ z. Contains (done ++ e ∷ []) (z, w.0.1)) (sym same) k'.member, group_in hs groups w.0 w.1))
              (λ above. k'.between q low above)
              (above_child q w.0.0 child.0 (subst (IsBelow q) is up));
        })
        (top_cases b hs)

    module _ (open' : (h : Pair) → Hangs (Contains done) b h → IsTrue (is_group h.1) → IsBelow h.0 e.0 → Contains hs h) (covers : IsBelow b e.0 → IsBelow (top b hs) e.0) where
      -- the last open group is where the parent of e is
      at_parent : (par xs : Path) (l : List ℕ) → e.0 ≡ par ++ l ∷ [] → IsBelow b e.0 → top b hs ≡ par ++ xs → IsChildOf (top b hs) e.0
      at_parent par [] l is below at = (l, is ∙ ap (λ x. x ++ l ∷ []) (sym (append-nil par) ∙ sym at))
      at_parent par (x ∷ xs) l is below at =
          let up = covers below in
          let whole' : par ++ l ∷ [] ≡ par ++ ((x ∷ xs) ++ up.0 ∷ up.1) = sym is ∙ up.2 ∙ ap (λ y. y ++ up.0 ∷ up.1) at ∙ append_assoc par (x ∷ xs) (up.0 ∷ up.1) in
          let cut = ap length (append_cancel_left par (l ∷ []) ((x ∷ xs) ++ up.0 ∷ up.1) whole') in
          let long = length-append xs (up.0 ∷ up.1) in
          absurd (omega (arith, cut, long))

      -- and a kept pair is its child
      pub hangs_child : Hangs (Contains (done ++ e ∷ [])) b e → IsChildOf (top b hs) e.0
      hangs_child k = by_parent s.0 s.1 (k.below.2 ∙ ap (λ x. b ++ x) s.2)
        where
          s : (xs : Path) × (l : List ℕ) × (k.below.0 ∷ k.below.1 ≡ xs ++ l ∷ [])
          s = last_split k.below.0 k.below.1

          by_parent : (xs : Path) (l : List ℕ) → e.0 ≡ b ++ (xs ++ l ∷ []) → IsChildOf (top b hs) e.0
          by_parent [] l is = let w = top_down b hs chain in at_parent b w.0 l is k.below w.1
          by_parent (x ∷ xs) l is =
              let par : Path = b ++ x ∷ xs in
              let up : e.0 ≡ par ++ l ∷ [] = is ∙ sym (append_assoc b (x ∷ xs) (l ∷ [])) in
              let low : IsBelow b par = (x, xs, refl) in
              let above : IsBelow par e.0 = (l, [], up) in
              let w = earlier par e.0 (not_below_itself e.0) above (k.between par low above) in
              let kept : Hangs (Contains done) b (par, w.0) = record {
                member = w.1;
                below = low;
                between = λ q low' up'. let up'' = below_trans q par e.0 up' above in earlier q e.0 (not_below_itself e.0) up'' (k.between q low' up'');
              } in
              let t = top_from b hs chain (par, w.0) (open' (par, w.0) kept w.2 above) in
              at_parent par t.0 l up k.below t.1
