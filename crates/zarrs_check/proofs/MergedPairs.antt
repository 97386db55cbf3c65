-- Two lists of pairs that ascend by their keys, gone over from the front: what is left of them, and what was told of the keys before.
use Rattle.std.proofs.Common.{◌↔◌, ◌≡◌, ◌⊎◌, inl, inr, ⊎_elim, List, [], ◌∷◌, ◌++◌, refl, sym, ap, subst, ◌∙◌, arith, Contains, AllPairs, Ordering, Less}
use Rattle.std.proofs.lemmas.List.Elements.{Contains-append_left, Contains-append_right, Contains-append_cases}
use Rattle.std.specs.Cmp.{IsTotalOrder, tied_itself}
use Rattle.zarrs_node.proofs.ListedItems.{all_pairs_append, all_pairs_first, all_pairs_tail}
use Rattle.zarrs_node.proofs.ForestsBeside.{Contains-first, Contains-cons}
use Rattle.zarrs_node.proofs.Order.{contains_cases}
use Rattle.zarrs_check.specs.StepsOfMerging.{HasPairAt, IsLeft, IsPast, IsRest, IsToldUpTo}

-- k is the first that was left, and is not any more
pub record IsStep {K : Type 0} (cmp : K → K → Ordering) (Left Left' : K → Type 0) (k : K) : Type 0 where
  pub was : Left k
  pub fewer : (l : K) → Left' l → Left l
  pub cases : (l : K) → Left l → (k ≡ l) ⊎ Left' l
  pub least : IsPast cmp Left' k

module _ {K : Type 0} (cmp : K → K → Ordering) (total : IsTotalOrder cmp) where
  -- no key is before itself
  pub not_before : (k : K) → cmp k k ≡ Less → ⊥
  not_before k h = let e = tied_itself total k in cc

  module _ {M : Type 0} where
    -- the key of a first pair is before those of the others
    pub first_before : (e : K × M) (es : List (K × M)) → AllPairs (λ d e. cmp d.0 e.0 ≡ Less) (e ∷ es) → (l : K) → HasPairAt (Contains es) l → cmp e.0 l ≡ Less
    first_before e es up l (m, in') = all_pairs_first (λ d e. cmp d.0 e.0 ≡ Less) e es up (l, m) in'

    -- what is before a first key is before all
    pub before_all : (k : K) (e : K × M) (es : List (K × M)) → AllPairs (λ d e. cmp d.0 e.0 ≡ Less) (e ∷ es) → cmp k e.0 ≡ Less → (l : K) → HasPairAt (Contains (e ∷ es)) l → cmp k l ≡ Less
    before_all k e es up less l (m, in') = ⊎_elim
        (λ same. subst (λ x. cmp k x.0 ≡ Less) same less)
        (λ later. total.trans k e.0 l less (first_before e es up l (m, later)))
        (contains_cases e es (l, m) in')

    -- at a key that is before all that is left, there is nothing
    pub none_at : (Left : K → Type 0) (E : K × M → Type 0) (es : List (K × M)) (k : K) → IsRest cmp Left E es → Left k → ((l : K) → HasPairAt (Contains es) l → cmp k l ≡ Less) → HasPairAt E k → ⊥
    none_at Left E es k r left before (m, has) = ⊎_elim
        (λ in'. not_before k (before k (m, in')))
        (λ past. not_before k (past k left))
        (r.complete (k, m) has)

    -- at the first key that is left there is only its pair
    pub only_first : (Left : K → Type 0) (E : K × M → Type 0) (e : K × M) (es : List (K × M)) → IsRest cmp Left E (e ∷ es) → Left e.0 → (m : M) → E (e.0, m) → e.1 ≡ m
    only_first Left E e es r left m has = ⊎_elim
        (λ in'. ⊎_elim
        (λ same. ap (λ x. x.1) same)
        (λ later. absurd (not_before e.0 (first_before e es r.ascend e.0 (m, later))))
        (contains_cases e es (e.0, m) in'))
        (λ past. absurd (not_before e.0 (past e.0 left)))
        (r.complete (e.0, m) has)

    -- a step keeps what is left of a list where the key does not stand
    pub rest_same : (Left Left' : K → Type 0) (E : K × M → Type 0) (es : List (K × M)) (k : K) → IsStep cmp Left Left' k → IsRest cmp Left E es → IsRest cmp Left' E es
    rest_same Left Left' E es k s r = record {
      ascend = r.ascend;
      sound = r.sound;
      complete = λ e has. ⊎_elim inl (λ past. inr (λ l left. past l (s.fewer l left))) (r.complete e has);
    }

    -- and takes the first pair of the list where it stands
    pub rest_next : (Left Left' : K → Type 0) (E : K × M → Type 0) (e : K × M) (es : List (K × M)) → IsStep cmp Left Left' e.0 → IsRest cmp Left E (e ∷ es) → IsRest cmp Left' E es
    rest_next Left Left' E e es s r = record {
      ascend = all_pairs_tail (λ d e. cmp d.0 e.0 ≡ Less) e es r.ascend;
      sound = λ d in'. r.sound d (Contains-cons e es d in');
      complete = λ d has. ⊎_elim
          (λ in'. ⊎_elim (λ same. inr (λ l left. subst (λ x. cmp x.0 l ≡ Less) same (s.least l left))) inl (contains_cases e es d in'))
          (λ past. inr (λ l left. past l (s.fewer l left)))
          (r.complete d has);
    }

    -- the first of the pairs on the left is the first
    pub step_entry : (e : K × M) (es ns : List (K × M)) → AllPairs (λ d e. cmp d.0 e.0 ≡ Less) (e ∷ es) → ((l : K) → HasPairAt (Contains ns) l → cmp e.0 l ≡ Less) → IsStep cmp (IsLeft (e ∷ es) ns) (IsLeft es ns) e.0
    step_entry e es ns up before = record {
      was = inl (e.1, Contains-first e es);
      fewer = λ l. ⊎_elim (λ h. inl (h.0, Contains-cons e es (l, h.0) h.1)) inr;
      cases = λ l. ⊎_elim (λ h. ⊎_elim (λ same. inl (ap (λ x. x.0) same)) (λ later. inr (inl (h.0, later))) (contains_cases e es (l, h.0) h.1)) (λ h. inr (inr h));
      least = λ l. ⊎_elim (first_before e es up l) (before l);
    }

    -- the first of the pairs on the right is the first
    pub step_node : (n : K × M) (es ns : List (K × M)) → AllPairs (λ d e. cmp d.0 e.0 ≡ Less) (n ∷ ns) → ((l : K) → HasPairAt (Contains es) l → cmp n.0 l ≡ Less) → IsStep cmp (IsLeft es (n ∷ ns)) (IsLeft es ns) n.0
    step_node n es ns up before = record {
      was = inr (n.1, Contains-first n ns);
      fewer = λ l. ⊎_elim inl (λ h. inr (h.0, Contains-cons n ns (l, h.0) h.1));
      cases = λ l. ⊎_elim (λ h. inr (inl h)) (λ h. ⊎_elim (λ same. inl (ap (λ x. x.0) same)) (λ later. inr (inr (h.0, later))) (contains_cases n ns (l, h.0) h.1));
      least = λ l. ⊎_elim (before l) (first_before n ns up l);
    }

    -- both firsts are the first
    pub step_both : (e n : K × M) (es ns : List (K × M)) → AllPairs (λ d e. cmp d.0 e.0 ≡ Less) (e ∷ es) → AllPairs (λ d e. cmp d.0 e.0 ≡ Less) (n ∷ ns) → e.0 ≡ n.0 → IsStep cmp (IsLeft (e ∷ es) (n ∷ ns)) (IsLeft es ns) e.0
    step_both e n es ns up_e up_n at = record {
      was = inl (e.1, Contains-first e es);
      fewer = λ l. ⊎_elim (λ h. inl (h.0, Contains-cons e es (l, h.0) h.1)) (λ h. inr (h.0, Contains-cons n ns (l, h.0) h.1));
      cases = λ l. ⊎_elim
          (λ h. ⊎_elim (λ same. inl (ap (λ x. x.0) same)) (λ later. inr (inl (h.0, later))) (contains_cases e es (l, h.0) h.1))
          (λ h. ⊎_elim (λ same. inl (at ∙ ap (λ x. x.0) same)) (λ later. inr (inr (h.0, later))) (contains_cases n ns (l, h.0) h.1));
      least = λ l. ⊎_elim (first_before e es up_e l) (λ h. subst (λ x. cmp x l ≡ Less) (sym at) (first_before n ns up_n l h));
    }

  -- what was told up to a key, in an order R in which what is told of an earlier key stands before what is told of a later one
  module _ {A : Type 0} (key : A → K) (R : A → A → Type 0) (earlier : (d e : A) → cmp (key d) (key e) ≡ Less → R d e) (Left Left' : K → Type 0) (F : A → Type 0) (told : List A) (k : K) (s : IsStep cmp Left Left' k) (t : IsToldUpTo cmp key R Left F told) where
    -- at the key there are exactly these to tell
    pub told_these : (gs : List A) → AllPairs R gs → ((g : A) → Contains gs g → F g × (key g ≡ k)) → ((f : A) → F f → key f ≡ k → Contains gs f) → IsToldUpTo cmp key R Left' F (told ++ gs)
    told_these gs up are only = record {
      ascend = all_pairs_append R told gs t.ascend up (λ d g before new. earlier d g (subst (λ x. cmp (key d) x ≡ Less) (sym (are g new).1) (t.past d before k s.was)));
      sound = λ f in'. ⊎_elim (t.sound f) (λ new. (are f new).0) (Contains-append_cases told gs f in');
      past = λ f in' l left. ⊎_elim
          (λ old. t.past f old l (s.fewer l left))
          (λ new. subst (λ x. cmp x l ≡ Less) (sym (are f new).1) (s.least l left))
          (Contains-append_cases told gs f in');
      complete = λ f is. ⊎_elim
          (λ old. inl (Contains-append_left told gs f old))
          (λ left. ⊎_elim (λ same. inl (Contains-append_right told gs f (only f is (sym same)))) inr (s.cases (key f) left))
          (t.complete f is);
    }

-- before the first step nothing is told, and all is left
pub told_none : {K A : Type 0} (cmp : K → K → Ordering) (key : A → K) (R : A → A → Type 0) (Left : K → Type 0) (F : A → Type 0) → ((f : A) → F f → Left (key f)) → IsToldUpTo cmp key R Left F []
told_none cmp key R Left F all = record {
  ascend = λ i j d l m. absurd (omega (arith, m));
  sound = λ f in'. absurd (omega (arith, in'.1));
  past = λ f in'. absurd (omega (arith, in'.1));
  complete = λ f is. inr (all f is);
}

-- and the whole list is left
pub rest_all : {K M : Type 0} (cmp : K → K → Ordering) (Left : K → Type 0) (es : List (K × M)) → AllPairs (λ d e. cmp d.0 e.0 ≡ Less) es → IsRest cmp Left (Contains es) es
rest_all cmp Left es up = record { ascend = up; sound = λ e in'. in'; complete = λ e in'. inl in' }

-- ---- lists that ascend

module _ {A : Type 0} (R : A → A → Type 0) (not : (x : A) → R x x → ⊥) (trans : (x y z : A) → R x y → R y z → R x z) where
  -- the first items of lists with the same items are one
  same_first : (x y : A) (xs ys : List A) → AllPairs R (x ∷ xs) → AllPairs R (y ∷ ys) → Contains (y ∷ ys) x → Contains (x ∷ xs) y → x ≡ y
  same_first x y xs ys up_x up_y has_x has_y = ⊎_elim sym
      (λ later. ⊎_elim (λ same. same) (λ earlier. absurd (not x (trans x y x (all_pairs_first R x xs up_x y earlier) (all_pairs_first R y ys up_y x later)))) (contains_cases x xs y has_y))
      (contains_cases y ys x has_x)

  -- what stands in both, stands in both rests
  in_rest : (x : A) (xs ys : List A) → AllPairs R (x ∷ xs) → (z : A) → Contains xs z → Contains (x ∷ ys) z → Contains ys z
  in_rest x xs ys up z in' has = ⊎_elim (λ same. absurd (not z (subst (λ w. R w z) same (all_pairs_first R x xs up z in')))) (λ later. later) (contains_cases x ys z has)

  -- two lists that ascend and have the same items are one
  pub same_list : (xs ys : List A) → AllPairs R xs → AllPairs R ys → ((z : A) → Contains xs z ↔ Contains ys z) → xs ≡ ys
  same_list [] [] up_x up_y same = refl
  same_list [] (y ∷ ys) up_x up_y same = absurd (let h = (same y).1 (Contains-first y ys) in omega (arith, h.1))
  same_list (x ∷ xs) [] up_x up_y same = absurd (let h = (same x).0 (Contains-first x xs) in omega (arith, h.1))
  same_list (x ∷ xs) (y ∷ ys) up_x up_y same =
      let e = same_first x y xs ys up_x up_y ((same x).0 (Contains-first x xs)) ((same y).1 (Contains-first y ys)) in
      let up_y' : AllPairs R (x ∷ ys) = subst (λ w. AllPairs R (w ∷ ys)) (sym e) up_y in
      let rest = same_list xs ys (all_pairs_tail R x xs up_x) (all_pairs_tail R y ys up_y)
      (λ z. (
        λ in'. in_rest x xs ys up_x z in' (subst (λ w. Contains (w ∷ ys) z) (sym e) ((same z).0 (Contains-cons x xs z in'))),
        λ in'. in_rest x ys xs up_y' z in' ((same z).1 (Contains-cons y ys z in')),
      )) in
      ap (λ w. w ∷ xs) e ∙ ap (λ l. y ∷ l) rest

-- whether some pair has the key
pub key_or_not : {K M : Type 0} → ((k l : K) → (k ≡ l) ⊎ (k ≡ l → ⊥)) → (es : List (K × M)) (k : K) → HasPairAt (Contains es) k ⊎ (HasPairAt (Contains es) k → ⊥)
key_or_not same [] k = inr (λ h. omega (arith, h.1.1))
key_or_not same (e ∷ es) k = ⊎_elim
    (λ is. inl (e.1, subst (λ l. Contains (e ∷ es) (l, e.1)) is (Contains-first e es)))
    (λ other. ⊎_elim
    (λ h. inl (h.0, Contains-cons e es (k, h.0) h.1))
    (λ none. inr (λ h. ⊎_elim (λ is. other (ap (λ x. x.0) is)) (λ later. none (h.0, later)) (contains_cases e es (k, h.0) h.1)))
    (key_or_not same es k))
    (same e.0 k)

module _ {K M : Type 0} (cmp : K → K → Ordering) (total : IsTotalOrder cmp) where
  -- a key stands with one value
  pub only_one : (es : List (K × M)) → AllPairs (λ d e. cmp d.0 e.0 ≡ Less) es → (k : K) (m n : M) → Contains es (k, m) → Contains es (k, n) → m ≡ n
  only_one [] up k m n h g = absurd (omega (arith, h.1))
  only_one (e ∷ es) up k m n h g =
      let later : (l : K) (v : M) → Contains es (l, v) → e.0 ≡ l → ⊥ = λ l v in' is. not_before cmp total e.0 (subst (λ x. cmp e.0 x ≡ Less) (sym is) (first_before cmp total e es up l (v, in'))) in
      ⊎_elim
      (λ a. ⊎_elim (λ b. ap (λ x. x.1) (sym a ∙ b)) (λ b. absurd (later k n b (ap (λ x. x.0) a))) (contains_cases e es (k, n) g))
      (λ a. ⊎_elim (λ b. absurd (later k m a (ap (λ x. x.0) b))) (λ b. only_one es (all_pairs_tail (λ d e. cmp d.0 e.0 ≡ Less) e es up) k m n a b) (contains_cases e es (k, n) g))
      (contains_cases e es (k, m) h)
