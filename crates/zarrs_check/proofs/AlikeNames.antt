-- Of paths in their order those whose names differ in case alone are found one after another.
use Rattle.std.proofs.Common.{◌≡◌, ◌↔◌, inl, inr, ⊎_elim, ℕ, ◌==◌, ◌&&◌, not, Bool, true, false, true≢false, List, [], ◌∷◌, ◌++◌, Option, Some, None, cond, map, get_or, length, refl, sym, ap, subst, ◌∙◌, arith, length-append, length-take, ◌+◌, ◌<◌, take, Contains, Less, Greater}
use Rattle.std.specs.Char.{to_ascii_lowercase}
use Rattle.std.specs.List.{list_all}
use Rattle.std.specs.Ordering.{ordering_reverse}
use Rattle.std.proofs.lemmas.Bool.{and_parts}
use Rattle.std.proofs.lemmas.Bool.Decides.{nat_tests}
use Rattle.std.proofs.lemmas.List.{append_cancel_right, get_or-take, get_or_default}
use Rattle.std.proofs.lemmas.List.Elements.{Contains-append_left, Contains-append_right, Contains-push_cases}
use Rattle.zarrs_store.specs.Segments.{is_nonempty, is_reserved, last_segment}
use Rattle.zarrs_store.proofs.ChildLemmas.{last_segment-child}
use Rattle.zarrs_path.specs.Names.{IsName, is_name}
use Rattle.zarrs_path.specs.Paths.{Path, IsParent, IsPath, path_cmp, path_eq, relative_names}
use Rattle.zarrs_path.specs.PathOrder.{path_decides, path_total}
use Rattle.zarrs_path.proofs.LawProofs.{relative_one}
use Rattle.zarrs_form.proofs.MemberLists.{take_next}
use Rattle.zarrs_node.specs.Faults.{PathsAscend}
use Rattle.zarrs_node.proofs.ListedItems.{all_pairs_append}
use Rattle.zarrs_node.proofs.ForestsBeside.{Contains-first}
use Rattle.zarrs_node.proofs.Order.{contains_cases}
use Rattle.zarrs_node.proofs.Unique.{names_irrefl}
use Rattle.zarrs_check.specs.Alike.{AreAlike, IsAlike, AreAlikeAmong}
use Rattle.zarrs_check.specs.StepsOfAlike.{IsFoldedTo, IsFolded, IsLastOf}

-- ---- names with small letters

-- a test that does not see case says the same of the small letters
all_lowered : (P : ℕ → Bool) → ((c : ℕ) → P (to_ascii_lowercase c) ≡ P c) → (s : List ℕ) → list_all P (map to_ascii_lowercase s) ≡ list_all P s
all_lowered P same [] = refl
all_lowered P same (c ∷ s) = λ i. same c i && all_lowered P same s i

-- a slash, a period and an underscore have no case
slash_same : (c : ℕ) → (to_ascii_lowercase c == 47) ≡ (c == 47)
slash_same c = grind (arith, nat_tests)

-- a byte, made small, is a period just where it was one
period_same : (c : ℕ) → (to_ascii_lowercase c == 46) ≡ (c == 46)
period_same c = grind (arith, nat_tests)

-- a byte, made small, is an underscore just where it was one
underscore_same : (c : ℕ) → (95 == to_ascii_lowercase c) ≡ (95 == c)
underscore_same c = grind (arith, nat_tests)

-- a text in small letters is not empty just where the text is not
nonempty_same : (s : List ℕ) → is_nonempty (map to_ascii_lowercase s) ≡ is_nonempty s
nonempty_same [] = refl
nonempty_same (c ∷ s) = refl

-- a text in small letters is a reserved name just where the text is one
reserved_same : (s : List ℕ) → is_reserved (map to_ascii_lowercase s) ≡ is_reserved s
reserved_same [] = refl
reserved_same (c ∷ []) = λ i. underscore_same c i && false
reserved_same (c ∷ d ∷ s) = λ i. underscore_same c i && (underscore_same d i && true)

-- so a name stays one
name_lowered : (s : List ℕ) → is_name (map to_ascii_lowercase s) ≡ is_name s
name_lowered s = λ i.
    nonempty_same s i && (all_lowered (λ b. not (b == 47)) (λ c. ap not (slash_same c)) s i && (not (all_lowered (λ b. b == 46) period_same s i) && not (reserved_same s i)))

-- ---- paths

-- what a path folds to goes on as its relative text
pub folded_joined : (p q : Path) (parent : Path) (lowered : List ℕ) → IsPath p → IsParent p (Some parent) → lowered ≡ map to_ascii_lowercase (last_segment p) → q ≡ parent ++ relative_names lowered → IsFoldedTo p q
folded_joined p q parent lowered valid (n, is) small joined = (parent, n, is, joined ∙ ap (λ ns. parent ++ ns) (ap relative_names small' ∙ relative_one (map to_ascii_lowercase n) named))
  where
    last_name : (g : Path) (x : List ℕ) → IsPath (g ++ x ∷ []) → IsName x
    last_name [] x h = (and_parts (is_name x) true h).0
    last_name (y ∷ g) x h = last_name g x (and_parts (is_name y) (list_all is_name (g ++ x ∷ [])) h).1

    small' : lowered ≡ map to_ascii_lowercase n
    small' = small ∙ ap (map to_ascii_lowercase) (ap last_segment is ∙ last_segment-child parent n)

    named : IsName (map to_ascii_lowercase n)
    named = name_lowered n ∙ last_name parent n (subst IsPath is valid)

-- the group and the name of a path are one
group_one : (g h : Path) (x y : List ℕ) → g ++ x ∷ [] ≡ h ++ y ∷ [] → (g ≡ h) × (x ≡ y)
group_one g h x y same =
    let last : x ≡ y = sym (last_segment-child g x) ∙ (ap last_segment same ∙ last_segment-child h y) in
    (append_cancel_right g h (y ∷ []) (subst (λ z. g ++ z ∷ [] ≡ h ++ y ∷ []) last same), last)

-- a path folds to one path
fold_one : (p k j : Path) → IsFoldedTo p k → IsFoldedTo p j → k ≡ j
fold_one p k j (g, x, is, to) (h, y, is', to') =
    let w = group_one g h x y (sym is ∙ is') in
    to ∙ (ap (λ q. q ++ map to_ascii_lowercase x ∷ []) w.0 ∙ (ap (λ z. h ++ map to_ascii_lowercase z ∷ []) w.1 ∙ sym to'))

-- paths that fold to one are alike
fold_alike : (p q k : Path) → IsFoldedTo p k → IsFoldedTo q k → AreAlike p q
fold_alike p q k (g, x, is, to) (h, y, is', to') =
    let w = group_one g h (map to_ascii_lowercase x) (map to_ascii_lowercase y) (sym to ∙ to') in
    (g, x, y, is, is' ∙ ap (λ z. z ++ y ∷ []) (sym w.0), w.1)

-- and paths that are alike fold to one
alike_fold : (p q k : Path) → AreAlike p q → IsFoldedTo q k → IsFoldedTo p k
alike_fold p q k (g, x, y, is, is', same) (h, z, at, to) =
    let w = group_one g h y z (sym is' ∙ at) in
    (g, x, is, to ∙ (ap (λ r. r ++ map to_ascii_lowercase z ∷ []) (sym w.0) ∙ ap (λ r. g ++ r ∷ []) (ap (map to_ascii_lowercase) (sym w.1) ∙ sym same)))

-- the root is alike to none
root_apart : (p q : Path) → q ≡ [] → AreAlike p q → ⊥
root_apart p q root (g, x, y, is, is', same) =
    let long = ap length (sym root ∙ is') in
    let parts = length-append g (y ∷ []) in
    omega (arith, long, parts)

-- no two paths are before one another
both_before : (p q : Path) → path_cmp p q ≡ Less → path_cmp q p ≡ Less → ⊥
both_before p q h k = let no : Greater ≡ Less = sym (path_total.antisymm q p ∙ ap ordering_reverse h) ∙ k in cc no

-- ---- one path more

module _ (done : List Path) (q : Path) (up : (r : Path) → Contains done r → path_cmp r q ≡ Less) where
  -- with the new one
  abbrev more : List Path
  more = done ++ q ∷ []

  -- each of the old ones is one of them
  old_in : (r : Path) → Contains done r → Contains more r
  old_in r in' = Contains-append_left done (q ∷ []) r in'

  -- the new one is one of them
  new_in : Contains more q
  new_in = Contains-append_right done (q ∷ []) q (Contains-first q [])

  -- what is before an old one is an old one
  before_old : (t r : Path) → Contains done t → Contains more r → path_cmp r t ≡ Less → Contains done r
  before_old t r old in' less = ⊎_elim (λ in''. in'') (λ is. absurd (both_before t q (up t old) (subst (λ x. path_cmp x t ≡ Less) (sym is) less))) (Contains-push_cases done q r in')

  -- what is before the new one is an old one
  before_new : (r : Path) → Contains more r → path_cmp r q ≡ Less → Contains done r
  before_new r in' less = ⊎_elim (λ in''. in'') (λ is. absurd (names_irrefl q (subst (λ x. path_cmp x q ≡ Less) (sym is) less))) (Contains-push_cases done q r in')

  -- of the old ones the same pairs are alike
  still : (t : Path × Path) → IsAlike (Contains done) t → IsAlike (Contains more) t
  still t h = record {
    here = old_in t.0 h.here;
    there = old_in t.1 h.there;
    alike = h.alike;
    before = h.before;
    last = λ r in' alike less. h.last r (before_old t.0 r h.here in' less) alike less;
  }

  -- of two that are alike among them, and of which the first is an old one, both were alike among the old ones
  was : (t : Path × Path) → Contains done t.0 → IsAlike (Contains more) t → IsAlike (Contains done) t
  was t old h = record {
    here = old;
    there = before_old t.0 t.1 old h.there h.before;
    alike = h.alike;
    before = h.before;
    last = λ r in' alike less. h.last r (old_in r in') alike less;
  }

  module _ (found : List (Path × Path)) (are : AreAlikeAmong (Contains done) found) where
    -- where the new one is alike to none
    none_new : ((p : Path) → IsAlike (Contains more) (q, p) → ⊥) → AreAlikeAmong (Contains more) found
    none_new lone = record {
      exact = λ t. (
        λ in'. still t ((are.exact t).0 in'),
        λ h. ⊎_elim
            (λ old. (are.exact t).1 (was t old h))
            (λ is. absurd (lone t.1 (subst (λ x. IsAlike (Contains more) (x, t.1)) (sym is) h)))
            (Contains-push_cases done q t.0 h.here),
      );
      ascend = are.ascend;
    }

    -- it is the root
    pub found_root : IsFolded q None → AreAlikeAmong (Contains more) found
    found_root root = none_new (λ p h. root_apart p q root h.alike)

    -- none folds to the same
    pub found_same : (k : Path) → IsFoldedTo q k → IsLastOf done k None → AreAlikeAmong (Contains more) found
    found_same k to none = none_new (λ p h. none p (before_new p h.there h.before) (alike_fold p q k h.alike to))

    -- some does
    pub found_more : (k p : Path) → IsFoldedTo q k → IsLastOf done k (Some p) → AreAlikeAmong (Contains more) (found ++ (q, p) ∷ [])
    found_more k p to last = record {
      exact = λ t. (
        λ in'. ⊎_elim (λ old. still t ((are.exact t).0 old)) (λ is. subst (IsAlike (Contains more)) is mine) (Contains-push_cases found (q, p) t in'),
        λ h. ⊎_elim
            (λ old. Contains-append_left found ((q, p) ∷ []) t ((are.exact t).1 (was t old h)))
            (λ is. Contains-append_right found ((q, p) ∷ []) t (subst (Contains ((q, p) ∷ [])) (λ i. (is i, only t.1 (subst (λ x. IsAlike (Contains more) (x, t.1)) (sym is) h) i)) (Contains-first (q, p) [])))
            (Contains-push_cases done q t.0 h.here),
      );
      ascend = all_pairs_append (λ t u. path_cmp t.0 u.0 ≡ Less) found ((q, p) ∷ []) are.ascend (λ i j d l m. absurd (omega (arith, l, m)))
          (λ t u old new. ⊎_elim (λ is. subst (λ (x : Path × Path). path_cmp t.0 x.0 ≡ Less) is (up t.0 ((are.exact t).0 old).here)) (λ none. absurd (omega (arith, none.1))) (contains_cases (q, p) [] u new));
    }
      where
        -- this pair is one
        mine : IsAlike (Contains more) (q, p)
        mine = record {
          here = new_in;
          there = old_in p last.0;
          alike = fold_alike p q k last.1 to;
          before = up p last.0;
          last = λ r in' alike less. last.2 r (before_new r in' less) (alike_fold r q k alike to);
        }

        -- and the new one is in no other
        only : (o : Path) → IsAlike (Contains more) (q, o) → p ≡ o
        only o h =
            let old = before_new o h.there h.before in
            ⊎_elim
            (λ is. sym is)
            (λ less. ⊎_elim (λ is. is) (λ less'. absurd (both_before o p less less')) (h.last p (old_in p last.0) (fold_alike p q k last.1 to) (up p last.0)))
            (last.2 o old (alike_fold o q k h.alike to))

  -- ---- the last of those that fold to a path

  -- where the new one is the root none folds so
  pub last_root : IsFolded q None → (k : Path) (o : Option Path) → IsLastOf done k o → IsLastOf more k o
  last_root root k None h = λ r in' to. ⊎_elim (λ old. h r old to) (λ is. no_root (subst (λ x. IsFoldedTo x k) (sym is) to)) (Contains-push_cases done q r in')
    where
      no_root : IsFoldedTo q k → ⊥
      no_root (g, x, is, to) = let long = ap length (sym root ∙ is) in let parts = length-append g (x ∷ []) in omega (arith, long, parts)
  last_root root k (Some p) (in', to, h) = (old_in p in', to, λ r there to'. ⊎_elim (λ old. h r old to') (λ is. absurd (no_root (subst (λ x. IsFoldedTo x k) (sym is) to'))) (Contains-push_cases done q r there))
    where
      no_root : IsFoldedTo q k → ⊥
      no_root (g, x, is, to) = let long = ap length (sym root ∙ is) in let parts = length-append g (x ∷ []) in omega (arith, long, parts)

  module _ (k : Path) (to : IsFoldedTo q k) where
    -- of another path it is the one of before
    last_other : (j : Path) (o : Option Path) → (k ≡ j → ⊥) → IsLastOf done j o → IsLastOf more j o
    last_other j None other h = λ r in' to'. ⊎_elim (λ old. h r old to') (λ is. other (fold_one q k j to (subst (λ x. IsFoldedTo x j) (sym is) to'))) (Contains-push_cases done q r in')
    last_other j (Some p) other (in', to', h) =
        (old_in p in', to', λ r there fold. ⊎_elim (λ old. h r old fold) (λ is. absurd (other (fold_one q k j to (subst (λ x. IsFoldedTo x j) (sym is) fold)))) (Contains-push_cases done q r there))

    -- of its own it is the new one
    last_own : IsLastOf more k (Some q)
    last_own = (new_in, to, λ r in' fold. ⊎_elim (λ old. inr (up r old)) (λ is. inl (sym is)) (Contains-push_cases done q r in'))

    pub last_more : (j : Path) (o : Option Path) → IsLastOf done j o → IsLastOf more j (cond (path_eq k j) (Some q) o)
    last_more j o h = by (path_eq k j) refl
      where
        by : (t : Bool) → path_eq k j ≡ t → IsLastOf more j (cond t (Some q) o)
        by true is = subst (λ x. IsLastOf more x (Some q)) ((path_decides k j).0 is) last_own
        by false is = last_other j o (λ same. true≢false (sym ((path_decides k j).1 same) ∙ is)) h

-- ---- paths in their order, one after another

-- those of before are before the next one
before_next : (ps : List Path) (i : ℕ) (q : Path) → i < length ps → q ≡ get_or ps i q → PathsAscend ps → (r : Path) → Contains (take i ps) r → path_cmp r q ≡ Less
before_next ps i q lt is up r (k, short, at) =
    let less : k < i = omega (arith, short, length-take i ps, lt) in
    let here : get_or ps k r ≡ r = sym (get_or-take i ps k r less) ∙ at in
    let there : get_or ps i r ≡ q = get_or_default ps i r q lt ∙ sym is in
    subst (λ x. path_cmp x q ≡ Less) here (subst (λ x. path_cmp (get_or ps k r) x ≡ Less) there (up k i r less lt))

-- what is found of the paths so far, and the last of those that fold to each path, with one path more
module _ (ps : List Path) (i : ℕ) (q : Path) (lt : i < length ps) (is : q ≡ get_or ps i q) (up : PathsAscend ps) (found : List (Path × Path)) (f : Path → Option Path) (are : AreAlikeAmong (Contains (take i ps)) found)
    (last : (k : Path) → IsLastOf (take i ps) k (f k)) where
  -- the same, of any list of pairs and any look-up
  abbrev pub AreNext : List (Path × Path) → (Path → Option Path) → Type 0
  AreNext more g = AreAlikeAmong (Contains (take (i + 1) ps)) more × ((k : Path) → IsLastOf (take (i + 1) ps) k (g k))

  -- the paths so far and the next one are the first i + 1
  one_more : take i ps ++ q ∷ [] ≡ take (i + 1) ps
  one_more = ap (λ x. take i ps ++ x ∷ []) is ∙ take_next ps i q lt

  -- the paths so far stand before the next one
  before : (r : Path) → Contains (take i ps) r → path_cmp r q ≡ Less
  before = before_next ps i q lt is up

  -- what holds of the paths so far and the next one holds of the first i + 1
  over : (more : List (Path × Path)) (g : Path → Option Path) → AreAlikeAmong (Contains (take i ps ++ q ∷ [])) more → ((k : Path) → IsLastOf (take i ps ++ q ∷ []) k (g k)) → AreNext more g
  over more g all lasts = subst (λ xs. AreAlikeAmong (Contains xs) more × ((k : Path) → IsLastOf xs k (g k))) one_more (all, lasts)

  -- where the next path folds to none, what was found stays
  pub next_root : IsFolded q None → AreNext found f
  next_root root = over found f (found_root (take i ps) q before found are root) (λ k. last_root (take i ps) q before root k (f k) (last k))

  module _ (k : Path) (to : IsFoldedTo q k) (g : Path → Option Path) (updated : (j : Path) → g j ≡ cond (path_eq k j) (Some q) (f j)) where
    lasts : (j : Path) → IsLastOf (take i ps ++ q ∷ []) j (g j)
    lasts j = subst (IsLastOf (take i ps ++ q ∷ []) j) (sym (updated j)) (last_more (take i ps) q before k to j (f j) (last j))

    pub next_same : f k ≡ None → AreNext found g
    next_same none = over found g (found_same (take i ps) q before found are k to (subst (IsLastOf (take i ps) k) none (last k))) lasts

    pub next_more : (p : Path) → f k ≡ Some p → AreNext (found ++ (q, p) ∷ []) g
    next_more p some = over (found ++ (q, p) ∷ []) g (found_more (take i ps) q before found are k p to (subst (IsLastOf (take i ps) k) some (last k))) lasts

-- the same pairs are alike among the same paths
pub alike_same : (N M : Path → Type 0) (t : Path × Path) → ((p : Path) → N p ↔ M p) → IsAlike N t → IsAlike M t
alike_same N M t same h = record {
  here = (same t.0).0 h.here;
  there = (same t.1).0 h.there;
  alike = h.alike;
  before = h.before;
  last = λ r in' alike less. h.last r ((same r).1 in') alike less;
}

-- the pairs that are alike among some paths are those among whatever set has the same
pub alike_over : (N M : Path → Type 0) (found : List (Path × Path)) → ((p : Path) → N p ↔ M p) → AreAlikeAmong N found → AreAlikeAmong M found
alike_over N M found same are = record {
  exact = λ t. (λ in'. alike_same N M t same ((are.exact t).0 in'), λ h. (are.exact t).1 (alike_same M N t (λ p. ((same p).1, (same p).0)) h));
  ascend = are.ascend;
}
