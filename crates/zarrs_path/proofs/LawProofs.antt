-- The laws of names and paths.
use Rattle.std.proofs.Common.{◌≡◌, ◌≢◌, ℕ, Bool, true, false, not, ◌&&◌, List, [], ◌∷◌, ◌++◌, refl, sym, ap, ◌∙◌, subst, IsTrue, Option, Some, None, Result, Ok, Err, IfOk, All, append_assoc, eq-eqb, ◌==◌}
use Rattle.std.specs.Prelude.{nat_eq}
use Rattle.std.specs.Ordering.{ordering_then, ordering_index, is_eq}
use Rattle.std.specs.declared.cmp.Ordering.{Ordering}
use Rattle.std.specs.declared.cmp.Ordering.TheVariants.{Equal, Less, Greater}
use mathlib.Core.Bool.{beq}
use Rattle.std.specs.Cmp.{Equal-is}
use Rattle.std.specs.Cmp.Lexicographic.{nat_list_cmp_total}
use Rattle.std.proofs.lemmas.Cmp.{tied_itself}
use Rattle.std.proofs.lemmas.Bool.{and_parts, and_from, not-true, eqb-true}
use Rattle.std.proofs.lemmas.List.Sums.{AllPass-from_list_all, list_all-from_AllPass}
use Rattle.zarrs_store.specs.Segments.{segments_of, is_slash, is_nonempty, has_no_slash, is_segment}
use Rattle.zarrs_store.proofs.Cuts.{parts_one, segment_of_test, segment_test}
use Rattle.zarrs_path.specs.Names.{is_name, IsName, is_all_periods, is_reserved, IsReserved}
use Rattle.zarrs_path.specs.Paths.{Path, IsParent, path_cmp, relative_names, parts, first_bad, without_leading_slash}
use Rattle.zarrs_path.specs.Laws.{NamesAre, TextsDiffer, ParentOfJoined, DocumentKeysDiffer, EqualNames, EqualOrder, BelowIsAfter, BelowIsTransitive, OneParent, RootAlone}
use Rattle.zarrs_path.specs.PathErrors.{RefusesJoin}
use Rattle.zarrs_path.specs.declared.node_path.NodePathError.{NodePathError}
use Rattle.zarrs_path.specs.declared.node_path.NodePathError.TheVariants.{Invalid, OutOfMemory}
use Rattle.zarrs_path.specs.PathOrder.{path_decides, path_ties}
use Rattle.zarrs_path.proofs.NameLemmas.{not_periods, name_not_reserved, name_one}
use Rattle.zarrs_path.proofs.PathTexts.{segments_of-path_text, segment_from_name, none_first_bad}

-- ---- what names are

-- the test for `__` answers yes where the text begins with it
reserved_from : (n : List ℕ) → IsTrue (is_reserved n) → IsReserved n
reserved_from [] h = cc
reserved_from (a ∷ []) h = let f = and_parts (nat_eq 95 a) false h in let g : false ≡ true = f.1 in cc
reserved_from (a ∷ b ∷ n) h =
    let first = and_parts (nat_eq 95 a) (nat_eq 95 b && true) h in
    let second = and_parts (nat_eq 95 b) true first.1 in
    let one : a ≡ 95 = sym (eqb-true 95 a first.0) in
    let two : b ≡ 95 = sym (eqb-true 95 b second.0) in
    (n, cc)

-- a text that begins with `__` passes the test for it
reserved_test : (n : List ℕ) → IsReserved n → IsTrue (is_reserved n)
reserved_test n r = ap is_reserved r.1

-- the test for periods answers yes where each byte is one
periods_are : (n : List ℕ) → IsTrue (is_all_periods n) → All (λ b. b ≡ 46) n
periods_are n h k d lt = eqb-true _ 46 (AllPass-from_list_all (λ b. b == 46) n h k d lt)

-- a text of periods only passes the test for it
periods_test : (n : List ℕ) → All (λ b. b ≡ 46) n → IsTrue (is_all_periods n)
periods_test n h = list_all-from_AllPass (λ b. b == 46) n (λ k d lt. eq-eqb _ 46 (h k d lt))

-- what a test must not answer
not_from : (b : Bool) → (b ≡ true → ⊥) → not b ≡ true
not_from true h = absurd (h refl)
not_from false h = refl

-- a test that answers no did not answer yes
no_yes : (b : Bool) → b ≡ false → b ≡ true → ⊥
no_yes b e f = let g : true ≡ false = sym f ∙ e in cc

-- a name, by what the specification asks of it
pub names_are : NamesAre
names_are n = (
  λ h.
      let segment = segment_of_test n (segment_from_name n h) in (
        segment.nonempty,
        segment.no_slash,
        λ all. no_yes (is_all_periods n) (not_periods n h) (periods_test n all),
        λ r. no_yes (is_reserved n) (name_not_reserved n h) (reserved_test n r),
      ),
  λ h.
      let segment : IsTrue (is_segment n) = segment_test n (record { nonempty = h.0; no_slash = h.1 }) in
      let both = and_parts (is_nonempty n) (has_no_slash n) segment in
      and_from (is_nonempty n) (has_no_slash n && (not (is_all_periods n) && not (is_reserved n))) both.0
      (and_from (has_no_slash n) (not (is_all_periods n) && not (is_reserved n)) both.1
      (and_from (not (is_all_periods n)) (not (is_reserved n))
      (not_from (is_all_periods n) (λ t. h.2 (periods_are n t)))
      (not_from (is_reserved n) (λ t. h.3 (reserved_from n t))))),
)

-- ---- texts, equality and order

-- paths with one text are one path
pub texts_differ : TextsDiffer
texts_differ p q h k e = sym (segments_of-path_text p h) ∙ (ap segments_of e ∙ segments_of-path_text q k)

-- equality of paths is that of their names
pub equal_names : EqualNames
equal_names p q = path_decides p q

-- paths are level in the order exactly where they are equal
pub equal_order : EqualOrder
equal_order p q = (
  λ e. (path_decides p q).0 (path_ties p q ∙ (Equal-is (path_cmp p q)).1 e),
  λ e. (Equal-is (path_cmp p q)).0 (sym (path_ties p q) ∙ (path_decides p q).1 e),
)

-- a path stands before itself with more names
before_longer : (p : Path) (n : List ℕ) (rest : Path) → path_cmp p (p ++ n ∷ rest) ≡ Less
before_longer [] n rest = refl
before_longer (m ∷ p) n rest =
    ap (λ r. ordering_then r (path_cmp p (p ++ n ∷ rest))) (tied_itself nat_list_cmp_total m) ∙ before_longer p n rest

-- a base stands before what is below it
pub below_is_after : BelowIsAfter
below_is_after base path h = ap (path_cmp base) h.2 ∙ before_longer base h.0 h.1

-- below what is below a base is below the base
pub below_is_transitive : BelowIsTransitive
below_is_transitive base upper path h k =
    (h.0, h.1 ++ k.0 ∷ k.1, k.2 ∙ (ap (λ u. u ++ k.0 ∷ k.1) h.2 ∙ append_assoc base (h.0 ∷ h.1) (k.0 ∷ k.1)))

-- ---- fronts and last elements

-- lists are equal only where their fronts and their last elements are
pub same_fronts : DocumentKeysDiffer
same_fronts [] [] f g e = let same : f ≡ g = cc in (refl, same)
same_fronts [] (m ∷ []) f g e = cc
same_fronts [] (m ∷ k ∷ q) f g e = cc
same_fronts (n ∷ []) [] f g e = cc
same_fronts (n ∷ k ∷ p) [] f g e = cc
same_fronts (n ∷ p) (m ∷ q) f g e =
    let tail : p ++ f ∷ [] ≡ q ++ g ∷ [] = cc in
    let head : n ≡ m = cc in
    let more = same_fronts p q f g tail in
    let fronts : p ≡ q = more.0 in
    let all : n ∷ p ≡ m ∷ q = cc in
    (all, more.1)

-- a list with a last element is not empty
some_last : (p : Path) (n : List ℕ) → p ++ n ∷ [] ≢ []
some_last [] n e = cc
some_last (m ∷ p) n e = cc

-- ---- parents

-- the root alone has no parent
pub root_alone : RootAlone
root_alone p None h = (λ e. h, λ e. refl)
root_alone p (Some q) h = (λ e. cc, λ e. absurd (some_last q h.0 (sym h.1 ∙ e)))

-- two parents of one path are one
pub one_parent : OneParent
one_parent p None None h k = refl
one_parent p None (Some q) h k = absurd (some_last q k.0 (sym k.1 ∙ h))
one_parent p (Some q) None h k = absurd (some_last q h.0 (sym h.1 ∙ k))
one_parent p (Some q) (Some r) h k =
    let same : q ≡ r = (same_fronts q r h.0 k.0 (sym h.1 ∙ k.1)).0 in cc

-- a name is its one relative name
pub relative_one : (n : List ℕ) → IsTrue (is_name n) → relative_names n ≡ n ∷ []
relative_one [] h = let f : false ≡ true = h in cc
relative_one (b ∷ n) h =
    let whole : List ℕ = b ∷ n in
    let clean : IsTrue (has_no_slash whole) = (and_parts (is_nonempty whole) (has_no_slash whole) (segment_from_name whole h)).1 in
    let no : is_slash b ≡ false = not-true (is_slash b) (and_parts (not (is_slash b)) (has_no_slash n) clean).0 in
    let same : without_leading_slash (b ∷ n) ≡ b ∷ n = rw no refl in
    ap parts same ∙ parts_one whole clean

-- the parent of a path joined with a name is the path
pub parent_of_joined : ParentOfJoined
parent_of_joined p n None h e = absurd (some_last p n (ap (λ r. p ++ r) (sym (relative_one n h)) ∙ e))
parent_of_joined p n (Some q) h e =
    let last : p ++ n ∷ [] ≡ q ++ e.0 ∷ [] = ap (λ r. p ++ r) (sym (relative_one n h)) ∙ e.1 in
    let same : p ≡ q = (same_fronts p q n e.0 last).0 in cc

-- the parent of a path that is another and a name is that other path
pub parent_of_extended : (p joined : Path) (n : List ℕ) (r : Result (Option Path) NodePathError) → IsName n → joined ≡ p ++ relative_names n → IfOk r (IsParent joined) → IfOk r (λ parent. parent ≡ Some p)
parent_of_extended p joined n (Ok parent) name e h = parent_of_joined p n parent name (subst (λ j. IsParent j parent) e h)
parent_of_extended p joined n (Err error) name e h = tt

-- one name is refused for memory alone
pub refuses_for_memory : (n : List ℕ) (e : NodePathError) → IsName n → RefusesJoin n e → e ≡ OutOfMemory
refuses_for_memory n (Invalid text) name h =
    let none : first_bad (relative_names n) ≡ None = ap first_bad (relative_one n name) ∙ none_first_bad (n ∷ []) (name_one n name) in
    let both : Some h.0 ≡ None = sym h.1 ∙ none in cc
refuses_for_memory n OutOfMemory name h = refl

-- ---- answers of the code

-- the middle of the three answers of `cmp` is that of level values
pub index_is_eq : (o : Ordering) → (ordering_index o == 1) ≡ is_eq o
index_is_eq Less = refl
index_is_eq Equal = refl
index_is_eq Greater = refl

-- equal truth values compare as equal
pub same_truth : (a b : Bool) → a ≡ b → IsTrue (beq a b)
same_truth a b e = subst (λ x. IsTrue (beq a x)) e (elim a as (λ x. IsTrue (beq x x)) [ true ↦ refl | false ↦ refl ])
