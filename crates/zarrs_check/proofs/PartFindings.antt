-- Of the findings of a block those of a path and of what is below it.
use Rattle.std.proofs.Common.{◌≡◌, ◌↔◌, ◌⊎◌, inl, inr, ⊎_elim, Bool, true, false, true≢false, List, [], ◌++◌, filter, refl, sym, ap, subst, ◌∙◌, arith, append-nil, Contains, IsTrue}
use Rattle.std.proofs.lemmas.List.Kept.{AllPairs-filter}
use Rattle.zarrs_path.specs.Paths.{Path, IsBelow}
use Rattle.zarrs_block.specs.Block.{Block, Entries}
use Rattle.zarrs_meaning.specs.declared.node_create_error.NodeCreateError.{NodeCreateError}
use Rattle.zarrs_node.specs.Order.{Ascend}
use Rattle.zarrs_node.proofs.FlatForests.{filter_holds, filter_keeps}
use Rattle.zarrs_node.proofs.Lasts.{contains_filtered}
use Rattle.zarrs_check.specs.Findings.{IsAtOrAbove, Precedes}
use Rattle.zarrs_meaning.specs.Meaning.{Pair}
use Rattle.zarrs_check.specs.StepsOfBlocksAbove.{ArePartFindings, IsEndFrom}
use Rattle.zarrs_check.specs.StepsOfChecks.{HasBad}
use Rattle.zarrs_check.specs.StepsOfComparing.{ArePathFindings}
use Rattle.zarrs_check.specs.StepsOfComparisons.{IsAtEnd, NoDocument, NoneBad, PutsSettled}
use Rattle.zarrs_check.specs.declared.comparison.Comparison.{Comparison}
use Rattle.zarrs_check.specs.declared.finding.Finding.{Finding}
use Rattle.zarrs_check.proofs.Above.{at_itself, at_or_above, up_cases, below_or_not, same_or_not}
use Rattle.zarrs_check.proofs.Blocks.{finding_same}
use Rattle.zarrs_check.proofs.ComparisonSteps.{by_end}
use Rattle.zarrs_check.proofs.TakenNodes.{HasCompared}
use Rattle.zarrs_check.proofs.UnderWay.{settled_part}

-- ---- at or below a path

-- whether a path is at or above another
pub up_or_not : (q p : Path) → IsAtOrAbove q p ⊎ (IsAtOrAbove q p → ⊥)
up_or_not q p = ⊎_elim
    (λ same. inl (at_itself q p same))
    (λ other. ⊎_elim (λ low. inl (at_or_above q p low)) (λ beside. inr (λ up. ⊎_elim other beside (up_cases q p up))) (below_or_not q p))
    (same_or_not p q)

-- which of both it is, as a truth value
abbrev pub which : {A : Type 0} → A ⊎ (A → ⊥) → Bool
which (inl a) = true
which (inr not) = false

-- where that is true, it is so
which_true : {A : Type 0} (d : A ⊎ (A → ⊥)) → which d ≡ true → A
which_true (inl a) is = a
which_true (inr not) is = absurd (true≢false (sym is))

-- and where it is so, that is true
true_which : {A : Type 0} (d : A ⊎ (A → ⊥)) → A → which d ≡ true
true_which (inl a) so = refl
true_which (inr not) so = absurd (not so)

-- a truth value that tells it is that one
which_told : {A : Type 0} (d : A ⊎ (A → ⊥)) (t : Bool) → IsTrue t ↔ A → t ≡ which d
which_told (inl a) true tells = refl
which_told (inl a) false tells = absurd (true≢false (sym (tells.1 a)))
which_told (inr not) true tells = absurd (not (tells.0 refl))
which_told (inr not) false tells = refl

-- whether the path of a finding is b or below it
abbrev pub is_from : Path → Finding → Bool
is_from b f = which (up_or_not b f.path)

-- a test that tells it answers that
pub from_told : (b : Path) (f : Finding) (t : Bool) → IsTrue t ↔ IsAtOrAbove b f.path → t ≡ is_from b f
from_told b f t tells = which_told (up_or_not b f.path) t tells

-- the findings of paths that such a test keeps are those at or below b
part_kept : (E N : Pair → Type 0) (F D : Path → Type 0) (g b : Path) (found : List Finding) → ArePathFindings E N F D g found → ArePartFindings E N F D g b (filter (is_from b) found)
part_kept E N F D g b found are = record {
  exact = λ f. (
    λ in'.
        let w = (are.exact f).0 (contains_filtered (is_from b) found f in') in
        (w.0, w.1, which_true (up_or_not b f.path) (filter_holds (is_from b) found f in')),
    λ w. filter_keeps (is_from b) found f (true_which (up_or_not b f.path) w.2) ((are.exact f).1 (w.0, w.1)),
  );
  ascend = AllPairs-filter Precedes (is_from b) found are.ascend;
}

-- what is told of them at the end of a comparison
pub ended_from : (b : Path) (D : Path → Type 0) (start now : Comparison) (bad : List (Path × NodeCreateError)) (told kept whole : List Finding) → IsAtEnd start now → told ≡ [] → kept ≡ filter (is_from b) now.found.items
    → PutsSettled (HasBad bad) D told kept whole → IsEndFrom b D start bad whole
ended_from b D start now bad told kept whole o none is put all nodes u =
    let h = (o.told all nodes u).holds in
    let are = by_end (Contains all) (Contains nodes) now.group now.last now.found.items h in
    let part = subst (ArePartFindings (Contains all) (Contains nodes) NoneBad NoDocument now.group b) (sym is) (part_kept (Contains all) (Contains nodes) NoneBad NoDocument now.group b now.found.items are) in
    let left = settled_part (HasBad bad) D (Contains all) (Contains nodes) now.group b kept put.0 part put.2 in
    let same : whole ≡ put.0 = put.1 ∙ ap (λ xs. xs ++ put.0) none in
    subst (ArePartFindings (Contains all) (Contains nodes) (HasBad bad) D start.group b) (sym same)
    (subst (λ g. ArePartFindings (Contains all) (Contains nodes) (HasBad bad) D g b put.0) o.one.group left)

-- ---- of one block

-- the findings of paths turn on which entries there are, and on which nodes below the group, alone
part_same : (E E' N N' : Pair → Type 0) (F D : Path → Type 0) (g b : Path) (found : List Finding) → ((d : Pair) → E' d → IsBelow g d.0) → ((d : Pair) → E d ↔ E' d) → ((d : Pair) → IsBelow g d.0 → N d ↔ N' d)
    → ArePartFindings E N F D g b found → ArePartFindings E' N' F D g b found
part_same E E' N N' F D g b found low e n are = record {
  exact = λ f. (
    λ in'.
        let w = (are.exact f).0 in' in
        (w.0, finding_same E E' N N' F F D g (λ d is. low d ((e d).0 is)) e n (λ q. (λ x. x, λ x. x)) f.path f.kind w.1, w.2),
    λ w. (are.exact f).1 (w.0, finding_same E' E N' N F F D g low (λ d. ((e d).1, (e d).0)) (λ d below. ((n d below).1, (n d below).0)) (λ q. (λ x. x, λ x. x)) f.path f.kind w.1, w.2),
  );
  ascend = are.ascend;
}

-- what is told of b and of what is below it, at the end of a comparison with the nodes `done`, is what there is to tell of the block
pub told_from : (done : List Pair) (bad : List (Path × NodeCreateError)) (D : Path → Type 0) (g b : Path) (B : Block) (other : Bool) (c : Comparison) (found : List Finding) → Ascend done → HasCompared done g B other c → IsEndFrom b D c bad found
    → ArePartFindings (Entries B g) (Contains done) (HasBad bad) D g b found
told_from done bad D g b B other c found up is end =
    let nodes : List Pair = is.under ++ [] in
    let same : nodes ≡ is.under = append-nil is.under in
    let w = end is.all nodes (is.told [] (subst Ascend (sym same) (is.under_ascend up)) (λ d in'. absurd (omega (arith, in'.1)))) in
    let told : ArePartFindings (Contains is.all) (Contains is.under) (HasBad bad) D g b found =
    subst (λ (ns : List Pair). ArePartFindings (Contains is.all) (Contains ns) (HasBad bad) D g b found) same (subst (λ p. ArePartFindings (Contains is.all) (Contains nodes) (HasBad bad) D p b found) is.group w) in
    part_same (Contains is.all) (Entries B g) (Contains is.under) (Contains done) (HasBad bad) D g b found (λ d en. (en.0, en.1, en.3)) is.entries
    (λ d below. (λ x. ((is.each_under d).0 x).0, λ x. (is.each_under d).1 (x, below))) told
