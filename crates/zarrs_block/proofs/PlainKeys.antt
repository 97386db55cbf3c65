-- Keys that ascend as their paths do: those that begin with no slash and have no byte below it.
use Rattle.std.proofs.Common.{◌≡◌, ◌≢◌, ℕ, Bool, true, false, true≢false, cond, List, [], ◌∷◌, ◌++◌, Some, None, Ordering, Less, Equal, Greater, refl, sym, ap, subst, ◌∙◌, arith, All}
use Rattle.std.specs.Prelude.{◌==◌, nat_lt}
use Rattle.std.specs.List.{AllByRecursion, list_any, slice_split, onto_first}
use Rattle.std.specs.List.Sorted.{IsStrictlySortedBy}
use Rattle.std.specs.Map.{keys_of}
use Rattle.std.specs.Ordering.{nat_cmp, ordering_then}
use Rattle.std.proofs.lemmas.Bool.{eqb-true}
use Rattle.std.proofs.lemmas.Cmp.{tied_itself, nat_cmp_total}
use Rattle.std.proofs.lemmas.List.Elements.{All-nil, All-cons}
use Rattle.std.proofs.lemmas.List.Kept.{AllPairs-cons}
use Rattle.zarrs_store.specs.Segments.{bytes_cmp, is_slash}
use Rattle.zarrs_store.proofs.Cuts.{parts_some}
use Rattle.zarrs_form.specs.Forms.{is_nil}
use Rattle.zarrs_form.proofs.MemberLaws.{neither}
use Rattle.zarrs_path.specs.Paths.{Path, path_cmp, relative_names, parts}
use Rattle.zarrs_meta.specs.declared.node.NodeMetadata.{NodeMetadata}
use Rattle.zarrs_block.specs.Block.{Block, IsAscending}
use Rattle.zarrs_block.specs.BlockExpansion.{path_at, paths_at, pairs_at, with_pair}
use Rattle.zarrs_block.specs.StepsOfExpansion.{IsPlainKey, is_low}
use Rattle.zarrs_block.specs.Order.{Ascend}
use Rattle.zarrs_block.proofs.KeyLaws.{path_of_key}
use Rattle.zarrs_block.proofs.SmallStores.{key_cmp-append}

-- with one byte in front of both, parts compare as without it
onto_same : (c : ℕ) (ps qs : List (List ℕ)) → ps ≢ [] → qs ≢ [] → path_cmp (onto_first c ps) (onto_first c qs) ≡ path_cmp ps qs
onto_same c [] qs some other = absurd (some refl)
onto_same c (p ∷ ps) [] some other = absurd (other refl)
onto_same c (p ∷ ps) (q ∷ qs) some other = ap (λ o. ordering_then (ordering_then o (bytes_cmp p q)) (path_cmp ps qs)) (tied_itself nat_cmp_total c)

-- nothing is before something
none_before : (ps : List (List ℕ)) → ps ≢ [] → path_cmp [] ps ≡ Less
none_before [] some = absurd (some refl)
none_before (p ∷ ps) some = refl

-- an empty part is before one with a byte
empty_before : (d : ℕ) (ps qs : List (List ℕ)) → qs ≢ [] → path_cmp ([] ∷ ps) (onto_first d qs) ≡ Less
empty_before d ps [] some = absurd (some refl)
empty_before d ps (q ∷ qs) some = refl

-- a part with the lower byte is before one with the higher
lower_before : (c d : ℕ) (ps qs : List (List ℕ)) → ps ≢ [] → qs ≢ [] → nat_cmp c d ≡ Less → path_cmp (onto_first c ps) (onto_first d qs) ≡ Less
lower_before c d [] qs some other less = absurd (some refl)
lower_before c d (p ∷ ps) [] some other less = absurd (other refl)
lower_before c d (p ∷ ps) (q ∷ qs) some other less = ap (λ o. ordering_then (ordering_then o (bytes_cmp p q)) (path_cmp ps qs)) less

-- a byte that is not low is not before the slash
not_below : (c : ℕ) → is_low c ≡ false → nat_cmp c 47 ≡ Less → ⊥
not_below c high less = by (is_low c) (c == 47) high less
  where
    by : (x y : Bool) → x ≡ false → cond x Less (cond y Equal Greater) ≡ Less → ⊥
    by true y e h = true≢false e
    by false true e h = cc
    by false false e h = cc

-- level bytes are one
same_byte : (c d : ℕ) → nat_cmp c d ≡ Equal → c ≡ d
same_byte c d is = by (nat_lt c d) (c == d) refl is
  where
    by : (x y : Bool) → (c == d) ≡ y → cond x Less (cond y Equal Greater) ≡ Equal → c ≡ d
    by true y e h = cc
    by false true e h = eqb-true c d e
    by false false e h = cc

-- where no byte of the first is below the slash, texts compare as their parts
parts_less : (t s : List ℕ) → list_any is_low t ≡ false → bytes_cmp t s ≡ Less → path_cmp (slice_split is_slash t) (slice_split is_slash s) ≡ Less
parts_less [] [] high less = cc
parts_less [] (d ∷ s) high less = by (is_slash d)
  where
    by : (b : Bool) → path_cmp ([] ∷ []) (cond b ([] ∷ slice_split is_slash s) (onto_first d (slice_split is_slash s))) ≡ Less
    by true = none_before (slice_split is_slash s) (parts_some s)
    by false = empty_before d [] (slice_split is_slash s) (parts_some s)
parts_less (c ∷ t) [] high less = cc
parts_less (c ∷ t) (d ∷ s) high less = by (nat_cmp c d) refl less (parts_less t s (neither (is_low c) (list_any is_low t) high).1)
  where
    ts : List (List ℕ)
    ts = slice_split is_slash t

    ss : List (List ℕ)
    ss = slice_split is_slash s

    lower : nat_cmp c d ≡ Less → (x y : Bool) → is_slash c ≡ x → is_slash d ≡ y → path_cmp (cond x ([] ∷ ts) (onto_first c ts)) (cond y ([] ∷ ss) (onto_first d ss)) ≡ Less
    lower is true true at here =
        let same : c ≡ d = eqb-true c 47 at ∙ sym (eqb-true d 47 here) in
        let both : Equal ≡ Less = sym (ap (nat_cmp c) (sym same) ∙ tied_itself nat_cmp_total c) ∙ is in cc
    lower is true false at here = empty_before d ts ss (parts_some s)
    lower is false true at here = absurd (not_below c (neither (is_low c) (list_any is_low t) high).0 (sym (ap (nat_cmp c) (eqb-true d 47 here)) ∙ is))
    lower is false false at here = lower_before c d ts ss (parts_some t) (parts_some s) is

    level : nat_cmp c d ≡ Equal → path_cmp ts ss ≡ Less → path_cmp (slice_split is_slash (c ∷ t)) (slice_split is_slash (d ∷ s)) ≡ Less
    level is rest = subst (λ e. path_cmp (slice_split is_slash (c ∷ t)) (slice_split is_slash (e ∷ s)) ≡ Less) (same_byte c d is) (one (is_slash c))
      where
        one : (b : Bool) → path_cmp (cond b ([] ∷ ts) (onto_first c ts)) (cond b ([] ∷ ss) (onto_first c ss)) ≡ Less
        one true = rest
        one false = onto_same c ts ss (parts_some t) (parts_some s) ∙ rest

    by : (o : Ordering) → nat_cmp c d ≡ o → ordering_then o (bytes_cmp t s) ≡ Less → (bytes_cmp t s ≡ Less → path_cmp ts ss ≡ Less) → path_cmp (slice_split is_slash (c ∷ t)) (slice_split is_slash (d ∷ s)) ≡ Less
    by Less is h rest = lower is (is_slash c) (is_slash d) refl refl
    by Equal is h rest = level is (rest h)
    by Greater is h rest = cc

-- a plain key's relative names are its parts
names_of_plain : (c : ℕ) (t : List ℕ) → IsPlainKey (c ∷ t) → relative_names (c ∷ t) ≡ slice_split is_slash (c ∷ t)
names_of_plain c t plain = by (is_slash c) refl
  where
    by : (b : Bool) → is_slash c ≡ b → parts (cond b t (c ∷ t)) ≡ slice_split is_slash (c ∷ t)
    by true at = absurd (plain.0 t (ap (λ d. d ∷ t) (eqb-true c 47 at)))
    by false at = refl

-- so plain keys that ascend have names that do
names_less : (t s : List ℕ) → IsPlainKey t → IsPlainKey s → is_nil (relative_names t) ≡ false → bytes_cmp t s ≡ Less → path_cmp (relative_names t) (relative_names s) ≡ Less
names_less [] s v w some less = cc
names_less (c ∷ t) [] v w some less = cc
names_less (c ∷ t) (d ∷ s) v w some less =
    subst (λ p. path_cmp p (relative_names (d ∷ s)) ≡ Less) (sym (names_of_plain c t v))
    (subst (λ p. path_cmp (slice_split is_slash (c ∷ t)) p ≡ Less) (sym (names_of_plain d s w)) (parts_less (c ∷ t) (d ∷ s) v.1 less))

-- each key of the block is plain
abbrev pub ArePlain : Block → Type 0
ArePlain B = AllByRecursion (λ e. IsPlainKey e.0) B

-- the pairs that these entries add below a base, as keys of the block
abbrev pairs_by : Path → Block → Block → List (Path × NodeMetadata)
pairs_by b B es = pairs_at (paths_at b B es) es

-- the pair of a plain key is before those of later ones
before_later : (b p : Path) (B es : Block) (t : List ℕ) → path_at b B t ≡ Some p → IsPlainKey t → AllByRecursion (λ y. bytes_cmp t y ≡ Less) (keys_of es) → ArePlain es
    → All (λ e. path_cmp p e.0 ≡ Less) (pairs_by b B es)
before_later b p B [] t path v below w = All-nil (λ e. path_cmp p e.0 ≡ Less)
before_later b p B (e ∷ es) t path v below w =
    let rest = before_later b p B es t path v below.1 w.1 in
    elim (path_at b B e.0) as (λ o. path_at b B e.0 ≡ o → All (λ d. path_cmp p d.0 ≡ Less) (with_pair o e.1 (pairs_by b B es))) [
      | None ↦ λ _. rest
      | Some q ↦ λ other.
          let mine = path_of_key b p B t path in
          let its = path_of_key b q B e.0 other in
          let less = key_cmp-append b (relative_names t) (relative_names e.0) ∙ names_less t e.0 v w.0 mine.0 below.0 in
          All-cons (λ d. path_cmp p d.0 ≡ Less) (q, e.1) (pairs_by b B es)
          (subst (λ x. path_cmp x q ≡ Less) (sym mine.2) (subst (λ x. path_cmp (b ++ relative_names t) x ≡ Less) (sym its.2) less)) rest
    ] refl

-- the pairs of entries whose keys are plain and ascend do so too
plain_up : (b : Path) (B es : Block) → IsStrictlySortedBy bytes_cmp (keys_of es) → ArePlain es → Ascend (pairs_by b B es)
unfolding IsStrictlySortedBy
plain_up b B [] up w = λ i j d less inside. absurd (omega (arith, inside))
plain_up b B (e ∷ es) up w =
    let rest = plain_up b B es up.1 w.1 in
    elim (path_at b B e.0) as (λ o. path_at b B e.0 ≡ o → Ascend (with_pair o e.1 (pairs_by b B es))) [
      | None ↦ λ _. rest
      | Some p ↦ λ path.
          AllPairs-cons (λ d f. path_cmp d.0 f.0 ≡ Less) (p, e.1) (pairs_by b B es) (before_later b p B es e.0 path w.0 up.0 w.1) rest
    ] refl

-- the pairs of plain keys ascend
pub plain_ascend : (b : Path) (B : Block) → IsAscending B → ArePlain B → Ascend (pairs_at (paths_at b B B) B)
plain_ascend b B up w = plain_up b B B up w

-- one more key is plain where it was asked
pub plain_next : (B left : Block) (e : List ℕ × NodeMetadata) (es : Block) (was now : Bool) → left ≡ e ∷ es → (now ≡ true → (was ≡ true) × IsPlainKey e.0) → (was ≡ true → ArePlain left → ArePlain B) → now ≡ true → ArePlain es → ArePlain B
plain_next B left e es was now is asked before plain rest = let here = asked plain in subst (λ L. ArePlain L → ArePlain B) is (before here.0) (here.1, rest)

-- where none is left, the pairs ascend
pub plain_pairs : (b : Path) (B left : Block) (all : List (Path × NodeMetadata)) → left ≡ [] → all ≡ pairs_at (paths_at b B B) B → IsAscending B → (ArePlain left → ArePlain B) → Ascend all
plain_pairs b B left all none made up plain = subst Ascend (sym made) (plain_ascend b B up (subst (λ L. ArePlain L → ArePlain B) none plain tt))
