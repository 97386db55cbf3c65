-- Runs of documents: gathered, put in the order of their paths, and those of one path joined.
use Rattle.std.proofs.Common.{◌≡◌, ◌≢◌, ℕ, zero, suc, Bool, true, false, true≢false, not, ◌&&◌, cond, List, [], ◌∷◌, ◌++◌, Option, Some, None, Ordering, Less, Equal, Greater, is_eq, string_bytes, refl, sym, ap, subst, ◌∙◌, ◌⊎◌, inl, inr, arith, AllPairs, length}
use Rattle.std.specs.List.{filter, AllByRecursion}
use Rattle.std.specs.List.Sorted.{IsSortedBy, IsSortedByClosure, IsStableBy, IsStableByClosure, IsStrictlySortedBy, ties}
use Rattle.std.specs.Ordering.{is_lt, ordering_reverse}
use Rattle.std.specs.Fn.{Called, ComparesAs}
use Rattle.std.specs.Str.{bytes_eq}
use denote.Param.Members.{Mut}
use denote.Ref.{Bor}
use Rattle.std.proofs.lemmas.Cmp.{nat_list_cmp_total}
use Rattle.std.proofs.lemmas.List.Elements.{recursion_from_All}
use Rattle.std.proofs.lemmas.List.Sorted.{ranks_by, sorted_far, answers_always}
use Rattle.std.proofs.lemmas.Map.Text.{is_eq-slice_cmp}
use Rattle.std.proofs.lemmas.Slice.Eq.{bytes_eq-Decides}
use Rattle.serde_json.specs.Data.{Data}
use Rattle.zarrs_store.specs.Segments.{bytes_cmp}
use Rattle.zarrs_block.specs.StepsOfZmetadata.{first_tree, tree_in, run_tree, tree_among, gathered_at, is_before, paths, RunsAscend, IsJoined}
use Rattle.zarrs_block.specs.declared.zmetadata.File.{File}
use Rattle.zarrs_block.specs.declared.zmetadata.Run.{Run}
use Rattle.zarrs_block.proofs.Expansion.{same_text}

-- ---- the documents of runs

-- the first, where there is one, and else none
pub first_none : (o : Option Data) → o ≡ first_tree o None
first_none None = refl
first_none (Some d) = refl

-- the first of three
first_of_three : (a b c : Option Data) → first_tree (first_tree a b) c ≡ first_tree a (first_tree b c)
first_of_three None b c = refl
first_of_three (Some d) b c = refl

-- a run that stands behind others is asked before them
pub among_last : (runs : List Run) (run : Run) (t : List ℕ) (file : File) → tree_among (runs ++ run ∷ []) t file ≡ gathered_at runs run t file
among_last [] run t file = first_none (run_tree run t file)
among_last (r ∷ runs) run t file =
    ap (λ o. first_tree o (run_tree r t file)) (among_last runs run t file) ∙ first_of_three (run_tree run t file) (tree_among runs t file) (run_tree r t file)

-- a run of no documents has none for a text
pub empty_run : (run : Run) → ((file : File) → tree_in run.documents file ≡ None) → (t : List ℕ) (file : File) → run_tree run t file ≡ None
empty_run run none t file = by (bytes_eq (string_bytes run.path) t)
  where
    by : (b : Bool) → cond b (tree_in run.documents file) None ≡ None
    by true = none file
    by false = refl

-- so at first nothing is gathered
pub nothing_gathered : (runs : List Run) (run : Run) → runs ≡ [] → ((file : File) → tree_in run.documents file ≡ None) → (t : List ℕ) (file : File) → gathered_at runs run t file ≡ None
nothing_gathered runs run empty none t file = ap (λ o. first_tree o (tree_among runs t file)) (empty_run run none t file) ∙ ap (λ rs. tree_among rs t file) empty

-- and with a run of no documents begun behind another, what is gathered is the same
pub run_begun : (old new : List Run) (run next : Run) → new ≡ old ++ run ∷ [] → ((file : File) → tree_in next.documents file ≡ None) → (t : List ℕ) (file : File) → gathered_at new next t file ≡ gathered_at old run t file
run_begun old new run next is none t file =
    ap (λ o. first_tree o (tree_among new t file)) (empty_run next none t file) ∙ ap (λ rs. tree_among rs t file) is ∙ among_last old run t file

-- ---- in the order of paths

module _ {F : Type 0} {g : Mut F (Bor Run × (Bor Run × Unit {0})) Ordering} {f : F} (calls : (f : F) (a : Bor Run × (Bor Run × Unit {0})) (r : Ordering) (f' : F) → Called g f a r f' → r ≡ bytes_cmp (string_bytes a.0.now.path) (string_bytes a.1.0.now.path)) where
  -- the closure compares by paths
  compares : ComparesAs g is_before f
  compares = answers_always g (λ a r. is_lt r ≡ is_before a.0.now a.1.0.now) f (λ f a r f' k. ap is_lt (calls f a r f' k))

  -- what `sort_by` sorted is in the order of paths
  pub runs_sorted : (xs : List Run) → IsSortedByClosure g f xs → IsSortedBy is_before xs
  runs_sorted xs clause = clause is_before (ranks_by nat_list_cmp_total (λ run. string_bytes run.path)) compares

  -- and those of one path stand as they stood
  pub runs_stable : (xs ys : List Run) → IsStableByClosure g f xs ys → IsStableBy is_before xs ys
  runs_stable xs ys clause = clause is_before (ranks_by nat_list_cmp_total (λ run. string_bytes run.path)) compares

-- two runs tie where their paths are equal
tie_is : (x z : Run) → ties is_before x z ≡ bytes_eq (string_bytes x.path) (string_bytes z.path)
tie_is x z =
    ap (λ o. not (is_lt (bytes_cmp (string_bytes x.path) (string_bytes z.path))) && not (is_lt o)) (nat_list_cmp_total.antisymm (string_bytes z.path) (string_bytes x.path))
    ∙ by (bytes_cmp (string_bytes x.path) (string_bytes z.path)) ∙ is_eq-slice_cmp (string_bytes x.path) (string_bytes z.path)
  where
    by : (o : Ordering) → (not (is_lt o) && not (is_lt (ordering_reverse o))) ≡ is_eq o
    by Less = refl
    by Equal = refl
    by Greater = refl

-- what runs have for the path of one, those that tie with it have
among_tied : (x : Run) (runs : List Run) (file : File) → tree_among (filter (ties is_before x) runs) (string_bytes x.path) file ≡ tree_among runs (string_bytes x.path) file
among_tied x [] file = refl
among_tied x (z ∷ runs) file = by (ties is_before x z) refl (among_tied x runs file)
  where
    by : (b : Bool) → ties is_before x z ≡ b → tree_among (filter (ties is_before x) runs) (string_bytes x.path) file ≡ tree_among runs (string_bytes x.path) file
        → tree_among (cond b (z ∷ filter (ties is_before x) runs) (filter (ties is_before x) runs)) (string_bytes x.path) file ≡ tree_among (z ∷ runs) (string_bytes x.path) file
    by true tie rest = ap (λ o. first_tree o (run_tree z (string_bytes x.path) file)) rest
    by false apart rest = rest ∙ first_none (tree_among runs (string_bytes x.path) file) ∙ ap (first_tree (tree_among runs (string_bytes x.path) file)) (sym (other (bytes_eq (string_bytes z.path) (string_bytes x.path)) refl))
      where
        other : (b : Bool) → bytes_eq (string_bytes z.path) (string_bytes x.path) ≡ b → cond b (tree_in z.documents file) None ≡ None
        other false e = refl
        other true e =
            let same = (bytes_eq-Decides (string_bytes z.path) (string_bytes x.path)).0 e in
            absurd (true≢false (sym ((bytes_eq-Decides (string_bytes x.path) (string_bytes z.path)).1 (sym same)) ∙ sym (tie_is x z) ∙ apart))

-- some run has the path, or runs have nothing for it
run_of_path : (t : List ℕ) (runs : List Run) → ((run : Run) × (string_bytes run.path ≡ t)) ⊎ ((file : File) → tree_among runs t file ≡ None)
run_of_path t [] = inr (λ file. refl)
run_of_path t (run ∷ runs) = by (bytes_eq (string_bytes run.path) t) refl (run_of_path t runs)
  where
    by : (b : Bool) → bytes_eq (string_bytes run.path) t ≡ b → ((r : Run) × (string_bytes r.path ≡ t)) ⊎ ((file : File) → tree_among runs t file ≡ None)
        → ((r : Run) × (string_bytes r.path ≡ t)) ⊎ ((file : File) → tree_among (run ∷ runs) t file ≡ None)
    by true e rest = inl (run, (bytes_eq-Decides (string_bytes run.path) t).0 e)
    by false e (inl x) = inl x
    by false e (inr none) = inr (λ file. ap (λ o. first_tree o (run_tree run t file)) (none file) ∙ ap (λ b. cond b (tree_in run.documents file) None) e)

-- sorted by their paths, runs have what they had
pub same_sorted : (xs ys : List Run) → IsStableBy is_before xs ys → (t : List ℕ) (file : File) → tree_among ys t file ≡ tree_among xs t file
same_sorted xs ys stable t file = by (run_of_path t xs) (run_of_path t ys)
  where
    of_one : (run : Run) → string_bytes run.path ≡ t → tree_among ys t file ≡ tree_among xs t file
    of_one run is =
        subst (λ u. tree_among ys u file ≡ tree_among xs u file) is
        (sym (among_tied run ys file) ∙ ap (λ rs. tree_among rs (string_bytes run.path) file) (stable run) ∙ among_tied run xs file)

    by : ((run : Run) × (string_bytes run.path ≡ t)) ⊎ ((file : File) → tree_among xs t file ≡ None) → ((run : Run) × (string_bytes run.path ≡ t)) ⊎ ((file : File) → tree_among ys t file ≡ None)
        → tree_among ys t file ≡ tree_among xs t file
    by (inl x) here = of_one x.0 x.1
    by (inr none) (inl y) = of_one y.0 y.1
    by (inr none) (inr gone) = gone file ∙ sym (none file)

-- ---- runs of one path joined

-- no run stands before one that comes earlier
abbrev pub Rises : List Run → Type 0
Rises [] = Unit {0}
Rises (run ∷ runs) = AllByRecursion (λ y. is_before y run ≡ false) runs × Rises runs

-- runs of which none stands before one that comes earlier rise
rises_of : (runs : List Run) → AllPairs (λ d e. is_before e d ≡ false) runs → Rises runs
rises_of [] all = tt
rises_of (x ∷ xs) all = (
  recursion_from_All (λ y. is_before y x ≡ false) xs (λ k d l. all zero (suc k) d (omega arith) (omega (arith, l))),
  rises_of xs (λ i j d l m. all (suc i) (suc j) d (omega (arith, l)) (omega (arith, m))),
)

-- sorted runs rise
pub sorted_rise : (runs : List Run) → IsSortedBy is_before runs → Rises runs
sorted_rise runs up = rises_of runs (λ i j d l m. sorted_far is_before (ranks_by nat_list_cmp_total (λ run. string_bytes run.path)) runs up i j d (omega (arith, l)) m)

-- no run stands before one of the empty path
not_before_empty : (y run : Run) → string_bytes run.path ≡ [] → is_before y run ≡ false
not_before_empty y run empty = ap (λ t. is_lt (bytes_cmp (string_bytes y.path) t)) empty ∙ by (string_bytes y.path)
  where
    by : (s : List ℕ) → is_lt (bytes_cmp s []) ≡ false
    by [] = refl
    by (b ∷ s) = refl

-- of several runs none stands before one of the empty path
none_before_empty : (runs : List Run) (run : Run) → string_bytes run.path ≡ [] → AllByRecursion (λ y. is_before y run ≡ false) runs
none_before_empty [] run empty = tt
none_before_empty (y ∷ runs) run empty = (not_before_empty y run empty, none_before_empty runs run empty)

-- the paths of runs with one more behind them
paths_last : (runs : List Run) (run : Run) → paths (runs ++ run ∷ []) ≡ paths runs ++ string_bytes run.path ∷ []
paths_last [] run = refl
paths_last (r ∷ runs) run = ap (λ ts. string_bytes r.path ∷ ts) (paths_last runs run)

-- a text below all of several is below one more that is above their last
above_all : (s : List ℕ) (ks : List (List ℕ)) (k l : List ℕ) → AllByRecursion (λ y. bytes_cmp s y ≡ Less) (ks ++ k ∷ []) → bytes_cmp k l ≡ Less → AllByRecursion (λ y. bytes_cmp s y ≡ Less) ((ks ++ k ∷ []) ++ l ∷ [])
above_all s [] k l all less = (all.0, (nat_list_cmp_total.trans s k l all.0 less, tt))
above_all s (x ∷ ks) k l all less = (all.0, above_all s ks k l all.1 less)

-- texts ascend with one more behind them that is above the last
ascend_last : (ks : List (List ℕ)) (k l : List ℕ) → IsStrictlySortedBy bytes_cmp (ks ++ k ∷ []) → bytes_cmp k l ≡ Less → IsStrictlySortedBy bytes_cmp ((ks ++ k ∷ []) ++ l ∷ [])
unfolding IsStrictlySortedBy
ascend_last [] k l up less = ((less, tt), (tt, tt))
ascend_last (x ∷ ks) k l up less = (above_all x ks k l up.0 less, ascend_last ks k l up.1 less)

-- one text ascends
ascend_one : (k : List ℕ) → IsStrictlySortedBy bytes_cmp (k ∷ [])
unfolding IsStrictlySortedBy
ascend_one k = (tt, tt)

-- a text that is not above another, and is another, is below it
below_other : (s t : List ℕ) → is_lt (bytes_cmp t s) ≡ false → s ≢ t → bytes_cmp s t ≡ Less
below_other s t late other = nat_list_cmp_total.antisymm s t ∙ by (bytes_cmp t s) refl late
  where
    by : (o : Ordering) → bytes_cmp t s ≡ o → is_lt o ≡ false → ordering_reverse o ≡ Less
    by Less is h = absurd (true≢false h)
    by Equal is h = absurd (other (sym (same_text t s (ap is_eq is))))
    by Greater is h = refl

-- runs that are left: what all have is what these have, or else those that were joined; the paths of these ascend, and none of those left is before them
pub record IsJoining (runs all : List Run) (run : Run) (left : List Run) : Type 0 where
  pub here : (t : List ℕ) (file : File) → tree_among runs t file ≡ first_tree (tree_among left t file) (gathered_at all run t file)
  pub up : IsStrictlySortedBy bytes_cmp (paths all ++ string_bytes run.path ∷ [])
  pub rises : Rises (run ∷ left)

-- at first all are left
pub none_joined : (runs all : List Run) (run : Run) (left : List Run) → all ≡ [] → string_bytes run.path ≡ [] → ((file : File) → tree_in run.documents file ≡ None) → left ≡ runs → Rises runs → IsJoining runs all run left
none_joined runs all run left empty at none is up = record {
  here = λ t file.
      first_none (tree_among runs t file) ∙ ap (first_tree (tree_among runs t file)) (sym (nothing_gathered all run empty none t file))
      ∙ ap (λ rs. first_tree (tree_among rs t file) (gathered_at all run t file)) (sym is);
  up = subst (λ rs. IsStrictlySortedBy bytes_cmp (paths rs ++ string_bytes run.path ∷ [])) (sym empty) (ascend_one (string_bytes run.path));
  rises = subst (λ rs. Rises (run ∷ rs)) (sym is) (none_before_empty runs run at, up);
}

module _ (runs all new : List Run) (run next now : Run) (left rest : List Run) (is : left ≡ next ∷ rest) (h : IsJoining runs all run left) where
  -- the next run is the first of those left
  before : IsJoining runs all run (next ∷ rest)
  before = subst (IsJoining runs all run) is h

  -- the documents of the next run are gathered
  gathered : ((t : List ℕ) (file : File) → gathered_at new now t file ≡ first_tree (run_tree next t file) (gathered_at all run t file)) → (t : List ℕ) (file : File) → tree_among runs t file ≡ first_tree (tree_among rest t file) (gathered_at new now t file)
  gathered more t file =
      before.here t file ∙ first_of_three (tree_among rest t file) (run_tree next t file) (gathered_at all run t file)
      ∙ ap (first_tree (tree_among rest t file)) (sym (more t file))

  -- what is behind the next is behind the one that has its path
  still : (path : string_bytes now.path ≡ string_bytes next.path) → Rises (now ∷ rest)
  still path = (by rest before.rises.1.0, before.rises.1.1)
    where
      by : (ys : List Run) → AllByRecursion (λ y. is_before y next ≡ false) ys → AllByRecursion (λ y. is_before y now ≡ false) ys
      by [] all = tt
      by (y ∷ ys) all = (ap (λ t. is_lt (bytes_cmp (string_bytes y.path) t)) path ∙ all.0, by ys all.1)

  -- one more is joined
  pub one_joined : IsJoined run next all new now → IsJoining runs new now rest
  one_joined (inl one) = record {
    here = gathered more;
    up = subst (λ rs. IsStrictlySortedBy bytes_cmp (paths rs ++ string_bytes now.path ∷ [])) (sym one.0)
        (subst (λ t. IsStrictlySortedBy bytes_cmp (paths all ++ t ∷ [])) (one.1 ∙ sym one.2) before.up);
    rises = still one.2;
  }
    where
      at : (b : Bool) (file : File) (o : Option Data) → first_tree (cond b (tree_in now.documents file) None) o ≡ first_tree (cond b (tree_in next.documents file) None) (first_tree (cond b (tree_in run.documents file) None) o)
      at true file o = ap (λ x. first_tree x o) (one.3 file) ∙ first_of_three (tree_in next.documents file) (tree_in run.documents file) o
      at false file o = refl

      more : (t : List ℕ) (file : File) → gathered_at new now t file ≡ first_tree (run_tree next t file) (gathered_at all run t file)
      more t file =
          ap (λ rs. gathered_at rs now t file) one.0
          ∙ ap (λ u. first_tree (cond (bytes_eq u t) (tree_in now.documents file) None) (tree_among all t file)) one.2
          ∙ at (bytes_eq (string_bytes next.path) t) file (tree_among all t file)
          ∙ ap (λ u. first_tree (run_tree next t file) (first_tree (cond (bytes_eq u t) (tree_in run.documents file) None) (tree_among all t file))) (sym one.1)
  one_joined (inr two) = record {
    here = gathered (λ t file.
        ap (λ rs. gathered_at rs now t file) two.0 ∙ ap (λ r. gathered_at (all ++ run ∷ []) r t file) two.2
        ∙ ap (first_tree (run_tree next t file)) (among_last all run t file));
    up = subst (λ ts. IsStrictlySortedBy bytes_cmp (ts ++ string_bytes now.path ∷ [])) (sym (ap paths two.0 ∙ paths_last all run))
        (ascend_last (paths all) (string_bytes run.path) (string_bytes now.path) before.up
        (subst (λ (r : Run). bytes_cmp (string_bytes run.path) (string_bytes r.path) ≡ Less) (sym two.2) (below_other (string_bytes run.path) (string_bytes next.path) before.rises.0.0 two.1)));
    rises = still (ap (λ (r : Run). string_bytes r.path) two.2);
  }

-- where none is left, all are joined
module _ (runs all new : List Run) (run : Run) (left : List Run) (is : left ≡ []) (last : new ≡ all ++ run ∷ []) (h : IsJoining runs all run left) where
  -- the runs are joined, and none is left
  done : IsJoining runs all run []
  done = subst (IsJoining runs all run) is h

  -- the joined runs have what all runs have
  pub all_joined : (t : List ℕ) (file : File) → tree_among new t file ≡ tree_among runs t file
  all_joined t file = ap (λ rs. tree_among rs t file) last ∙ among_last all run t file ∙ sym (done.here t file)

  -- the joined runs ascend
  pub joined_ascend : RunsAscend new
  joined_ascend = subst RunsAscend (sym last) (subst (IsStrictlySortedBy bytes_cmp) (sym (paths_last all run)) done.up)

-- a list of no length is empty
pub none_remain : (xs : List Run) (n : ℕ) → n ≡ length xs → n ≡ 0 → xs ≡ []
none_remain [] n e z = refl
none_remain (x ∷ xs) n e z = absurd (omega (arith, e, z))
