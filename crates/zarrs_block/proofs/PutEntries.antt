-- Metadata put into a block, and what the block then has at a text.
use Rattle.std.proofs.Common.{◌≡◌, ℕ, Bool, true, false, cond, List, [], ◌∷◌, Option, Some, Ordering, Less, Equal, Greater, refl, sym, ap, ◌∙◌, is_eq, true≢false}
use Rattle.std.specs.List.{AllByRecursion}
use Rattle.std.specs.List.Sorted.{IsStrictlySortedBy}
use Rattle.std.specs.Map.{keys_of}
use Rattle.std.specs.Ordering.{match_ordering, ordering_reverse}
use Rattle.std.proofs.lemmas.Cmp.{nat_list_cmp_total}
use Rattle.zarrs_store.specs.Segments.{bytes_cmp}
use Rattle.zarrs_meta.specs.declared.node.NodeMetadata.{NodeMetadata}
use Rattle.zarrs_block.specs.Block.{Block, IsAscending, node_at_key, put}
use Rattle.zarrs_block.proofs.Expansion.{at_itself, same_text}

-- the same test twice is that test once
test_twice : (a : Bool) (m n : NodeMetadata) (o : Option NodeMetadata) → cond a (Some m) o ≡ cond a (Some m) (cond a (Some n) o)
test_twice true m n o = refl
test_twice false m n o = refl

-- two tests that do not both pass stand in either order
tests_turned : (a b : Bool) (m n : NodeMetadata) (o : Option NodeMetadata) → (a ≡ true → b ≡ true → ⊥) → cond b (Some n) (cond a (Some m) o) ≡ cond a (Some m) (cond b (Some n) o)
tests_turned true true m n o apart = absurd (apart refl refl)
tests_turned true false m n o apart = refl
tests_turned false b m n o apart = refl

-- a text that is above another is not that other
not_above_itself : (k s t : List ℕ) → bytes_cmp k s ≡ Greater → is_eq (bytes_cmp t k) ≡ true → is_eq (bytes_cmp t s) ≡ true → ⊥
not_above_itself k s t above one two =
    let same : k ≡ s = sym (same_text t k one) ∙ same_text t s two in
    let tied : is_eq (bytes_cmp k s) ≡ true = ap (λ x. is_eq (bytes_cmp k x)) (sym same) ∙ at_itself k in
    true≢false (sym tied ∙ ap is_eq above)

-- with metadata put at a text a block has these there, and elsewhere what it had
pub found_put : (t k : List ℕ) (m : NodeMetadata) (B : Block) → node_at_key (put k m B) t ≡ cond (is_eq (bytes_cmp t k)) (Some m) (node_at_key B t)
found_put t k m [] = refl
found_put t k m (e ∷ B) = by (bytes_cmp k e.0) refl (found_put t k m B)
  where
    by : (o : Ordering) → bytes_cmp k e.0 ≡ o → node_at_key (put k m B) t ≡ cond (is_eq (bytes_cmp t k)) (Some m) (node_at_key B t)
        → node_at_key (match_ordering o ((k, m) ∷ e ∷ B) ((e.0, m) ∷ B) (e ∷ put k m B)) t ≡ cond (is_eq (bytes_cmp t k)) (Some m) (node_at_key (e ∷ B) t)
    by Less is h = refl
    by Equal is h =
        let same : k ≡ e.0 = same_text k e.0 (ap is_eq is) in
        test_twice (is_eq (bytes_cmp t e.0)) m e.1 (node_at_key B t) ∙ ap (λ x. cond (is_eq (bytes_cmp t x)) (Some m) (cond (is_eq (bytes_cmp t e.0)) (Some e.1) (node_at_key B t))) (sym same)
    by Greater is h =
        ap (λ o. cond (is_eq (bytes_cmp t e.0)) (Some e.1) o) h
        ∙ tests_turned (is_eq (bytes_cmp t k)) (is_eq (bytes_cmp t e.0)) m e.1 (node_at_key B t) (not_above_itself k e.0 t is)

-- ---- the order of the keys

-- a text before all keys and before one more is before all of them
below_put : (s k : List ℕ) (m : NodeMetadata) (B : Block) → bytes_cmp s k ≡ Less → AllByRecursion (λ y. bytes_cmp s y ≡ Less) (keys_of B) → AllByRecursion (λ y. bytes_cmp s y ≡ Less) (keys_of (put k m B))
below_put s k m [] less h = (less, tt)
below_put s k m (e ∷ B) less h = by (bytes_cmp k e.0) (below_put s k m B less h.1)
  where
    by : (o : Ordering) → AllByRecursion (λ y. bytes_cmp s y ≡ Less) (keys_of (put k m B)) → AllByRecursion (λ y. bytes_cmp s y ≡ Less) (keys_of (match_ordering o ((k, m) ∷ e ∷ B) ((e.0, m) ∷ B) (e ∷ put k m B)))
    by Less rest = (less, h)
    by Equal rest = h
    by Greater rest = (h.0, rest)

-- what is after a text is after what is before that
pub before_all : (k s : List ℕ) (ks : List (List ℕ)) → bytes_cmp k s ≡ Less → AllByRecursion (λ y. bytes_cmp s y ≡ Less) ks → AllByRecursion (λ y. bytes_cmp k y ≡ Less) ks
before_all k s [] less h = tt
before_all k s (x ∷ ks) less h = (nat_list_cmp_total.trans k s x less h.0, before_all k s ks less h.1)

-- the keys still ascend
pub put_ascends : (k : List ℕ) (m : NodeMetadata) (B : Block) → IsAscending B → IsAscending (put k m B)
unfolding IsStrictlySortedBy
put_ascends k m [] up = (tt, tt)
put_ascends k m (e ∷ B) up = by (bytes_cmp k e.0) refl (put_ascends k m B up.1)
  where
    by : (o : Ordering) → bytes_cmp k e.0 ≡ o → IsAscending (put k m B) → IsAscending (match_ordering o ((k, m) ∷ e ∷ B) ((e.0, m) ∷ B) (e ∷ put k m B))
    by Less is rest = ((is, before_all k e.0 (keys_of B) is up.0), up)
    by Equal is rest = up
    by Greater is rest = (below_put e.0 k m B (nat_list_cmp_total.antisymm e.0 k ∙ ap ordering_reverse is) up.0, rest)

-- no keys ascend
pub none_ascend : IsAscending []
unfolding IsStrictlySortedBy
none_ascend = tt
