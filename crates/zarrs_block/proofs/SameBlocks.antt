-- Two blocks with the same entries.
use Rattle.std.proofs.Common.{◌≡◌, ◌↔◌, ℕ, Bool, true, false, cond, List, [], ◌∷◌, Some, None, Ordering, Less, Equal, Greater, refl, sym, ap, subst, ◌∙◌, is_eq, unwrap_or}
use Rattle.std.specs.List.{AllByRecursion}
use Rattle.std.specs.List.Sorted.{IsStrictlySortedBy}
use Rattle.std.specs.Map.{keys_of}
use Rattle.std.specs.Ordering.{ordering_reverse}
use Rattle.std.proofs.lemmas.Cmp.{nat_list_cmp_total}
use Rattle.zarrs_store.specs.Segments.{bytes_cmp}
use Rattle.zarrs_meta.specs.declared.node.NodeMetadata.{NodeMetadata}
use Rattle.zarrs_block.specs.Block.{Block, IsAscending, node_at_key}
use Rattle.zarrs_block.proofs.Expansion.{at_itself, same_text}
use Rattle.zarrs_block.proofs.CutOut.{none_some}
use Rattle.zarrs_block.proofs.PutEntries.{before_all}

-- what stands before all keys is not found
none_found : (t : List ℕ) (B : Block) → AllByRecursion (λ y. bytes_cmp t y ≡ Less) (keys_of B) → node_at_key B t ≡ None
none_found t [] h = refl
none_found t (e ∷ B) h = ap (λ o. cond (is_eq o) (Some e.1) (node_at_key B t)) h.0 ∙ none_found t B h.1

-- the first of the keys of one block is not before those of another with the same entries
not_before : (x y : List ℕ × NodeMetadata) (B C : Block) → ((m : NodeMetadata) → node_at_key (x ∷ B) x.0 ≡ Some m → node_at_key (y ∷ C) x.0 ≡ Some m) → AllByRecursion (λ k. bytes_cmp y.0 k ≡ Less) (keys_of C) → bytes_cmp x.0 y.0 ≡ Less → ⊥
not_before x y B C same up less =
    none_some x.1 (sym (none_found x.0 (y ∷ C) (less, before_all x.0 y.0 (keys_of C) less up)) ∙ same x.1 (ap (λ t. cond t (Some x.1) (node_at_key B x.0)) (at_itself x.0)))

-- two blocks whose keys ascend, with the same entries, are one
pub one_block : (B C : Block) → IsAscending B → IsAscending C → ((t : List ℕ) (m : NodeMetadata) → (node_at_key B t ≡ Some m) ↔ (node_at_key C t ≡ Some m)) → B ≡ C
unfolding IsStrictlySortedBy
one_block [] [] up high same = refl
one_block [] (y ∷ C) up high same = absurd (none_some y.1 ((same y.0 y.1).1 (ap (λ t. cond t (Some y.1) (node_at_key C y.0)) (at_itself y.0))))
one_block (x ∷ B) [] up high same = absurd (none_some x.1 ((same x.0 x.1).0 (ap (λ t. cond t (Some x.1) (node_at_key B x.0)) (at_itself x.0))))
one_block (x ∷ B) (y ∷ C) up high same = by (bytes_cmp x.0 y.0) refl (one_block B C up.1 high.1)
  where
    by : (o : Ordering) → bytes_cmp x.0 y.0 ≡ o → (((t : List ℕ) (m : NodeMetadata) → (node_at_key B t ≡ Some m) ↔ (node_at_key C t ≡ Some m)) → B ≡ C) → x ∷ B ≡ y ∷ C
    by Less less again = absurd (not_before x y B C (λ m. (same x.0 m).0) high.0 less)
    by Greater more again = absurd (not_before y x C B (λ m. (same y.0 m).1) up.0 (nat_list_cmp_total.antisymm y.0 x.0 ∙ ap ordering_reverse more))
    by Equal tied again =
        let key : x.0 ≡ y.0 = same_text x.0 y.0 (ap is_eq tied) in
        let here : node_at_key (x ∷ B) x.0 ≡ Some x.1 = ap (λ t. cond t (Some x.1) (node_at_key B x.0)) (at_itself x.0) in
        let there : node_at_key (y ∷ C) x.0 ≡ Some y.1 = ap (λ t. cond t (Some y.1) (node_at_key C x.0)) (ap is_eq tied) in
        let value : x.1 ≡ y.1 = ap (λ o. unwrap_or o x.1) (sym ((same x.0 x.1).0 here) ∙ there) in
        λ i. (key i, value i) ∷ again (λ t m. rest key t m) i
      where
        -- the other entries are the same
        rest : x.0 ≡ y.0 → (t : List ℕ) (m : NodeMetadata) → (node_at_key B t ≡ Some m) ↔ (node_at_key C t ≡ Some m)
        rest key t m = (
          λ h. past C y.0 y.1 t m (λ at. none_some m (sym (none_found t B (subst (λ k. AllByRecursion (λ z. bytes_cmp k z ≡ Less) (keys_of B)) (key ∙ sym (same_text t y.0 at)) up.0)) ∙ h))
              ((same t m).0 (put_before B x.0 x.1 t m (λ at. none_some m (sym (none_found t B (subst (λ k. AllByRecursion (λ z. bytes_cmp k z ≡ Less) (keys_of B)) (sym (same_text t x.0 at)) up.0)) ∙ h)) h)),
          λ h. past B x.0 x.1 t m (λ at. none_some m (sym (none_found t C (subst (λ k. AllByRecursion (λ z. bytes_cmp k z ≡ Less) (keys_of C)) (sym key ∙ sym (same_text t x.0 at)) high.0)) ∙ h))
              ((same t m).1 (put_before C y.0 y.1 t m (λ at. none_some m (sym (none_found t C (subst (λ k. AllByRecursion (λ z. bytes_cmp k z ≡ Less) (keys_of C)) (sym (same_text t y.0 at)) high.0)) ∙ h)) h)),
        )
          where
            -- behind an entry that is not at the text
            past : (D : Block) (k : List ℕ) (n : NodeMetadata) (t : List ℕ) (m : NodeMetadata) → (is_eq (bytes_cmp t k) ≡ true → ⊥) → node_at_key ((k, n) ∷ D) t ≡ Some m → node_at_key D t ≡ Some m
            past D k n t m other h = off (is_eq (bytes_cmp t k)) refl h
              where
                off : (z : Bool) → is_eq (bytes_cmp t k) ≡ z → cond z (Some n) (node_at_key D t) ≡ Some m → node_at_key D t ≡ Some m
                off true at g = absurd (other at)
                off false at g = g

            put_before : (D : Block) (k : List ℕ) (n : NodeMetadata) (t : List ℕ) (m : NodeMetadata) → (is_eq (bytes_cmp t k) ≡ true → ⊥) → node_at_key D t ≡ Some m → node_at_key ((k, n) ∷ D) t ≡ Some m
            put_before D k n t m other h = off (is_eq (bytes_cmp t k)) refl
              where
                off : (z : Bool) → is_eq (bytes_cmp t k) ≡ z → cond z (Some n) (node_at_key D t) ≡ Some m
                off true at = absurd (other at)
                off false at = h
