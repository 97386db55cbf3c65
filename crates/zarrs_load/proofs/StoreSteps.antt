-- One key more in a store, seen at each key by its text.
use Rattle.std.proofs.Common.{◌≡◌, ℕ, true, false, cond, List, sym, refl, ap, ◌∙◌, subst, Some, is_some}
use Rattle.std.specs.FinMap as map
use Rattle.std.specs.Prelude.{IsTrue}
use Rattle.std.specs.Ordering.{eq_by_cmp}
use Rattle.std.specs.Str.{bytes_eq}
use Rattle.std.proofs.lemmas.Slice.Eq.{bytes_eq-Decides}
use Rattle.zarrs_store.specs.Segments.{Segments, key_cmp, key_text, IsKey}
use Rattle.zarrs_store.specs.Contents.{Values, HasKey}
use Rattle.zarrs_store.proofs.ChildLemmas.{key_cmp_total, key_cmp-IsAntisymmetric}
use Rattle.zarrs_store.proofs.EntryLemmas.{equal_of}
use Rattle.zarrs_store.proofs.Cuts.{key_text-injective}
use Rattle.zarrs_store.proofs.ContentsLemmas.{get_inserted, AgreesExceptAt-insert}

-- a key that was set has the value, and every other key what it had
pub at_key : (S : Values) (key other : Segments) (v : List ℕ) → IsKey key → IsKey other
    → map.get (map.insert S key v) other ≡ cond (bytes_eq (key_text other) (key_text key)) (Some v) (map.get S other)
at_key S key other v hk ho =
    elim (bytes_eq (key_text other) (key_text key)) as (λ b. bytes_eq (key_text other) (key_text key) ≡ b → map.get (map.insert S key v) other ≡ cond b (Some v) (map.get S other)) [
      | true ↦ λ e. subst (λ k. map.get (map.insert S key v) k ≡ Some v) (key_text-injective key other hk ho (sym ((bytes_eq-Decides (key_text other) (key_text key)).0 e))) (get_inserted S key v)
      | false ↦ λ e. AgreesExceptAt-insert S key v other (λ (same : other ≡ key). let tie : bytes_eq (key_text other) (key_text key) ≡ true = (bytes_eq-Decides (key_text other) (key_text key)).1 (ap key_text same) in let no : true ≡ false = sym tie ∙ e in cc no)
    ] refl

-- what the store has beside that key, it had before
pub keys_more : (S : Values) (key : Segments) (v : List ℕ) → IsKey key → ((other : Segments) → HasKey S other → IsKey other)
    → (other : Segments) → HasKey (map.insert S key v) other → IsKey other
keys_more S key v hk held other has =
    elim (eq_by_cmp key_cmp other key) as (λ b. eq_by_cmp key_cmp other key ≡ b → IsKey other) [
      | true ↦ λ e. subst IsKey (sym (key_cmp-IsAntisymmetric other key (equal_of _ e))) hk
      | false ↦ λ e. held other (subst (λ o. IsTrue (is_some o)) (map.get-insert key_cmp_total S key v other ∙ ap (λ b. cond b (Some v) (map.get S other)) e) has)
    ] refl
