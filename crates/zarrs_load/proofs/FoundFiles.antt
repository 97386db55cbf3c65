-- Files that a walk has found, and the store that they make.
use Rattle.std.proofs.Common.{◌≡◌, ℕ, true, false, cond, List, [], ◌∷◌, ◌++◌, Some, IfSome, Vec, Global, IsPermutation, sym, refl, ap, ◌∙◌, subst}
use Rattle.std.specs.FinMap as map
use Rattle.std.specs.Ordering.{eq_by_cmp}
use Rattle.std.proofs.lemmas.List.Elements.{All-head, All-push, All-rest}
use Rattle.std.proofs.lemmas.List.Sorted.{All-permutation}
use Rattle.zarrs_store.specs.Segments.{Segments, key_cmp, key_text}
use Rattle.zarrs_store.specs.Contents.{Values}
use Rattle.zarrs_store.proofs.ChildLemmas.{key_cmp_total, key_cmp-IsAntisymmetric}
use Rattle.zarrs_store.proofs.EntryLemmas.{equal_of}
use Rattle.zarrs_store.proofs.ContentsLemmas.{get_inserted}
use Rattle.zarrs_load.specs.Folder.{HoldsDocumentsAlone, IsFound}
use Rattle.zarrs_load.specs.StepsOfLoading.{AreFound}

-- a file with its key and its bytes
abbrev pub File : Type 0
File = Segments × Vec ℕ Global

-- the bytes are those of a file whose names are the text of the key
abbrev pub Found : File → Type 0
Found f = IsFound (key_text f.0) f.1.items

-- one file more
pub one_more : (files more : List File) (f : File) → more ≡ files ++ f ∷ [] → Found f → AreFound files → AreFound more
one_more files more f is found all = subst AreFound (sym is) (All-push Found files f all found)

-- the same files in another order
pub in_order : (files sorted items : List File) → IsPermutation files sorted → items ≡ sorted → AreFound files → AreFound items
in_order files sorted items same is all = subst AreFound (sym is) (All-permutation Found files sorted same all)

-- the first of what is left, and the rest
pub first_found : (items left : List File) (f : File) → items ≡ f ∷ left → AreFound items → Found f
first_found items left f is all = All-head Found f left (subst AreFound is all)

-- where all files were found, those behind the first were
pub rest_found : (items left : List File) (f : File) → items ≡ f ∷ left → AreFound items → AreFound left
rest_found items left f is all = All-rest Found f left items is all

-- the empty store
pub holds_none : (S : Values) → S ≡ map.empty → HoldsDocumentsAlone S
holds_none S is key =
    subst (λ s. IfSome (map.get s key) (IsFound (key_text key))) (sym is) (subst (λ r. IfSome r (IsFound (key_text key))) (sym (map.get-empty key_cmp key)) tt)

-- a store with one file more
pub holds_more : (S after : Values) (f : File) → after ≡ map.insert S f.0 f.1.items → Found f → HoldsDocumentsAlone S → HoldsDocumentsAlone after
holds_more S after f is found held other =
    subst (λ s. IfSome (map.get s other) (IsFound (key_text other))) (sym is) (
    elim (eq_by_cmp key_cmp other f.0) as (λ b. eq_by_cmp key_cmp other f.0 ≡ b → IfSome (map.get (map.insert S f.0 f.1.items) other) (IsFound (key_text other))) [
      | true ↦ λ e. subst (λ o. IfSome (map.get (map.insert S f.0 f.1.items) o) (IsFound (key_text o))) (sym (key_cmp-IsAntisymmetric other f.0 (equal_of _ e)))
          (subst (λ r. IfSome r (IsFound (key_text f.0))) (sym (get_inserted S f.0 f.1.items)) found)
      | false ↦ λ e. subst (λ r. IfSome r (IsFound (key_text other))) (sym (map.get-insert key_cmp_total S f.0 f.1.items other ∙ ap (λ b. cond b (Some f.1.items) (map.get S other)) e)) (held other)
    ] refl
    )
