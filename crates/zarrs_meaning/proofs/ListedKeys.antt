-- Keys among those that a listing gave.
use Rattle.std.proofs.Common.{◌≡◌, ◌↔◌, ℕ, ◌+◌, ◌<◌, Bool, true, false, ◌||◌, List, [], ◌∷◌, ◌++◌, length, take, get_or, Contains, IsTrue, sym, ap, subst, ◌∙◌, ◌⊎◌, inl, inr, ⊎_elim, refl, true≢false}
use Rattle.std.proofs.lemmas.List.{take_more}
use Rattle.std.proofs.lemmas.List.Elements.{Contains-push_cases}
use Rattle.zarrs_store.specs.Segments.{Segments}
use Rattle.zarrs_store.specs.Contents.{Contents, HasKey, Lists, IsChildKey}
use Rattle.zarrs_path.specs.Paths.{Path}
use Rattle.zarrs_path.specs.Keys.{zarr_json, zarray, zgroup}
use Rattle.zarrs_meaning.specs.Exists.{HasNodeKey}

-- a key that is neither among the first keys nor the next is not among those up to the next
pub not_yet : (keys : List Segments) (key held : Segments) (i : ℕ) → i < length keys → held ≡ get_or keys i held → (held ≡ key → ⊥) → (Contains (take i keys) key → ⊥) → Contains (take (i + 1) keys) key → ⊥
not_yet keys key held i lt is other before h =
    ⊎_elim before other (Contains-push_cases (take i keys) held key (subst (λ xs. Contains xs key) (sym (ap (λ x. take i keys ++ x ∷ []) is ∙ sym (take_more keys i held lt))) h))

-- a document is in the store where its key is among the keys directly below the path
document_is : (s : Contents) (p base : Path) (keys : List Segments) (f : List ℕ) (k : Segments) (r : Bool) → base ≡ p → Lists (IsChildKey s.values base) keys → k ≡ p ++ f ∷ [] → IsTrue r ↔ Contains keys k → IsTrue r ↔ HasKey s.values (p ++ f ∷ [])
document_is s p base keys f k r same l is h = (
  λ t. let c = h.0 t in subst (HasKey s.values) is (subst (IsChildKey s.values base) c.2 (l.sound c.0 k c.1)).held,
  λ has. h.1 (l.complete k (record { name = f; is = is ∙ ap (λ q. q ++ f ∷ []) (sym same); held = subst (HasKey s.values) (sym is) has })),
)

-- of three tests of which one passes, the first, the second or the third passes
or_any : {A B C : Type 0} (a b c : Bool) → (a || (b || c)) ≡ true → (a ≡ true → A) → (b ≡ true → B) → (c ≡ true → C) → A ⊎ (B ⊎ C)
or_any true b c t f g h = inl (f refl)
or_any false true c t f g h = inr (inl (g refl))
or_any false false c t f g h = inr (inr (h t))

-- where the first, the second or the third of three tests passes, one passes
or_from : {A B C : Type 0} (a b c : Bool) → A ⊎ (B ⊎ C) → (A → a ≡ true) → (B → b ≡ true) → (C → c ≡ true) → (a || (b || c)) ≡ true
or_from true b c h f g k = refl
or_from false true c h f g k = refl
or_from false false c h f g k = ⊎_elim (λ x. absurd (true≢false (sym (f x)))) (⊎_elim (λ x. absurd (true≢false (sym (g x)))) k) h

-- a node has a document where one of its three keys is among the keys directly below its path
pub exists_by : (s : Contents) (p base : Path) (keys : List Segments) → base ≡ p → Lists (IsChildKey s.values base) keys → (k l m : Segments) → k ≡ p ++ zarr_json ∷ [] → l ≡ p ++ zarray ∷ [] → m ≡ p ++ zgroup ∷ []
    → (a b c : Bool) → IsTrue a ↔ Contains keys k → IsTrue b ↔ Contains keys l → IsTrue c ↔ Contains keys m → (r : Bool) → r ≡ (a || (b || c)) → IsTrue r ↔ HasNodeKey s p
exists_by s p base keys same listed k l m ks ls ms a b c ha hb hc r e =
    let v3 = document_is s p base keys zarr_json k a same listed ks ha in
    let array = document_is s p base keys zarray l b same listed ls hb in
    let group = document_is s p base keys zgroup m c same listed ms hc in (
      λ t. or_any a b c (sym e ∙ t) v3.0 array.0 group.0,
      λ h. e ∙ or_from a b c h v3.1 array.1 group.1,
    )
