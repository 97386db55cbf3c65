-- The loop over an image's members.
use Rattle.std.proofs.Common.{◌≡◌, ℕ, Bool, true, false, cond, List, [], ◌∷◌, ◌++◌, Option, Some, None, String, Global, string_bytes, string_cmp, nat_cmp, is_eq, is_some, Less, sym, refl, ap, ◌∙◌, subst, append_assoc, append-nil}
use Rattle.std.specs.Prelude.{All, option_and_then, option_map, IsSome, IsTrue}
use Rattle.std.specs.FinMap as map
use Rattle.std.specs.List.{AllByRecursion}
use Rattle.std.specs.List.Sorted.{IsStrictlySortedBy}
use Rattle.std.specs.Map.{lookup, keys_of}
use Rattle.std.specs.Str.{bytes_eq}
use Rattle.std.specs.Cmp.Lexicographic.{slice_cmp, nat_list_eq_equiv}
use Rattle.std.proofs.lemmas.Map.Text.{is_eq-slice_cmp}
use Rattle.std.proofs.lemmas.List.Elements.{All-push, All-nil}
use Rattle.std.proofs.lemmas.Slice.Eq.{bytes_eq-Decides}
use Rattle.serde_json.specs.Data.{Data}
use Rattle.serde_json.specs.Find.{as_str}
use Rattle.serde_json.specs.View.{view, members_view}
use Rattle.serde_json.specs.declared.value.Value.{Value}
use Rattle.zarrs_store.specs.Segments.{Segments, key_cmp, IsKey, IsKeyText, key_text}
use Rattle.zarrs_store.specs.Contents.{Values, HasKey}
use Rattle.zarrs_load.specs.Image.{IsEntry, member_text, member_list, HoldsMembers, IsFirstBad}
use Rattle.zarrs_load.proofs.StoreSteps.{at_key, keys_more}

-- a member of an image: its name and its value
abbrev pub Entry : Type 0
Entry = String Global × Value

-- the members by their names and data
abbrev pub seen : List Entry → List (List ℕ × Data)
seen es = member_list (members_view es)

-- the members of two lists after one another
pub seen-append : (xs ys : List Entry) → seen (xs ++ ys) ≡ seen xs ++ seen ys
seen-append [] ys = refl
seen-append (x ∷ xs) ys = ap (λ (l : List (List ℕ × Data)). (string_bytes x.0, view x.1) ∷ l) (seen-append xs ys)

-- the store after the members before the rest
pub record HoldsSoFar (all rest : List Entry) (store : Values) : Type 0 where
  pub done : List Entry
  pub splits : all ≡ done ++ rest
  pub holds : HoldsMembers (seen done) store

-- a key above those before it is not among them
differs_below : (xs ys : List ℕ) → slice_cmp nat_cmp xs ys ≡ Less → bytes_eq ys xs ≡ false
differs_below xs ys below = nat_list_eq_equiv.symm ys xs ∙ sym (is_eq-slice_cmp xs ys) ∙ ap is_eq below

-- the first member is below one further on
below_middle : (x : Entry) (done : List Entry) (e : Entry) (more : List Entry) → AllByRecursion (λ y. string_cmp x.0 y ≡ Less) (keys_of (done ++ e ∷ more)) → string_cmp x.0 e.0 ≡ Less
below_middle x [] e more h = h.0
below_middle x (y ∷ done) e more h = below_middle x done e more h.1

-- the name of a member is not among those before it
pub absent_before : (done : List Entry) (e : Entry) (more : List Entry) → IsStrictlySortedBy string_cmp (keys_of (done ++ e ∷ more))
    → lookup (bytes_eq (string_bytes e.0)) (seen done) ≡ None
unfolding IsStrictlySortedBy
absent_before [] e more h = refl
absent_before (x ∷ done) e more h =
    let other : bytes_eq (string_bytes e.0) (string_bytes x.0) ≡ false = differs_below (string_bytes x.0) (string_bytes e.0) (below_middle x done e more h.0) in
    rw other (absent_before done e more h.1)

-- the text of the one member
at_last : (b : Bool) (d : Data) (text : List ℕ) → as_str d ≡ Some text → option_and_then as_str (cond b (Some d) None) ≡ cond b (Some text) None
at_last true d text is = is
at_last false d text is = refl

-- a member that is not last, over what is found later
push_past : (b a : Bool) (d : Data) (later old : Option Data) (text : List ℕ) → (a ≡ true → cond b (Some d) old ≡ None)
    → ((a ≡ true → old ≡ None) → option_and_then as_str later ≡ cond a (Some text) (option_and_then as_str old))
    → option_and_then as_str (cond b (Some d) later) ≡ cond a (Some text) (option_and_then as_str (cond b (Some d) old))
push_past true true d later old text new step = let none : Some d ≡ None = new refl in cc none
push_past true false d later old text new step = refl
push_past false a d later old text new step = step new

-- one more member at the end, with a new name
pub text_at-push : (name : List ℕ) (ms : List (List ℕ × Data)) (last : List ℕ) (d : Data) (text : List ℕ) → as_str d ≡ Some text
    → (bytes_eq name last ≡ true → lookup (bytes_eq name) ms ≡ None) → member_text name (ms ++ (last, d) ∷ []) ≡ cond (bytes_eq name last) (Some text) (member_text name ms)
text_at-push name [] last d text is new = at_last (bytes_eq name last) d text is
text_at-push name (m ∷ ms) last d text is new = push_past (bytes_eq name m.0) (bytes_eq name last) m.1 _ _ text new (text_at-push name ms last d text is)

-- one more good member at the end
push_entry : (ms : List (List ℕ × Data)) (name : List ℕ) (value : Data) → All IsEntry ms → IsKeyText name → IsSome (as_str value) → All IsEntry (ms ++ (name, value) ∷ [])
push_entry ms name value good key text = All-push IsEntry ms (name, value) good (key, text)

-- a text that is there is some text
some_text : (o : Option (List ℕ)) (text : List ℕ) → o ≡ Some text → IsSome o
some_text o text is = rw is

-- no text was taken where none is
pub no_text : {T : Type 0} (text : T → List ℕ) (taken : Option T) (o : Option (List ℕ)) → taken ≡ None → option_map text taken ≡ o → IsSome o → ⊥
no_text text taken o none is some = let gone : None ≡ o = rw none at is in let no : IsSome {T = List ℕ} None = subst IsSome (sym gone) some in cc no

-- before the first member
pub holds_none : (all : List Entry) (store : Values) → store ≡ map.empty → HoldsSoFar all all store
holds_none all store is = rw is (record {
  done = [];
  splits = refl;
  holds = record { entries = All-nil IsEntry; same = λ key h. map.get-empty key_cmp key; keys = λ key has. let none : is_some (map.get (map.empty {X = List ℕ} {R = key_cmp}) key) ≡ false = ap is_some (map.get-empty key_cmp key) in let no : IsTrue false = subst (λ b. IsTrue b) none has in cc no };
})

module _ {all rest : List Entry} {store : Values} (so_far : HoldsSoFar all rest store) (next : List Entry) (e : Entry) (first : rest ≡ e ∷ next) where
  -- the members are those before, the member at hand, and those after it
  splits_here : all ≡ so_far.done ++ e ∷ next
  splits_here = so_far.splits ∙ ap (λ (r : List Entry). so_far.done ++ r) first

  -- the member at hand is the first that may be bad
  first_bad : IsFirstBad (seen all) (string_bytes e.0) (view e.1)
  first_bad = record {
    before = seen so_far.done;
    after = seen next;
    splits = ap seen splits_here ∙ seen-append so_far.done (e ∷ next);
    good = so_far.holds.entries;
  }

  -- the member at hand is the first that may be bad, also by a copy of its name
  pub first_bad_copy : (name : List ℕ) → name ≡ string_bytes e.0 → IsFirstBad (seen all) name (view e.1)
  first_bad_copy name same = subst (λ n. IsFirstBad (seen all) n (view e.1)) (sym same) first_bad

  -- a good member, stored, leaves the members after it
  pub holds_more : IsStrictlySortedBy string_cmp (keys_of all) → IsKeyText (string_bytes e.0) → (text : List ℕ) → as_str (view e.1) ≡ Some text
      → (key : Segments) → IsKey key → key_text key ≡ string_bytes e.0 → (new : Values) → new ≡ map.insert store key text
      → HoldsSoFar all next new
  holds_more sorted named text is key valid key_is new sets =
      let sorted' : IsStrictlySortedBy string_cmp (keys_of (so_far.done ++ e ∷ next)) = rw splits_here at sorted in
      let absent : lookup (bytes_eq (string_bytes e.0)) (seen so_far.done) ≡ None = absent_before so_far.done e next sorted' in
      record {
        done = so_far.done ++ e ∷ [];
        splits = splits_here ∙ sym (append_assoc so_far.done (e ∷ []) next);
        holds = record {
          entries = rw (seen-append so_far.done (e ∷ [])) (push_entry (seen so_far.done) _ _ so_far.holds.entries named (some_text _ text is));
          same = λ other h.
              let name = key_text other in
              let new_name = λ (h : bytes_eq name (string_bytes e.0) ≡ true). subst (λ (k : List ℕ). lookup (bytes_eq k) (seen so_far.done) ≡ None) (sym ((bytes_eq-Decides name (string_bytes e.0)).0 h)) absent in
              ap (λ s. map.get s other) sets ∙ at_key store key other text valid h
              ∙ ap (λ k. cond (bytes_eq name k) (Some text) (map.get store other)) key_is
              ∙ ap (λ o. cond (bytes_eq name (string_bytes e.0)) (Some text) o) (so_far.holds.same other h)
              ∙ sym (text_at-push name (seen so_far.done) (string_bytes e.0) (view e.1) text is new_name)
              ∙ sym (ap (member_text name) (seen-append so_far.done (e ∷ [])));
          keys = λ other has. keys_more store key text valid so_far.holds.keys other (subst (λ s. HasKey s other) sets has);
        };
      }

-- after the last member
pub holds_all : (all rest : List Entry) (store : Values) → HoldsSoFar all rest store → rest ≡ [] → HoldsMembers (seen all) store
holds_all all rest store so_far none =
    subst (λ es. HoldsMembers (seen es) store) (sym (append-nil so_far.done) ∙ ap (λ r. so_far.done ++ r) (sym none) ∙ sym so_far.splits) so_far.holds
