-- The first field that must be understood has the least name of those.
use Rattle.std.proofs.Common.{◌≡◌, ℕ, Bool, true, false, List, [], ◌∷◌, Less, Equal, Greater, Ordering, nat_cmp, Option, Some, None, if◌then◌else◌, true≢false, string_bytes, String, Global, refl, sym, ap, ◌∙◌, subst}
use Rattle.std.specs.List.{AllByRecursion}
use Rattle.std.specs.Cmp.Lexicographic.{slice_cmp, nat_list_cmp_total}
use Rattle.std.specs.List.Sorted.{IsStrictlySortedBy}
use Rattle.std.specs.Map.{keys_of}
use Rattle.std.specs.Ordering.{match_ordering, is_le}
use Rattle.std.specs.BTreeMap.Comparable.{le_lt_trans}
use Rattle.std.proofs.lemmas.Cmp.{tied_itself}
use Rattle.std.proofs.lemmas.Map.Text.{is_eq-slice_cmp}
use Rattle.std.proofs.lemmas.Slice.Eq.{bytes_eq-Decides}
use Rattle.std.proofs.Common.{is_eq}
use Rattle.serde_json.specs.Data.{Data, Members, no_members, member}
use Rattle.serde_json.specs.Find.{get_member}
use Rattle.serde_json.specs.View.{members_of}
use Rattle.zarrs_form.specs.Fields.{must_understand}
use Rattle.zarrs_group.proofs.Fields.{first_unsupported}
use Rattle.zarrs_group.specs.UnsupportedFields.{UnsupportedField}
use Rattle.zarrs_group.specs.OpeningGroups.{IsUnsupported, IsLeastUnsupported}

-- a field as the map has it
abbrev Entry : Type 0
Entry = String Global × Data

-- a field of a name and a value
abbrev field : List ℕ → Data → UnsupportedField
field k d = record { name = k; value = d }

-- texts by their bytes
abbrev cmp : List ℕ → List ℕ → Ordering
cmp = slice_cmp nat_cmp

-- the same of strings
abbrev string_order : String Global → String Global → Ordering
string_order k l = cmp (string_bytes k) (string_bytes l)

-- names that tie are equal
same_name : (k l : List ℕ) → cmp k l ≡ Equal → k ≡ l
same_name k l e = (bytes_eq-Decides k l).0 (sym (is_eq-slice_cmp k l) ∙ ap is_eq e)

-- a name below all of them is not found
below_absent : (q : List ℕ) (es : List Entry) → AllByRecursion (λ k. cmp q (string_bytes k) ≡ Less) (keys_of es) → get_member q (members_of es) ≡ None
below_absent q [] h = refl
below_absent q (e ∷ es) h = let less : cmp q (string_bytes e.0) ≡ Less = h.0 in rw less (below_absent q es h.1)

-- a name below the first is below all of ascending names
further_below : (q : List ℕ) (k : String Global) (ks : List (String Global)) → cmp q (string_bytes k) ≡ Less → AllByRecursion (λ y. string_order k y ≡ Less) ks → AllByRecursion (λ y. cmp q (string_bytes y) ≡ Less) ks
further_below q k [] less h = tt
further_below q k (l ∷ ks) less h = (le_lt_trans nat_list_cmp_total q (string_bytes k) (string_bytes l) (ap is_le less) h.0, further_below q k ks less h.1)

-- none is no value
no_value : (o : Option Data) (d : Data) → o ≡ None → o ≡ Some d → ⊥
no_value o d n s = cc

-- ---- none

-- where a field need not be understood and no later one must, none that is found must
at_none : (o : Ordering) (r : Option Data) (d e : Data) → must_understand d ≡ false → (r ≡ Some e → must_understand e ≡ false) → match_ordering o r (Some d) r ≡ Some e → must_understand e ≡ false
at_none Less r d e own rest h = rest h
at_none Equal r d e own rest h = let same : d ≡ e = cc in subst (λ x. must_understand x ≡ false) same own
at_none Greater r d e own rest h = rest h

-- where the search finds none, no field must be understood
none_of : (ms : Members) → first_unsupported ms ≡ None → (q : List ℕ) (e : Data) → get_member q ms ≡ Some e → must_understand e ≡ false
none_of no_members h q e got = cc
none_of (member k d ms) h q e got =
    let P : Bool → Type 0 = λ b. must_understand d ≡ b → (if b then Some (field k d) else first_unsupported ms) ≡ None → must_understand e ≡ false in
    let all : (b : Bool) → P b = elim [ true ↦ λ own h. cc | false ↦ λ own h. at_none (cmp q k) (get_member q ms) d e own (none_of ms h q e) got ] in
    all (must_understand d) refl h

-- ---- some

-- what is found further on is found, if its name is not the first
at_some : (o : Ordering) (r : Option Data) (d e : Data) → (o ≡ Equal → ⊥) → r ≡ Some e → match_ordering o r (Some d) r ≡ Some e
at_some Less r d e apart h = h
at_some Equal r d e apart h = absurd (apart refl)
at_some Greater r d e apart h = h

-- a field that must be understood is not the first where that one need not be
not_at : (o : Ordering) (r : Option Data) (d e : Data) → must_understand d ≡ false → must_understand e ≡ true → match_ordering o r (Some d) r ≡ Some e → r ≡ Some e
not_at Less r d e own must h = h
not_at Equal r d e own must h = let same : d ≡ e = cc in absurd (true≢false (sym must ∙ ap must_understand (sym same) ∙ own))
not_at Greater r d e own must h = h

-- one field before others whose names are above its own
module _ (e : Entry) (es : List Entry) (above : AllByRecursion (λ y. string_order e.0 y ≡ Less) (keys_of es)) where
  -- where it must be understood it has the least name of those
  here : must_understand e.1 ≡ true → IsLeastUnsupported (members_of (e ∷ es)) (field (string_bytes e.0) e.1)
  here must = record {
    held = let tied : cmp (string_bytes e.0) (string_bytes e.0) ≡ Equal = tied_itself nat_list_cmp_total (string_bytes e.0) in rw tied refl;
    must = must;
    least = λ q d got must' less.
        let gone : get_member q (members_of es) ≡ None = below_absent q es (further_below q e.0 (keys_of es) less above) in
        let got' : match_ordering Less (get_member q (members_of es)) (Some e.1) (get_member q (members_of es)) ≡ Some d = subst (λ o. match_ordering o (get_member q (members_of es)) (Some e.1) (get_member q (members_of es)) ≡ Some d) less got in
        no_value (get_member q (members_of es)) d gone got';
  }

  -- where it need not be understood the least is that of the others
  later : (f : UnsupportedField) → must_understand e.1 ≡ false → IsLeastUnsupported (members_of es) f → IsLeastUnsupported (members_of (e ∷ es)) f
  later f own rest = record {
    held = at_some (cmp f.name (string_bytes e.0)) (get_member f.name (members_of es)) e.1 f.value
        (λ tied.
        let same : f.name ≡ string_bytes e.0 = same_name f.name (string_bytes e.0) tied in
        no_value (get_member f.name (members_of es)) f.value (ap (λ x. get_member x (members_of es)) same ∙ below_absent (string_bytes e.0) es above) rest.held)
        rest.held;
    must = rest.must;
    least = λ q d got must less. rest.least q d (not_at (cmp q (string_bytes e.0)) (get_member q (members_of es)) e.1 d own must got) must less;
  }

-- what the search finds in ascending names has the least name
least_of : (es : List Entry) → IsStrictlySortedBy string_order (keys_of es) → (f : UnsupportedField) → first_unsupported (members_of es) ≡ Some f → IsLeastUnsupported (members_of es) f
unfolding IsStrictlySortedBy
least_of [] s f h = cc
least_of (e ∷ es) s f h =
    let P : Bool → Type 0 = λ b. must_understand e.1 ≡ b → (if b then Some (field (string_bytes e.0) e.1) else first_unsupported (members_of es)) ≡ Some f → IsLeastUnsupported (members_of (e ∷ es)) f in
    let all : (b : Bool) → P b = elim [
      | true ↦ λ own h. let same : field (string_bytes e.0) e.1 ≡ f = cc in subst (IsLeastUnsupported (members_of (e ∷ es))) same (here e es s.0 own)
      | false ↦ λ own h. later e es s.0 f own (least_of es s.1 f h)
    ] in
    all (must_understand e.1) refl h

-- what the search answers in ascending names is the least, or says that none must be understood
pub unsupported_of : (es : List Entry) → IsStrictlySortedBy string_order (keys_of es) → (found : Option UnsupportedField) → found ≡ first_unsupported (members_of es) → IsUnsupported (members_of es) found
unsupported_of es s None h = none_of (members_of es) (sym h)
unsupported_of es s (Some f) h = least_of es s f (sym h)
