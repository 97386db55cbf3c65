-- Lemmas on lists of members.
use Rattle.std.proofs.Common.{◌≡◌, ℕ, zero, suc, ◌+◌, ◌<◌, List, [], ◌∷◌, ◌++◌, get_or, take, OnOk, OnErr, Bool, true, false, map, ◌||◌, if◌then◌else◌, String, Global, string_bytes, string_cmp, nat_cmp, Less, Equal, Greater, Ordering, Option, Some, None, Err, Result, Ok, IfOk, length, arith, cond, is_eq, refl, ap, sym, ◌∙◌}
use Rattle.std.specs.List.{list_any, AllByRecursion, AllZip}
use Rattle.std.specs.List.Sorted.{IsStrictlySortedBy}
use Rattle.std.specs.Map.{keys_of, lookup}
use Rattle.std.specs.BTreeMap.{insert_entry, is_at}
use Rattle.serde_json.specs.Find.{get_member}
use Rattle.std.specs.Ordering.{match_ordering, ordering_reverse}
use Rattle.std.specs.Cmp.Lexicographic.{slice_cmp}
use Rattle.std.proofs.lemmas.Cmp.{nat_list_cmp_total}
use Rattle.serde_json.specs.Data.{Data, Members, member, put}
use Rattle.serde_json.specs.View.{view, members_of, members_view}
use Rattle.serde_json.proofs.Views.{Entry}
use Rattle.zarrs_form.specs.Documents.{tree_or_fault, json_of}
use Rattle.zarrs_fault.specs.declared.fault.MetadataFault.TheVariants.{NotJson}
use Rattle.serde_json.specs.Read.{read}
use Rattle.std.specs.Str.{IsUtf8, is_utf8}
use Rattle.std.proofs.lemmas.Str.{IsUtf8-from_is_utf8}

-- some item, changed, passes a test just where some item of the changed list passes it
pub list_any-map : {X Y : Type 0} (p : Y → Bool) (f : X → Y) (xs : List X) → list_any p (map f xs) ≡ list_any (λ x. p (f x)) xs
list_any-map p f [] = refl
list_any-map p f (x ∷ xs) = ap (λ b. p (f x) || b) (list_any-map p f xs)

-- an entry of a map's clone has the name and the data of the entry that it is cloned from
abbrev pub IsCopyOf : Entry → Entry → Type 0
IsCopyOf e f = (string_bytes f.0 ≡ string_bytes e.0) × (view f.1 ≡ view e.1)

-- a map's clone, where the values are data themselves
abbrev pub IsCopy : String Global × Data → String Global × Data → Type 0
IsCopy e f = (string_bytes f.0 ≡ string_bytes e.0) × (f.1 ≡ e.1)

-- a map's clone, where the values are data themselves, has the same members
pub members_of-clone : (es fs : List (String Global × Data)) → AllZip IsCopy es fs → members_of fs ≡ members_of es
members_of-clone [] [] h = refl
members_of-clone [] (f ∷ fs) h = absurd h
members_of-clone (e ∷ es) [] h = absurd h
members_of-clone (e ∷ es) (f ∷ fs) h = λ i. member (h.0.0 i) (h.0.1 i) (members_of-clone es fs h.1 i)

-- a map's clone has the same members
pub members_view-clone : (es fs : List Entry) → AllZip IsCopyOf es fs → members_view fs ≡ members_view es
members_view-clone [] [] h = refl
members_view-clone [] (f ∷ fs) h = absurd h
members_view-clone (e ∷ es) [] h = absurd h
members_view-clone (e ∷ es) (f ∷ fs) h = λ i. member (h.0.0 i) (h.0.1 i) (members_view-clone es fs h.1 i)

-- the members of the entries that an order chooses are those that it chooses of their members
members_of-match_ordering : (o : Ordering) (a b c : List (String Global × Data)) → members_of (match_ordering o a b c) ≡ match_ordering o (members_of a) (members_of b) (members_of c)
members_of-match_ordering Less a b c = refl
members_of-match_ordering Equal a b c = refl
members_of-match_ordering Greater a b c = refl

-- an entry that is inserted into a map is put among its members
pub members_of-insert_entry : (es : List (String Global × Data)) (k : String Global) (d : Data) → members_of (insert_entry string_cmp es k d) ≡ put (string_bytes k) d (members_of es)
members_of-insert_entry [] k d = refl
members_of-insert_entry (e ∷ es) k d = members_of-match_ordering (string_cmp k e.0) _ _ _ ∙ rw (members_of-insert_entry es k d)

-- ---- an object, entry by entry; `see` says what its values are

-- the members that entries are, where `see` says what their values are
abbrev pub members_by : {X : Type 0} → (X → Data) → List (String Global × X) → Members
members_by see es = members_of (map (λ m. (m.0, see m.1)) es)

-- where `see` says each value itself, the members are those of the entries
pub members_by_itself : (es : List (String Global × Data)) → members_by (λ d. d) es ≡ members_of es
members_by_itself [] = refl
members_by_itself (e ∷ es) = ap (member (string_bytes e.0) e.1) (members_by_itself es)

module _ {X : Type 0} where
  -- a key below all keys of some entries is below that of an entry among them
  below_middle : (first : String Global × X) (es : List (String Global × X)) (e : String Global × X) (more : List (String Global × X)) → AllByRecursion (λ y. string_cmp first.0 y ≡ Less) (keys_of (es ++ e ∷ more)) → string_cmp first.0 e.0 ≡ Less
  below_middle first [] e more h = h.0
  below_middle first (x ∷ es) e more h = below_middle first es e more h.1

  -- a key that stands later is above the first
  pub above_first : (first : String Global × X) (es : List (String Global × X)) (e : String Global × X) (more : List (String Global × X)) → AllByRecursion (λ y. string_cmp first.0 y ≡ Less) (keys_of (es ++ e ∷ more)) → slice_cmp nat_cmp (string_bytes e.0) (string_bytes first.0) ≡ Greater
  above_first first es e more h = nat_list_cmp_total.antisymm (string_bytes e.0) (string_bytes first.0) ∙ ap ordering_reverse (below_middle first es e more h)

module _ {X : Type 0} (see : X → Data) where
  -- a key that is above those before it goes last
  pub put_last : (done : List (String Global × X)) (e : String Global × X) (more : List (String Global × X)) → IsStrictlySortedBy string_cmp (keys_of (done ++ e ∷ more))
      → put (string_bytes e.0) (see e.1) (members_by see done) ≡ members_by see (done ++ e ∷ [])
  unfolding IsStrictlySortedBy
  put_last [] e more h = refl
  put_last (first ∷ done) e more h = rw (above_first first done e more h.0) (ap (member (string_bytes first.0) (see first.1)) (put_last done e more h.1))

-- a member whose name is above those before it goes last
pub put_last_of : (done : List (String Global × Data)) (e : String Global × Data) (more : List (String Global × Data)) → IsStrictlySortedBy string_cmp (keys_of (done ++ e ∷ more))
    → put (string_bytes e.0) e.1 (members_of done) ≡ members_of (done ++ e ∷ [])
put_last_of done e more h = ap (put (string_bytes e.0) e.1) (sym (members_by_itself done)) ∙ put_last (λ d. d) done e more h ∙ members_by_itself (done ++ e ∷ [])

-- ---- looking up

-- where the rest is the same, a choice by a tie is the choice by all three cases of an order
found_or : (o : Ordering) (d : Data) (rest ds : Option Data) → rest ≡ ds → cond (is_eq o) (Some d) rest ≡ match_ordering o ds (Some d) ds
found_or Less d rest ds e = e
found_or Equal d rest ds e = refl
found_or Greater d rest ds e = e

-- what a map has at a name is what its members have there
pub lookup-members_of : (name : List ℕ) (es : List (String Global × Data)) → lookup (is_at (λ k. slice_cmp nat_cmp name (string_bytes k))) es ≡ get_member name (members_of es)
lookup-members_of name [] = refl
lookup-members_of name (e ∷ es) = found_or (slice_cmp nat_cmp name (string_bytes e.0)) e.1 _ _ (lookup-members_of name es)

-- ---- reading

-- bytes that are no text, or a text that does not read, are no JSON
pub parsed_none : (bytes : List ℕ) → (IsUtf8 bytes → read bytes ≡ None) → tree_or_fault (json_of bytes) ≡ Err NotJson
unfolding json_of
parsed_none bytes h =
    elim (is_utf8 bytes) as (λ b. is_utf8 bytes ≡ b → tree_or_fault (if b then read bytes else None) ≡ Err NotJson) [
      | true ↦ λ e. ap tree_or_fault (h (IsUtf8-from_is_utf8 bytes e))
      | false ↦ λ e. refl
    ] refl

-- what follows of a value from what holds of it, where the answer is good
pub if_ok_then : {A E : Type 0} {P Q : A → Type 0} (r : Result A E) → IfOk r P → ((x : A) → P x → Q x) → IfOk r Q
if_ok_then (Ok x) p f = f x p
if_ok_then (Err e) p f = tt

-- what follows from what holds where the answer is good, or where it is an error
pub on_ok_then : {A E : Type 0} {P Q : Type 0} (r : Result A E) → OnOk r P → (P → Q) → OnOk r Q
on_ok_then (Ok x) p f = f p
on_ok_then (Err e) p f = tt

-- what follows from what holds where the answer is an error
pub on_err_then : {A E : Type 0} {P Q : Type 0} (r : Result A E) → OnErr r P → (P → Q) → OnErr r Q
on_err_then (Ok x) p f = tt
on_err_then (Err e) p f = f p

-- one more of the first items
take_one_more : {X : Type 0} (xs : List X) (i : ℕ) (d : X) → i < length xs → take i xs ++ get_or xs i d ∷ [] ≡ take (suc i) xs
take_one_more [] i d lt = absurd (omega (arith, lt))
take_one_more (x ∷ xs) zero d lt = refl
take_one_more (x ∷ xs) (suc i) d lt = ap (λ ys. x ∷ ys) (take_one_more xs i d (omega (arith, lt)))

-- the first i items and the next one are the first i + 1 items
pub take_next : {X : Type 0} (xs : List X) (i : ℕ) (d : X) → i < length xs → take i xs ++ get_or xs i d ∷ [] ≡ take (i + 1) xs
take_next xs i d lt =
    let same : suc i ≡ i + 1 = omega arith in
    take_one_more xs i d lt ∙ ap (λ n. take n xs) same
