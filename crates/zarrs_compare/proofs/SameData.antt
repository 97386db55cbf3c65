-- JSON data that pass the test of being the same are equal, and data are the same as themselves. So it is of lists and of what may be absent.
use Rattle.std.proofs.Common.{◌≡◌, ◌==◌, ℕ, List, [], ◌∷◌, Bool, true, false, ◌&&◌, bytes_eq, Option, Some, None, true≢false, refl, ap, sym}
use Rattle.std.specs.Bool.{beq}
use Rattle.std.specs.Float.{Float, nan, inf, fin}
use Rattle.std.specs.Ordering.{int_eq}
use Rattle.std.proofs.lemmas.Bool.{and_parts, eqb-true, eq-eqb}
use Rattle.std.proofs.lemmas.Bool.Decides.{Decides-int_eq}
use Rattle.std.proofs.lemmas.Slice.Eq.{bytes_eq-Decides}
use Rattle.serde_json.specs.Data.{Num, unsigned, negative, float, Data, null, boolean, number, string, array, object, Items, no_items, item, Members, no_members, member}
use Rattle.zarrs_form.proofs.PlainForms.{both_true}
use Rattle.zarrs_compare.specs.StepsOfSame.{same_float, same_number, same_data, same_items, same_members, same_list, same_option}

-- ---- what is the same is equal

-- what is false is not true
pub never : {A : Type 0} → false ≡ true → A
never e = absurd (true≢false (sym e))

-- two truth values that are the same are equal
pub truth_is : (a b : Bool) → beq a b ≡ true → a ≡ b
truth_is true true e = refl
truth_is true false e = never e
truth_is false true e = never e
truth_is false false e = refl

-- two `f64` that are the same are equal
float_is : (x y : Float) → same_float x y ≡ true → x ≡ y
float_is nan nan h = refl
float_is (inf s) (inf t) h = ap inf (truth_is s t h)
float_is (fin s m e) (fin t n d) h =
    let parts = and_parts (beq s t && m == n) (int_eq e d) h in
    let former = and_parts (beq s t) (m == n) parts.0 in
    let sign = truth_is s t former.0 in
    let digits = eqb-true m n former.1 in
    let power = (Decides-int_eq e d).0 parts.1 in
    λ i. fin (sign i) (digits i) (power i)
float_is _ _ h = never h

-- two numbers that are the same are equal
number_is : (m n : Num) → same_number m n ≡ true → m ≡ n
number_is (unsigned m) (unsigned n) e = ap unsigned (eqb-true m n e)
number_is (negative y) (negative z) e = ap negative ((Decides-int_eq y z).0 e)
number_is (float x) (float y) e = ap float (float_is x y e)
number_is _ _ e = never e

mutual
  -- two values that are the same are equal
  pub data_is : (d e : Data) → same_data d e ≡ true → d ≡ e
  data_is null null h = refl
  data_is (boolean a) (boolean b) h = ap boolean (truth_is a b h)
  data_is (number m) (number n) h = ap number (number_is m n h)
  data_is (string s) (string t) h = ap string ((bytes_eq-Decides s t).0 h)
  data_is (array ds) (array es) h = ap array (items_is ds es h)
  data_is (object ms) (object ns) h = ap object (members_is ms ns h)
  data_is _ _ h = never h

  -- items that are the same are equal
  items_is : (ds es : Items) → same_items ds es ≡ true → ds ≡ es
  items_is no_items no_items h = refl
  items_is (item d ds) (item e es) h =
      let parts = and_parts (same_data d e) (same_items ds es) h in
      let first = data_is d e parts.0 in
      let rest = items_is ds es parts.1 in
      λ i. item (first i) (rest i)
  items_is _ _ h = never h

  -- members that are the same are equal
  pub members_is : (ms ns : Members) → same_members ms ns ≡ true → ms ≡ ns
  members_is no_members no_members h = refl
  members_is (member k d ms) (member l e ns) h =
      let parts = and_parts (bytes_eq k l && same_data d e) (same_members ms ns) h in
      let here = and_parts (bytes_eq k l) (same_data d e) parts.0 in
      let name = (bytes_eq-Decides k l).0 here.0 in
      let value = data_is d e here.1 in
      let rest = members_is ms ns parts.1 in
      λ i. member (name i) (value i) (rest i)
  members_is _ _ h = never h

-- lists that are the same are equal, where items are
pub list_is : {A : Type 0} (same : A → A → Bool) → ((x y : A) → same x y ≡ true → x ≡ y) → (xs ys : List A) → same_list same xs ys ≡ true → xs ≡ ys
list_is same each [] [] h = refl
list_is same each (x ∷ xs) (y ∷ ys) h =
    let parts = and_parts (same x y) (same_list same xs ys) h in
    let first = each x y parts.0 in
    let rest = list_is same each xs ys parts.1 in
    λ i. first i ∷ rest i
list_is same each _ _ h = never h

-- what may be absent is equal where it is the same, where values are
pub option_is : {A : Type 0} (same : A → A → Bool) → ((x y : A) → same x y ≡ true → x ≡ y) → (a b : Option A) → same_option same a b ≡ true → a ≡ b
option_is same each None None h = refl
option_is same each (Some x) (Some y) h = ap Some (each x y h)
option_is same each _ _ h = never h

-- ---- what is itself is the same

-- a truth value is the same as itself
pub truth_itself : (b : Bool) → beq b b ≡ true
truth_itself true = refl
truth_itself false = refl

-- a text is the same as itself
pub text_itself : (s : List ℕ) → bytes_eq s s ≡ true
text_itself s = (bytes_eq-Decides s s).1 refl

-- an `f64` is the same as itself
float_itself : (x : Float) → same_float x x ≡ true
float_itself nan = refl
float_itself (inf s) = truth_itself s
float_itself (fin s m e) = both_true (beq s s && m == m) (int_eq e e) (both_true (beq s s) (m == m) (truth_itself s) (eq-eqb m m refl)) ((Decides-int_eq e e).1 refl)

-- a number is the same as itself
number_itself : (n : Num) → same_number n n ≡ true
number_itself (unsigned n) = eq-eqb n n refl
number_itself (negative z) = (Decides-int_eq z z).1 refl
number_itself (float x) = float_itself x

mutual
  -- a value is the same as itself
  pub data_itself : (d : Data) → same_data d d ≡ true
  data_itself null = refl
  data_itself (boolean b) = truth_itself b
  data_itself (number n) = number_itself n
  data_itself (string s) = text_itself s
  data_itself (array ds) = items_itself ds
  data_itself (object ms) = members_itself ms

  -- items are the same as themselves
  items_itself : (ds : Items) → same_items ds ds ≡ true
  items_itself no_items = refl
  items_itself (item d ds) = both_true (same_data d d) (same_items ds ds) (data_itself d) (items_itself ds)

  -- members are the same as themselves
  pub members_itself : (ms : Members) → same_members ms ms ≡ true
  members_itself no_members = refl
  members_itself (member k d ms) =
      both_true (bytes_eq k k && same_data d d) (same_members ms ms) (both_true (bytes_eq k k) (same_data d d) (text_itself k) (data_itself d)) (members_itself ms)

-- a list is the same as itself where every item is
pub list_itself : {A : Type 0} (same : A → A → Bool) → ((x : A) → same x x ≡ true) → (xs : List A) → same_list same xs xs ≡ true
list_itself same each [] = refl
list_itself same each (x ∷ xs) = both_true (same x x) (same_list same xs xs) (each x) (list_itself same each xs)

-- what may be absent is the same as itself where every value is
pub option_itself : {A : Type 0} (same : A → A → Bool) → ((x : A) → same x x ≡ true) → (o : Option A) → same_option same o o ≡ true
option_itself same each None = refl
option_itself same each (Some x) = each x
