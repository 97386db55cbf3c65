-- What holds of members that are put by the rows of a table.
use Rattle.std.proofs.Common.{◌≡◌, ℕ, List, [], ◌∷◌, Bool, true, false, ◌&&◌, if◌then◌else◌, Option, Some, None, bytes_eq, true≢false, refl, ap, sym, ◌∙◌, subst}
use Rattle.std.proofs.lemmas.Slice.Eq.{bytes_eq-Decides}
use Rattle.std.specs.List.{list_all}
use Rattle.serde_json.specs.Data.{Data, Members, put}
use Rattle.serde_json.specs.Find.{get_member}
use Rattle.serde_json.specs.Written.{has_float, members_have_float}
use Rattle.serde_json.proofs.Views.{get_member-put, get_member-put_other}
use Rattle.zarrs_form.specs.Documents.{is_own, besides}
use Rattle.zarrs_form.specs.Forms.{put_row, put_rows, list_of, list_data, number_u64, number_data}
use Rattle.zarrs_form.proofs.MemberLaws.{no_float-put, besides-put}

-- what a row puts at its name, or what stood there where it puts nothing
abbrev pub or_rest : Option Data → Option Data → Option Data
or_rest None rest = rest
or_rest (Some d) rest = Some d

-- what stands at a name when the rows were put, where `rest` stood there before
abbrev pub found : List ℕ → List (List ℕ × Option Data) → Option Data → Option Data
found k [] rest = rest
found k (r ∷ rows) rest = found k rows (if bytes_eq k r.0 then or_rest r.1 rest else rest)

-- at the name of a member that was put stands its value, and at another name what stood there
get-put_by : (b : Bool) (k n : List ℕ) (d : Data) (ms : Members) → bytes_eq k n ≡ b → get_member k (put n d ms) ≡ (if b then Some d else get_member k ms)
get-put_by true k n d ms e = let same : k ≡ n = (bytes_eq-Decides k n).0 e in subst (λ x. get_member x (put n d ms) ≡ Some d) (sym same) (get_member-put n d ms)
get-put_by false k n d ms e = get_member-put_other k n d ms (λ same. true≢false (sym ((bytes_eq-Decides k n).1 same) ∙ e))

-- a choice between a value and itself is that value
if_same : (b : Bool) (o : Option Data) → o ≡ (if b then o else o)
if_same true o = refl
if_same false o = refl

-- at the name of a row with a value stands this value, and else what stood there
get-put_row : (k n : List ℕ) (o : Option Data) (ms : Members) → get_member k (put_row n o ms) ≡ (if bytes_eq k n then or_rest o (get_member k ms) else get_member k ms)
get-put_row k n None ms = if_same (bytes_eq k n) (get_member k ms)
get-put_row k n (Some d) ms = get-put_by (bytes_eq k n) k n d ms refl

-- at each name stands what the rows make of what stood there
pub get-put_rows : (k : List ℕ) (rows : List (List ℕ × Option Data)) (ms : Members) → get_member k (put_rows rows ms) ≡ found k rows (get_member k ms)
get-put_rows k [] ms = refl
get-put_rows k (r ∷ rows) ms = get-put_rows k rows (put_row r.0 r.1 ms) ∙ ap (found k rows) (get-put_row k r.0 r.1 ms)

-- each row has one of the names
abbrev pub all_own : List (List ℕ) → List (List ℕ × Option Data) → Bool
all_own names [] = true
all_own names (r ∷ rows) = is_own names r.0 && all_own names rows

-- where `&&` of two tests is true, both are
pub both : (a b : Bool) → (a && b) ≡ true → (a ≡ true) × (b ≡ true)
both true b e = (refl, e)
both false b e = absurd (true≢false (sym e))

-- the members besides some names stay when a row of one of the names is put
besides-put_row : (names : List (List ℕ)) (n : List ℕ) (o : Option Data) (ms : Members) → is_own names n ≡ true → besides names (put_row n o ms) ≡ besides names ms
besides-put_row names n None ms own = refl
besides-put_row names n (Some d) ms own = besides-put names n d ms own

-- the members besides some names stay when rows of these names are put
pub besides-put_rows : (names : List (List ℕ)) (rows : List (List ℕ × Option Data)) (ms : Members) → all_own names rows ≡ true → besides names (put_rows rows ms) ≡ besides names ms
besides-put_rows names [] ms own = refl
besides-put_rows names (r ∷ rows) ms own =
    let parts = both (is_own names r.0) (all_own names rows) own in
    besides-put_rows names rows (put_row r.0 r.1 ms) parts.1 ∙ besides-put_row names r.0 r.1 ms parts.0

infixr 5 ◌◂◌
-- one fact, and the others
pub ◌◂◌ : {A B : Type 0} → A → B → A × B
a ◂ b = (a, b)

-- the value, if there is one, has no fraction
abbrev pub has_no_float : Option Data → Type 0
has_no_float None = Unit {0}
has_no_float (Some d) = has_float d ≡ false

-- no value of the rows has a fraction
abbrev pub have_no_float : List (List ℕ × Option Data) → Type 0
have_no_float [] = Unit {0}
have_no_float (r ∷ rows) = has_no_float r.1 × have_no_float rows

-- members without fractions have none when a row without fractions is put
no_float-put_row : (n : List ℕ) (o : Option Data) (ms : Members) → has_no_float o → members_have_float ms ≡ false → members_have_float (put_row n o ms) ≡ false
no_float-put_row n None ms h hm = hm
no_float-put_row n (Some d) ms h hm = no_float-put n d ms h hm

-- members without fractions have none when rows without fractions are put
pub no_float-put_rows : (rows : List (List ℕ × Option Data)) (ms : Members) → have_no_float rows → members_have_float ms ≡ false → members_have_float (put_rows rows ms) ≡ false
no_float-put_rows [] ms h hm = hm
no_float-put_rows (r ∷ rows) ms h hm = no_float-put_rows rows (put_row r.0 r.1 ms) h.1 (no_float-put_row r.0 r.1 ms h.0 hm)

-- ---- lists

-- a list whose items read again reads again
pub list_again : {A : Type 0} (form : Data → Option A) (written : A → Data) → ((x : A) → form (written x) ≡ Some x) → (xs : List A) → list_of form (list_data written xs) ≡ Some xs
list_again form written again [] = refl
list_again form written again (x ∷ xs) = rw (again x, list_again form written again xs) refl

-- a list whose items have no fraction where they fit has none where all fit
pub list_no_float : {A : Type 0} (written : A → Data) (fits : A → Bool) → ((x : A) → fits x ≡ true → has_float (written x) ≡ false) → (xs : List A) → list_all fits xs ≡ true → has_float (list_data written xs) ≡ false
list_no_float written fits h [] e = refl
list_no_float written fits h (x ∷ xs) e =
    let parts = both (fits x) (list_all fits xs) e in
    rw (h x parts.0, list_no_float written fits h xs parts.1) refl

-- a list whose items read again where they fit reads again where all fit
pub list_again_where : {A : Type 0} (form : Data → Option A) (written : A → Data) (fits : A → Bool) → ((x : A) → fits x ≡ true → form (written x) ≡ Some x)
    → (xs : List A) → list_all fits xs ≡ true → list_of form (list_data written xs) ≡ Some xs
list_again_where form written fits again [] e = refl
list_again_where form written fits again (x ∷ xs) e =
    let parts = both (fits x) (list_all fits xs) e in
    rw (again x parts.0, list_again_where form written fits again xs parts.1) refl

-- a number that was written reads again
pub number_again : (n : ℕ) → number_u64 (number_data n) ≡ Some n
number_again n = refl

-- every item passes the test that all pass
pub all_true : {A : Type 0} (xs : List A) → list_all (λ _. true) xs ≡ true
all_true [] = refl
all_true (x ∷ xs) = all_true xs

-- a list of numbers has only numbers that fit
pub numbers_no_float : (ns : List ℕ) → has_float (list_data number_data ns) ≡ false
numbers_no_float ns = list_no_float number_data (λ _. true) (λ _ _. refl) ns (all_true ns)
