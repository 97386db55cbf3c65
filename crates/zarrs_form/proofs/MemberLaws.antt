-- What holds of members that are put into an object, taken out of it and looked up in it.
use Rattle.std.proofs.Common.{◌≡◌, ℕ, List, [], ◌∷◌, Bool, true, false, ◌||◌, if◌then◌else◌, Less, Equal, Greater, Ordering, Option, Some, None, is_eq, nat_cmp, bytes_eq, true≢false, refl, ap, sym, ◌∙◌, subst}
use Rattle.std.specs.Ordering.{match_ordering}
use Rattle.std.specs.Cmp.Lexicographic.{slice_cmp}
use Rattle.std.proofs.lemmas.Map.Text.{is_eq-slice_cmp}
use Rattle.std.proofs.lemmas.Slice.Eq.{bytes_eq-Decides}
use Rattle.serde_json.specs.Data.{Data, Members, no_members, member, put}
use Rattle.serde_json.specs.Find.{get_member}
use Rattle.serde_json.specs.Written.{has_float, members_have_float}
use Rattle.zarrs_form.specs.Documents.{is_own, besides, has_own}

-- where `||` of two tests is false, both are
pub neither : (a b : Bool) → (a || b) ≡ false → (a ≡ false) × (b ≡ false)
neither true b e = absurd (true≢false e)
neither false b e = (refl, e)

-- texts that compare as equal are one
pub same_text : (k l : List ℕ) → slice_cmp nat_cmp k l ≡ Equal → k ≡ l
same_text k l e = (bytes_eq-Decides k l).0 (sym (is_eq-slice_cmp k l) ∙ ap is_eq e)

-- ---- where a member is put

-- before a first member whose name is greater
pub put_before : (k l : List ℕ) (d e : Data) (ms : Members) → slice_cmp nat_cmp k l ≡ Less → put k d (member l e ms) ≡ member k d (member l e ms)
put_before k l d e ms o = ap (λ r. match_ordering r (member k d (member l e ms)) (member l d ms) (member l e (put k d ms))) o

-- in the place of a first member of the name
pub put_over : (k l : List ℕ) (d e : Data) (ms : Members) → slice_cmp nat_cmp k l ≡ Equal → put k d (member l e ms) ≡ member k d ms
put_over k l d e ms o =
    ap (λ r. match_ordering r (member k d (member l e ms)) (member l d ms) (member l e (put k d ms))) o ∙ ap (λ n. member n d ms) (sym (same_text k l o))

-- behind a first member whose name is smaller
pub put_behind : (k l : List ℕ) (d e : Data) (ms : Members) → slice_cmp nat_cmp k l ≡ Greater → put k d (member l e ms) ≡ member l e (put k d ms)
put_behind k l d e ms o = ap (λ r. match_ordering r (member k d (member l e ms)) (member l d ms) (member l e (put k d ms))) o

-- ---- floats

-- a value without fractions brings in none, whether it is put before a member, in its place or behind it
float_put_at : (o : Ordering) (k l : List ℕ) (d e : Data) (ms ns : Members) → has_float d ≡ false → has_float e ≡ false → members_have_float ms ≡ false → members_have_float ns ≡ false
    → members_have_float (match_ordering o (member k d (member l e ms)) (member l d ms) (member l e ns)) ≡ false
float_put_at Less k l d e ms ns hd he hm hn = rw (hd, he, hm) refl
float_put_at Equal k l d e ms ns hd he hm hn = rw (hd, hm) refl
float_put_at Greater k l d e ms ns hd he hm hn = rw (he, hn) refl

-- members without fractions have none when a value without fractions is put among them
pub no_float-put : (k : List ℕ) (d : Data) (ms : Members) → has_float d ≡ false → members_have_float ms ≡ false → members_have_float (put k d ms) ≡ false
no_float-put k d no_members hd hm = rw hd refl
no_float-put k d (member l e ms) hd hm =
    let parts = neither (has_float e) (members_have_float ms) hm in
    float_put_at (slice_cmp nat_cmp k l) k l d e ms (put k d ms) hd parts.0 parts.1 (no_float-put k d ms hd parts.1)

-- ---- own names

-- the others stay where a member of one of the names is put before a member, in its place or behind it
besides_put_at : (o : Ordering) (names : List (List ℕ)) (k l : List ℕ) (d e : Data) (ms ns : Members) → slice_cmp nat_cmp k l ≡ o → is_own names k ≡ true → besides names ns ≡ besides names ms
    → besides names (match_ordering o (member k d (member l e ms)) (member l d ms) (member l e ns)) ≡ besides names (member l e ms)
besides_put_at Less names k l d e ms ns is own later = rw own refl
besides_put_at Equal names k l d e ms ns is own later = let own_l : is_own names l ≡ true = subst (λ n. is_own names n ≡ true) (same_text k l is) own in rw own_l refl
besides_put_at Greater names k l d e ms ns is own later = ap (λ m. if is_own names l then m else member l e m) later

-- the members besides some names stay when a member of one of the names is put
pub besides-put : (names : List (List ℕ)) (k : List ℕ) (d : Data) (ms : Members) → is_own names k ≡ true → besides names (put k d ms) ≡ besides names ms
besides-put names k d no_members own = rw own refl
besides-put names k d (member l e ms) own = besides_put_at _ names k l d e ms (put k d ms) refl own (besides-put names k d ms own)

-- members of which none has one of the names are all besides the names
pub besides-others : (names : List (List ℕ)) (ms : Members) → has_own names ms ≡ false → besides names ms ≡ ms
besides-others names no_members h = refl
besides-others names (member l e ms) h =
    let parts = neither (is_own names l) (has_own names ms) h in
    rw parts.0 (ap (member l e) (besides-others names ms parts.1))

-- ---- looking up

-- an order that is not `Equal` chooses what it has for `Less` and `Greater`
either : (o : Ordering) (a b : Option Data) → is_eq o ≡ false → match_ordering o a b a ≡ a
either Less a b e = refl
either Equal a b e = absurd (true≢false e)
either Greater a b e = refl

-- a name that is one of the names is not one that is none of them
apart : (names : List (List ℕ)) (k l : List ℕ) (b : Bool) → bytes_eq k l ≡ b → is_own names k ≡ true → is_own names l ≡ false → b ≡ false
apart names k l true e own other = absurd (true≢false (sym own ∙ ap (is_own names) ((bytes_eq-Decides k l).0 e) ∙ other))
apart names k l false e own other = refl

-- one of the names is not found among members that have none of them
pub get-others : (names : List (List ℕ)) (k : List ℕ) (ms : Members) → is_own names k ≡ true → has_own names ms ≡ false → get_member k ms ≡ None
get-others names k no_members own h = refl
get-others names k (member l e ms) own h =
    let parts = neither (is_own names l) (has_own names ms) h in
    either (slice_cmp nat_cmp k l) _ _ (is_eq-slice_cmp k l ∙ apart names k l _ refl own parts.0) ∙ get-others names k ms own parts.1

-- ---- taking out

-- a name that is none of the names is not one that is one of them
kept_apart : (names : List (List ℕ)) (k l : List ℕ) (b : Bool) → bytes_eq k l ≡ b → is_own names k ≡ false → is_own names l ≡ true → b ≡ false
kept_apart names k l true e other own = absurd (true≢false (sym own ∙ ap (is_own names) (sym ((bytes_eq-Decides k l).0 e)) ∙ other))
kept_apart names k l false e other own = refl

-- a first member, left out where it has one of the names, does not change what is found at another name
get_besides_at : (b : Bool) (names : List (List ℕ)) (k l : List ℕ) (e : Data) (ms ns : Members) → is_own names l ≡ b → is_own names k ≡ false → get_member k ns ≡ get_member k ms
    → get_member k (if b then ns else member l e ns) ≡ get_member k (member l e ms)
get_besides_at true names k l e ms ns own other later =
    later ∙ sym (either (slice_cmp nat_cmp k l) _ _ (is_eq-slice_cmp k l ∙ kept_apart names k l _ refl other own))
get_besides_at false names k l e ms ns own other later = ap (λ r. match_ordering (slice_cmp nat_cmp k l) r (Some e) r) later

-- a name that is none of the names is found besides them
pub get_besides : (names : List (List ℕ)) (k : List ℕ) (ms : Members) → is_own names k ≡ false → get_member k (besides names ms) ≡ get_member k ms
get_besides names k no_members other = refl
get_besides names k (member l e ms) other = get_besides_at (is_own names l) names k l e ms (besides names ms) refl other (get_besides names k ms other)

-- the same of what is left once a member was taken out
pub get_left : (q k : List ℕ) (ms ns : Members) → ns ≡ besides (q ∷ []) ms → bytes_eq q k ≡ false → get_member k ns ≡ get_member k ms
get_left q k ms ns left other = ap (get_member k) left ∙ get_besides (q ∷ []) k ms (rw other refl)

-- and once two were
pub get_left_twice : (q r k : List ℕ) (ms ns os : Members) → ns ≡ besides (q ∷ []) ms → os ≡ besides (r ∷ []) ns → bytes_eq q k ≡ false → bytes_eq r k ≡ false → get_member k os ≡ get_member k ms
get_left_twice q r k ms ns os first second other apart = get_left r k ns os second apart ∙ get_left q k ms ns first other

-- texts that a test tells apart
pub differ : (q k : List ℕ) → bytes_eq q k ≡ false → q ≡ k → ⊥
differ q k e same = true≢false (sym ((bytes_eq-Decides q k).1 same) ∙ e)
