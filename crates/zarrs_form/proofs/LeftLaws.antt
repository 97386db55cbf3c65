-- What is left of members once those of some names were taken out one by one.
use Rattle.std.proofs.Common.{◌≡◌, ℕ, List, [], ◌∷◌, ◌++◌, Bool, true, false, ◌||◌, if◌then◌else◌, bytes_eq, refl, ap, ◌∙◌}
use Rattle.std.proofs.Math.Bool.{or-false}
use Rattle.serde_json.specs.Data.{Data, Members, no_members, member}
use Rattle.serde_json.specs.Find.{get_member}
use Rattle.zarrs_form.specs.Documents.{is_own, besides}
use Rattle.zarrs_form.proofs.MemberLaws.{neither, get_besides}

-- what is left of the members once those of the names were taken out, in order
abbrev pub left : List (List ℕ) → Members → Members
left [] ms = ms
left (name ∷ names) ms = left names (besides (name ∷ []) ms)

-- another name is found in what is left
pub get_left : (names : List (List ℕ)) (k : List ℕ) (ms : Members) → is_own names k ≡ false → get_member k (left names ms) ≡ get_member k ms
get_left [] k ms other = refl
get_left (n ∷ names) k ms other =
    let parts = neither (bytes_eq n k) (is_own names k) other in
    get_left names k (besides (n ∷ []) ms) parts.1 ∙ get_besides (n ∷ []) k ms (rw parts.0 refl)

-- the members besides no names are all members
besides_none : (ms : Members) → ms ≡ besides [] ms
besides_none no_members = refl
besides_none (member l e ms) = ap (member l e) (besides_none ms)

-- a first member goes where it was taken out at first, or has one of the names, and else it stays
besides_more_at : (b c : Bool) (names : List (List ℕ)) (l : List ℕ) (e : Data) (ns os : Members) → is_own names l ≡ c → besides names ns ≡ os
    → besides names (if b then ns else member l e ns) ≡ (if b || c then os else member l e os)
besides_more_at true c names l e ns os own later = later
besides_more_at false true names l e ns os own later = rw own later
besides_more_at false false names l e ns os own later = rw own (ap (member l e) later)

-- two names after one another
besides_more : (n : List ℕ) (names : List (List ℕ)) (ms : Members) → besides names (besides (n ∷ []) ms) ≡ besides (n ∷ names) ms
besides_more n names no_members = refl
besides_more n names (member l e ms) =
    rw (or-false (bytes_eq n l)) (besides_more_at (bytes_eq n l) (is_own names l) names l e (besides (n ∷ []) ms) (besides (n ∷ names) ms) refl (besides_more n names ms))

-- what is left are the members besides those that were taken
pub left_besides : (names : List (List ℕ)) (ms : Members) → left names ms ≡ besides names ms
left_besides [] ms = besides_none ms
left_besides (n ∷ names) ms = left_besides names (besides (n ∷ []) ms) ∙ besides_more n names ms

-- of three tests by `||` it does not matter which two are put together
or_assoc : (a b c : Bool) → (a || (b || c)) ≡ ((a || b) || c)
or_assoc true b c = refl
or_assoc false b c = refl

-- a name is one of two lists of names where it is one of either
is_own_both : (names more : List (List ℕ)) (l : List ℕ) → is_own (names ++ more) l ≡ (is_own names l || is_own more l)
is_own_both [] more l = refl
is_own_both (n ∷ names) more l = ap (λ b. bytes_eq n l || b) (is_own_both names more l) ∙ or_assoc (bytes_eq n l) (is_own names l) (is_own more l)

-- a first member goes where it has one of the names, or was taken out at first, and else it stays
besides_both_at : (a b : Bool) (names : List (List ℕ)) (l : List ℕ) (e : Data) (ns os : Members) → is_own names l ≡ a → besides names ns ≡ os
    → besides names (if b then ns else member l e ns) ≡ (if a || b then os else member l e os)
besides_both_at true true names l e ns os own later = later
besides_both_at true false names l e ns os own later = rw own later
besides_both_at false true names l e ns os own later = later
besides_both_at false false names l e ns os own later = rw own (ap (member l e) later)

-- the members besides two lists of names
pub besides_both : (names more : List (List ℕ)) (ms : Members) → besides names (besides more ms) ≡ besides (names ++ more) ms
besides_both names more no_members = refl
besides_both names more (member l e ms) =
    rw (is_own_both names more l) (besides_both_at (is_own names l) (is_own more l) names l e (besides more ms) (besides (names ++ more) ms) refl (besides_both names more ms))
