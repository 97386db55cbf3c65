-- A member that is put where one of its name was put before.
use Rattle.std.proofs.Common.{◌≡◌, ℕ, List, Less, Equal, Greater, Ordering, nat_cmp, refl, ap, ◌∙◌}
use Rattle.std.specs.Ordering.{match_ordering}
use Rattle.std.specs.Cmp.Lexicographic.{slice_cmp, nat_list_cmp_total}
use Rattle.std.proofs.lemmas.Cmp.{tied_itself}
use Rattle.serde_json.specs.Data.{Data, Members, no_members, member, put}

-- a text ties with itself
its_own : (k : List ℕ) → slice_cmp nat_cmp k k ≡ Equal
its_own k = tied_itself nat_list_cmp_total k

-- the second stands where the first was put before a member, in its place or behind it
put_again_at : (o : Ordering) (k l : List ℕ) (c d e : Data) (ms : Members) → slice_cmp nat_cmp k l ≡ o → put k d (put k c ms) ≡ put k d ms
    → put k d (match_ordering o (member k c (member l e ms)) (member l c ms) (member l e (put k c ms))) ≡ match_ordering o (member k d (member l e ms)) (member l d ms) (member l e (put k d ms))
put_again_at Less k l c d e ms is later = rw (its_own k) refl
put_again_at Equal k l c d e ms is later = rw is refl
put_again_at Greater k l c d e ms is later = rw is (ap (member l e) later)

-- of two members that are put at one name, the second stays
pub put_again : (k : List ℕ) (c d : Data) (ms : Members) → put k d (put k c ms) ≡ put k d ms
put_again k c d no_members = rw (its_own k) refl
put_again k c d (member l e ms) = put_again_at (slice_cmp nat_cmp k l) k l c d e ms refl (put_again k c d ms)

-- members that were given one at a name, and then the value of another there, have the other there
pub put_in_place : (k : List ℕ) (c d e : Data) (fields gained members all : Members) → gained ≡ put k c fields → members ≡ gained → e ≡ d → all ≡ put k e members → all ≡ put k d fields
put_in_place k c d e fields gained members all first same value last = last ∙ ap (λ x. put k x members) value ∙ ap (put k d) (same ∙ first) ∙ put_again k c d fields
