-- Members that stand in a list, compared one by one.
use Rattle.std.proofs.Common.{◌≡◌, ℕ, ◌+◌, ◌<◌, ◌≤◌, List, [], ◌∷◌, length, get_or, drop, Bool, true, false, ◌&&◌, if◌then◌else◌, nat_eq, String, Global, string_bytes, bytes_eq, true≢false, inl, inr, arith, refl, ap, sym, ◌∙◌}
use Rattle.std.proofs.Math.Bool.{or-false}
use Rattle.std.specs.List.{HoldsAt}
use Rattle.std.proofs.lemmas.Bool.{cases_lt, eq-eqb, ne_eqb}
use Rattle.std.proofs.lemmas.List.{drop_all, drop_more}
use Rattle.std.proofs.lemmas.Bool.Decides.{same_from_decides, Decides-like}
use Rattle.std.proofs.lemmas.Slice.Eq.{bytes_eq-Decides}
use Rattle.std.specs.Prelude.{codes}
use Rattle.serde_json.specs.Data.{Data, Members, member}
use Rattle.serde_json.specs.View.{view, members_of, members_view}
use Rattle.serde_json.proofs.Views.{Entry}
use Rattle.zarrs_form.specs.Documents.{is_own, besides}
use Rattle.zarrs_compare.specs.StepsOfSame.{besides_block, block_names, same_data, same_entry, same_list, same_members}

-- whether two texts are one does not depend on their order
bytes_eq_sym : (s t : List ℕ) → bytes_eq s t ≡ bytes_eq t s
bytes_eq_sym s t = same_from_decides _ _ (bytes_eq-Decides s t) (Decides-like (bytes_eq t s) sym sym (bytes_eq-Decides t s))

-- the name of the block is this one
pub own_block : (name : List ℕ) → is_own block_names name ≡ bytes_eq name (codes "consolidated_metadata")
own_block name = or-false (bytes_eq (codes "consolidated_metadata") name) ∙ bytes_eq_sym (codes "consolidated_metadata") name

-- two lists of fields are the same where their members are
pub same_fields : (es fs : List (String Global × Data)) → same_list (same_entry same_data) es fs ≡ same_members (members_of es) (members_of fs)
same_fields [] [] = refl
same_fields [] (f ∷ fs) = refl
same_fields (e ∷ es) [] = refl
same_fields (e ∷ es) (f ∷ fs) = ap (λ b. same_entry same_data e f && b) (same_fields es fs)

-- two lists of entries are the same where their members are
pub same_entries : (es fs : List Entry) → same_list (same_entry (λ v w. same_data (view v) (view w))) es fs ≡ same_members (members_view es) (members_view fs)
same_entries [] [] = refl
same_entries [] (f ∷ fs) = refl
same_entries (e ∷ es) [] = refl
same_entries (e ∷ es) (f ∷ fs) = ap (λ b. same_entry (λ v w. same_data (view v) (view w)) e f && b) (same_entries es fs)

-- what is true of both is true of the one that is taken
taken_members : {A : Type 0} (f : List A → Members) (g : A → Members → Members) (b : Bool) (e : A) (es : List A) (ms : Members)
    → ((xs : List A) → f (e ∷ xs) ≡ g e (f xs)) → f es ≡ ms → f (if b then es else e ∷ es) ≡ (if b then ms else g e ms)
taken_members f g true e es ms first same = same
taken_members f g false e es ms first same = first es ∙ ap (g e) same

-- the members of the fields besides the block are those besides it
besides_fields : (es : List (String Global × Data)) → members_of (besides_block es) ≡ besides block_names (members_of es)
besides_fields [] = refl
besides_fields (e ∷ es) =
    taken_members members_of (λ (f : String Global × Data) ms. member (string_bytes f.0) f.1 ms) (is_own block_names (string_bytes e.0)) e (besides_block es) (besides block_names (members_of es)) (λ xs. refl) (besides_fields es)

-- and so are those of entries
besides_entries : (es : List Entry) → members_view (besides_block es) ≡ besides block_names (members_view es)
besides_entries [] = refl
besides_entries (e ∷ es) =
    taken_members members_view (λ (f : Entry) ms. member (string_bytes f.0) (view f.1) ms) (is_own block_names (string_bytes e.0)) e (besides_block es) (besides block_names (members_view es)) (λ xs. refl) (besides_entries es)

-- two lists of fields are the same besides the block where their members are
pub same_besides_fields : (es fs : List (String Global × Data)) → same_list (same_entry same_data) (besides_block es) (besides_block fs) ≡ same_members (besides block_names (members_of es)) (besides block_names (members_of fs))
same_besides_fields es fs =
    same_fields (besides_block es) (besides_block fs) ∙ ap (λ ms. same_members ms (members_of (besides_block fs))) (besides_fields es)
    ∙ ap (same_members (besides block_names (members_of es))) (besides_fields fs)

-- and so are two lists of entries
pub same_besides_entries : (es fs : List Entry) → same_list (same_entry (λ v w. same_data (view v) (view w))) (besides_block es) (besides_block fs) ≡ same_members (besides block_names (members_view es)) (besides block_names (members_view fs))
same_besides_entries es fs =
    same_entries (besides_block es) (besides_block fs) ∙ ap (λ ms. same_members ms (members_view (besides_block fs))) (besides_entries es)
    ∙ ap (same_members (besides block_names (members_view es))) (besides_entries fs)

module _ {X : Type 0} (same : String Global × X → String Global × X → Bool) where
  -- a field that is no block stands first of what is left besides the block
  stands_first : (b : Bool) (f : String Global × X) (fs : List (String Global × X)) → b ≡ false → false ≡ same_list same [] (if b then fs else f ∷ fs)
  stands_first true f fs e = absurd (true≢false e)
  stands_first false f fs e = refl

  -- what is left besides the block is nothing exactly where the first place of another field is the number of fields
  pub nothing_left : (os : List (String Global × X)) (place : ℕ) → place ≤ length os → (place < length os → HoldsAt (λ f. is_own block_names (string_bytes f.0) ≡ false) os place)
      → nat_eq place (length os) ≡ same_list same (besides_block []) (besides_block (drop place os))
  nothing_left [] place within field = eq-eqb place 0 (omega arith) ∙ ap (λ fs. same_list same [] (besides_block fs)) (sym (drop_all place [] (omega arith)))
  nothing_left (o ∷ os) place within field =
      elim (cases_lt place (length (o ∷ os))) [
        | inl inside ↦
            let f = get_or (o ∷ os) place o in
            let left = drop (place + 1) (o ∷ os) in
            ne_eqb place (length (o ∷ os)) (λ e. omega arith)
            ∙ stands_first (is_own block_names (string_bytes f.0)) f (besides_block left) (field inside o)
            ∙ ap (λ fs. same_list same [] (besides_block fs)) (sym (drop_more (o ∷ os) place o inside))
        | inr outside ↦
            let at_end : place ≡ length (o ∷ os) = omega arith in
            eq-eqb place (length (o ∷ os)) at_end ∙ ap (λ fs. same_list same [] (besides_block fs)) (sym (drop_all place (o ∷ os) outside))
      ]
