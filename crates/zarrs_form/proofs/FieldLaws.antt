-- What is left of entries that one was taken out of.
use Rattle.std.proofs.Common.{◌≡◌, ℕ, List, [], ◌∷◌, Bool, true, false, if◌then◌else◌, String, Global, Option, Some, None, string_bytes, bytes_eq, cond, refl, ap, sym, ◌∙◌}
use Rattle.std.proofs.Math.Bool.{or-false}
use Rattle.std.specs.Map.{lookup, remove_entry}
use Rattle.std.proofs.lemmas.Map.Text.{is_eq-slice_cmp}
use Rattle.serde_json.specs.Data.{Data, member}
use Rattle.serde_json.specs.View.{view, members_view}
use Rattle.serde_json.proofs.Views.{Entry}
use Rattle.zarrs_form.specs.Documents.{is_own, besides}
use Rattle.zarrs_form.specs.StepsOfMembers.{at_name}
use Rattle.zarrs_form.proofs.MemberLists.{members_by}

-- one name is an own name exactly where the map finds it
own_at : (name : List ℕ) (k : String Global) → is_own (name ∷ []) (string_bytes k) ≡ at_name name k
own_at name k = or-false (bytes_eq name (string_bytes k)) ∙ sym (is_eq-slice_cmp name (string_bytes k))

-- what was found at the first entry is not absent
pub absent_in : {X : Type 0} (b : Bool) (v : X) (o : Option X) → cond b (Some v) o ≡ None → (b ≡ false) × (o ≡ None)
absent_in true v o e = cc
absent_in false v o e = (refl, e)

module _ {X : Type 0} (see : X → Data) where
  -- a name that is not found takes nothing out
  besides_absent : (name : List ℕ) (es : List (String Global × X)) → lookup (at_name name) es ≡ None → besides (name ∷ []) (members_by see es) ≡ members_by see es
  besides_absent name [] none = refl
  besides_absent name (e ∷ es) none =
      let parts = absent_in (at_name name e.0) e.1 (lookup (at_name name) es) none in
      let other : is_own (name ∷ []) (string_bytes e.0) ≡ false = own_at name e.0 ∙ parts.0 in
      rw other (ap (member (string_bytes e.0) (see e.1)) (besides_absent name es parts.1))

  -- the step of `besides_removed`, by whether the first entry is at the name
  removed_at : (b : Bool) (name : List ℕ) (e : String Global × X) (es : List (String Global × X)) → is_own (name ∷ []) (string_bytes e.0) ≡ b → at_name name e.0 ≡ b
      → (lookup (at_name name) (remove_entry (at_name name) es) ≡ None → members_by see (remove_entry (at_name name) es) ≡ besides (name ∷ []) (members_by see es))
      → lookup (at_name name) (cond b es (e ∷ remove_entry (at_name name) es)) ≡ None
      → members_by see (cond b es (e ∷ remove_entry (at_name name) es)) ≡ (if b then besides (name ∷ []) (members_by see es) else member (string_bytes e.0) (see e.1) (besides (name ∷ []) (members_by see es)))
  removed_at true name e es own at later none = sym (besides_absent name es none)
  removed_at false name e es own at later none =
      let parts = absent_in (at_name name e.0) e.1 (lookup (at_name name) (remove_entry (at_name name) es)) none in
      ap (member (string_bytes e.0) (see e.1)) (later parts.1)

  -- taking out the entry at a name leaves the members besides that name
  pub besides_removed : (name : List ℕ) (es : List (String Global × X)) → lookup (at_name name) (remove_entry (at_name name) es) ≡ None
      → members_by see (remove_entry (at_name name) es) ≡ besides (name ∷ []) (members_by see es)
  besides_removed name [] none = refl
  besides_removed name (e ∷ es) none = rw (own_at name e.0) (removed_at (at_name name e.0) name e es (own_at name e.0) refl (besides_removed name es) none)

-- the same of the entries that a map is left with
pub besides_left : (name : List ℕ) (es left : List Entry) → left ≡ remove_entry (at_name name) es → lookup (at_name name) left ≡ None
    → members_view left ≡ besides (name ∷ []) (members_view es)
besides_left name es left is none = ap members_view is ∙ besides_removed view name es (ap (lookup (at_name name)) (sym is) ∙ none)
