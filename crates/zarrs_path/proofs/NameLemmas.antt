-- Names and lists of names.
use Rattle.std.proofs.Common.{◌≡◌, ℕ, Bool, true, false, not, ◌&&◌, List, [], ◌∷◌, refl, ap, IsTrue}
use Rattle.std.specs.List.{list_all}
use Rattle.std.proofs.lemmas.Bool.{and_parts, and_from, not-true}
use Rattle.zarrs_store.specs.Segments.{is_nonempty, has_no_slash, IsSegment}
use Rattle.zarrs_store.proofs.Cuts.{segment_test}
pub use Rattle.zarrs_path.specs.Names.{IsName}
use Rattle.zarrs_path.specs.Names.{is_name, is_all_periods, is_reserved}
use Rattle.zarrs_path.specs.Paths.{Path, IsPath}

-- the first of the names of a path is a name
pub name_head : (n : List ℕ) (ns : Path) → IsPath (n ∷ ns) → IsName n
name_head n ns h = (and_parts (is_name n) (list_all is_name ns) h).0

-- and the others are a path
pub name_tail : (n : List ℕ) (ns : Path) → IsPath (n ∷ ns) → IsPath ns
name_tail n ns h = (and_parts (is_name n) (list_all is_name ns) h).1

-- a name before a path is a path
pub name_cons : (n : List ℕ) (ns : Path) → IsName n → IsPath ns → IsPath (n ∷ ns)
name_cons n ns h k = and_from (is_name n) (list_all is_name ns) h k

-- a name alone is a path
pub name_one : (n : List ℕ) → IsName n → IsPath (n ∷ [])
name_one n h = name_cons n [] h refl

module _ (n : List ℕ) (h : IsName n) where
  -- a name holds no slash, is not made of periods only and does not begin with `__`
  clean : IsTrue (has_no_slash n && (not (is_all_periods n) && not (is_reserved n)))
  clean = (and_parts (is_nonempty n) (has_no_slash n && (not (is_all_periods n) && not (is_reserved n))) h).1

  -- it is not made of periods only and does not begin with `__`
  last_two : IsTrue (not (is_all_periods n) && not (is_reserved n))
  last_two = (and_parts (has_no_slash n) (not (is_all_periods n) && not (is_reserved n)) clean).1

  -- a name is not empty
  pub name_nonempty : IsTrue (is_nonempty n)
  name_nonempty = (and_parts (is_nonempty n) (has_no_slash n && (not (is_all_periods n) && not (is_reserved n))) h).0

  -- a name is not made of periods only
  pub not_periods : is_all_periods n ≡ false
  not_periods = not-true (is_all_periods n) (and_parts (not (is_all_periods n)) (not (is_reserved n)) last_two).0

  -- a name does not begin with `__`
  pub name_not_reserved : is_reserved n ≡ false
  name_not_reserved = not-true (is_reserved n) (and_parts (not (is_all_periods n)) (not (is_reserved n)) last_two).1

-- a segment that is no name and does not begin with `__` is made of periods
pub periods_from : (n : List ℕ) → IsSegment n → is_reserved n ≡ false → (IsName n → ⊥) → IsTrue (is_all_periods n)
periods_from n segment visible none =
    let P : Bool → Type 0 = λ b. is_all_periods n ≡ b → b ≡ true in
    let both = and_parts (is_nonempty n) (has_no_slash n) (segment_test n segment) in
    let all : (b : Bool) → P b = elim [
      | true ↦ λ _. refl
      | false ↦ λ e. absurd (none (and_from (is_nonempty n) (has_no_slash n && (not (is_all_periods n) && not (is_reserved n))) both.0
          (and_from (has_no_slash n) (not (is_all_periods n) && not (is_reserved n)) both.1
          (and_from (not (is_all_periods n)) (not (is_reserved n)) (ap not e) (ap not visible)))))
    ] in all (is_all_periods n) refl
