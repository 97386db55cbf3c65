-- What is told of the fields of a group is what there is to tell of them, where they stand in the order of their names.
use Rattle.std.proofs.Common.{◌≡◌, ◌⊎◌, inl, inr, ⊎_elim, ℕ, ◌<◌, ◌≤◌, Bool, true, false, true≢false, if◌then◌else◌, List, [], ◌∷◌, refl, sym, ap, subst, ◌∙◌, arith, Contains, AllPairs, Option, Some, None, Less, Equal, Greater, Ordering, nat_cmp, String, Global, string_bytes, bytes_eq}
use Rattle.std.specs.List.{AllByRecursion}
use Rattle.std.specs.List.Sorted.{IsStrictlySortedBy}
use Rattle.std.specs.Map.{keys_of}
use Rattle.std.specs.Ordering.{match_ordering}
use Rattle.std.specs.Cmp.Lexicographic.{slice_cmp, nat_list_cmp_total}
use Rattle.std.proofs.lemmas.Cmp.{tied_itself}
use Rattle.std.proofs.lemmas.Slice.Eq.{bytes_eq-Decides}
use Rattle.serde_json.specs.Data.{Data, Members, no_members}
use Rattle.serde_json.specs.Find.{get_member}
use Rattle.serde_json.specs.View.{members_of}
use Rattle.zarrs_form.proofs.MemberLaws.{same_text}
use Rattle.zarrs_form.specs.Fields.{must_understand}
use Rattle.zarrs_form.specs.SortedMembers.{NamesAscend}
use Rattle.zarrs_store.specs.Segments.{bytes_cmp}
use Rattle.zarrs_path.specs.Paths.{Path}
use Rattle.zarrs_meta.specs.declared.node.NodeMetadata.{NodeMetadata}
use Rattle.zarrs_notes.specs.Demands.{block_name, field_finding, fields_of}
use Rattle.zarrs_notes.specs.NodeFindings.{IsFieldFinding, ComesBefore, field_of, place_of}
use Rattle.zarrs_notes.specs.StepsOfFindings.{FieldsAscend, field_findings}
use Rattle.zarrs_notes.specs.declared.finding.NodeFinding.{NodeFinding}
use Rattle.zarrs_notes.specs.declared.finding.NodeFinding.TheVariants.{UnknownField, DemandingBlock}
use Rattle.zarrs_notes.proofs.Parts.{IsPart, first_in, in_cases, later_in, none_in, pairs_cons}

-- a field as the list has it
abbrev Entry : Type 0
Entry = String Global × Data

-- texts by their bytes
abbrev cmp : List ℕ → List ℕ → Ordering
cmp = slice_cmp nat_cmp

-- the same of strings
abbrev string_order : String Global → String Global → Ordering
string_order k l = cmp (string_bytes k) (string_bytes l)

-- ---- one finding

-- a finding of a field has the place of fields, and is of that field
pub field_place : (p : Path) (name : List ℕ) → place_of (field_finding p name) ≡ 5
field_place p name = by (bytes_eq name block_name)
  where
    by : (b : Bool) → place_of (if b then DemandingBlock p else UnknownField name) ≡ 5
    by true = refl
    by false = refl

-- a finding of a field is of the field of that name
pub field_is : (p : Path) (name : List ℕ) → field_of (field_finding p name) ≡ name
field_is p name = by (bytes_eq name block_name) refl
  where
    by : (b : Bool) → bytes_eq name block_name ≡ b → field_of (if b then DemandingBlock p else UnknownField name) ≡ name
    by true is = sym ((bytes_eq-Decides name block_name).0 is)
    by false is = refl

-- ---- look-ups

-- no value is none
no_value : (o : Option Data) (d : Data) → o ≡ None → o ≡ Some d → ⊥
no_value o d n s = cc

-- a name below all of them is not found
below_absent : (q : List ℕ) (es : List Entry) → AllByRecursion (λ k. cmp q (string_bytes k) ≡ Less) (keys_of es) → get_member q (members_of es) ≡ None
below_absent q [] h = refl
below_absent q (e ∷ es) h = let less : cmp q (string_bytes e.0) ≡ Less = h.0 in rw less (below_absent q es h.1)

-- the first of ascending fields is found, and a field that is found is the first or found among the others
first_found : (e : Entry) (es : List Entry) → get_member (string_bytes e.0) (members_of (e ∷ es)) ≡ Some e.1
first_found e es = let tied : cmp (string_bytes e.0) (string_bytes e.0) ≡ Equal = tied_itself nat_list_cmp_total (string_bytes e.0) in rw tied refl

-- a field that is found is the first, with its value, or is found among the others
found_cases : (q : List ℕ) (e : Entry) (es : List Entry) (d : Data) → get_member q (members_of (e ∷ es)) ≡ Some d → ((q ≡ string_bytes e.0) × (e.1 ≡ d)) ⊎ (get_member q (members_of es) ≡ Some d)
found_cases q e es d h = by (cmp q (string_bytes e.0)) refl h
  where
    by : (o : Ordering) → cmp q (string_bytes e.0) ≡ o → match_ordering o (get_member q (members_of es)) (Some e.1) (get_member q (members_of es)) ≡ Some d → ((q ≡ string_bytes e.0) × (e.1 ≡ d)) ⊎ (get_member q (members_of es) ≡ Some d)
    by Less is h = inr h
    by Equal is h = inl (same_text q (string_bytes e.0) is, cc)
    by Greater is h = inr h

-- what is found among the later fields is found, since the first has another name
later_found : (q : List ℕ) (e : Entry) (es : List Entry) (d : Data) → AllByRecursion (λ y. string_order e.0 y ≡ Less) (keys_of es) → get_member q (members_of es) ≡ Some d → get_member q (members_of (e ∷ es)) ≡ Some d
later_found q e es d above h = by (cmp q (string_bytes e.0)) refl
  where
    by : (o : Ordering) → cmp q (string_bytes e.0) ≡ o → match_ordering o (get_member q (members_of es)) (Some e.1) (get_member q (members_of es)) ≡ Some d
    by Less is = h
    by Equal is = absurd (no_value (get_member q (members_of es)) d (ap (λ x. get_member x (members_of es)) (same_text q (string_bytes e.0) is) ∙ below_absent (string_bytes e.0) es above) h)
    by Greater is = h

-- a name below all names of fields is below that of one that is found
below_found : (q : List ℕ) (es : List Entry) (name : List ℕ) (d : Data) → AllByRecursion (λ k. cmp q (string_bytes k) ≡ Less) (keys_of es) → get_member name (members_of es) ≡ Some d → cmp q name ≡ Less
below_found q [] name d all h = absurd (no_value None d refl h)
below_found q (e ∷ es) name d all h = ⊎_elim
    (λ here. subst (λ x. cmp q x ≡ Less) (sym here.0) all.0)
    (below_found q es name d all.1)
    (found_cases name e es d h)

-- ---- all fields

-- what there is to tell of the fields
abbrev OfFields : Path → Members → NodeFinding → Type 0
OfFields p ms f = (name : List ℕ) × (d : Data) × (get_member name ms ≡ Some d) × (must_understand d ≡ true) × (f ≡ field_finding p name)

module _ (p : Path) where
  -- what is told is told of a field
  told_in : (es : List Entry) → IsStrictlySortedBy string_order (keys_of es) → (f : NodeFinding) → Contains (field_findings p (members_of es)) f → OfFields p (members_of es) f
  unfolding IsStrictlySortedBy
  told_in [] up f h = absurd (none_in f h)
  told_in (e ∷ es) up f h = by (must_understand e.1) refl (λ later. let w = told_in es up.1 f later in (w.0, w.1, later_found w.0 e es w.1 up.0 w.2, w.3, w.4)) h
    where
      by : (b : Bool) → must_understand e.1 ≡ b → (Contains (field_findings p (members_of es)) f → OfFields p (members_of (e ∷ es)) f)
          → Contains (if b then field_finding p (string_bytes e.0) ∷ field_findings p (members_of es) else field_findings p (members_of es)) f → OfFields p (members_of (e ∷ es)) f
      by true is again h = ⊎_elim (λ same. (string_bytes e.0, e.1, first_found e es, is, sym same)) again (in_cases (field_finding p (string_bytes e.0)) (field_findings p (members_of es)) f h)
      by false is again h = again h

  -- and of each field what there is to tell is told
  told_out : (es : List Entry) (name : List ℕ) (d : Data) → get_member name (members_of es) ≡ Some d → must_understand d ≡ true → Contains (field_findings p (members_of es)) (field_finding p name)
  told_out [] name d h must = absurd (no_value None d refl h)
  told_out (e ∷ es) name d h must = by (must_understand e.1) refl (λ later. told_out es name d later must) (found_cases name e es d h)
    where
      by : (b : Bool) → must_understand e.1 ≡ b → (get_member name (members_of es) ≡ Some d → Contains (field_findings p (members_of es)) (field_finding p name))
          → ((name ≡ string_bytes e.0) × (e.1 ≡ d)) ⊎ (get_member name (members_of es) ≡ Some d)
          → Contains (if b then field_finding p (string_bytes e.0) ∷ field_findings p (members_of es) else field_findings p (members_of es)) (field_finding p name)
      by true is again c = ⊎_elim
          (λ here. subst (λ x. Contains (field_finding p (string_bytes e.0) ∷ field_findings p (members_of es)) (field_finding p x)) (sym here.0) (first_in (field_finding p (string_bytes e.0)) (field_findings p (members_of es))))
          (λ later. later_in (field_finding p (string_bytes e.0)) (field_findings p (members_of es)) (field_finding p name) (again later))
          c
      by false is again c = ⊎_elim (λ here. absurd (true≢false (sym must ∙ ap must_understand (sym here.1) ∙ is))) again c

  -- a finding of a field stands before that of a field with a later name
  before : (k l : List ℕ) → bytes_cmp k l ≡ Less → ComesBefore (field_finding p k) (field_finding p l)
  before k l less = inr (field_place p k ∙ sym (field_place p l), ap (λ x. bytes_cmp x (field_of (field_finding p l))) (field_is p k) ∙ ap (bytes_cmp k) (field_is p l) ∙ less)

  -- what is told of ascending fields ascends
  told_ascend : (es : List Entry) → IsStrictlySortedBy string_order (keys_of es) → AllPairs ComesBefore (field_findings p (members_of es))
  unfolding IsStrictlySortedBy
  told_ascend [] up = λ i j d l m. absurd (omega (arith, m))
  told_ascend (e ∷ es) up = by (must_understand e.1) (told_ascend es up.1)
    where
      by : (b : Bool) → AllPairs ComesBefore (field_findings p (members_of es)) → AllPairs ComesBefore (if b then field_finding p (string_bytes e.0) ∷ field_findings p (members_of es) else field_findings p (members_of es))
      by true rest = pairs_cons ComesBefore (field_finding p (string_bytes e.0)) (field_findings p (members_of es))
          (λ f in'.
          let w = told_in es up.1 f in' in
          subst (ComesBefore (field_finding p (string_bytes e.0))) (sym w.4) (before (string_bytes e.0) w.0 (below_found (string_bytes e.0) es w.0 w.1 up.0 w.2)))
          rest
      by false rest = rest

  -- what is told of ascending fields
  entries_part : (es : List Entry) → NamesAscend es → IsPart 5 6 (OfFields p (members_of es)) (field_findings p (members_of es))
  entries_part es up = record {
    exact = λ f. (told_in es up f, λ h. subst (Contains (field_findings p (members_of es))) (sym h.4) (told_out es h.0 h.1 h.2 h.3));
    ascend = told_ascend es up;
    within = λ f h. let w = told_in es up f h in at w.0 f w.4;
  }
    where
      at : (name : List ℕ) (f : NodeFinding) → f ≡ field_finding p name → (5 ≤ place_of f) × (place_of f < 6)
      at name f is = let e : place_of f ≡ 5 = ap place_of is ∙ field_place p name in (omega arith, omega arith)

-- what is told of the fields of a group
pub field_part : (p : Path) (m : NodeMetadata) → FieldsAscend (fields_of m) → IsPart 5 6 (IsFieldFinding p m) (field_findings p (fields_of m))
field_part p m (es, up, same) = subst (λ ms. IsPart 5 6 (OfFields p ms) (field_findings p ms)) same (entries_part p es up)

-- no fields ascend
pub none_ascend : (ms : Members) → no_members ≡ ms → FieldsAscend ms
unfolding IsStrictlySortedBy
none_ascend ms e = ([], tt, e)
