-- What is told of the dimensions of a node is what there is to tell of them.
use Rattle.std.proofs.Common.{◌≡◌, ◌≢◌, ◌↔◌, ◌⊎◌, inl, inr, ⊎_elim, ℕ, ◌==◌, Bool, true, false, true≢false, not, List, [], ◌∷◌, length, Option, Some, None, refl, sym, subst, ◌∙◌, lit≤, Contains}
use Rattle.std.proofs.lemmas.Bool.{not-true, not_from_false, false_from_ne_true}
use Rattle.std.proofs.lemmas.Bool.Decides.{Decides-eqb}
use Rattle.std.specs.Prelude.{◌||◌}
use Rattle.zarrs_form.specs.FormsV2.{has_zero}
use Rattle.zarrs_meta.specs.declared.node.NodeMetadata.{NodeMetadata}
use Rattle.zarrs_notes.specs.NodeFindings.{IsGridFinding, IsLengthsFinding, IsNameFinding, IsZeroFinding}
use Rattle.zarrs_notes.specs.Shapes.{is_regular, lengths_of_chunks, names_of_dimensions, rank}
use Rattle.zarrs_notes.specs.StepsOfFindings.{chunk_findings, measure_of, name_findings, shape_findings, told_if}
use Rattle.zarrs_notes.specs.declared.finding.NodeFinding.{NodeFinding}
use Rattle.zarrs_notes.specs.declared.finding.NodeFinding.TheVariants.{GridRank, NameCount, NoLengths, ZeroLength}
use Rattle.zarrs_notes.proofs.Parts.{IsPart, first_in, in_cases, joined, later_in, no_part, none_in, said, told_part, wider}

-- the test whether two numbers differ
differ : (a b : ℕ) → (not (a == b) ≡ true) ↔ (a ≢ b)
differ a b = (
  λ h e. true≢false (sym ((Decides-eqb a b).1 e) ∙ not-true (a == b) h),
  λ h. not_from_false (a == b) (false_from_ne_true (a == b) (λ e. h ((Decides-eqb a b).0 e))),
)

-- 0 is one of the lengths where some length is 0
zero_in : (ns : List ℕ) → has_zero ns ≡ true → Contains ns 0
zero_in [] h = absurd (true≢false (sym h))
zero_in (n ∷ ns) h = by (n == 0) refl (zero_in ns) h
  where
    by : (b : Bool) → (n == 0) ≡ b → (has_zero ns ≡ true → Contains ns 0) → (b || has_zero ns) ≡ true → Contains (n ∷ ns) 0
    by true is again h = subst (Contains (n ∷ ns)) ((Decides-eqb n 0).0 is) (first_in n ns)
    by false is again h = later_in n ns 0 (again h)

-- and some length is 0 where 0 is one of them
zero_found : (ns : List ℕ) → Contains ns 0 → has_zero ns ≡ true
zero_found [] h = absurd (none_in 0 h)
zero_found (n ∷ ns) h = by (n == 0) refl (zero_found ns) (in_cases n ns 0 h)
  where
    by : (b : Bool) → (n == 0) ≡ b → (Contains ns 0 → has_zero ns ≡ true) → (n ≡ 0) ⊎ Contains ns 0 → (b || has_zero ns) ≡ true
    by true is again h = refl
    by false is again h = ⊎_elim (λ e. absurd (true≢false (sym ((Decides-eqb n 0).1 e) ∙ is))) again h

-- what there is to tell of the lengths of a chunk, and of dimension names, beside a shape of so many lengths
abbrev OfRank : ℕ → Option (List ℕ) → NodeFinding → Type 0
OfRank r o f = (lengths : List ℕ) × (o ≡ Some lengths) × (length lengths ≢ r) × (f ≡ GridRank (length lengths) r)

-- what there is to tell of no lengths, of chunks that are regular or not
abbrev OfNone : Bool → Option (List ℕ) → NodeFinding → Type 0
OfNone regular o f = (regular ≡ true) × (o ≡ None) × (f ≡ NoLengths)

-- what there is to tell of lengths of which one is 0
abbrev OfZero : Option (List ℕ) → NodeFinding → Type 0
OfZero o f = (lengths : List ℕ) × (o ≡ Some lengths) × Contains lengths 0 × (f ≡ ZeroLength)

-- what there is to tell of dimension names that are not as many as the lengths of the shape
abbrev OfNames : ℕ → Option (List (Option (List ℕ))) → NodeFinding → Type 0
OfNames r o f = (names : List (Option (List ℕ))) × (o ≡ Some names) × (length names ≢ r) × (f ≡ NameCount (length names) r)

-- what is told of a rank
rank_part : (r : ℕ) (ns : List ℕ) → IsPart 0 1 (OfRank r (Some ns)) (told_if (not (length ns == r)) (GridRank (length ns) r))
rank_part r ns =
    said 0 1 (λ f. (not (length ns == r) ≡ true) × (f ≡ GridRank (length ns) r)) (OfRank r (Some ns)) (told_if (not (length ns == r)) (GridRank (length ns) r))
    (λ f. (
      λ h. (ns, refl, (differ (length ns) r).0 h.0, h.1),
      λ h. let same : h.0 ≡ ns = cc in ((differ (length ns) r).1 (subst (λ (x : List ℕ). length x ≢ r) same h.2), subst (λ (x : List ℕ). f ≡ GridRank (length x) r) same h.3),
    ))
    (told_part 0 (not (length ns == r)) (GridRank (length ns) r) refl)

-- what is told of a length 0
zero_part : (ns : List ℕ) → IsPart 1 2 (OfZero (Some ns)) (told_if (has_zero ns) ZeroLength)
zero_part ns =
    said 1 2 (λ f. (has_zero ns ≡ true) × (f ≡ ZeroLength)) (OfZero (Some ns)) (told_if (has_zero ns) ZeroLength)
    (λ f. (
      λ h. (ns, refl, zero_in ns h.0, h.1),
      λ h. let same : h.0 ≡ ns = cc in (zero_found ns (subst (λ (x : List ℕ). Contains x 0) same h.2), h.3),
    ))
    (told_part 1 (has_zero ns) ZeroLength refl)

-- what is told of lengths that are not there, and nothing of lengths
none_part : (r : ℕ) (regular : Bool) → IsPart 0 2 (λ f. OfNone regular None f ⊎ (OfRank r None f ⊎ OfZero None f)) (told_if regular NoLengths)
none_part r regular =
    said 0 2 (λ f. (regular ≡ true) × (f ≡ NoLengths)) (λ f. OfNone regular None f ⊎ (OfRank r None f ⊎ OfZero None f)) (told_if regular NoLengths)
    (λ f. (
      λ h. inl (h.0, refl, h.1),
      ⊎_elim (λ h. (h.0, h.2)) (⊎_elim (λ (x : OfRank r None f). let e = x.1 in cc) (λ (x : OfZero None f). let e = x.1 in cc)),
    ))
    (wider 0 1 2 (λ f. (regular ≡ true) × (f ≡ NoLengths)) (told_if regular NoLengths) (lit≤ tt) (told_part 0 regular NoLengths refl))

-- what is told of lengths that are there
some_part : (r : ℕ) (regular : Bool) (ns : List ℕ)
    → IsPart 0 2 (λ f. OfNone regular (Some ns) f ⊎ (OfRank r (Some ns) f ⊎ OfZero (Some ns) f)) (chunk_findings r regular (measure_of (Some ns)))
some_part r regular ns =
    said 0 2 (λ f. OfRank r (Some ns) f ⊎ OfZero (Some ns) f) (λ f. OfNone regular (Some ns) f ⊎ (OfRank r (Some ns) f ⊎ OfZero (Some ns) f)) (chunk_findings r regular (measure_of (Some ns)))
    (λ f. (inr, ⊎_elim (λ (x : OfNone regular (Some ns) f). let e = x.1 in cc) (λ h. h)))
    (joined 0 1 2 (OfRank r (Some ns)) (OfZero (Some ns)) _ _ (lit≤ tt) (lit≤ tt) (rank_part r ns) (zero_part ns))

-- what is told of the lengths of a chunk
chunk_part : (r : ℕ) (regular : Bool) (o : Option (List ℕ)) → IsPart 0 2 (λ f. OfNone regular o f ⊎ (OfRank r o f ⊎ OfZero o f)) (chunk_findings r regular (measure_of o))
chunk_part r regular None = none_part r regular
chunk_part r regular (Some ns) = some_part r regular ns

-- what is told of the dimension names
name_part : (r : ℕ) (o : Option (List (Option (List ℕ)))) → IsPart 2 3 (OfNames r o) (name_findings r o)
name_part r None = no_part 2 3 (OfNames r None) (λ f (h : OfNames r None f). let e = h.1 in cc)
name_part r (Some ns) =
    said 2 3 (λ f. (not (length ns == r) ≡ true) × (f ≡ NameCount (length ns) r)) (OfNames r (Some ns)) (told_if (not (length ns == r)) (NameCount (length ns) r))
    (λ f. (
      λ h. (ns, refl, (differ (length ns) r).0 h.0, h.1),
      λ h. let same : h.0 ≡ ns = cc in ((differ (length ns) r).1 (subst (λ (x : List (Option (List ℕ))). length x ≢ r) same h.2), subst (λ (x : List (Option (List ℕ))). f ≡ NameCount (length x) r) same h.3),
    ))
    (told_part 2 (not (length ns == r)) (NameCount (length ns) r) refl)

-- what is told of the dimensions of a node
pub shape_part : (m : NodeMetadata) → IsPart 0 3 (λ f. (IsLengthsFinding m f ⊎ (IsGridFinding m f ⊎ IsZeroFinding m f)) ⊎ IsNameFinding m f) (shape_findings m)
shape_part m = joined 0 2 3 (λ f. IsLengthsFinding m f ⊎ (IsGridFinding m f ⊎ IsZeroFinding m f)) (IsNameFinding m) _ _ (lit≤ tt) (lit≤ tt) (chunk_part (rank m) (is_regular m) (lengths_of_chunks m)) (name_part (rank m) (names_of_dimensions m))
