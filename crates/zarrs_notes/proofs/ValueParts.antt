-- What is told of the fill value and the codecs of a node is what there is to tell of them.
use Rattle.std.proofs.Common.{◌≡◌, ◌↔◌, ◌⊎◌, ⊎_elim, ◌==◌, Bool, true, not, List, [], ◌∷◌, length, refl, arith, lit≤}
use Rattle.std.proofs.lemmas.Bool.{not-true, not_from_false}
use Rattle.std.proofs.lemmas.Bool.Decides.{Decides-eqb}
use Rattle.zarrs_meta.specs.declared.node.ArrayMetadata.TheVariants.{V3, V2}
use Rattle.zarrs_meta.specs.declared.node.NodeMetadata.{NodeMetadata}
use Rattle.zarrs_meta.specs.declared.node.NodeMetadata.TheVariants.{Group, Array}
use Rattle.zarrs_notes.specs.FillValues.{is_fill_value}
use Rattle.zarrs_notes.specs.NodeFindings.{IsCodecFinding, IsFillFinding}
use Rattle.zarrs_notes.specs.StepsOfFindings.{fill_findings, told_if, value_findings}
use Rattle.zarrs_notes.specs.declared.finding.NodeFinding.TheVariants.{FillValue, NoCodecs}
use Rattle.zarrs_notes.proofs.Parts.{IsPart, joined, no_part, said, told_part}

-- a list without items has the length 0, and no other has
empty_test : {A : Type 0} → (xs : List A) → ((length xs == 0) ≡ true) ↔ (xs ≡ [])
empty_test [] = (λ h. refl, λ h. refl)
empty_test (x ∷ xs) = (λ h. let none : length (x ∷ xs) ≡ 0 = (Decides-eqb (length (x ∷ xs)) 0).0 h in absurd (omega (arith, none)), λ h. cc)

-- what is told of the fill value and the codecs
pub value_part : (m : NodeMetadata) → IsPart 3 5 (λ f. IsFillFinding m f ⊎ IsCodecFinding m f) (value_findings m)
value_part (Group g) = no_part 3 5 (λ f. IsFillFinding (Group g) f ⊎ IsCodecFinding (Group g) f) (λ f. ⊎_elim (λ h. h) (λ h. h))
value_part (Array (V2 a)) = no_part 3 5 (λ f. IsFillFinding (Array (V2 a)) f ⊎ IsCodecFinding (Array (V2 a)) f) (λ f. ⊎_elim (λ h. h) (λ h. h))
value_part (Array (V3 a)) = joined 3 4 5 (IsFillFinding (Array (V3 a))) (IsCodecFinding (Array (V3 a))) _ _ (lit≤ tt) (lit≤ tt) fill codecs
  where
    fits : Bool
    fits = is_fill_value a.data_type.name a.fill_value

    fill : IsPart 3 4 (IsFillFinding (Array (V3 a))) (fill_findings a.data_type.name a.fill_value)
    fill = said 3 4 (λ f. (not fits ≡ true) × (f ≡ FillValue a.data_type.name)) (IsFillFinding (Array (V3 a))) _
        (λ f. (λ h. (not-true fits h.0, h.1), λ h. (not_from_false fits h.0, h.1)))
        (told_part 3 (not fits) (FillValue a.data_type.name) refl)

    codecs : IsPart 4 5 (IsCodecFinding (Array (V3 a))) (told_if (length a.codecs == 0) NoCodecs)
    codecs = said 4 5 (λ f. ((length a.codecs == 0) ≡ true) × (f ≡ NoCodecs)) (IsCodecFinding (Array (V3 a))) _
        (λ f. (λ h. ((empty_test a.codecs).0 h.0, h.1), λ h. ((empty_test a.codecs).1 h.0, h.1)))
        (told_part 4 (length a.codecs == 0) NoCodecs refl)
