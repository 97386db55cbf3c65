-- What a store shows whose numbers are whole, it shows where they may be any.
use Rattle.std.proofs.Common.{◌≡◌, ◌≢◌, false, Some, refl, sym, ap, subst, ◌∙◌, inl, ⊎_elim}
use Rattle.zarrs_fault.specs.declared.numbers.Numbers.TheVariants.{Whole}
use Rattle.zarrs_store.specs.Contents.{Contents, HasBelow}
use Rattle.zarrs_path.specs.Paths.{Path}
use Rattle.zarrs_config.specs.declared.version.MetadataRetrieveVersion.{MetadataRetrieveVersion}
use Rattle.zarrs_meaning.specs.DocumentsAtKeys.{in_bytes}
use Rattle.zarrs_meaning.specs.Meaning.{Meaning, meaning_in, meaning, node, nothing, bad}
use Rattle.zarrs_meaning.specs.Meaning.{is_bad}
use Rattle.zarrs_meaning.specs.declared.node_create_error.NodeCreateError.{NodeCreateError}
use Rattle.zarrs_meaning.proofs.MoreMeanings.{bytes_more, meaning_too}
use Rattle.zarrs_examples.specs.MapsOfNodes.{WholeShowsTheSame}
use Rattle.zarrs_examples.proofs.maps.MapsShown.{mapped_is_shown, some_keeps, unchanged}

-- what is bad with no refusal is not bad
not_bad : (m : Meaning) → ((e : NodeCreateError) → m ≢ bad e) → is_bad m ≡ false
not_bad (node m) none = refl
not_bad nothing none = refl
not_bad (bad e) none = absurd (none e refl)

module _ (S T : Contents) (v : MetadataRetrieveVersion) (whole : S.numbers ≡ Whole) (same : T.values ≡ S.values) where
  -- a path that is not bad where numbers are whole means the same
  pub means_the_same : (p : Path) → ((e : NodeCreateError) → meaning S v p ≢ bad e) → meaning T v p ≡ meaning S v p
  means_the_same p none =
      let fine : is_bad (meaning_in (in_bytes Whole) S.values v p) ≡ false = ap (λ n. is_bad (meaning_in (in_bytes n) S.values v p)) (sym whole) ∙ not_bad (meaning S v p) none in
      ap (λ s. meaning_in (in_bytes T.numbers) s v p) same
      ∙ meaning_too T.numbers (in_bytes T.numbers) (in_bytes Whole) (bytes_more T.numbers) S.values p v fine
      ∙ ap (λ n. meaning_in (in_bytes n) S.values v p) (sym whole)

-- a store of whole numbers shows the same where they may be any
pub whole_shows_the_same : WholeShowsTheSame
whole_shows_the_same S T v b whole same base good =
    mapped_is_shown Some some_keeps S T v v b good
    (λ p stands. unchanged (meaning S v p) (meaning T v p) (means_the_same S T v whole same p (λ e is. ⊎_elim
    (λ here. base e (ap (meaning S v) (sym here) ∙ is))
    (λ reached. good (inl (e, (p, reached, is))))
    stands)))
    (λ p d. subst (λ s. HasBelow s p) same (subst (HasBelow T.values) (sym d.5) d.4))
