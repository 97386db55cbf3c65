-- What the keys below a path say of its meaning and of its beginnings.
use Rattle.std.proofs.Common.{◌≡◌, Bool, ◌∷◌, ◌++◌, None, Ok, refl, ap, subst, ◌∙◌, ◌⊎◌, inl, inr, ⊎_elim, append_assoc}
use Rattle.zarrs_store.specs.Contents.{Contents, HasKey, HasBelow}
use Rattle.zarrs_store.proofs.Below.{key_or_none}
use Rattle.zarrs_path.specs.Paths.{Path}
use Rattle.zarrs_path.specs.Keys.{zarr_json, zarray, zgroup}
use Rattle.zarrs_config.specs.declared.version.MetadataRetrieveVersion.{MetadataRetrieveVersion}
use Rattle.zarrs_config.specs.declared.version.MetadataRetrieveVersion.TheVariants.{Default, V3, V2}
use Rattle.zarrs_meaning.specs.DocumentsAtKeys.{in_bytes, attributes_at}
use Rattle.zarrs_meaning.specs.Meaning.{Meaning, meaning, nothing, zarr_json_line, zarray_line, zgroup_line}
use Rattle.zarrs_meaning.proofs.Meanings.{document_none, zarr_json_line_is, zarray_line_is, zgroup_line_is, default_is, v3_is, v2_is}
use Rattle.zarrs_node.specs.Nodes.{MeansNode}
use Rattle.zarrs_node.proofs.Reach.{Through}

-- a line says nothing of a path with no key below it
abbrev Skips : Contents → Path → (Meaning → Meaning) → Type 0
Skips s p line = HasBelow s.values p ⊎ ((after : Meaning) → line after ≡ after)

-- `zarr.json` says nothing of a path with no key below it
skips_1 : (s : Contents) (p : Path) → Skips s p (zarr_json_line (in_bytes s.numbers) s.values p)
skips_1 s p = ⊎_elim inl (λ none. inr (zarr_json_line_is s p _ refl (Ok None) (document_none _ s _ none))) (key_or_none s.values p zarr_json)

-- `.zarray` says nothing of a path with no key below it
skips_2 : (s : Contents) (p : Path) → Skips s p (zarray_line (in_bytes s.numbers) s.values p)
skips_2 s p = ⊎_elim inl (λ none. inr (zarray_line_is s p _ refl (Ok None) (document_none _ s _ none) (attributes_at s p) refl)) (key_or_none s.values p zarray)

-- `.zgroup` says nothing of a path with no key below it
skips_3 : (s : Contents) (p : Path) → Skips s p (zgroup_line (in_bytes s.numbers) s.values p)
skips_3 s p = ⊎_elim inl (λ none. inr (zgroup_line_is s p _ refl (Ok None) (document_none _ s _ none) (attributes_at s p) refl)) (key_or_none s.values p zgroup)

-- the version 2 documents say nothing of a path with no key below it
skips_23 : (s : Contents) (p : Path) → HasBelow s.values p ⊎ (zarray_line (in_bytes s.numbers) s.values p (zgroup_line (in_bytes s.numbers) s.values p nothing) ≡ nothing)
skips_23 s p = ⊎_elim inl (λ two. ⊎_elim inl (λ three. inr (two _ ∙ three nothing)) (skips_3 s p)) (skips_2 s p)

-- a path with no key below it means nothing
pub means_or_nothing : (s : Contents) (v : MetadataRetrieveVersion) (p : Path) → HasBelow s.values p ⊎ (meaning s v p ≡ nothing)
means_or_nothing s Default p = ⊎_elim inl (λ one. ⊎_elim inl (λ rest. inr (default_is s p ∙ one _ ∙ rest)) (skips_23 s p)) (skips_1 s p)
means_or_nothing s V3 p = ⊎_elim inl (λ one. inr (v3_is s p ∙ one nothing)) (skips_1 s p)
means_or_nothing s V2 p = ⊎_elim inl (λ rest. inr (v2_is s p ∙ rest)) (skips_23 s p)

-- a key below p is below c too
pub below_through : (s : Contents) (v : MetadataRetrieveVersion) (r : Bool) (c p : Path) → Through (MeansNode s v) r c p → HasBelow s.values p → HasBelow s.values c
below_through s v r c p t (n, ns, there) = elim t as (λ _. HasBelow s.values c) [
  | inl e ↦ (n, ns, subst (λ x. HasKey s.values (x ++ n ∷ ns)) e there)
  | inr (open', h) ↦ (h.below.0, h.below.1 ++ n ∷ ns, subst (λ k. HasKey s.values k) (ap (λ x. x ++ n ∷ ns) h.below.2 ∙ append_assoc c (h.below.0 ∷ h.below.1) (n ∷ ns)) there)
]
