-- By default a hierarchy without documents of version 3 means what it means by version 2.
use Rattle.std.proofs.Common.{◌≡◌, ◌↔◌, inl, inr, ℕ, true, List, [], ◌∷◌, ◌++◌, Option, Some, None, Ok, is_some, refl, sym, ap, subst, ◌∙◌}
use Rattle.std.specs.FinMap.{get}
use Rattle.zarrs_store.specs.Contents.{Contents}
use Rattle.zarrs_path.specs.Keys.{zarr_json}
use Rattle.zarrs_path.specs.Paths.{Path}
use Rattle.zarrs_meta.specs.declared.node.NodeMetadata.{NodeMetadata}
use Rattle.zarrs_config.specs.declared.version.MetadataRetrieveVersion.TheVariants.{Default, V2}
use Rattle.zarrs_meaning.specs.Meaning.{meaning}
use Rattle.zarrs_node.specs.Nodes.{Nodes}
use Rattle.zarrs_node.specs.Nodes.{StandsFrom}
use Rattle.zarrs_examples.specs.MapsOfNodes.{GoesOver, HasNoVersion3From, IsMapped, DefaultIsVersion2}
use Rattle.zarrs_examples.proofs.maps.MapsShown.{nodes_over, same_some, some_keeps, unchanged}
use Rattle.zarrs_meaning.proofs.Meanings.{document_none, zarr_json_line_is, default_is, v2_is}

module _ (S : Contents) (b : Path) (none : HasNoVersion3From S b) where
  -- from b on a path means by default what it means by version 2
  alike : (p : Path) → StandsFrom S Default b p → meaning S Default p ≡ meaning S V2 p
  alike p from = by (get S.values (p ++ zarr_json ∷ [])) refl
    where
      by : (o : Option (List ℕ)) → get S.values (p ++ zarr_json ∷ []) ≡ o → meaning S Default p ≡ meaning S V2 p
      by (Some bytes) e = absurd (none p from (ap is_some e))
      by None e = default_is S p ∙ zarr_json_line_is S p _ refl (Ok None) (document_none _ S _ (sym e)) _ ∙ sym (v2_is S p)

  -- below b are the same nodes
  nodes_alike : (e : Path × NodeMetadata) → Nodes S Default true b e ↔ Nodes S V2 true b e
  nodes_alike e = (
    λ h. (over e).1 (e.1, h, refl),
    λ h. let w = (over e).0 h in subst (λ m. Nodes S Default true b (e.0, m)) (same_some w.0 e.1 w.2) w.1,
  )
    where
      over : (e : Path × NodeMetadata) → Nodes S V2 true b e ↔ IsMapped Some (Nodes S Default true b) e
      over = nodes_over Some some_keeps (meaning S Default) (meaning S V2) b (λ p r. unchanged (meaning S Default p) (meaning S V2 p) (sym (alike p (inr r))))

-- what a store shows of another by default it shows of it by version 2
pub default_is_version_2 : DefaultIsVersion2
default_is_version_2 f b S T w none shows = record {
  base = subst (λ x. GoesOver f x (meaning T w b)) (alike S b none b (inl refl)) shows.base;
  nodes = λ e. (
    λ h. let v = (shows.nodes e).0 h in (v.0, (nodes_alike S b none (e.0, v.0)).0 v.1, v.2),
    λ v. (shows.nodes e).1 (v.0, (nodes_alike S b none (e.0, v.0)).1 v.1, v.2),
  );
  clean = shows.clean;
}
