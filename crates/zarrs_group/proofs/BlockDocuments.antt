-- What is made as the document that holds the block of a group is that document.
use Rattle.std.proofs.Common.{◌≡◌, ℕ, List, [], ◌∷◌, ◌++◌, Option, Some, None, sym, subst, ap, ◌∙◌}
use Rattle.std.specs.Prelude.{Result, Ok, Err, IfOk, IfSome}
use Rattle.std.specs.Global.{Vec}
use Rattle.serde_json.specs.Data.{Data}
use Rattle.zarrs_store.specs.Segments.{Segments}
use Rattle.zarrs_path.specs.Keys.{zarr_json, zmetadata}
use Rattle.zarrs_path.specs.Paths.{Path}
use Rattle.zarrs_form.specs.DocumentTexts.{IsTextOf}
use Rattle.zarrs_meta.specs.GroupV3.{group_v3_tree}
use Rattle.zarrs_meta.specs.declared.group_v2.GroupMetadataV2.{GroupMetadataV2}
use Rattle.zarrs_meta.specs.declared.group_v3.GroupMetadataV3.{GroupMetadataV3}
use Rattle.zarrs_meta.specs.declared.node.GroupMetadata.{GroupMetadata}
use Rattle.zarrs_meta.specs.declared.node.GroupMetadata.TheVariants.{V3, V2}
use Rattle.zarrs_block.specs.Block.{Block}
use Rattle.zarrs_block.specs.Zmetadata.{zmetadata_tree}
use Rattle.zarrs_group.specs.AsciiTexts.{IsAsciiTextOf}
use Rattle.zarrs_group.specs.BlockDocuments.{IsBlockDocument, IsDocumentText, document_with_block}
use Rattle.zarrs_group.specs.Groups.{GroupState}

-- a key and a tree, with bytes that are written of it, where a path has these metadata and this block beside them
abbrev Documents : Path → GroupMetadata → Option Block → Segments → List ℕ → Type 0
Documents p m block key bytes = (d : Data) × (document_with_block p m block ≡ Some (key, d)) × IsDocumentText m bytes d

-- a key and a tree that there are
abbrev there : Segments → Data → Option (Segments × Data)
there key d = Some (key, d)

-- equal keys and trees are there alike
same_pair : (k key : Segments) (c d : Data) → key ≡ k → d ≡ c → there k c ≡ there key d
same_pair k key c d keys trees = ap (λ x. there x c) (sym keys) ∙ ap (λ x. there key x) (sym trees)

-- what is found at the key of a version 3 group and written of its tree is its document
pub version_3_found : {E : Type 0} (g : GroupState) (n : GroupMetadataV3) (key : Segments) (d : Data) (r : Result (Option (Segments × Vec ℕ)) E) → g.metadata ≡ V3 n → key ≡ g.path ++ zarr_json ∷ []
    → d ≡ group_v3_tree n → IfOk r (λ found. IfSome found (λ made. made.0 ≡ key)) → IfOk r (λ found. IfSome found (λ made. IsTextOf made.1.items d))
    → IfOk r (λ found. IfSome found (λ made. IsBlockDocument g made.0 made.1.items))
version_3_found g n key d (Ok (Some made)) is keys trees at text =
    subst (λ m. Documents g.path m g.block made.0 made.1.items) (sym is) (d, same_pair (g.path ++ zarr_json ∷ []) made.0 (group_v3_tree n) d (at ∙ keys) trees, text)
version_3_found g n key d (Ok None) is keys trees at text = tt
version_3_found g n key d (Err e) is keys trees at text = tt

-- what is found at the key of the block beside a version 2 group and written of its tree is its document
pub version_2_found : {E : Type 0} (g : GroupState) (n : GroupMetadataV2) (B : Block) (key : Segments) (d : Data) (r : Result (Option (Segments × Vec ℕ)) E) → g.metadata ≡ V2 n → g.block ≡ Some B
    → key ≡ g.path ++ zmetadata ∷ [] → d ≡ zmetadata_tree n B → IfOk r (λ found. IfSome found (λ made. made.0 ≡ key)) → IfOk r (λ found. IfSome found (λ made. IsAsciiTextOf made.1.items d))
    → IfOk r (λ found. IfSome found (λ made. IsBlockDocument g made.0 made.1.items))
version_2_found g n B key d (Ok (Some made)) is beside keys trees at text =
    subst (λ m. Documents g.path m g.block made.0 made.1.items) (sym is)
    (subst (λ block. Documents g.path (V2 n) block made.0 made.1.items) (sym beside) (d, same_pair (g.path ++ zmetadata ∷ []) made.0 (zmetadata_tree n B) d (at ∙ keys) trees, text))
version_2_found g n B key d (Ok None) is beside keys trees at text = tt
version_2_found g n B key d (Err e) is beside keys trees at text = tt
