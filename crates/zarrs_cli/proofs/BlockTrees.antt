-- A tree that is shown where a block is demanded is the one that is shown by the block where there is one.
use Rattle.std.proofs.Common.{◌≡◌, true, List, ℕ, Option, Some, None, refl, sym, subst, ◌∙◌, String, Global, string_bytes}
use Rattle.std.specs.Prelude.{Result, Ok, Err, IfOk, IfSome}
use Rattle.std.specs.Result.{result_ok}
use Rattle.zarrs_store.specs.Contents.{Contents, Values}
use Rattle.zarrs_path.specs.Paths.{Path, IsPath, path_text}
use Rattle.zarrs_path.proofs.LawProofs.{texts_differ}
use Rattle.zarrs_meta.specs.declared.node.GroupMetadata.{GroupMetadata}
use Rattle.zarrs_meta.specs.declared.node.NodeMetadata.{NodeMetadata}
use Rattle.zarrs_meta.specs.declared.node.NodeMetadata.TheVariants.{Group, Array}
use Rattle.zarrs_config.specs.declared.version.MetadataRetrieveVersion.TheVariants.{Default}
use Rattle.zarrs_config.specs.declared.version.UseConsolidatedMetadata.TheVariants.{Auto, Must}
use Rattle.zarrs_block.specs.Block.{Block}
use Rattle.zarrs_block.specs.Policy.{list_store, block_to_use}
use Rattle.zarrs_meaning.specs.Meaning.{Pair, meaning, node}
use Rattle.zarrs_meaning.specs.declared.node_create_error.NodeCreateError.{NodeCreateError}
use Rattle.zarrs_node.specs.BlocksBelow.{block_at}
use Rattle.zarrs_node.specs.OpeningNodes.{choice, IsCleanBelow, IsCleanChosen}
use Rattle.zarrs_hierarchy.specs.PairsOfHierarchies.{Pairs, Holds, WithBase}
use Rattle.zarrs_hierarchy.specs.OpeningHierarchies.{PairsChosen, PairsOf, IsOpened}
use Rattle.zarrs_hierarchy.proofs.OpenedPairs.{node_one}
use Rattle.zarrs_folder.specs.Folders.{in_any}
use Rattle.zarrs_folder.specs.PrunedStores.{HasBaseOf}
use Rattle.zarrs_folder.proofs.Openings.{base_opens_same}
use Rattle.zarrs_cli.specs.NodeLines.{IsShown, tree_line}
use Rattle.zarrs_cli.specs.StepsOfRuns.{IsWrittenOfEach, IsWrittenOfSome}
use Rattle.zarrs_cli.specs.declared.words.Word.TheVariants.{Tree}
use Rattle.zarrs_cli.proofs.LoadedAnswers.{writes_over}

module _ (s : Contents) where
  -- where a block is demanded and nothing is refused, there is one: it is used too where that is left open
  used_too : (p : Path) (o : Option Block) → IsCleanChosen s Default (block_to_use o Must) true p
      → (block_to_use o Must ≡ block_to_use o Auto) × (block_to_use o Auto ≡ list_store → ⊥)
  used_too p None clean = absurd clean
  used_too p (Some B) clean = (refl, λ is. cc)

  -- so the same is opened
  opened_auto : (p : Path) (m : NodeMetadata) (h : Pairs) → Holds h (WithBase p m (PairsOf s Default Must p m)) → IsCleanBelow s Default Must p m
      → Holds h (WithBase p m (PairsOf s Default Auto p m)) × IsCleanBelow s Default Auto p m
  opened_auto p (Array a) h held clean = (held, clean)
  opened_auto p (Group g) h held clean =
      let same = (used_too p (block_at s p (Group g)) clean).0 in
      (subst (λ c. Holds h (WithBase p (Group g) (PairsChosen s Default c p))) same held, subst (λ c. IsCleanChosen s Default c true p) same clean)

  -- and nothing is listed
  not_listed : (p : Path) (m : NodeMetadata) (g : GroupMetadata) → m ≡ Group g → IsCleanBelow s Default Must p m → choice s Auto p (Group g) ≡ list_store → ⊥
  not_listed p m g is clean = (used_too p (block_at s p (Group g)) (subst (IsCleanBelow s Default Must p) is clean)).1

  module _ (b : Path) (valid : IsPath b) (line_of : Pair → List ℕ) (text : List ℕ) where
    -- what is shown where a block is demanded is shown by it, and nothing is listed for it
    pub shown_by_block : IsShown s Must b line_of text
        → IsShown s Auto b line_of text × ((g : GroupMetadata) → meaning s Default b ≡ node (Group g) → choice s Auto b (Group g) ≡ list_store → ⊥)
    shown_by_block (h, o, is) =
        let path : o.base ≡ b = texts_differ o.base b o.valid valid o.path in
        let both = opened_auto o.base o.metadata h o.holds o.clean in
        let opened : IsOpened s Default Auto (path_text b) h =
        record { base = o.base; valid = o.valid; path = o.path; metadata = o.metadata; means = o.means; holds = both.0; clean = both.1 } in (
          (h, opened, is),
          λ g means.
              let same : o.metadata ≡ Group g = node_one o.metadata (Group g) (sym (subst (λ p. meaning s Default p ≡ node o.metadata) path o.means) ∙ means) in
              not_listed b o.metadata g same (subst (λ p. IsCleanBelow s Default Must p o.metadata) path o.clean),
        )

module _ (b : Path) (valid : IsPath b) (L : Values) where
  -- the tree of what was loaded is that of some store
  pub tree_of_some : (r : Result (String Global) NodeCreateError) → IfOk r (λ text. IsShown (in_any L) Must b (tree_line b) (string_bytes text))
      → IfSome (result_ok r) (λ text. IsWrittenOfSome Tree b (None, text))
  tree_of_some (Ok text) shown = (L, (refl, (shown_by_block (in_any L) b valid (tree_line b) (string_bytes text) shown).0))
  tree_of_some (Err e) shown = tt

  -- and that of each store whose base was loaded
  pub tree_of_each : (P : Values → Type 0) → ((V : Values) → P V → HasBaseOf (in_any V) (in_any L) b)
      → (r : Result (String Global) NodeCreateError) → IfOk r (λ text. IsShown (in_any L) Must b (tree_line b) (string_bytes text))
      → IfSome (result_ok r) (λ text. IsWrittenOfEach Tree b P (None, text))
  tree_of_each P based (Ok text) shown = λ V p.
      let by = shown_by_block (in_any L) b valid (tree_line b) (string_bytes text) shown in
      writes_over Tree (in_any V) (in_any L) b None (string_bytes text) valid (base_opens_same (in_any V) (in_any L) b (based V p) Auto by.1) (refl, by.0)
  tree_of_each P based (Err e) shown = tt
