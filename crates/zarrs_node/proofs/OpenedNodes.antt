-- What an opened node shows, and what refuses its opening.
use Rattle.std.proofs.Common.{◌≡◌, ℕ, ◌⊎◌, inl, inr, ⊎_elim, Bool, true, List, sym, Contains, true≢false}
use Rattle.zarrs_store.specs.Contents.{Contents, Lists}
use Rattle.zarrs_path.specs.Paths.{Path, IsPath, path_text}
use Rattle.zarrs_config.specs.declared.version.MetadataRetrieveVersion.{MetadataRetrieveVersion}
use Rattle.zarrs_config.specs.declared.version.UseConsolidatedMetadata.{UseConsolidatedMetadata}
use Rattle.zarrs_meta.specs.Node.{is_group}
use Rattle.zarrs_meta.specs.declared.node.GroupMetadata.TheVariants.{V3, V2}
use Rattle.zarrs_meta.specs.declared.node.NodeMetadata.{NodeMetadata}
use Rattle.zarrs_meta.specs.declared.node.NodeMetadata.TheVariants.{Group, Array}
use Rattle.zarrs_block.specs.Policy.{Choice, use_block, list_store, refuse, LacksBlockMemory}
use Rattle.zarrs_meaning.specs.Refusals.{IsExcused, IsMissing}
use Rattle.zarrs_meaning.specs.declared.node_create_error.NodeCreateError.{NodeCreateError}
use Rattle.zarrs_meaning.specs.declared.node_create_error.NodeCreateError.TheVariants.{NodePathError, StorePrefixError, StorageError, MetadataVersionMismatch, MissingMetadata, OutOfMemory}
use Rattle.zarrs_meaning.specs.Meaning.{meaning, node, nothing, bad}
use Rattle.zarrs_node.specs.BlocksBelow.{ExcusesBlock}
use Rattle.zarrs_node.specs.Reach.{Kept}
use Rattle.zarrs_node.specs.Forest.{Forest, Shows, ArePlacedBelow}
use Rattle.zarrs_node.specs.OpeningNodes.{choice, ShowsChosen, RefusesChosen, RefusesBelow, RefusesOpening}
use Rattle.zarrs_node.proofs.Unique.{Pair}
use Rattle.zarrs_node.proofs.ListedItems.{listed_each}
use Rattle.zarrs_node.proofs.KeptPairs.{kept_same}
use Rattle.zarrs_node.proofs.FlatForests.{shows_same}
use Rattle.zarrs_node.proofs.LawProofs.{placed_children}

-- ---- the nodes of a block

-- a forest that shows what is kept of listed pairs shows what is kept of the pairs that are listed
pub entries_shown : (N : Pair → Type 0) (xs : List Pair) (r : Bool) (b : Path) (f : Forest) → Lists N xs → Shows f b (Kept (Contains xs) r b) → Shows f b (Kept N r b)
entries_shown N xs r b f listed h = shows_same f b (Kept (Contains xs) r b) (Kept N r b) (kept_same (Contains xs) N r b (λ e low. listed_each listed e)) h

-- ---- the block that is used

-- out of memory for a block excuses any call
memory_excused : (can_fail : Bool) (m : NodeMetadata) (policy : UseConsolidatedMetadata) (e : NodeCreateError) → LacksBlockMemory m policy e → IsExcused can_fail e
memory_excused can_fail m policy OutOfMemory h = tt
memory_excused can_fail m policy (NodePathError x) h = absurd h
memory_excused can_fail m policy (StorePrefixError x) h = absurd h
memory_excused can_fail m policy (StorageError x) h = absurd h
memory_excused can_fail m policy MetadataVersionMismatch h = absurd h
memory_excused can_fail m policy (MissingMetadata text) h = absurd h

-- what excuses the want of a block excuses any call
pub block_excused : (can_fail : Bool) (m : NodeMetadata) (policy : UseConsolidatedMetadata) (e : NodeCreateError) → ExcusesBlock can_fail m policy e → IsExcused can_fail e
block_excused can_fail (Group (V2 g)) policy e h = h.1
block_excused can_fail (Group (V3 g)) policy e h = memory_excused can_fail (Group (V3 g)) policy e h
block_excused can_fail (Array a) policy e h = absurd h

-- ---- of a node

-- what is shown below a path is placed below it
pub chosen_placed : (s : Contents) (v : MetadataRetrieveVersion) (c : Choice) (p : Path) (f : Forest) → ShowsChosen s v c true p f → ArePlacedBelow p f
chosen_placed s v (use_block B) p f shown = placed_children p f shown.placed
chosen_placed s v list_store p f shown = placed_children p f shown.placed
chosen_placed s v refuse p f shown = absurd shown

module _ (s : Contents) (v : MetadataRetrieveVersion) (policy : UseConsolidatedMetadata) (b : Path) where
  -- what is below a group is refused
  refuses_below : (m : NodeMetadata) (e : NodeCreateError) → is_group m ≡ true → RefusesChosen s v (choice s policy b m) true b e → RefusesBelow s v policy b m e
  refuses_below (Group g) e is h = h
  refuses_below (Array a) e is h = absurd (true≢false (sym is))

  module _ (can_fail : Bool) (bs : List ℕ) (valid : IsPath b) (text : path_text b ≡ bs) where
    -- the node itself is refused
    pub refused_node : (e : NodeCreateError) → IsExcused can_fail e ⊎ ((meaning s v b ≡ nothing) × IsMissing b e) ⊎ (meaning s v b ≡ bad e) → IsExcused can_fail e ⊎ RefusesOpening s v policy bs e
    refused_node e h = ⊎_elim inl (λ n. inr (inr (b, valid, text, inl n))) h

    -- what is below it is refused
    pub refused_below : (m : NodeMetadata) (e : NodeCreateError) → meaning s v b ≡ node m → is_group m ≡ true → IsExcused can_fail e ⊎ RefusesChosen s v (choice s policy b m) true b e → IsExcused can_fail e ⊎ RefusesOpening s v policy bs e
    refused_below m e means is h = ⊎_elim inl (λ n. inr (inr (b, valid, text, inr (m, means, refuses_below m e is n)))) h
