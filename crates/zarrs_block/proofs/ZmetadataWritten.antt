-- The documents of nodes, put from the last node to the first.
use Rattle.std.proofs.Common.{◌≡◌, List, [], ◌++◌, All, IsTrue, ap, subst, ◌∙◌}
use Rattle.std.proofs.lemmas.List.Elements.{All-contains, All-weaker}
use Rattle.serde_json.specs.Data.{Members}
use Rattle.zarrs_path.specs.Paths.{Path}
use Rattle.zarrs_meta.specs.declared.node.NodeMetadata.{NodeMetadata}
use Rattle.zarrs_meaning.specs.declared.node_create_error.NodeCreateError.{NodeCreateError}
use Rattle.zarrs_meaning.specs.declared.node_create_error.NodeCreateError.TheVariants.{NodePathError, StorePrefixError, StorageError, MetadataVersionMismatch, MissingMetadata, OutOfMemory}
use Rattle.zarrs_block.specs.Block.{Block, IsAscending, HasValidKeys, Entries}
use Rattle.zarrs_block.specs.BlockExpansion.{pairs_at, paths_at}
use Rattle.zarrs_block.specs.Zmetadata.{is_version_2, HasVersion2, RefusesZmetadata, nodes_written}
use Rattle.zarrs_block.specs.StepsOfZmetadata.{RefusesWritingNodes}
use Rattle.zarrs_block.proofs.Expansion.{entries_listed}

-- the node of a pair is of version 2
abbrev pub IsOfVersion2 : Path × NodeMetadata → Type 0
IsOfVersion2 e = IsTrue (is_version_2 e.1)

-- the members are the documents of the last nodes, all of version 2, and the others are left
abbrev pub IsDocumented : List (Path × NodeMetadata) → List (Path × NodeMetadata) → Members → Type 0
IsDocumented whole left ms = (done : List (Path × NodeMetadata)) × (left ++ done ≡ whole) × (ms ≡ nodes_written done) × All IsOfVersion2 done

-- where the nodes of the pairs are of version 2, each entry is
version_2_of_pairs : (B : Block) → IsAscending B → HasValidKeys B → All IsOfVersion2 (pairs_at (paths_at [] B B) B) → HasVersion2 B
version_2_of_pairs B up valid all e h = All-contains IsOfVersion2 (pairs_at (paths_at [] B B) B) e all ((entries_listed [] B up valid).complete e h)

-- what refuses the nodes of the pairs refuses the document
refuses_by_nodes : (B : Block) → IsAscending B → HasValidKeys B → (err : NodeCreateError) → RefusesWritingNodes (pairs_at (paths_at [] B B) B) err → RefusesZmetadata B err
refuses_by_nodes B up valid MetadataVersionMismatch refused =
    (valid, λ all. refused (All-weaker (Entries B []) IsOfVersion2 (λ e h. all e h) (pairs_at (paths_at [] B B) B) (entries_listed [] B up valid).sound))
refuses_by_nodes B up valid OutOfMemory refused = tt
refuses_by_nodes B up valid (NodePathError x) refused = absurd refused
refuses_by_nodes B up valid (StorePrefixError x) refused = absurd refused
refuses_by_nodes B up valid (StorageError x) refused = absurd refused
refuses_by_nodes B up valid (MissingMetadata x) refused = absurd refused

module _ (B C : Block) (b : Path) (es : List (Path × NodeMetadata)) (copied : C ≡ B) (root : b ≡ []) (listed : es ≡ pairs_at (paths_at b C C) C) (up : IsAscending C) (valid : HasValidKeys C) where
  -- the pairs are those of the block below the root
  pairs_are : es ≡ pairs_at (paths_at [] C C) C
  pairs_are = listed ∙ ap (λ a. pairs_at (paths_at a C C) C) root

  -- the same of the pairs of a copy below the root
  pub copy_version_2 : All IsOfVersion2 es → HasVersion2 B
  copy_version_2 all = subst HasVersion2 copied (version_2_of_pairs C up valid (subst (All IsOfVersion2) pairs_are all))

  -- what refuses writing the pairs of a copy refuses writing the block
  pub copy_refused : (err : NodeCreateError) → RefusesWritingNodes es err → RefusesZmetadata B err
  copy_refused err refused = subst (λ D. RefusesZmetadata D err) copied (refuses_by_nodes C up valid err (subst (λ fs. RefusesWritingNodes fs err) pairs_are refused))
