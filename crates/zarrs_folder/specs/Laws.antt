-- Zarr core specification 3.1, "Hierarchy": what a pruned store shows.
-- <https://zarr-specs.readthedocs.io/en/latest/v3/core/index.html#hierarchy>
--     ShowSameNodes S L b      from b on both stores show the same nodes
--     ShowSame S L b      and the same beside them
--     PrunedShowsNodes      a pruned store shows the nodes that the whole one shows
--     PrunedShowsSame      with all documents it shows what the whole one shows
--     BaseShowsSame      a store with the base of another shows the same at the base, its block too
use Rattle.std.specs.Prelude.{◌≡◌, ◌↔◌, true, [], ◌∷◌, ◌++◌}
use Rattle.std.specs.FinMap as map
use Rattle.zarrs_store.specs.Contents.{Contents, HasBelow}
use Rattle.zarrs_path.specs.Paths.{Path}
use Rattle.zarrs_path.specs.Keys.{zmetadata}
use Rattle.zarrs_meta.specs.declared.node.NodeMetadata.{NodeMetadata}
use Rattle.zarrs_config.specs.declared.version.MetadataRetrieveVersion.{MetadataRetrieveVersion}
use Rattle.zarrs_config.specs.declared.version.MetadataRetrieveVersion.TheVariants.{Default}
use Rattle.zarrs_meaning.specs.Meaning.{meaning}
use Rattle.zarrs_meaning.specs.declared.node_create_error.NodeCreateError.{NodeCreateError}
use Rattle.zarrs_node.specs.BlocksBelow.{block_at}
use Rattle.zarrs_node.specs.Reach.{Reached}
use Rattle.zarrs_node.specs.Nodes.{MeansNode, Nodes, Ignored, IsBadName, ShowsBad}
use Rattle.zarrs_node.specs.Nodes.{StandsFrom}
use Rattle.zarrs_folder.specs.PrunedStores.{HasBaseOf, IsPruned}
use Rattle.zarrs_folder.specs.declared.documents.Documents.{Documents}
use Rattle.zarrs_folder.specs.declared.documents.Documents.TheVariants.{All}
use Rattle.zarrs_meaning.specs.Meaning.{Pair}

-- both stores may hold the same numbers in their documents, and from b on they show the same: what b and each reached
-- path means; and so the nodes, the paths that are passed over, the bad names, and what refuses a listing
pub record ShowSameNodes (S L : Contents) (b : Path) : Type 0 where
  pub numbers : L.numbers ≡ S.numbers
  pub meanings : (p : Path) → StandsFrom S Default b p → meaning L Default p ≡ meaning S Default p
  pub reached : (p : Path) → Reached (MeansNode L Default) true b p ↔ Reached (MeansNode S Default) true b p
  pub nodes : (e : Pair) → Nodes L Default true b e ↔ Nodes S Default true b e
  pub ignored : (p : Path) → Ignored L Default true b p ↔ Ignored S Default true b p
  pub bad_names : (p : Path) → IsBadName (meaning L Default) (HasBelow L.values) true b p
      ↔ IsBadName (meaning S Default) (HasBelow S.values) true b p
  pub refusals : (e : NodeCreateError) → ShowsBad L Default true b e ↔ ShowsBad S Default true b e

-- both stores have the same document of a block beside b and each reached path
abbrev pub HaveSameBlocks : Contents → Contents → Path → Type 0
HaveSameBlocks S L b = (p : Path) → StandsFrom S Default b p
    → map.get L.values (p ++ zmetadata ∷ []) ≡ map.get S.values (p ++ zmetadata ∷ [])

-- from b on both stores show the same nodes, and have the same documents of blocks beside them
abbrev pub ShowSame : Contents → Contents → Path → Type 0
ShowSame S L b = ShowSameNodes S L b × HaveSameBlocks S L b

-- A store shows the nodes that the store shows that it is pruned from, whichever documents were loaded.
abbrev pub PrunedShowsNodes : Type 0
PrunedShowsNodes = (ds : Documents) (S L : Contents) (b : Path) → IsPruned ds S L b → ShowSameNodes S L b

-- Where all documents were loaded, it shows the same.
abbrev pub PrunedShowsSame : Type 0
PrunedShowsSame = (S L : Contents) (b : Path) → IsPruned All S L b → ShowSame S L b

-- A store with the base of another has the same meaning and the same block there.
abbrev pub BaseShowsSame : Type 0
BaseShowsSame = (S L : Contents) (b : Path) → HasBaseOf S L b
    → ((v : MetadataRetrieveVersion) → meaning L v b ≡ meaning S v b)
    × ((m : NodeMetadata) → block_at L b m ≡ block_at S b m)
