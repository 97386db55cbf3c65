-- Zarr core specification 3.1, "Group metadata", with zarr-python's field `consolidated_metadata`: a block made current
-- where the documents of one path changed.
-- <https://zarr-specs.readthedocs.io/en/latest/v3/core/index.html#group-metadata>
-- <https://zarr.readthedocs.io/en/stable/user-guide/consolidated_metadata/>
--     LeadsTo B b p      the block has a group at each path between b and p
--     IsNewPair of p      what p means now, and what is reached below it
--     IsFresh of b B p C      C is B, with what stands at p and below it made anew
--     BadAnew, ShowsBadAnew      what refuses that; what a refusal shows
use Rattle.std.specs.Prelude.{◌≡◌, ◌↔◌, ◌⊎◌, ℕ, true, List, ◌∷◌, ◌++◌, Some}
use Rattle.zarrs_store.specs.Segments.{key_text}
use Rattle.zarrs_store.specs.Contents.{Contents}
use Rattle.zarrs_path.specs.Paths.{Path}
use Rattle.zarrs_meta.specs.declared.node.NodeMetadata.{NodeMetadata}
use Rattle.zarrs_config.specs.declared.version.MetadataRetrieveVersion.{MetadataRetrieveVersion}
use Rattle.zarrs_block.specs.Block.{Block, Entries, node_at_key}
use Rattle.zarrs_block.specs.KeysAboutAPath.{IsAbout}
use Rattle.zarrs_meaning.specs.declared.node_create_error.NodeCreateError.{NodeCreateError}
use Rattle.zarrs_meaning.specs.Meaning.{Meaning, meaning, bad}
use Rattle.zarrs_node.specs.Reach.{HasGroup, Reached}
use Rattle.zarrs_node.specs.Nodes.{Means, MeansNode, Bad, ShowsBad}
use Rattle.zarrs_node.specs.BlocksOfNodes.{text_beyond}
use Rattle.zarrs_meaning.specs.Meaning.{Pair}

-- p is below b, and the block has a group at each path strictly between
abbrev pub LeadsTo : Block → Path → Path → Type 0
LeadsTo B b p = Reached (Entries B b) true b p

-- p and, where it means a group, what is reached below it, each with the metadata that it means
abbrev pub IsNewPair : (Path → Meaning) → Path → Pair → Type 0
IsNewPair of p e = Means of e × ((e.0 ≡ p) ⊎ (HasGroup (Means of) p × Reached (Means of) true p e.0))

-- at the text t a block has m, which is that of a pair of N at its names beyond b
abbrev pub HoldsAt : (Pair → Type 0) → Path → List ℕ → NodeMetadata → Type 0
HoldsAt N b t m = (n : List ℕ) × (ns : Path) × (t ≡ key_text (n ∷ ns)) × N (b ++ n ∷ ns, m)

-- C has what B has at the keys that are not about p, and where B leads to p, what is renewed there; and nothing else
abbrev pub IsFresh : (Path → Meaning) → Path → Block → Path → Block → Type 0
IsFresh of b B p C = (t : List ℕ) (m : NodeMetadata)
    → (node_at_key C t ≡ Some m)
    ↔ (((IsAbout (text_beyond b p) t → ⊥) × (node_at_key B t ≡ Some m))
    ⊎ (LeadsTo B b p × HoldsAt (IsNewPair of p) b t m))

-- p is bad, or means a group below which something is
abbrev pub BadAnew : Contents → MetadataRetrieveVersion → Path → Type 0
BadAnew s v p = ((e : NodeCreateError) × (meaning s v p ≡ bad e)) ⊎ (HasGroup (MeansNode s v) p × Bad s v true p)

-- the refusal e is what p means, or p means a group and e shows what is bad below it
abbrev pub ShowsBadAnew : Contents → MetadataRetrieveVersion → Path → NodeCreateError → Type 0
ShowsBadAnew s v p e = (meaning s v p ≡ bad e) ⊎ (HasGroup (MeansNode s v) p × ShowsBad s v true p e)
