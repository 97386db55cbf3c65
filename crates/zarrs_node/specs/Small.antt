-- The version 2 convention of consolidated metadata (`.zmetadata`): what stands below a base in a small store, which
-- holds JSON trees at its keys in the place of bytes, and what its block shows.
-- <https://zarr.readthedocs.io/en/stable/user-guide/consolidated_metadata/>
--     SmallNodes numbers z b, SmallBad numbers z b      the nodes of a small store below a base, whose documents may
-- hold these numbers; that something is bad there
--     ShowsSmall numbers b z B      a block shows what a listing would find there
use Rattle.std.specs.Prelude.{◌≡◌, ◌↔◌, true, Ok}
use Rattle.serde_json.specs.Data.{Data, Members}
use Rattle.zarrs_store.specs.Contents.{HasBelow}
use Rattle.zarrs_fault.specs.declared.numbers.Numbers.{Numbers}
use Rattle.zarrs_path.specs.Paths.{Path}
use Rattle.zarrs_block.specs.Block.{Block, Entries, HasValidKeys}
use Rattle.zarrs_meaning.specs.Meaning.{Means}
use Rattle.zarrs_meaning.specs.Small.{SmallStore, small, small_meaning_in}
use Rattle.zarrs_block.specs.Zmetadata.{zmetadata_in, zmetadata_members_in}
use Rattle.zarrs_node.specs.Reach.{Kept}
use Rattle.zarrs_node.specs.Nodes.{BadIn}
use Rattle.zarrs_meaning.specs.Meaning.{Pair}

-- the nodes of a small store below b, whose documents may hold these numbers
abbrev pub SmallNodes : Numbers → SmallStore → Path → Pair → Type 0
SmallNodes numbers z = Kept (Means (small_meaning_in numbers z)) true

-- in a small store some reached path means `bad e`, or some child of a listed path has a name of periods only
abbrev pub SmallBad : Numbers → SmallStore → Path → Type 0
SmallBad numbers z = BadIn (small_meaning_in numbers z) (HasBelow z) true

-- nothing below b is bad in the small store; the keys of the block are valid, and its entries with only groups
-- between them and b are the nodes of the small store below b
pub record ShowsSmall (numbers : Numbers) (b : Path) (z : SmallStore) (B : Block) : Type 0 where
  pub clean : SmallBad numbers z b → ⊥
  pub valid : HasValidKeys B
  pub kept : (e : Pair) → Kept (Entries B b) true b e ↔ SmallNodes numbers z b e

-- The block that a document `.zmetadata` is shows what a listing would find in the small store behind any base,
-- whichever numbers the document may hold.
abbrev pub ZmetadataShows : Type 0
ZmetadataShows = (numbers : Numbers) (d : Data) (B : Block)
    → zmetadata_in numbers d ≡ Ok B
    → (ms : Members) × (zmetadata_members_in numbers d ≡ Ok ms) × ((b : Path) → ShowsSmall numbers b (small b ms) B)
