-- The version 2 convention of consolidated metadata (`.zmetadata`): a small store, which holds JSON trees at its keys
-- in the place of bytes.
-- <https://zarr.readthedocs.io/en/stable/user-guide/consolidated_metadata/>
--     counted_members ms      the members that are documents of version 2, each at the segments of its name
--     small b ms      the small store that they are, behind the names of a base
--     small_meaning_in numbers z p      what a path means in a small store whose documents may hold these numbers
use Rattle.std.specs.Prelude.{ℕ, ◌||◌, Bool, if◌then◌else◌, List, [], ◌∷◌, ◌++◌, bytes_eq, map}
use Rattle.std.specs.FinMap.{FinMap, from_entries}
use Rattle.serde_json.specs.Data.{Data, Members, no_members, member}
use Rattle.zarrs_store.specs.Segments.{Segments, key_cmp, stretches, last_segment}
use Rattle.zarrs_path.specs.Keys.{zarray, zgroup, zattrs}
use Rattle.zarrs_path.specs.Paths.{Path}
use Rattle.zarrs_fault.specs.declared.numbers.Numbers.{Numbers}
use Rattle.zarrs_config.specs.declared.version.MetadataRetrieveVersion.TheVariants.{V2}
use Rattle.zarrs_meaning.specs.DocumentsAtKeys.{in_trees}
use Rattle.zarrs_meaning.specs.Meaning.{Meaning, meaning_in}

-- a small store holds JSON trees at some keys
abbrev pub SmallStore : Type 0
SmallStore = FinMap key_cmp Data

-- what a path means in a small store whose documents may hold these numbers, by the documents of version 2
abbrev pub small_meaning_in : Numbers → SmallStore → Path → Meaning
small_meaning_in numbers z = meaning_in (in_trees numbers) z V2

-- `.zarray`, `.zgroup` and `.zattrs` name the documents of version 2
abbrev pub is_document_v2 : List ℕ → Bool
is_document_v2 file = bytes_eq file zarray || (bytes_eq file zgroup || bytes_eq file zattrs)

-- the members whose last segment names a document of version 2, each at the segments of its name
abbrev pub counted_members : Members → List (Segments × Data)
counted_members no_members = []
counted_members (member t d ms) =
    if is_document_v2 (last_segment (stretches t)) then (stretches t, d) ∷ counted_members ms else counted_members ms

-- the small store that the members are: each that counts, behind the names of a base
abbrev pub small : Path → Members → SmallStore
small b ms = from_entries {R = key_cmp} (map (λ e. (b ++ e.0, e.1)) (counted_members ms))
