-- Zarr core specification 3.1, "Metadata documents": the bytes of a stored document.
-- <https://zarr-specs.readthedocs.io/en/latest/v3/core/index.html#metadata>
--     pretty_text d      the layout of a tree whose numbers are whole
--     IsStoredText bytes d      the bytes are what is stored of a tree, whatever its numbers
--     IsReadAt S key d      what a store has at the key is read as the tree
use Rattle.std.specs.Prelude.{◌≡◌, ◌≤◌, ℕ, List, Some, false}
use Rattle.std.specs.FinMap as map
use Rattle.std.specs.Str.{IsUtf8}
use Rattle.json.specs.Layout.{pretty}
use Rattle.json.specs.Lex.{tokens}
use Rattle.serde_json.specs.Data.{Data, depth}
use Rattle.serde_json.specs.Read.{max_depth}
use Rattle.serde_json.specs.Written.{IsInOrder, has_float}
pub use Rattle.zarrs_form.specs.Layouts.{pretty_text}
use Rattle.zarrs_form.specs.Documents.{json_of}
use Rattle.zarrs_form.specs.DocumentTexts.{IsTextOf}
use Rattle.zarrs_store.specs.Segments.{Segments}
use Rattle.zarrs_store.specs.Contents.{Contents}

-- the bytes are what is stored of a tree: UTF-8 in the pretty layout, each item and each member of it once and in its
-- order, whole numbers in decimal; and where it does not nest too deep they are read as the tree
pub record IsStoredText (bytes : List ℕ) (d : Data) : Type 0 where
  pub utf8 : IsUtf8 bytes
  pub layout : bytes ≡ pretty (tokens bytes)
  pub order : IsInOrder bytes d
  pub reads : depth d ≤ max_depth → json_of bytes ≡ Some d

-- Of a tree without a fraction one text is stored: its pretty layout.
abbrev pub StoredTextIsExact : Type 0
StoredTextIsExact = (bytes : List ℕ) (d : Data) → IsStoredText bytes d → has_float d ≡ false → bytes ≡ pretty_text d

-- What is stored of a tree that does not nest too deep is what is written of it.
abbrev pub StoredTextIsText : Type 0
StoredTextIsText = (bytes : List ℕ) (d : Data) → IsStoredText bytes d → depth d ≤ max_depth → IsTextOf bytes d

-- where the tree does not nest too deep, the store has bytes at the key that are read as it
abbrev pub IsReadAt : Contents → Segments → Data → Type 0
IsReadAt S key d =
    depth d ≤ max_depth → (bytes : List ℕ) × (map.get S.values key ≡ Some bytes) × (json_of bytes ≡ Some d)
