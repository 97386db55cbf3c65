-- Zarr core specification 3.1, "Metadata documents": the bytes of a document, as they are written of a JSON tree with
-- any numbers.
-- <https://zarr-specs.readthedocs.io/en/latest/v3/core/index.html#metadata>
--     IsTextOf bytes d      the bytes are what is written of d
use Rattle.std.specs.Prelude.{◌≡◌, ℕ, List, Some, false}
use Rattle.std.specs.Str.{IsUtf8}
use Rattle.json.specs.Layout.{pretty}
use Rattle.json.specs.Lex.{tokens}
use Rattle.serde_json.specs.Data.{Data}
use Rattle.serde_json.specs.Written.{IsInOrder, has_float}
use Rattle.zarrs_form.specs.Documents.{json_of}
use Rattle.zarrs_form.specs.Layouts.{pretty_text}

-- the bytes are what is written of a tree: UTF-8 in the pretty layout, each item and each member of it once and in its
-- order, whole numbers in decimal, and they are read as the tree
pub record IsTextOf (bytes : List ℕ) (d : Data) : Type 0 where
  pub utf8 : IsUtf8 bytes
  pub layout : bytes ≡ pretty (tokens bytes)
  pub order : IsInOrder bytes d
  pub reads : json_of bytes ≡ Some d

-- Of a tree without a fraction one text is written: its pretty layout.
abbrev pub WholeTextIsExact : Type 0
WholeTextIsExact = (bytes : List ℕ) (d : Data) → IsTextOf bytes d → has_float d ≡ false → bytes ≡ pretty_text d
