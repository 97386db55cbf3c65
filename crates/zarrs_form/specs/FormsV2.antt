-- Zarr specification version 2, "Arrays", "Metadata": the forms of the members of `.zarray`.
-- <https://zarr-specs.readthedocs.io/en/latest/v2/v2.0.html#arrays>
-- <https://zarr-specs.readthedocs.io/en/latest/v2/v2.0.html#metadata>
use Rattle.std.specs.Prelude.{ℕ, List, [], ◌∷◌, Bool, true, not, ◌&&◌, ◌==◌, if◌then◌else◌, bytes_eq, Option, Some}
use Rattle.std.specs.Prelude.{None, option_map, option_and_then, codes}
use Rattle.std.specs.List.{list_all, list_any}
use Rattle.serde_json.specs.Data.{Data, null, string, object, put}
use Rattle.serde_json.specs.Find.{get, as_str, as_object}
use Rattle.zarrs_form.specs.Documents.{besides, has_own}
use Rattle.zarrs_fault.specs.declared.numbers.Numbers.{Numbers}
use Rattle.zarrs_form.specs.Forms.{◌>>=◌, any, number_u64, list_of, list_data, fits_in}
use Rattle.zarrs_form.specs.declared.codec.MetadataV2.{MetadataV2}
use Rattle.zarrs_form.specs.declared.data_type.DataTypeMetadataV2.{DataTypeMetadataV2}
use Rattle.zarrs_form.specs.declared.data_type.DataTypeMetadataV2.TheVariants.{Simple, Structured}
use Rattle.zarrs_form.specs.declared.chunks.ArrayMetadataV2Order.{ArrayMetadataV2Order}
use Rattle.zarrs_form.specs.declared.chunks.ArrayMetadataV2Order.TheVariants.{C, F}
use Rattle.zarrs_form.specs.declared.chunks.ChunkKeySeparator.{ChunkKeySeparator}
use Rattle.zarrs_form.specs.declared.chunks.ChunkKeySeparator.TheVariants.{Dot, Slash}

-- the one member of a codec that is no part of its configuration
abbrev pub codec_names : List (List ℕ)
codec_names = codes "id" ∷ []

-- a codec is an object with the text `id`; all its other members are the configuration
abbrev pub codec : Data → Option MetadataV2
codec d = do
  ms ← as_object d
  id ← option_and_then as_str (get (codes "id") d)
  Some (record { id = id; configuration = besides codec_names ms })

-- a codec is written as its configuration with `id`
abbrev pub codec_data : MetadataV2 → Data
codec_data m = object (put (codes "id") (string m.id) m.configuration)

-- the numbers of the configuration are among these, and it has no member `id`
abbrev pub codec_fits_in : Numbers → MetadataV2 → Bool
codec_fits_in numbers m = fits_in numbers (object m.configuration) && not (has_own codec_names m.configuration)

-- a data type is a text, or a list that is kept as it stands
abbrev pub data_type : Data → Option DataTypeMetadataV2
data_type (string s) = Some (Simple s)
data_type d = option_map Structured (list_of any d)

-- a data type is written as its text or its list
abbrev pub data_type_data : DataTypeMetadataV2 → Data
data_type_data (Simple s) = string s
data_type_data (Structured ds) = list_data (λ d. d) ds

-- the numbers of a structured data type are among these
abbrev pub data_type_fits_in : Numbers → DataTypeMetadataV2 → Bool
data_type_fits_in numbers (Simple s) = true
data_type_fits_in numbers (Structured ds) = list_all (λ d. fits_in numbers d) ds

-- the order of the texts "C" and "F"
abbrev pub order_named : List ℕ → Option ArrayMetadataV2Order
order_named s = if bytes_eq s (codes "C") then Some C else (if bytes_eq s (codes "F") then Some F else None)

-- an order is the text "C" or "F"
abbrev pub order : Data → Option ArrayMetadataV2Order
order d = option_and_then order_named (as_str d)

-- an order is written as its text
abbrev pub order_data : ArrayMetadataV2Order → Data
order_data C = string (codes "C")
order_data F = string (codes "F")

-- the separator of the texts "." and "/"
abbrev pub separator_named : List ℕ → Option ChunkKeySeparator
separator_named s = if bytes_eq s (codes ".") then Some Dot else (if bytes_eq s (codes "/") then Some Slash else None)

-- a separator is the text "." or "/", or null, which stands for "."
abbrev pub separator : Data → Option ChunkKeySeparator
separator null = Some Dot
separator d = option_and_then separator_named (as_str d)

-- a separator is written as its text
abbrev pub separator_data : ChunkKeySeparator → Data
separator_data Dot = string (codes ".")
separator_data Slash = string (codes "/")

-- some length is 0
abbrev pub has_zero : List ℕ → Bool
has_zero lengths = list_any (λ n. n == 0) lengths

-- chunk lengths are a list of numbers, none of them 0
abbrev pub chunk_lengths : Data → Option (List ℕ)
chunk_lengths d = do
  lengths ← list_of number_u64 d
  if has_zero lengths then None else Some lengths
