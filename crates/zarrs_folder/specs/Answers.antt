-- Zarr core specification 3.1, "Storage keys": which stores have the answers that a folder gave.
-- <https://zarr-specs.readthedocs.io/en/latest/v3/core/index.html#storage-keys>
--     IsFoundAt V key found      what was found at the key is what V has there
--     IncludesChildren V prefix children      each child prefix that V has below the prefix is one of them
--     IsFoundBelow V prefix found      V has the key that was found below the prefix; where none was, V has none there
--     HasAnswers found listed searched V      all of these are answers of V
use Rattle.std.specs.Prelude.{◌≡◌, ℕ, List, Option, All, Contains, IfSome, option_map}
use Rattle.std.specs.FinMap as map
use Rattle.std.specs.Global.{Vec}
use Rattle.zarrs_store.specs.Segments.{Segments}
use Rattle.zarrs_store.specs.Contents.{Values, IsChildPrefix, IsKeyBelow}
use Rattle.zarrs_folder.specs.Folders.{NoneIsBelow}

-- what was found at the key is what V has there
abbrev pub IsFoundAt : Values → Segments → Option (Vec ℕ) → Type 0
IsFoundAt V key found = option_map (λ v. v.items) found ≡ map.get V key

-- each child prefix that V has below the prefix is one of them
abbrev pub IncludesChildren : Values → Segments → Vec Segments → Type 0
IncludesChildren V prefix children = (child : Segments) → IsChildPrefix V prefix child → Contains children.items child

-- V has the key that was found, below the prefix; where none was found, V has none there
abbrev pub IsFoundBelow : Values → Segments → Option Segments → Type 0
IsFoundBelow V prefix found = IfSome found (IsKeyBelow V prefix) × NoneIsBelow V prefix found

-- V has all of these answers: what was found at keys, the children of prefixes, and the keys that were found below
-- prefixes
pub record HasAnswers (found : List (Segments × Option (Vec ℕ))) (listed : List (Segments × Vec Segments))
    (searched : List (Segments × Option Segments)) (V : Values) : Type 0 where
  pub documents : All (λ a. IsFoundAt V a.0 a.1) found
  pub listings : All (λ a. IncludesChildren V a.0 a.1) listed
  pub searches : All (λ a. IsFoundBelow V a.0 a.1) searched
