-- Zarr core specification 3.1, "Node names": which texts are names of nodes.
-- <https://zarr-specs.readthedocs.io/en/latest/v3/core/index.html#node-names>
--     is_name n, IsName n      a text is a name
--     is_node_name n, IsNodeName n      it is a name, or the empty name of the root
use Rattle.std.specs.Prelude.{◌≡◌, ℕ, ◌==◌, Bool, not, ◌&&◌, ◌||◌, List, ◌∷◌, IsTrue}
use Rattle.std.specs.List.{list_all}
use Rattle.zarrs_store.specs.Segments.{is_nonempty, has_no_slash}
use Rattle.zarrs_fault.specs.Bytes.{period}
-- `is_reserved n`: the text begins with `__`
pub use Rattle.zarrs_store.specs.Segments.{is_reserved}

-- the text is made of periods only, or is empty
abbrev pub is_all_periods : List ℕ → Bool
is_all_periods n = list_all (λ b. b == period) n

-- a name is not empty, holds no slash, is not made of periods only and does not begin with `__`
abbrev pub is_name : List ℕ → Bool
is_name n = is_nonempty n && (has_no_slash n && (not (is_all_periods n) && not (is_reserved n)))

-- the name of a node is empty, as the root's is, or a name
abbrev pub is_node_name : List ℕ → Bool
is_node_name n = not (is_nonempty n) || is_name n

-- the text is a name
abbrev pub IsName : List ℕ → Type 0
IsName n = IsTrue (is_name n)

-- the text is empty, as the root's name is, or a name
abbrev pub IsNodeName : List ℕ → Type 0
IsNodeName n = IsTrue (is_node_name n)

-- the text is `__` and some rest
abbrev pub IsReserved : List ℕ → Type 0
IsReserved n = (rest : List ℕ) × (n ≡ 95 ∷ 95 ∷ rest)
