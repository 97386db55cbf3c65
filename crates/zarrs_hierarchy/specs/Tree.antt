-- Zarr core specification 3.1, "Hierarchy": a hierarchy as text.
-- <https://zarr-specs.readthedocs.io/en/latest/v3/core/index.html#hierarchy>
use Rattle.std.specs.Prelude.{◌≡◌, ℕ, Bool, true, false, ◌&&◌, List, [], ◌∷◌, ◌++◌, Contains, bytes_eq}
use Rattle.std.specs.List.{filter}
use Rattle.zarrs_path.specs.Paths.{Path, path_text}
use Rattle.zarrs_node.specs.Lines.{lines, IsLines}
use Rattle.zarrs_hierarchy.specs.PairsOfHierarchies.{Pairs}
use Rattle.zarrs_fault.specs.Bytes.{newline}

-- the text is the tree of a hierarchy from b on: the text of b and a newline, and behind them the lines of the pairs
-- below b
pub record IsTreeOf (h : Pairs) (b : Path) (text : List ℕ) : Type 0 where
  pub below : List ℕ
  pub is : text ≡ path_text b ++ newline ∷ below
  pub lines_below : IsLines b (Contains h) below

-- whether b is a proper beginning of p
abbrev pub is_path_below : Path → Path → Bool
is_path_below b [] = false
is_path_below [] (n ∷ p) = true
is_path_below (m ∷ b) (n ∷ p) = bytes_eq m n && is_path_below b p

-- the pairs below b, as they stand
abbrev pub pairs_below : Path → Pairs → Pairs
pairs_below b h = filter (λ e. is_path_below b e.0) h

-- the text of a hierarchy as it is shown: the text of the root and a newline, and behind them the lines of the pairs
-- below the root
abbrev pub shown_text : Pairs → List ℕ
shown_text h = path_text [] ++ newline ∷ lines [] (pairs_below [] h)
