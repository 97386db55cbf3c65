-- Zarr core specification 3.1, "Hierarchy": what the lines of a hierarchy took of its nodes.
-- <https://zarr-specs.readthedocs.io/en/latest/v3/core/index.html#hierarchy>
--     AppendsTreeLine      how the lines of a tree take a node
--     AppendsListLine      how the lines of a list do
use Rattle.std.specs.Prelude.{◌≡◌, ◌-◌, ◌++◌, length, string_bytes}
use Rattle.zarrs_meaning.specs.Meaning.{Pair}
use Rattle.zarrs_cli.specs.Escapes.{escaped_line}
use Rattle.zarrs_cli.specs.NodeLines.{line_at, list_line}
use Rattle.zarrs_cli.specs.declared.shown.ListLines.{ListLines}
use Rattle.zarrs_cli.specs.declared.shown.TreeLines.{TreeLines}

-- the line of the node was put behind the others, a level deeper for each name beyond those of the base
pub record AppendsTreeLine (old : TreeLines) (e : Pair) (new : TreeLines) : Type 0 where
  pub base : new.above ≡ old.above
  pub bytes : string_bytes new.text ≡ string_bytes old.text ++ escaped_line (line_at (length e.0 - old.above) e)

-- the line of the node was put behind the others
abbrev pub AppendsListLine : ListLines → Pair → ListLines → Type 0
AppendsListLine old e new = string_bytes new.text ≡ string_bytes old.text ++ escaped_line (list_line e)
