-- How a text takes the nodes of a walk.
-- <https://zarr-specs.readthedocs.io/en/latest/v3/core/index.html#hierarchy>
use Rattle.std.specs.Prelude.{◌≡◌, [], ◌∷◌, ◌++◌}
use Rattle.zarrs_path.specs.Paths.{path_text}
use Rattle.zarrs_tool.specs.declared.run.PathLines.{PathLines}
use Rattle.zarrs_fault.specs.Bytes.{newline}
use Rattle.zarrs_meaning.specs.Meaning.{Pair}

-- the line of the node's path was put behind the others
abbrev pub AppendsLine : PathLines → Pair → PathLines → Type 0
AppendsLine old e new = new.text.items ≡ old.text.items ++ (path_text e.0 ++ newline ∷ [])
