-- Zarr core specification 3.1, "Hierarchy": a forest in the middle of others, as nodes are copied.
use Rattle.std.specs.Prelude.{List, [], ◌∷◌}
use Rattle.zarrs_node.specs.declared.copies.Frame.{Frame}
use Rattle.zarrs_node.specs.Forest.{Forest, tree, forest, path_of, metadata_of}
use Rattle.zarrs_node.specs.StepsOfTrees.{graft}

-- the forest f below the last of the open nodes, each below the one before it, between the trees before it and those
-- after it
abbrev pub plug : List Frame → Forest → Forest
plug [] f = f
plug (o ∷ os) f =
    graft (forest o.before.items) (tree (path_of o.node.now) (metadata_of o.node.now) (plug os f) (forest o.after.now))
