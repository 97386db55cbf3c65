-- Zarr core specification 3.1, "Hierarchy": the text of a small forest.
use Rattle.std.proofs.Common.{◌≡◌, [], ◌∷◌, codes, refl}
use Rattle.std.specs.Fmt.{digits}
use Rattle.zarrs_node.specs.Forest.{Forest, none, tree, pairs}
use Rattle.zarrs_node.specs.Lines.{lines, tree_text}
use Rattle.tests_definitions.proofs.Meanings.{plain_group, small_array}

-- the group `/a` with the array `/a/x` below it, and the group `/b`
abbrev small : Forest
small = tree (codes "a" ∷ []) plain_group (tree (codes "a" ∷ codes "x" ∷ []) small_array none none) (tree (codes "b" ∷ []) plain_group none none)

-- parents before children, each child two spaces deeper
text_of_small : tree_text plain_group small ≡ codes "/\n  a\n    x [4, 3] Simple(\"<f8\")\n  b\n"
unfolding digits
text_of_small = refl

-- the same lines, of the pairs
lines_of_pairs : lines [] (pairs small) ≡ codes "  a\n    x [4, 3] Simple(\"<f8\")\n  b\n"
unfolding digits
lines_of_pairs = refl

-- from `/a` on
lines_below : lines (codes "a" ∷ []) ((codes "a" ∷ codes "x" ∷ [], small_array) ∷ []) ≡ codes "  x [4, 3] Simple(\"<f8\")\n"
unfolding digits
lines_below = refl
