use Rattle.zarrs_check.specs.StepsOfTaking.{PlacesAscend}
use Rattle.zarrs_check.proofs.Places.{IsPartly}
use Rattle.zarrs_check.proofs.comparisons.compare_all.Given as goal

-- with the blocks at the places before the index the node was compared
abbrev pub invariant-loop-place : goal.invariant-loop-place
invariant-loop-place l = PlacesAscend l.places → IsPartly l.places l.place-index (l.path, l.metadata) l.fn.blocks.items l.blocks.items
