use Rattle.std.proofs.Common.{◌≡◌, ◌++◌, map}
use Rattle.std.specs.Vec.Iter.{into_iter_items}
use Rattle.zarrs_cli.proofs.folder.paths_of.Given as goal

-- the paths of before and those of what is left are those of all
abbrev pub invariant-loop-finding : goal.invariant-loop-finding
invariant-loop-finding l = l.paths.items ++ map (λ f. f.path) (into_iter_items l.finding-iterator) ≡ map (λ f. f.path) l.fn.findings.items
