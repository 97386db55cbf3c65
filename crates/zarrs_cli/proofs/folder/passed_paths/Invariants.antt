use Rattle.std.proofs.Common.{◌≡◌, ◌++◌, map, take}
use Rattle.zarrs_cli.proofs.folder.passed_paths.Given as goal

abbrev pub invariant-loop-path : goal.invariant-loop-path
invariant-loop-path l = l.paths.items ≡ l.fn.ignored.items ++ map (λ d. d.0) (take l.path-index l.bad_documents)
