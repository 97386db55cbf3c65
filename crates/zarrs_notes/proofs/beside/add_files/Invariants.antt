use Rattle.std.proofs.Common.{◌≡◌, ◌++◌, drop}
use Rattle.zarrs_notes.specs.StepsOfFindings.{file_findings}
use Rattle.zarrs_notes.proofs.beside.add_files.Given as goal

-- what was told and what there is to tell of the documents that are left make the whole
abbrev pub invariant-loop-file : goal.invariant-loop-file
invariant-loop-file g l =
    l.found.items ++ file_findings (g.S.Store.contents l.storage) l.path l.document (drop l.file-index l.files)
    ≡ l.fn.found.items ++ file_findings (g.S.Store.contents l.storage) l.path l.document l.files
