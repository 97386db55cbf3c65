use Rattle.zarrs_folder.specs.Folders.{values_of}
use Rattle.zarrs_folder.proofs.PassedPaths.{passed_turn, three_got, three_grown}
use Rattle.zarrs_folder.proofs.passed.load_one.Goals as goal

pub returns-clause-grows : goal.returns-clause-grows
returns-clause-grows g c V agrees =
    let third = c.in_ok-children.ensures.before V agrees in
    let second = c.read_document-3.ensures.before V third in
    let first = c.read_document-2.ensures.before V second in
    three_grown V (values_of c.args.loaded.now.inner) (values_of c.read_document.new.loaded.inner) (values_of c.read_document-2.new.loaded.inner) (values_of c.read_document-3.new.loaded.inner)
    (c.in_ok-read_document.ensures.grows V first) (c.in_ok-read_document-2.ensures.grows V second) (c.in_ok-read_document-3.ensures.grows V third)

pub returns-clause-ok : goal.returns-clause-ok
returns-clause-ok g c V agrees =
    let third = c.in_ok-children.ensures.before V agrees in
    let second = c.read_document-3.ensures.before V third in
    let first = c.read_document-2.ensures.before V second in
    let a = c.in_ok-read_document.ensures.grows V first in
    let b = c.in_ok-read_document-2.ensures.grows V second in
    let d = c.in_ok-read_document-3.ensures.grows V third in
    passed_turn V c.args.path.now (values_of c.args.loaded.now.inner) (values_of c.read_document-3.new.loaded.inner) c.args.ahead.now.items c.append.new.self.items c.args.prefix.now
    (three_grown V (values_of c.args.loaded.now.inner) (values_of c.read_document.new.loaded.inner) (values_of c.read_document-2.new.loaded.inner) (values_of c.read_document-3.new.loaded.inner) a b d)
    (three_got V (values_of c.args.loaded.now.inner) (values_of c.read_document.new.loaded.inner) (values_of c.read_document-2.new.loaded.inner) (values_of c.read_document-3.new.loaded.inner) c.args.prefix.now a b d
    (c.in_ok-read_document.ensures.got V first) (c.in_ok-read_document-2.ensures.got V second) (c.in_ok-read_document-3.ensures.got V third))
    c.in_ok-children.children.items (c.in_ok-children.ensures.complete V agrees) c.in_ok-append.ensures.items
