use Rattle.std.proofs.Common.{◌≡◌, ◌<◌, ◌≤◌, length, get_or, subst, take}
use Rattle.zarrs_check.proofs.DocumentCounts.{hidden_all, hidden_more, hidden_turn}
use Rattle.zarrs_check.proofs.orphans.hidden_below.Goals as goal

pub loop-path-preserved : goal.loop-path-preserved
loop-path-preserved g c =
    let s = g.S.Store.contents c.args.storage.now in
    let l = c.loop-path in
    let ds = c.args.bad.now in
    let d = c.loop-path-item.result in
    let same = c.as_slice-path-items.ensures.entries in
    hidden_turn s ds l.path-index d c.push.new.self.items (subst (λ xs. l.path-index < length xs) same c.loop-path-test.true) (subst (λ xs. d ≡ get_or xs l.path-index d) same c.loop-path-item.is)
    (hidden_more s (take l.path-index ds) d c.in_ok-count_below.field-0 l.hidden.items c.push.new.self.items c.in_ok-count_below.ensures.ok c.in_ok-push.ensures.items l.invariant)

pub returns-clause-ok : goal.returns-clause-ok
returns-clause-ok g c =
    let l = c.loop-path in
    hidden_all (g.S.Store.contents c.args.storage.now) c.args.bad.now l.path-index l.hidden.items (subst (λ xs. length xs ≤ l.path-index) c.as_slice-path-items.ensures.entries c.loop-path-test.false) l.invariant
