use Rattle.std.proofs.Common.{◌∙◌}
use Rattle.zarrs_check.proofs.DocumentCounts.{counted}
use Rattle.zarrs_check.proofs.orphans.count_below.Goals as goal

pub returns-clause-ok : goal.returns-clause-ok
returns-clause-ok g c = counted (g.S.Store.contents c.args.storage.now) c.args.path.now c.in_ok-to_prefix.field-0 c.in_ok-keys.keys.items c.in_ok-paths.paths.items c.sort_unstable.new.self.items c.dedup.new.self.items c.len.result
    c.in_ok-to_prefix.ensures.ok c.in_ok-keys.ensures.ok c.in_ok-paths.ensures c.sort_unstable.ensures.permutation c.sort_unstable.ensures.sorted c.dedup.ensures.filtered (c.len.ensures ∙ c.dedup.new.self.ok.0)
