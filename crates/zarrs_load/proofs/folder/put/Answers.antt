use Rattle.std.proofs.Common.{◌∙◌}
use Rattle.zarrs_load.proofs.FoundFiles.{one_more}
use Rattle.zarrs_load.proofs.folder.put.Goals as goal

pub returns-clause-ok : goal.returns-clause-ok
returns-clause-ok g c =
    let text = c.in_ok-key.ensures.ok ∙ c.in_ok-joined.ensures in
    λ all. one_more _ c.push.new.self.items (c.in_ok-key.key, c.in_ok-bytes.bytes) c.in_ok-push.ensures.items (c.args.front.now, c.args.name.now, text, c.in_ok-bytes.ensures.ok) all
