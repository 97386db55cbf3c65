use Rattle.std.proofs.Common.{◌++◌, ◌∙◌, ap, append_assoc}
use Rattle.zarrs_check.specs.StepsOfComparing.{cut_kind, findings_at}
use Rattle.zarrs_check.proofs.comparison.Comparison.tell_entry.Goals as goal

pub returns : goal.returns
returns c =
    let old = c.args.self.now in
    let at = findings_at old.group c.args.entry.0 in
    let kind = c.args.kind in
    record {
      one = record { group = c.pass.ensures.one.group; of_block = c.pass.ensures.one.of_block };
      entries = c.pass.ensures.entries;
      reached = c.in_ok-reached.reached;
      hangs = c.in_ok-reached.ensures;
      found = c.pass.ensures.found ∙ (c.in_ok-tell-2.ensures ∙ (ap (λ fs. fs ++ at kind) (c.in_ok-tell.ensures ∙ ap (λ k. old.found.items ++ at k) c.cut_kind.ensures)
          ∙ append_assoc old.found.items (at (cut_kind c.in_ok-reached.reached)) (at kind)));
      last = c.pass.ensures.last;
    }
