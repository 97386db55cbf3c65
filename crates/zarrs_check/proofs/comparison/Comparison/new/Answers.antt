use Rattle.std.proofs.Common.{◌↔◌, ◌++◌, List, Contains, refl, sym, ap, subst, ◌∙◌}
use Rattle.zarrs_block.specs.Block.{Entries}
use Rattle.zarrs_node.specs.Order.{Ascend}
use Rattle.zarrs_meaning.specs.Meaning.{Pair}
use Rattle.zarrs_check.specs.StepsOfComparing.{IsRidOf, findings_at, key_findings, own_kind}
use Rattle.zarrs_check.proofs.Blocks.{rid_valid, listed_same}
use Rattle.zarrs_check.proofs.comparison.Comparison.new.Goals as goal

pub entries_of-requires : goal.entries_of-requires
entries_of-requires c =
    let B = c.args.block.metadata in
    let C = c.without_bad_keys-metadata.result in
    rid_valid c.args.group B C c.in_ok-of_block.ensures.ascending (subst (λ fs. IsRidOf fs B C) (c.deref.ensures.value ∙ c.in_ok-of_block.ensures.findings) c.without_bad_keys-metadata.ensures)

pub returns : goal.returns
returns c =
    let B = c.args.block.metadata in
    let C = c.without_bad_keys-metadata.result in
    let rid : IsRidOf (key_findings c.args.group B B) B C = subst (λ fs. IsRidOf fs B C) (c.deref.ensures.value ∙ c.in_ok-of_block.ensures.findings) c.without_bad_keys-metadata.ensures in
    record {
      group = refl;
      last = c.in_ok-try_clone.ensures.ok;
      of_block = c.in_ok-tell.ensures ∙ (ap (λ k. c.in_ok-of_block.of_block.items ++ findings_at c.args.group c.args.group k) c.own_kind.ensures ∙ ap (λ fs. fs ++ findings_at c.args.group c.args.group (own_kind c.args.other)) c.in_ok-of_block.ensures.findings);
      found = c.new.ensures.items;
      ascending = c.in_ok-of_block.ensures.ascending;
      entries = subst (λ (es : List Pair). (d : Pair) → Contains es d ↔ Entries B c.args.group d) (sym c.from.ensures.0) (listed_same c.args.group B C c.in_ok-of_block.ensures.ascending rid c.in_ok-entries.entries.items c.in_ok-entries.ensures.entries);
      ascend = subst Ascend (sym c.from.ensures.0) c.in_ok-entries.ensures.ascending;
    }
