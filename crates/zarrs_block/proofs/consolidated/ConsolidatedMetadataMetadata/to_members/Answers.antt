use Rattle.std.proofs.Common.{[], ap, ◌∙◌, subst, sym, string_cmp}
use Rattle.std.specs.List.Sorted.{IsStrictlySortedBy}
use Rattle.std.specs.Map.{keys_of}
use Rattle.serde_json.specs.View.{members_view}
use Rattle.serde_json.proofs.Views.{members_view-insert_entry}
use Rattle.zarrs_block.proofs.BlockLaws.{shown, written_next, all_written}
use Rattle.zarrs_block.proofs.consolidated.ConsolidatedMetadataMetadata.to_members.Goals as goal

pub loop-key-init : goal.loop-key-init
loop-key-init c =
    let all = c.into_iter-key-iterator.ensures.into_iter_gives ∙ c.iter-key-items.ensures.rest in (
      [],
      subst (λ es. IsStrictlySortedBy string_cmp (keys_of es)) (sym all) c.iter-key-items.ensures.ordered,
      ap shown all ∙ c.as_map.ensures,
      ap members_view c.new-members.ensures.empty,
    )

pub loop-key-preserved : goal.loop-key-preserved
loop-key-preserved c =
    let l = c.loop-key in
    written_next (members_view l.members.entries) (members_view c.insert.new.self.entries) c.args.self.now l.key-iterator (c.in-Some.key.now, c.in-Some.metadata.now) c.next.new.self _ _
    c.in-Some.ensures.steps c.in_ok-clone.ensures.cases c.in_ok-to_value.ensures
    (ap members_view c.in_ok-insert.ensures.entries ∙ members_view-insert_entry l.members.entries c.in_ok-clone.field-0 c.in_ok-to_value.field-0) l.invariant

pub returns : goal.returns
returns c = all_written (members_view c.loop-key.members.entries) c.args.self.now c.loop-key.key-iterator c.in-None.ensures.steps.0 c.loop-key.invariant
