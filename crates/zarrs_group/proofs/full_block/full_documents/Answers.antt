use Rattle.std.proofs.Common.{[], ap, ◌∙◌, subst, sym, refl, string_cmp}
use Rattle.std.specs.List.Sorted.{IsStrictlySortedBy}
use Rattle.std.specs.Map.{keys_of}
use Rattle.serde_json.specs.View.{members_view}
use Rattle.serde_json.proofs.Views.{members_view-insert_entry}
use Rattle.zarrs_block.proofs.BlockLaws.{shown}
use Rattle.zarrs_group.proofs.FullDocuments.{all_written, written_next}
use Rattle.zarrs_group.proofs.full_block.full_documents.Goals as goal

pub loop-key-init : goal.loop-key-init
loop-key-init c =
    let gives = c.into_iter-key-iterator.ensures.into_iter_gives in (
      [],
      subst (λ es. IsStrictlySortedBy string_cmp (keys_of es)) (sym gives.0) gives.5,
      ap shown gives.0 ∙ c.into_map-key-items.ensures,
      ap members_view c.new-members.ensures.empty,
    )

pub loop-key-preserved : goal.loop-key-preserved
loop-key-preserved c =
    let l = c.loop-key in
    written_next (members_view l.members.entries) (members_view c.insert.new.self.entries) c.args.metadata l.key-iterator (c.in-Some.key, c.in-Some.node) c.next.new.self _ _
    c.in-Some.ensures.steps refl c.in_ok-full_node.ensures
    (ap members_view c.in_ok-insert.ensures.entries ∙ members_view-insert_entry l.members.entries c.in-Some.key c.in_ok-full_node.field-0) l.invariant

pub returns : goal.returns
returns c = all_written (members_view c.loop-key.members.entries) c.args.metadata c.loop-key.key-iterator c.in-None.ensures.steps.0 c.loop-key.invariant
