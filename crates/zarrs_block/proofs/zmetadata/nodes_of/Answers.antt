use Rattle.std.proofs.Common.{◌∙◌, ap, codes, Some}
use Rattle.std.specs.Result.{result_ok}
use Rattle.std.specs.Vec.Iter.{into_iter_items}
use Rattle.zarrs_block.specs.StepsOfZmetadata.{read_files, tree_in, tree_among, RefusesTrees}
use Rattle.zarrs_block.proofs.BlockLaws.{formed_some}
use Rattle.zarrs_block.proofs.Runs.{none_remain}
use Rattle.zarrs_block.proofs.ZmetadataSteps.{none_read_yet, read_none, read_some, refused_node, handed_on, all_nodes}
use Rattle.zarrs_block.proofs.zmetadata.nodes_of.Goals as goal

pub loop-run-init : goal.loop-run-init
loop-run-init c = record {
  can_next = tt;
  is_finite = tt;
  read = none_read_yet c.args.numbers c.args.runs.items c.new-block.result (into_iter_items c.into_iter-run-iterator.result) c.new-block.ensures c.into_iter-run-iterator.ensures.into_iter_gives.0 c.requires.ascend c.requires.fit;
}

pub returns-in_err-node-clause-err : goal.returns-in_err-node-clause-err
returns-in_err-node-clause-err c =
    let l = c.loop-run in
    handed_on c.from_residual.result c.in_err-node.field-0.0 (RefusesTrees c.args.numbers (tree_among c.args.runs.items)) c.from_residual.ensures.1
    (refused_node c.args.numbers (tree_among c.args.runs.items) l.block (into_iter_items l.run-iterator) c.in-Some.run' (into_iter_items c.next.new.self) c.in-Some.ensures.steps.0 l.invariant.read c.in_err-node.field-0.0 c.in_err-node.ensures)

pub loop-run-preserved-in-Continue-branch-3 : goal.loop-run-preserved-in-Continue-branch-3
loop-run-preserved-in-Continue-branch-3 c =
    let l = c.loop-run in
    record {
      can_next = tt;
      is_finite = tt;
      read =
          read_some c.args.numbers (tree_among c.args.runs.items) l.block (into_iter_items l.run-iterator) c.in-Some.run' (into_iter_items c.next.new.self) c.in-Some.ensures.steps.0 l.invariant.read c.insert.new.self c.in-Some-2.node
          (formed_some (codes "metadata") (result_ok (read_files c.args.numbers (tree_in c.in-Some.run'.documents))) c.in_ok-node.field-0 c.in_ok-node.ensures ∙ ap Some c.in-Some-2.is) c.in_ok-insert-in-Some-2.ensures.ok;
    }

pub loop-run-preserved : goal.loop-run-preserved
loop-run-preserved c =
    let l = c.loop-run in
    record {
      can_next = tt;
      is_finite = tt;
      read =
          read_none c.args.numbers (tree_among c.args.runs.items) l.block (into_iter_items l.run-iterator) c.in-Some.run' (into_iter_items c.next.new.self) c.in-Some.ensures.steps.0 l.invariant.read
          (formed_some (codes "metadata") (result_ok (read_files c.args.numbers (tree_in c.in-Some.run'.documents))) c.in_ok-node.field-0 c.in_ok-node.ensures ∙ ap Some c.in-None-2.is);
    }

pub returns-clause-nodes : goal.returns-clause-nodes
returns-clause-nodes c =
    let l = c.loop-run in
    all_nodes c.args.numbers (tree_among c.args.runs.items) l.block (into_iter_items l.run-iterator) (none_remain _ _ l.run-iterator.rest.ok.0 c.in-None.ensures.steps.0) l.invariant.read
