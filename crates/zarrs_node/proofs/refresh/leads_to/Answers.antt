use Rattle.std.proofs.Common.{◌∙◌, Some, None, rules}
use Rattle.zarrs_node.proofs.blocks.LastNames.{split_of}
use Rattle.zarrs_node.proofs.blocks.Leads.{way_start, way_done, way_shut, way_on, way_shorter, way_none}
use Rattle.zarrs_node.proofs.refresh.leads_to.Goals as goal

pub loop-above-init : goal.loop-above-init
loop-above-init c = record {
  way = way_start c.args.block.now c.args.base.now c.args.path.now c.requires.below c.text_beyond-key.ensures.valid _ _ c.text_beyond-key.ensures.text (c.as_str-left.ensures.value ∙ c.in_ok-rooted.ensures.ok);
  text = search rules;
}

pub returns-then-is_empty : goal.returns-then-is_empty
returns-then-is_empty c = record { leads = way_done c.loop-above.invariant.way (split_of _ (Some (c.in-Some.above, c.in-Some._name)) c.in-Some.ensures.cases) c.is_empty.ensures c.if-is_empty.true }

pub returns-then-not-has_group : goal.returns-then-not-has_group
returns-then-not-has_group c = record {
  leads = way_shut c.loop-above.invariant.way (split_of _ (Some (c.in-Some.above, c.in-Some._name)) c.in-Some.ensures.cases) c.is_empty.ensures c.if-is_empty.false c.has_group.ensures c.if-not-has_group.true;
}

pub loop-above-preserved : goal.loop-above-preserved
loop-above-preserved c = record {
  way = way_on c.loop-above.invariant.way (split_of _ (Some (c.in-Some.above, c.in-Some._name)) c.in-Some.ensures.cases) c.is_empty.ensures c.if-is_empty.false c.has_group.ensures c.if-not-has_group.false;
  text = search rules;
}

pub loop-above-smaller : goal.loop-above-smaller
loop-above-smaller c = way_shorter (split_of _ (Some (c.in-Some.above, c.in-Some._name)) c.in-Some.ensures.cases)

pub returns : goal.returns
returns c = way_none c.loop-above.invariant.way (split_of c.loop-above.left.now None c.in_default.ensures.cases)
