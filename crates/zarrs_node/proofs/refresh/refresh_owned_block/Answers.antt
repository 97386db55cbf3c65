use Rattle.std.proofs.Common.{◌∙◌, ap, sym, subst, true≢false}
use Rattle.zarrs_block.specs.Block.{IsAscending}
use Rattle.zarrs_block.specs.KeysAboutAPath.{IsWithout}
use Rattle.zarrs_store.specs.Contents.{Lists}
use Rattle.zarrs_meaning.specs.Meaning.{meaning}
use Rattle.zarrs_node.specs.StepsOfBlocks.{put_all}
use Rattle.zarrs_node.specs.CurrentBlocks.{IsNewPair, IsFresh}
use Rattle.zarrs_node.proofs.blocks.PairsInBlocks.{put_all_ascends}
use Rattle.zarrs_node.proofs.blocks.MeaningsAnew.{fresh_led, fresh_kept}
use Rattle.zarrs_node.proofs.refresh.refresh_owned_block.Goals as goal
use Rattle.zarrs_node.proofs.refresh.refresh_owned_block.Goals.{then-branch+in_ok-renewed, else-branch}

pub returns-clause-fresh : goal.returns-clause-fresh
returns-clause-fresh g c =
    let of = meaning (g.S.Store.contents c.args.storage.now) c.args.version.now in
    let b = c.args.base.now in
    let p = c.args.path.now in
    let B = c.args.block in
    let old = c.remove_below.new.self in
    let C = c.insert_pairs.new.block in
    let without = subst (λ k. IsWithout k B old) c.text_beyond.ensures.text c.in_ok-remove_below.ensures.without in
    elim c.if-branch.branch as (λ _. IsFresh of b B p C) [
      | then-branch+in_ok-renewed w ↦
          fresh_led of b p c.requires.below c.text_beyond.ensures.valid c.if-branch.renewed.items (subst (λ v. Lists (IsNewPair of p) v.items) (sym w.renewed-is) w.in_ok-renewed.ensures.renewed)
          B old C (c.in_ok-leads_to.ensures.leads.0 w.if-branch.true) without c.in_ok-insert_pairs.ensures.inserted
      | else-branch w ↦
          fresh_kept of b p c.requires.below c.text_beyond.ensures.valid B old C (λ led. true≢false (sym (c.in_ok-leads_to.ensures.leads.1 led) ∙ w.if-branch.false)) without
          (c.in_ok-insert_pairs.ensures.inserted ∙ ap (put_all b old) (ap (λ v. v.items) w.renewed-is ∙ w.new-renewed.ensures.items))
    ]

pub returns-clause-ascending : goal.returns-clause-ascending
returns-clause-ascending g c =
    subst IsAscending (sym c.in_ok-insert_pairs.ensures.inserted) (put_all_ascends c.args.base.now c.remove_below.new.self c.if-branch.renewed.items c.in_ok-remove_below.ensures.ascending)
