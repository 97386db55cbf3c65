use Rattle.std.proofs.Common.{List, IsTrue, refl, sym, subst}
use Rattle.serde_json.specs.Data.{object}
use Rattle.serde_json.specs.View.{members_view}
use Rattle.serde_json.proofs.Views.{Entry}
use Rattle.zarrs_form.specs.Forms.{fits_in}
use Rattle.zarrs_block.proofs.NumbersWithin.{fits_first}
use Rattle.zarrs_block.proofs.BlockLaws.{none_read, read_next}
use Rattle.zarrs_block.proofs.consolidated.owned_nodes_of.Goals as goal

pub loop-key-init : goal.loop-key-init
loop-key-init c =
    let gives = c.into_iter-key-iterator.ensures.into_iter_gives in
    let read = none_read c.args.numbers c.new-all.result c.into_iter-key-iterator.result c.args.documents.entries c.new-all.ensures gives.0 gives.5 in
    (read.0, read.1, subst (λ (xs : List Entry). IsTrue (fits_in c.args.numbers (object (members_view xs)))) (sym gives.0) c.requires)

pub loop-key-preserved : goal.loop-key-preserved
loop-key-preserved c =
    let l = c.loop-key in
    let read = read_next c.args.numbers l.all c.insert.new.self _ l.key-iterator (c.in-Some.key, c.in-Some.document) c.next.new.self _ c.in_ok-owned_node_of.field-0
    c.in-Some.ensures.steps refl c.in_ok-owned_node_of.ensures c.in_ok-insert.ensures.ok (l.invariant.0, l.invariant.1) in
    (read.0, read.1, (fits_first c.args.numbers l.key-iterator (c.in-Some.key, c.in-Some.document) c.next.new.self c.in-Some.ensures.steps l.invariant.2).1)
