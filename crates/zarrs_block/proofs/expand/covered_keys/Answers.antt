use Rattle.std.proofs.Common.{map, string_bytes, refl, sym, ap, ◌∙◌}
use Rattle.std.specs.Vec.Iter.{into_iter_items}
use Rattle.zarrs_block.specs.BlockExpansion.{is_covered}
use Rattle.zarrs_block.proofs.CoveredKeys.{key_put}
use Rattle.zarrs_block.proofs.expand.covered_keys.Goals as goal

pub loop-key-preserved-then-is_covered : goal.loop-key-preserved-then-is_covered
loop-key-preserved-then-is_covered c =
    let l = c.loop-key in
    let B = c.args.block.now in
    record {
      can_next = tt;
      is_finite = tt;
      gathered =
          key_put B l.covered (map string_bytes (into_iter_items l.key-iterator)) (string_bytes c.in-Some.key) (map string_bytes (into_iter_items c.next.new.self)) (ap (map string_bytes) c.in-Some.ensures.steps.0)
          l.invariant.gathered c.insert.new.self c.in-Some.key refl (ap (is_covered B) (sym c.as_str.ensures.value) ∙ sym c.is_covered.ensures ∙ c.if-is_covered.true) c.in_ok-insert.ensures.updates;
    }
