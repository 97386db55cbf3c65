use Rattle.std.proofs.Common.{◌++◌, ap, sym, ◌∙◌, append-nil, string_bytes}
use Rattle.zarrs_block.proofs.BlockLaws.{shown}
use Rattle.zarrs_block.proofs.Expansion.{map_ascends}
use Rattle.zarrs_check.specs.StepsOfComparing.{key_kind, key_findings}
use Rattle.zarrs_check.proofs.KeyFindings.{told_next}
use Rattle.zarrs_check.proofs.keys.key_findings.Goals as goal

pub loop-key-init : goal.loop-key-init
loop-key-init c =
    let g = c.args.group.now in
    let B = c.args.block.now in
    let all = c.into_iter-key-iterator.ensures.into_iter_gives ∙ c.iter-key-items.ensures.rest in
    ap (λ x. x ++ key_findings g B (shown c.into_iter-key-iterator.result)) c.new-found.ensures.items ∙ ap (key_findings g B) (ap shown all ∙ c.as_map.ensures)

pub loop-key-preserved : goal.loop-key-preserved
loop-key-preserved c =
    let l = c.loop-key in
    told_next c.args.group.now c.args.block.now (shown l.key-iterator) (string_bytes c.in-Some.key.now, c.in-Some._metadata.now) (shown c.next.new.self) l.found.items c.tell.new.found.items _
    (ap shown c.in-Some.ensures.steps) (c.in_ok-kind.ensures ∙ ap (key_kind c.args.block.now) c.as_str.ensures.value) c.in_ok-tell.ensures l.invariant

pub returns-clause-findings : goal.returns-clause-findings
returns-clause-findings c =
    let l = c.loop-key in
    sym (append-nil l.found.items) ∙ ap (λ es. l.found.items ++ key_findings c.args.group.now c.args.block.now (shown es)) (sym c.in-None.ensures.steps.0) ∙ l.invariant

pub returns-clause-ascending : goal.returns-clause-ascending
returns-clause-ascending c = map_ascends c.args.block.now c.as_map.result.now.entries c.as_map.ensures c.iter-key-items.ensures.ordered
