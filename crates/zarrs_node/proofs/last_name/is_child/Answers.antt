use Rattle.std.proofs.Common.{subst, Some, None, IsTrue}
use Rattle.zarrs_store.specs.Segments.{has_no_slash}
use Rattle.zarrs_path.specs.Paths.{path_text}
use Rattle.zarrs_node.proofs.blocks.LastNames.{IsCutText, split_of, child_test, root_test, has_slash}
use Rattle.zarrs_node.proofs.last_name.is_child.Goals as goal

pub returns-then-not-is_empty-clause-child : goal.returns-then-not-is_empty-clause-child
returns-then-not-is_empty-clause-child c =
    let cut : IsCutText (path_text c.args.path.now) c.in-Some.above.now c.in-Some.name.now = subst (λ t. IsCutText t c.in-Some.above.now c.in-Some.name.now) c.as_str.ensures.value (split_of c.as_str.result.now (Some (c.in-Some.above, c.in-Some.name)) c.in-Some.ensures.cases) in
    child_test c.args.base.now c.args.path.now c.in-Some.above.now c.in-Some.name.now c.as_str.ensures.valid cut c.slashed.result.now c.is_empty.result c.eq.result c.slashed.ensures.valid c.slashed.ensures.text c.is_empty.ensures c.if-not-is_empty.true c.eq.ensures

pub returns-else-not-is_empty-clause-child : goal.returns-else-not-is_empty-clause-child
returns-else-not-is_empty-clause-child c =
    let cut : IsCutText (path_text c.args.path.now) c.in-Some.above.now c.in-Some.name.now = subst (λ t. IsCutText t c.in-Some.above.now c.in-Some.name.now) c.as_str.ensures.value (split_of c.as_str.result.now (Some (c.in-Some.above, c.in-Some.name)) c.in-Some.ensures.cases) in
    root_test c.args.base.now c.args.path.now c.in-Some.above.now c.in-Some.name.now c.as_str.ensures.valid cut c.is_empty.result c.is_empty.ensures c.if-not-is_empty.false

pub returns-in-None-clause-child : goal.returns-in-None-clause-child
returns-in-None-clause-child c =
    absurd (has_slash c.args.path.now (subst (λ t. IsTrue (has_no_slash t)) c.as_str.ensures.value (split_of c.as_str.result.now None c.in-None.ensures.cases)))
