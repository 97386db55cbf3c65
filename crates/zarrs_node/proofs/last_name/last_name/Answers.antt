use Rattle.std.proofs.Common.{subst, Some, None, IsTrue}
use Rattle.zarrs_store.specs.Segments.{has_no_slash}
use Rattle.zarrs_path.specs.Paths.{path_text}
use Rattle.zarrs_node.proofs.blocks.LastNames.{IsCutText, split_of, last_of, has_slash}
use Rattle.zarrs_node.proofs.last_name.last_name.Goals as goal

pub returns-in-Some-clause-name : goal.returns-in-Some-clause-name
returns-in-Some-clause-name c =
    let cut : IsCutText (path_text c.args.path.now) c.in-Some.field-0-0.now c.in-Some.name.now = subst (λ t. IsCutText t c.in-Some.field-0-0.now c.in-Some.name.now) c.as_str.ensures.value (split_of c.as_str.result.now (Some (c.in-Some.field-0-0, c.in-Some.name)) c.in-Some.ensures.cases) in
    last_of c.args.path.now c.in-Some.field-0-0.now c.in-Some.name.now c.as_str.ensures.valid cut

pub returns-in-None-clause-name : goal.returns-in-None-clause-name
returns-in-None-clause-name c =
    absurd (has_slash c.args.path.now (subst (λ t. IsTrue (has_no_slash t)) c.as_str.ensures.value (split_of c.as_str.result.now None c.in-None.ensures.cases)))
