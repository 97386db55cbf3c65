use Rattle.std.proofs.Common.{ℕ, List, sym, subst, ◌∙◌, Option, Some, IsTrue, MatchOption, Bor}
use Rattle.zarrs_store.specs.Segments.{has_no_slash}
use Rattle.zarrs_block.specs.StepsOfZmetadata.{IsFile}
use Rattle.zarrs_block.proofs.LastSlash.{IsCutText, split_of}
use Rattle.zarrs_block.proofs.ZmetadataSteps.{whole_not_below, other_not_below, place_refused}
use Rattle.zarrs_block.proofs.zmetadata.place_of.Goals as goal

pub returns-in_default : goal.returns-in_default
returns-in_default c =
    let t = c.args.key.now in
    whole_not_below t (subst (λ (r : Option (Bor (List ℕ) × Bor (List ℕ))). MatchOption r (IsTrue (has_no_slash t)) (λ x. IsCutText t x.0.now x.1.now)) c.in_default.is (split_of t c.rsplit_once.result c.rsplit_once.ensures.cases))

pub returns-in_default-file_of : goal.returns-in_default-file_of
returns-in_default-file_of c =
    let t = c.args.key.now in
    let cut : IsCutText t c.in-Some.path.now c.in-Some.name.now = split_of t (Some (c.in-Some.path, c.in-Some.name)) c.in-Some.ensures.cases in
    other_not_below t c.in-Some.path.now c.in-Some.name.now cut (subst (IsFile c.in-Some.name.now) c.in_default-file_of.is c.file_of.ensures)

pub returns-else-are_names : goal.returns-else-are_names
returns-else-are_names c =
    let t = c.args.key.now in
    let cut : IsCutText t c.in-Some.path.now c.in-Some.name.now = split_of t (Some (c.in-Some.path, c.in-Some.name)) c.in-Some.ensures.cases in
    let both = place_refused t c.in-Some.path.now c.in-Some.name.now c.in-Some-file_of.file cut c.in-Some-file_of.ensures (sym c.are_names.ensures ∙ c.if-are_names.false) in
    (c.new.ensures, both.0, both.1)
