use Rattle.std.proofs.Common.{◌≡◌, IfOk, subst, string_bytes}
use Rattle.zarrs_examples.proofs.Chunks.{default_text, v2_text}
use Rattle.zarrs_examples.proofs.chunk_key.ChunkKeyEncoding.chunk_text.Goals as goal

pub returns-in_ok-from_str-in-Default : goal.returns-in_ok-from_str-in-Default
returns-in_ok-from_str-in-Default c =
    let is = default_text c.in-Default.separator c.args.self.now c.args.indices.now c.between.result.now (string_bytes c.in_ok-from_str-in-Default.field-0) c.in-Default.is c.in_ok-from_str-in-Default.ensures.ok c.between.ensures in
    subst (λ t. IfOk c.with_indices.result (λ made. string_bytes made ≡ t)) is c.with_indices.ensures

pub returns-in_ok-format-in-Some : goal.returns-in_ok-format-in-Some
returns-in_ok-format-in-Some c =
    let is = v2_text c.in-V2.separator c.args.self.now c.args.indices.now c.between-in-Some.result.now (string_bytes c.in_ok-format-in-Some.field-0) c.in-Some.first.now c.in-Some.rest.now c.in-V2.is c.in-Some.ensures.cases.0 c.in_ok-format-in-Some.ensures.ok c.between-in-Some.ensures in
    subst (λ t. IfOk c.with_indices-in-Some.result (λ made. string_bytes made ≡ t)) is c.with_indices-in-Some.ensures
