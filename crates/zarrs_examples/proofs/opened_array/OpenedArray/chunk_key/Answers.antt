use Rattle.std.proofs.Common.{◌++◌, ap, ◌∙◌}
use Rattle.zarrs_examples.proofs.Chunks.{chunk_no_document}
use Rattle.zarrs_examples.proofs.opened_array.OpenedArray.chunk_key.Goals as goal

pub returns-clause-no_document : goal.returns-clause-no_document
returns-clause-no_document c =
    chunk_no_document c.args.self.now.path c.in-Some.encoding c.args.indices.now c.in_ok-data_key.field-0 (c.in_ok-data_key.ensures ∙ ap (λ s. c.args.self.now.path ++ s) c.in_ok-chunk.ensures)
