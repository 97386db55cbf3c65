use Rattle.std.proofs.Common.{string_bytes}
use Rattle.zarrs_examples.proofs.Chunks.{chunk_text_is_key, chunk_read_back}
use Rattle.zarrs_examples.proofs.chunk_key.ChunkKeyEncoding.chunk_key.Goals as goal

pub new_unchecked-requires : goal.new_unchecked-requires
new_unchecked-requires c = chunk_text_is_key c.args.self.now c.args.indices.now (string_bytes c.in_ok-chunk_text.field-0) c.in_ok-chunk_text.ensures

pub returns : goal.returns
returns c = chunk_read_back c.keys_read_back.ensures c.args.self.now c.args.indices.now (string_bytes c.in_ok-chunk_text.field-0) c.new_unchecked.result c.in_ok-chunk_text.ensures c.new_unchecked.ensures.segments
