use Rattle.zarrs_store.proofs.Cuts.{segments_of-key_text}
use Rattle.zarrs_store.proofs.laws.keys_read_back.Goals as goal

pub returns : goal.returns
returns c = segments_of-key_text
