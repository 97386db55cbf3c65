use Rattle.zarrs_meta.proofs.PlainNodes as nodes
use Rattle.zarrs_meta.proofs.laws.with_attributes_is_plain.Goals as goal

pub returns : goal.returns
returns c = nodes.with_attributes_is_plain
