use Rattle.zarrs_convert.proofs.PlainConversions as plain
use Rattle.zarrs_convert.proofs.laws.converted_array_keeps.Goals as goal

pub returns : goal.returns
returns c = plain.converted_array_keeps
