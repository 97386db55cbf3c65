use Rattle.zarrs_meta.proofs.MoreNumbers as numbers
use Rattle.zarrs_meta.proofs.laws.whole_reads_the_same.Goals as goal

pub returns : goal.returns
returns c = numbers.whole_reads_the_same
