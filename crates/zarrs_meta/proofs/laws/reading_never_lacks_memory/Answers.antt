use Rattle.zarrs_meta.proofs.MemoryLaws as laws
use Rattle.zarrs_meta.proofs.laws.reading_never_lacks_memory.Goals as goal

pub returns : goal.returns
returns c = laws.reading_never_lacks_memory
