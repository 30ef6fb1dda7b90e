use Rattle.sled_files.proofs.Flushing.{flush_ends}
use Rattle.sled_files.proofs.laws.law_flush_ends.Goals as goal

pub returns : goal.returns
returns c = flush_ends
