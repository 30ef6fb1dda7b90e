use Rattle.sled_files.proofs.Flushing.{flush_lasts}
use Rattle.sled_files.proofs.laws.law_flush_lasts.Goals as goal

pub returns : goal.returns
returns c = flush_lasts
