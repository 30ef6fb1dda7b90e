use Rattle.sled_files.proofs.Reopening.{opens_again}
use Rattle.sled_files.proofs.laws.law_opens_again.Goals as goal

pub returns : goal.returns
returns c = opens_again
