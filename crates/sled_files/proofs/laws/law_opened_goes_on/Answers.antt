use Rattle.sled_files.proofs.Reopening.{opened_goes_on}
use Rattle.sled_files.proofs.laws.law_opened_goes_on.Goals as goal

pub returns : goal.returns
returns c = opened_goes_on
