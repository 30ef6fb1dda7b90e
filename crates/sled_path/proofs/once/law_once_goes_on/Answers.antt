use Rattle.sled_path.proofs.Again.{goes_on}
use Rattle.sled_path.proofs.once.law_once_goes_on.Goals as goal

pub returns : goal.returns
returns c = goes_on c.args.pages.now c.law_lasts_as_read.ensures
