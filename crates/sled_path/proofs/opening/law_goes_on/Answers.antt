use Rattle.sled_path.proofs.Again.{goes_on_in}
use Rattle.sled_path.proofs.opening.law_goes_on.Goals as goal

pub returns : goal.returns
returns c = goes_on_in c.args.pages.now c.law_lasts.ensures.lasts
