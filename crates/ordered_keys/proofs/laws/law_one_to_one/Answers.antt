use Rattle.ordered_keys.proofs.Apart.{one_to_one}
use Rattle.ordered_keys.proofs.laws.law_one_to_one.Goals as goal

pub returns : goal.returns
returns c = one_to_one
