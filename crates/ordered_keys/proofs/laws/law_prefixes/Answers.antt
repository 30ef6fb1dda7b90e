use Rattle.ordered_keys.proofs.Apart.{keeps_prefixes}
use Rattle.ordered_keys.proofs.laws.law_prefixes.Goals as goal

pub returns : goal.returns
returns c = keeps_prefixes
