use Rattle.example_shared.proofs.Swapping.{raises_law}
use Rattle.example_shared.proofs.raising.law_raises.Goals as goal

pub returns : goal.returns
returns c = raises_law
