use Rattle.example_shared.proofs.Together.{raised_law}
use Rattle.example_shared.proofs.raising.law_raised.Goals as goal

pub returns : goal.returns
returns c = raised_law
