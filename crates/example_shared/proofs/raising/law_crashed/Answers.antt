use Rattle.example_shared.proofs.Crashed.{crashed_law}
use Rattle.example_shared.proofs.raising.law_crashed.Goals as goal

pub returns : goal.returns
returns c = crashed_law
