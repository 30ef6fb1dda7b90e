use Rattle.example_shared.proofs.Swapping.{swaps_law}
use Rattle.example_shared.proofs.raising.law_swaps.Goals as goal

pub returns : goal.returns
returns c = swaps_law
