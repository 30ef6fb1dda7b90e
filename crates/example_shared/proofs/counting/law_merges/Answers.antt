use Rattle.example_shared.proofs.Merging.{merges_law}
use Rattle.example_shared.proofs.counting.law_merges.Goals as goal

pub returns : goal.returns
returns c = merges_law
