use Rattle.example_shared.proofs.Leaving.{leaves}
use Rattle.example_shared.proofs.places.law_leaves.Goals as goal

pub returns : goal.returns
returns c = leaves
