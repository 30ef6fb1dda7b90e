use Rattle.machine_alone.proofs.Runs.{extended}
use Rattle.machine_alone.proofs.laws.law_extended.Goals as goal

pub returns : goal.returns
returns c = extended
