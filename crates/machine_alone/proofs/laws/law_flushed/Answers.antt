use Rattle.machine_alone.proofs.Runs.{flushed}
use Rattle.machine_alone.proofs.laws.law_flushed.Goals as goal

pub returns : goal.returns
returns c = flushed
