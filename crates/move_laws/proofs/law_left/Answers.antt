use Rattle.move_laws.proofs.Running.{left_law}
use Rattle.move_laws.proofs.law_left.Goals as goal

pub returns : goal.returns
returns c = left_law
