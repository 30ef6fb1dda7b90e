use Rattle.move_laws.proofs.Running.{among_law}
use Rattle.move_laws.proofs.law_among.Goals as goal

pub returns : goal.returns
returns c = among_law
