use Rattle.example_shared.proofs.Attempts.{undecided, stopped}
use Rattle.example_shared.proofs.raising.told.Goals as goal

pub returns-in_default-clause-wrote : goal.returns-in_default-clause-wrote
returns-in_default-clause-wrote c = undecided c.args.came c.args.number c.in_default.not-Decided

pub returns-in_default-clause-overtaken : goal.returns-in_default-clause-overtaken
returns-in_default-clause-overtaken c = stopped _ _
