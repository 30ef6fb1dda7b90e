use Rattle.example_machines.proofs.Calls.{prompt_named}
use Rattle.example_machines.proofs.callers.get_in_default.Goals as goal

pub returns-clause-prompt : goal.returns-clause-prompt
returns-clause-prompt g c = prompt_named _ _ _ _ c.in_ok-tree.ensures.ok.is c.get.ensures.prompt
