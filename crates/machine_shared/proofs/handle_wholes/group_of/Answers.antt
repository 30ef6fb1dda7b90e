use Rattle.std.proofs.Common.{arith, refl}
use Rattle.std.proofs.lemmas.Grind.{common_steps}
use Rattle.machine_shared.proofs.handle_wholes.group_of.Goals as goal

pub returns-clause-group : goal.returns-clause-group
returns-clause-group c = record { group = c.push.new.self; holds = grind (arith, common_steps); is = refl }
