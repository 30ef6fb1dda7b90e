use Rattle.std.proofs.Common.{ap, ◌∙◌, reverse}
use Rattle.example_databases.proofs.Turned.{taken_turned}
use Rattle.example_databases.proofs.endings.take_out.Goals as goal

pub returns-clause-ok : goal.returns-clause-ok
returns-clause-ok c = taken_turned _ _ _ _ (c.in-Ok.ensures.ok ∙ ap reverse c.as_ref.ensures) c.remove-stood.ensures.updates.0
