use Rattle.std.proofs.Common.{ap, ◌∙◌, reverse}
use Rattle.example_databases.proofs.Turned.{put_turned}
use Rattle.example_databases.proofs.endings.put.Goals as goal

pub returns-in-Ok-insert-clause-ok : goal.returns-in-Ok-insert-clause-ok
returns-in-Ok-insert-clause-ok c = put_turned _ _ _ _ _ (c.in-Ok.ensures.ok ∙ ap reverse c.as_ref.ensures) c.in-Ok-insert.ensures.updates.0
