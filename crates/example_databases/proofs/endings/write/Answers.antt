use Rattle.example_databases.proofs.Following.{keeps_both, decided_keeps}
use Rattle.example_databases.proofs.endings.write.Goals as goal

pub returns-in-Ok-remove : goal.returns-in-Ok-remove
returns-in-Ok-remove g c = keeps_both _ _ _ _ (decided_keeps _ _ _ _ _ c.in-Ok.ensures.decides) (decided_keeps _ _ _ _ _ c.in-Ok-remove.ensures.decides)
