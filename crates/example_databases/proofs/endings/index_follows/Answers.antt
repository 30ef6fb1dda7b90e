use Rattle.std.proofs.Common.{None}
use Rattle.example_databases.proofs.Following.{follows_to_end}
use Rattle.example_databases.proofs.endings.index_follows.Goals as goal

pub returns-in-Ok-find : goal.returns-in-Ok-find
returns-in-Ok-find g c = follows_to_end _ _ _ _ _ _ _ _ _ _ c.in-Ok.ensures.ok c.in_default.ensures c.in-Ok-find.ensures.ok (c.end-in-Ok-find.ensures.gives_up (λ n. None) 0)
