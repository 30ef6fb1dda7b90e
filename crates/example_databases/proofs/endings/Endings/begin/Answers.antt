use Rattle.std.proofs.Common.{None}
use Rattle.example_databases.proofs.Following.{begins_index}
use Rattle.example_databases.proofs.endings.Endings.begin.Goals as goal

pub returns-in-Ok-watch_prefix-clause-ok : goal.returns-in-Ok-watch_prefix-clause-ok
returns-in-Ok-watch_prefix-clause-ok g c = begins_index _ _ _ _ _ _ _ c.in-Ok.ensures.tested c.in-Ok.ensures.there c.in-Ok.ensures.is (c.in-Ok-watch_prefix.ensures.ok.watches (λ n. None) 0) _ _ c.in-Ok-clone.ensures.ok c.in-Ok-from_slice.ensures.ok
