use Rattle.sled.proofs.Reading.{reads_empty}
use Rattle.sled.proofs.db.Db.is_empty.Goals as goal

pub returns-in-Ok-clause-ok : goal.returns-in-Ok-clause-ok
returns-in-Ok-clause-ok g c = reads_empty g.P.Pages.store g.M.MergeOperator.meant _ _ _ _ c.is_none-empty.ensures c.in-Ok.ensures.ok
