use Rattle.sled.proofs.Reading.{reads_in}
use Rattle.sled.proofs.db.Db.last_in.Goals as goal

pub returns-in-Ok-last_up_to-clause-ok : goal.returns-in-Ok-last_up_to-clause-ok
returns-in-Ok-last_up_to-clause-ok g c = reads_in g.P.Pages.store g.M.MergeOperator.meant _ _ _ c.self.view_is c.in-Ok.ensures.tested _ c.in-Ok.ensures.is c.self.invariant _ c.in-Ok-last_up_to.ensures.ok
