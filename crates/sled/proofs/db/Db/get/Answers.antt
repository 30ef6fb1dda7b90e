use Rattle.sled.proofs.Reading.{reads_in, refuses_in}
use Rattle.sled.proofs.db.Db.get.Goals as goal

pub returns-in-Ok-value_at-clause-ok : goal.returns-in-Ok-value_at-clause-ok
returns-in-Ok-value_at-clause-ok g c = reads_in g.P.Pages.store g.M.MergeOperator.meant _ _ _ c.self.view_is c.in-Ok.ensures.tested _ c.in-Ok.ensures.is c.self.invariant _ c.in-Ok-value_at.ensures.ok

pub returns-in-Err-value_at-clause-err : goal.returns-in-Err-value_at-clause-err
returns-in-Err-value_at-clause-err g c = refuses_in g.P.Pages.store g.M.MergeOperator.meant _ _ _ c.self.view_is c.in-Ok.ensures.tested _ c.in-Ok.ensures.is c.self.invariant _ _ c.in-Err-value_at.ensures.err
