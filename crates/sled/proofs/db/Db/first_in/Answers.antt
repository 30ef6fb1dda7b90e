use Rattle.sled.proofs.Reading.{reads_in, refuses_in}
use Rattle.sled.proofs.db.Db.first_in.Goals as goal

pub returns-in-Ok-first_from-clause-ok : goal.returns-in-Ok-first_from-clause-ok
returns-in-Ok-first_from-clause-ok g c = reads_in g.P.Pages.store g.M.MergeOperator.meant _ _ _ c.self.view_is c.in-Ok.ensures.tested _ c.in-Ok.ensures.is c.self.invariant _ c.in-Ok-first_from.ensures.ok

pub returns-in-Err-first_from-clause-err : goal.returns-in-Err-first_from-clause-err
returns-in-Err-first_from-clause-err g c = refuses_in g.P.Pages.store g.M.MergeOperator.meant _ _ _ c.self.view_is c.in-Ok.ensures.tested _ c.in-Ok.ensures.is c.self.invariant _ _ c.in-Err-first_from.ensures.err
