use Rattle.sled.proofs.Reading.{reads_in, refuses_in}
use Rattle.sled.proofs.db.Db.len.Goals as goal

pub returns-in-Ok-count_pairs-clause-ok : goal.returns-in-Ok-count_pairs-clause-ok
returns-in-Ok-count_pairs-clause-ok g c = reads_in g.P.Pages.store g.M.MergeOperator.meant _ _ _ c.self.view_is c.in-Ok.ensures.tested _ c.in-Ok.ensures.is c.self.invariant _ c.in-Ok-count_pairs.ensures.ok

pub returns-in-Err-count_pairs-clause-err : goal.returns-in-Err-count_pairs-clause-err
returns-in-Err-count_pairs-clause-err g c = refuses_in g.P.Pages.store g.M.MergeOperator.meant _ _ _ c.self.view_is c.in-Ok.ensures.tested _ c.in-Ok.ensures.is c.self.invariant _ _ c.in-Err-count_pairs.ensures.err
