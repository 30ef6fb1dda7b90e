use Rattle.sled.proofs.Conducting.{point_untested}
use Rattle.sled.proofs.db.Db.point.Goals as goal

pub returns-in-Err-clause-err : goal.returns-in-Err-clause-err
returns-in-Err-clause-err g c = point_untested g.P.Pages.store g.M.MergeOperator.meant _ _ _ _ c.in-Err.ensures.err
