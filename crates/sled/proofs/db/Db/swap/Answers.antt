use Rattle.sled.proofs.Fetching.{swap_short, swap_found}
use Rattle.sled.proofs.db.Db.swap.Goals as goal

pub returns-in-Err-clause-err : goal.returns-in-Err-clause-err
returns-in-Err-clause-err g c = swap_short g.P.Pages.store g.M.MergeOperator.meant _ _ _ _ _ c.requires _ c.in-Err.ensures.err

pub returns-in-Ok-make-clause-ok : goal.returns-in-Ok-make-clause-ok
returns-in-Ok-make-clause-ok g c = swap_found g.P.Pages.store g.M.MergeOperator.meant _ _ _ _ _ c.requires _ c.in-Ok.ensures.ok _ _ c.in-Ok-make.ensures.ok
