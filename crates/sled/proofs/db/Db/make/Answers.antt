use Rattle.sled.proofs.Conducting.{at_once_decided, at_once_refused}
use Rattle.sled.proofs.db.Db.make.Goals as goal

pub returns-in-Some-clause-ok : goal.returns-in-Some-clause-ok
returns-in-Some-clause-ok g c = at_once_decided g.P.Pages.store g.M.MergeOperator.meant _ _ _ _ _ c.in-Some.ensures.made

pub returns-in-Some-clause-err : goal.returns-in-Some-clause-err
returns-in-Some-clause-err g c = at_once_refused g.P.Pages.store g.M.MergeOperator.meant _ _ _ _ c.requires.on_key _ c.in-Some.ensures.made
