use Rattle.sled.proofs.Reading.{begins_in}
use Rattle.sled.proofs.db.Db.iter.Goals as goal

pub returns-clause-ok : goal.returns-clause-ok
returns-clause-ok g c = begins_in g.P.Pages.store g.M.MergeOperator.meant _ _ _ c.self.view_is c.in-Ok.ensures.tested _ c.in-Ok.ensures.is _ _ _ c.pairs_of.ensures.is
