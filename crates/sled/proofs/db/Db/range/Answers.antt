use Rattle.sled.proofs.Reading.{begins_between}
use Rattle.sled.proofs.db.Db.range.Goals as goal

pub returns-clause-ok : goal.returns-clause-ok
returns-clause-ok g c = begins_between g.P.Pages.store g.M.MergeOperator.meant _ _ _ c.self.view_is c.in-Ok.ensures.tested _ c.in-Ok.ensures.is _ _ _ _ c.in-Ok-own_bound.ensures.ok c.in-Ok-own_bound-2.ensures.ok _ c.pairs_of.ensures.is
